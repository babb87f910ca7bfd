use Rattle.ode_language.specs.Languages.{ode}
use Rattle.ode_opened_laws.proofs.Opened.{opened_rows}
use Rattle.ode_opened_laws.proofs.held_worlds_are_opened.Goals as goal

pub returns : goal.returns
returns c = λ first records w held ones format.
    opened_rows first c.one_spelling.ensures.again c.words_lead_to_reached_states.ensures.words c.stored_lengths_are_counts.ensures.activation c.lengths_are_counts.ensures.version c.lengths_are_counts.ensures.value records w held ones format
    (c.held_worlds_can_be_read.ensures ode records w held) (c.held_worlds_open_to_their_classes.ensures records w held.world)
    (c.held_tables_are_there.ensures records held.world.stored.tables w.bones.added w.bones.classes (c.held_worlds_hold_classes.ensures records w held.world))
