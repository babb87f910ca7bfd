use Rattle.ode_heap.specs.Answering.{counters_of}
use Rattle.ode_language.specs.Languages.{ode}
use Rattle.ode_ship_laws.proofs.Telling.{counters_tell}
use Rattle.ode_ship_laws.proofs.held_worlds_tell_their_next_number.Goals as goal

pub returns : goal.returns
returns c = λ entries w holds.
    counters_tell entries (counters_of w.bones)
    (c.heaps_show_held_worlds.ensures.counters ode entries w (record { world = holds; few = c.read_classes_have_few_parts.ensures w.bones.added w.bones.classes holds.good.bones.classes }))
