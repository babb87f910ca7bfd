use Rattle.std.proofs.Common.{◌≡◌, Ok, false, map, sym, ap, subst, ◌∙◌}
use Rattle.std.specs.List.{AllByRecursion}
use Rattle.ode_heap_laws.specs.Few.{HoldsCounted}
use Rattle.ode_laws.specs.Alike.{AgreesOn}
use Rattle.ode_language.specs.Languages.{ode}
use Rattle.ode_opened_laws.specs.WorldBases.{class_of, world_base}
use Rattle.ode_opening_records.specs.declared.base.Base.{Base}
use Rattle.ode_schema.specs.Parts.{table_by}
use Rattle.ode_value.specs.Weights.{weight}
use Rattle.ode_value.specs.Worlds.{Bones}
use Rattle.ode_resting_laws.proofs.Agreeing.{tables_agree}
use Rattle.ode_resting_laws.proofs.opened_records_show_their_world.Goals as goal

pub returns : goal.returns
returns c = λ first records w opened held ones is.
    let counted : HoldsCounted ode records w = record { world = held; few = c.read_classes_have_few_parts.ensures w.bones.added w.bones.classes held.good.bones.classes } in
    let base : Base = world_base held.stored.tables w.bones in
    let its = c.held_worlds_are_opened.ensures false records w counted ones tt in
    let any = c.records_of_the_first_format_are_opened_alike.ensures first ode records opened is in
    let one = c.records_are_opened_to_one_thing.ensures false ode records (Ok opened) (Ok base) any its in
    let same : opened ≡ base = cc (one) in
    let agree : AllByRecursion (AgreesOn held.stored.tables (table_by opened.tables opened.maps)) w.bones.classes =
    subst (λ (b : Base). AllByRecursion (AgreesOn held.stored.tables (table_by b.tables b.maps)) w.bones.classes) (sym same) (tables_agree ode w.bones.added held.stored.tables w.bones.classes held.good.bones.classes) in
    let shown = c.tables_may_differ.ensures ode records w counted (table_by opened.tables opened.maps) agree in
    let back : w.bones ≡ shown.held.world.stored.world.bones = sym shown.held.world.stands.bones in
    record {
      world = shown.held;
      tables = shown.by;
      classes = ap (λ (b : Base). b.classes) same ∙ ap (λ (b : Bones). map class_of b.classes) back;
      bytes = ap (λ (b : Base). b.bytes) same ∙ ap weight back;
    }
