use Rattle.std.proofs.Common.{◌≡◌, Bool, true, false, take, sym, ap, ◌∙◌}
use Rattle.std.specs.Prelude.{◌&&◌, not}
use Rattle.std.specs.List.{list_any}
use Rattle.ode_opening.specs.Births.{has_birth, is_born, is_kept, is_sound}
use Rattle.ode_opening.proofs.BirthLaws.{born_first, itself}
use Rattle.ode_opening.proofs.births.is_kept.Goals as goal

-- its birth is its own where it stands first at its place
pub returns-then-first : goal.returns-then-first
returns-then-first c = λ records are there.
    let before = take c.args.place records in
    let field = c.in-Added in
    let sound = is_sound c.args.heads.now c.args.count field.class field.birth field.sort field.of field.literal in
    let has = ap (has_birth field.birth) field.is ∙ itself field.birth in
    let own : not (list_any (is_born field.birth) before) ≡ true =
    sym (born_first records c.args.births.now c.args.place field.birth c.args.found.now are there has) ∙ sym c.is_first-first.ensures ∙ c.if-first.true in
    c.is_sound-sound.ensures
    ∙ sym (ap (is_kept c.args.heads.now before c.args.count) field.is ∙ ap (λ (b : Bool). b && sound) own)

pub returns-else-first : goal.returns-else-first
returns-else-first c = λ records are there.
    let before = take c.args.place records in
    let field = c.in-Added in
    let sound = is_sound c.args.heads.now c.args.count field.class field.birth field.sort field.of field.literal in
    let has = ap (has_birth field.birth) field.is ∙ itself field.birth in
    let taken : not (list_any (is_born field.birth) before) ≡ false =
    sym (born_first records c.args.births.now c.args.place field.birth c.args.found.now are there has) ∙ sym c.is_first-first.ensures ∙ c.if-first.false in
    c.if-first.false
    ∙ sym (ap (is_kept c.args.heads.now before c.args.count) field.is ∙ ap (λ (b : Bool). b && sound) taken)
