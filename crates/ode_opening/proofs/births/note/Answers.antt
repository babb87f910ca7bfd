use Rattle.std.proofs.Common.{◌≡◌, ℕ, Option, Some, None, true, false, sym, ap, ◌∙◌}
use Rattle.std.specs.BTreeMap.{get}
use Rattle.std.specs.Option.{is_some}
use Rattle.std.specs.Ordering.{nat_cmp}
use Rattle.ode_opening.specs.Births.{birth_of, is_number, noted}
use Rattle.ode_opening.proofs.BirthLaws.{noted_again, noted_new, noted_none}
use Rattle.ode_opening.proofs.births.note.Goals as goal

-- a record that is no added field
pub returns-in_default : goal.returns-in_default
returns-in_default c =
    let none : birth_of c.args.row.now ≡ None = sym c.birth_of.ensures ∙ c.in_default.is in
    λ birth.
    noted_none (get nat_cmp c.args.births.now birth) c.args.place
    ∙ ap (λ (o : Option ℕ). noted (get nat_cmp c.args.births.now birth) c.args.place (is_number birth o)) (sym none)

-- one whose birth was there, and one with a new birth
pub returns-then-contains_key : goal.returns-then-contains_key
returns-then-contains_key c =
    let some : birth_of c.args.row.now ≡ Some c.in-Some.birth = sym c.birth_of.ensures ∙ c.in-Some.is in
    let there : is_some (get nat_cmp c.args.births.now c.in-Some.birth) ≡ true = sym c.contains_key.ensures ∙ c.if-contains_key.true in
    λ birth.
    noted_again c.args.births.now c.in-Some.birth c.args.place there birth
    ∙ ap (λ (o : Option ℕ). noted (get nat_cmp c.args.births.now birth) c.args.place (is_number birth o)) (sym some)

pub returns : goal.returns
returns c =
    let some : birth_of c.args.row.now ≡ Some c.in-Some.birth = sym c.birth_of.ensures ∙ c.in-Some.is in
    let gone : is_some (get nat_cmp c.args.births.now c.in-Some.birth) ≡ false = sym c.contains_key.ensures ∙ c.if-contains_key.false in
    λ birth.
    c.in_ok-insert.ensures.updates.0 birth
    ∙ noted_new c.args.births.now c.in-Some.birth c.args.place gone birth
    ∙ ap (λ (o : Option ℕ). noted (get nat_cmp c.args.births.now birth) c.args.place (is_number birth o)) (sym some)
