use Rattle.std.proofs.Common.{◌≡◌, ℕ, List, Ok, Err, sym, subst}
use Rattle.std.proofs.lemmas.Result.{err_from_is_err_and}
use Rattle.ode_passes.specs.Answers.{Leaves}
use Rattle.ode_passes.specs.Rules.{through}
use Rattle.ode_passes.specs.Walking.{within}
use Rattle.ode_value.specs.Keys.{object_kind}
use Rattle.ode_opening_objects.specs.Known.{Known}
use Rattle.ode_opening_objects.specs.Scenes.{with_object}
use Rattle.ode_opening_objects.specs.declared.scene.Roll.{Roll}
use Rattle.ode_opening_objects.proofs.Gathering.{objects_go, objects_stop, owners_in}
use Rattle.ode_opening_objects.proofs.objects.check_heads.Goals as goal

-- the pass begins with these
abbrev first : Known → List (ℕ × Unit {0}) → Roll
first s owners = record { scene = s; owners = owners }

pub returns-in_err-walk-clause-meant : goal.returns-in_err-walk-clause-meant
returns-in_err-walk-clause-meant g c = λ entries holds.
    let objects = within object_kind object_kind entries in
    let p = err_from_is_err_and c.from_residual-in_err-walk.result c.from_residual-in_err-walk.ensures.1 in
    let e = c.in_err-walk.field-0.0 in
    let o : owners_in entries ≡ c.in_ok-owners.owners = cc (c.in_ok-owners.ensures.meant entries holds) in
    let ran = c.in_err-walk.ensures.meant entries (c.in_ok-owners.ensures.holds entries holds) in
    rw (p.1, p.2) (objects_stop entries c.args.scene c.walk.new.pass e
    (subst (λ (owners : List (ℕ × Unit {0})). Leaves {X = Unit {0}} (through with_object (first c.args.scene owners) objects) c.walk.new.pass (Err e)) (sym o) ran))

pub returns-clause-meant : goal.returns-clause-meant
returns-clause-meant g c = λ entries holds.
    let objects = within object_kind object_kind entries in
    let o : owners_in entries ≡ c.in_ok-owners.owners = cc (c.in_ok-owners.ensures.meant entries holds) in
    let ran = c.in_ok-walk.ensures.meant entries (c.in_ok-owners.ensures.holds entries holds) in
    objects_go entries c.args.scene c.walk.new.pass
    (subst (λ (owners : List (ℕ × Unit {0})). through with_object (first c.args.scene owners) objects ≡ Ok c.walk.new.pass) (sym o) ran)
