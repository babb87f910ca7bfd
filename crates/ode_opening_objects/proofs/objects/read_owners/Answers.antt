use Rattle.std.proofs.Common.{ℕ, List, [], Ok, sym, ap, ◌∙◌}
use Rattle.std.proofs.lemmas.Result.{err_from_is_err_and}
use Rattle.ode_passes.specs.Rules.{through}
use Rattle.ode_passes.specs.Walking.{within}
use Rattle.ode_value.specs.Keys.{version_kind}
use Rattle.ode_opening_objects.specs.Numbers.{owners_from, with_owner}
use Rattle.ode_opening_objects.proofs.Gathering.{owners_stop, owners_through}
use Rattle.ode_opening_objects.proofs.objects.read_owners.Goals as goal

pub returns-in_err-walk-clause-meant : goal.returns-in_err-walk-clause-meant
returns-in_err-walk-clause-meant g c = λ entries holds.
    let es = within version_kind version_kind entries in
    let p = err_from_is_err_and c.from_residual.result c.from_residual.ensures.1 in
    rw (p.1, p.2) (owners_stop c.new-owners.result es c.walk.new.pass (owners_from [] es) c.in_err-walk.field-0.0 (c.in_err-walk.ensures.meant entries holds))

pub returns-clause-meant : goal.returns-clause-meant
returns-clause-meant g c = λ entries holds.
    let es = within version_kind version_kind entries in
    sym (owners_through [] es) ∙ sym (ap (λ (os : List (ℕ × Unit {0})). through (λ owners e. Ok (with_owner owners e)) os es) c.new-owners.ensures) ∙ c.in_ok-walk.ensures.meant entries holds
