use Rattle.std.proofs.Common.{ℕ, List, Bool, [], Ok, sym, ap, ◌∙◌}
use Rattle.std.proofs.lemmas.Result.{err_from_is_err_and}
use Rattle.ode_passes.specs.Rules.{through}
use Rattle.ode_passes.specs.Walking.{within}
use Rattle.ode_value.specs.Keys.{activation_kind}
use Rattle.ode_opening_objects.specs.Numbers.{numbers_from, with_number}
use Rattle.ode_opening_objects.proofs.Gathering.{numbers_stop, numbers_through}
use Rattle.ode_opening_objects.proofs.objects.read_numbers.Goals as goal

pub returns-in_err-walk-clause-meant : goal.returns-in_err-walk-clause-meant
returns-in_err-walk-clause-meant g c = λ entries holds.
    let es = within activation_kind activation_kind entries in
    let p = err_from_is_err_and c.from_residual.result c.from_residual.ensures.1 in
    rw (p.1, p.2) (numbers_stop c.new-numbers.result es c.walk.new.pass (numbers_from [] es) c.in_err-walk.field-0.0 (c.in_err-walk.ensures.meant entries holds))

pub returns-clause-meant : goal.returns-clause-meant
returns-clause-meant g c = λ entries holds.
    let es = within activation_kind activation_kind entries in
    sym (numbers_through [] es) ∙ sym (ap (λ (ns : List (ℕ × Bool)). through (λ numbers e. Ok (with_number numbers e)) ns es) c.new-numbers.ensures) ∙ c.in_ok-walk.ensures.meant entries holds
