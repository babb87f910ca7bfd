use Rattle.std.proofs.Common.{◌<◌, ◌^◌, arith, sym, ◌∙◌}
use Rattle.std.proofs.lemmas.Fmt.{decimal_injective}
use Rattle.ode_value.proofs.reference.parse_from_one.Goals as goal

pub returns-else-n-gt0-clause-none : goal.returns-else-n-gt0-clause-none
returns-else-n-gt0-clause-none c = λ n some small e.
    let within : n < 2 ^ 64 = omega arith in
    let found = c.in_ok-n.ensures.found in
    let same = decimal_injective c.in_ok-n.n n found.0 within (sym found.1 ∙ e) in omega arith
