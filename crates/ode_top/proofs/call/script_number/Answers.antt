use Rattle.std.proofs.Common.{◌∙◌, arith, sym}
use Rattle.std.proofs.lemmas.Bool.Decides.{nat_tests}
use Rattle.ode_gen.specs.Generating.{gen_limit}
use Rattle.ode_top.proofs.Asking.{number_none, number_reads}
use Rattle.ode_top.proofs.call.script_number.Goals as goal
use Rattle.ode_top.proofs.call.script_number.Goals.{else-number-ge1-via-then-number-ge1+else-number-from, else-number-ge1-via-else-number-ge1}

pub returns-in_err-number : goal.returns-in_err-number
returns-in_err-number c = c.from_residual.ensures ∙ number_none c.args.word.now (λ n small is. c.in_err-number.ensures.none n small (c.as_bytes.ensures.value ∙ is))

pub returns-then-number-from : goal.returns-then-number-from
unfolding gen_limit
returns-then-number-from c =
    let n = c.in_ok-number.number in
    let reads = number_reads c.args.word.now n c.in_ok-number.ensures.found.0 (sym c.as_bytes.ensures.value ∙ c.in_ok-number.ensures.found.1) in
    grind (arith, nat_tests)

pub returns-else-number-ge1 : goal.returns-else-number-ge1
unfolding gen_limit
returns-else-number-ge1 c =
    let n = c.in_ok-number.number in
    let reads = number_reads c.args.word.now n c.in_ok-number.ensures.found.0 (sym c.as_bytes.ensures.value ∙ c.in_ok-number.ensures.found.1) in
    elim c.else-number-ge1.branch [
      | else-number-ge1-via-then-number-ge1+else-number-from w ↦ grind (arith, nat_tests)
      | else-number-ge1-via-else-number-ge1 w ↦ grind (arith, nat_tests)
    ]
