use Rattle.std.proofs.Common.{◌≡◌, ◌-◌, ◌^◌, arith, ap, sym, ◌∙◌, length, min}
use Rattle.std.proofs.lemmas.Int.{to_z-of_z}
use Rattle.ode_value.specs.Limits.{due_limit}
use Rattle.ode_timer.specs.Due.{due}
use Rattle.ode_timer.proofs.ahead.due.Goals as goal

pub returns-then-count-clause-too_many : goal.returns-then-count-clause-too_many
unfolding due_limit
returns-then-count-clause-too_many c count is =
    let all = ap (λ rows. min (length (due rows c.args.old.now c.args.new)) (2 ^ 128 - 1)) c.as_slice.ensures in
    let to = c.ranges.new in
    let counted = c.count_due-count.ensures in
    let more = c.if-count.true in
    let same : c.count_due-count.result ≡ count = cc (is) in
    (grind arith, sym same ∙ simp to_z-of_z at counted ∙ all)

pub returns-clause-few : goal.returns-clause-few
unfolding due_limit
returns-clause-few c =
    let all = ap (λ rows. min (length (due rows c.args.old.now c.args.new)) (2 ^ 128 - 1)) c.as_slice.ensures in
    let counted = c.count_due-count.ensures in
    let few = c.if-count.false in
    grind arith
