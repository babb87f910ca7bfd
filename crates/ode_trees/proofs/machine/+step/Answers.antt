use Rattle.std.proofs.Common.{◌≡◌, ap, ◌∙◌, IfOk, subst}
use Rattle.ode_trees.specs.ListMachines.{next_listed}
use Rattle.ode_trees.proofs.ListMachineLaws.{next-Fa, next-FaAbs, next-Pipe, next-RelPlus, next-Relative}
use Rattle.ode_trees.proofs.machine.+step.Goals as goal

pub step_fa-returns : goal.step_fa-returns
step_fa-returns t c =
    let e = c.args.e.now in
    let part = c.in_ok-part.ensures ∙ ap (next_listed e c.args.at c.args.mark.now) c.left.ensures in
    let old = rw (c.past.ensures.is, c.pairs.ensures) at c.in_ok-set.ensures in
    let set = rw c.out-answers.ensures at c.in_ok-begin_pair.ensures in
    subst (λ y. IfOk c.with_pairs.result (λ u. u ≡ y))
    (next-Fa e c.args.f.now c.args.g.now c.args.at c.args.mark.now c.args.s.now _ _ _ part old set)
    c.with_pairs.ensures

pub step_relative-returns : goal.step_relative-returns
step_relative-returns t c =
    let e = c.args.e.now in
    let part = c.in_ok-part.ensures ∙ ap (next_listed e c.args.at c.args.mark.now) c.left.ensures in
    let old = rw (c.past.ensures.is, c.started.ensures) at c.in_ok-set.ensures in
    let set = rw c.out-answers.ensures at c.in_ok-begin.ensures in
    subst (λ y. IfOk c.with_started.result (λ u. u ≡ y))
    (next-Relative e c.args.f.now c.args.at c.args.mark.now c.args.s.now _ _ _ part old set)
    c.with_started.ensures

pub step_relplus-returns : goal.step_relplus-returns
step_relplus-returns t c =
    let set = rw c.started.ensures at c.in_ok-set.ensures in
    subst (λ y. IfOk c.chain.result (λ u. u ≡ y))
    (next-RelPlus c.args.e.now c.args.at c.args.mark.now c.args.s.now _ set)
    c.chain.ensures

pub step_faabs-returns : goal.step_faabs-returns
step_faabs-returns t c =
    let e = c.args.e.now in
    let f = c.args.f.now in
    let g = c.args.g.now in
    let part = c.in_ok-part.ensures ∙ ap (next_listed e c.args.at c.args.mark.now) c.left.ensures in
    let third = rw (c.past.ensures.is, c.past-second.ensures.is, c.right.ensures) at c.in_ok-third.ensures in
    let set = rw (c.past-second.ensures.is, c.started.ensures) at c.in_ok-set.ensures in
    let made = rw (c.out-starts.ensures, c.out-spoilt.ensures) at c.wait.ensures in
    subst (λ y. IfOk c.wait.result (λ u. u ≡ y))
    (next-FaAbs e f g c.args.at c.args.mark.now c.args.s.now _ _ _ part third set)
    made

pub step_pipe-returns : goal.step_pipe-returns
step_pipe-returns t c =
    let part = c.in_ok-part.ensures ∙ ap (next_listed c.args.e.now c.args.at c.args.mark.now) c.left.ensures in
    let second = rw (c.out-starts.ensures, c.past.ensures.is, c.right.ensures) at c.in_ok-second.ensures in
    let made = rw c.out-starts.ensures at c.passed.ensures in
    subst (λ y. IfOk c.passed.result (λ u. u ≡ y))
    (next-Pipe c.args.e.now c.args.f.now c.args.at c.args.mark.now c.args.s.now _ _ part second)
    made
