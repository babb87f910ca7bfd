use Rattle.std.proofs.Common.{subst}
use Rattle.ode_minimal.specs.Minimal.{IsAlike}
use Rattle.ode_minimal.proofs.CollapseLaws.{collapse_step}
use Rattle.ode_minimal.proofs.collapse.step.Goals as goal

pub returns-clause-collapse : goal.returns-clause-collapse
returns-clause-collapse c =
    let t = c.args.t.now in
    let q = c.first_alike-q.result in
    let is_to = rw c.as_slice.ensures at c.next-to.ensures.value in
    collapse_step t c.args.kept.now c.args.head c.args.s q c.requires.collapse c.requires.head c.requires.symbol c.first_alike-q.ensures.below
    (subst (λ r. IsAlike t q r) is_to c.first_alike-q.ensures.alike) c.first_alike-q.ensures.first c.number.new.kept c.in_ok-n.n c.push.new.self c.in_ok-n.ensures c.in_ok-push.ensures.ok
