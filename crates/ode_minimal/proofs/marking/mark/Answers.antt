use Rattle.std.proofs.Common.{◌+◌, ◌*◌, ◌∙◌, rules}
use Rattle.ode_minimal.proofs.MarkLaws.{marking_step}
use Rattle.ode_minimal.proofs.marking.mark.Goals as goal

pub returns-clause-marking : goal.returns-clause-marking
returns-clause-marking c =
    let place = c.from.result * c.from-2.result + c.from-3.result in
    marking_step c.args.t.now c.args.marks.now c.args.p c.args.q place c.push.new.self c.set.new.self c.requires.first c.requires.second c.requires.apart c.requires.marking
    (λ i. c.from.ensures i * (c.from-2.ensures ∙ c.states.ensures.value) i + c.from-3.ensures i) (search rules) c.in_ok-push.ensures.ok c.set.ensures
