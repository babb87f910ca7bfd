use Rattle.ode_minimal.proofs.marking.mark_each.Goals as goal

pub mark_with-requires-clause-apart : goal.mark_with-requires-clause-apart
mark_with-requires-clause-apart c = λ j within. c.requires.apart c.loop-p.p-index j c.loop-p-test.true within
