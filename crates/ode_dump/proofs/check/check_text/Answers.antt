use Rattle.std.proofs.Common.{ap, ◌∙◌}
use Rattle.ode_dump.specs.Dumping.{check_line, check_text}
use Rattle.ode_dump.proofs.check.check_text.Goals as goal

pub returns-clause-text : goal.returns-clause-text
unfolding check_text
returns-clause-text g c = λ entries holds. c.in_ok-line.ensures ∙ ap check_line c.as_slice.ensures ∙ ap check_line (c.in_ok-keys.ensures.keys entries holds)
