-- The content is what was found and what is found behind it.
use Rattle.std.proofs.Common.{◌≡◌, drop, length, ◌-◌}
use Rattle.ode_lex.specs.Texts.{content}
use Rattle.ode_syntax.specs.Kept.{content_of}
use Rattle.ode_syntax.proofs.Contents.{prefixed}
use Rattle.ode_syntax.proofs.content.content_of.Given as goal

abbrev pub invariant-loop-at : goal.invariant-loop-at
invariant-loop-at l = content_of l.quoted ≡ prefixed l.content (content (drop l.at l.quoted))

abbrev pub decreases-loop-at : goal.decreases-loop-at
decreases-loop-at l = length l.quoted - l.at
