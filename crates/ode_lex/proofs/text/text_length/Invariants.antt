-- The length is what is found behind the bytes so far.
use Rattle.std.proofs.Common.{◌≡◌, ◌≤◌, drop, length}
use Rattle.ode_lex.specs.Texts.{content, length_of_short}
use Rattle.ode_lex.proofs.Contents.{length_behind}
use Rattle.ode_lex.proofs.text.text_length.Given as goal

abbrev pub invariant-loop : goal.invariant-loop
invariant-loop l =
    (l.at ≤ length l.bytes) × (length_of_short (content l.bytes) ≡ length_behind l.counter l.at (content (drop l.at l.bytes)))
