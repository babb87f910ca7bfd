use Rattle.std.proofs.Common.{◌≡◌, ◌-◌, drop, length}
use Rattle.ode_opening.specs.Declaring.{text_in}
use Rattle.ode_opening.proofs.Cut.{with_front}
use Rattle.ode_opening.proofs.declaring.text_in.Given as goal

abbrev pub invariant-loop-left : goal.invariant-loop-left
invariant-loop-left l = with_front l.text.items (text_in l.class l.left (drop l.at l.records)) ≡ text_in l.class l.length (drop l.initial.at l.records)

abbrev pub decreases-loop-left : goal.decreases-loop-left
decreases-loop-left l = length l.records - l.at
