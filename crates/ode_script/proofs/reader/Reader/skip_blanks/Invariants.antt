use Rattle.std.proofs.Common.{◌≡◌, ◌≤◌}
use Rattle.ode_script.specs.Cutting.{Pieces}
use Rattle.ode_script.specs.Left.{HasPieces}
use Rattle.ode_script.proofs.reader.Reader.skip_blanks.Given as goal

-- what is left has the pieces of the whole
abbrev pub invariant-loop-b : goal.invariant-loop-b
invariant-loop-b g l = record {
  left : (ps : Pieces) → HasPieces l.fn.self (g.S.Source.left l.fn.source) ps → HasPieces l.self (g.S.Source.left l.source) ps;
  allowed : l.self.allowed ≤ l.fn.self.allowed;
  faults : g.S.Source.faults l.source ≡ g.S.Source.faults l.fn.source;
}

abbrev pub decreases-loop-b : goal.decreases-loop-b
decreases-loop-b g l = l.self.allowed
