use Rattle.std.proofs.Common.{◌≡◌, ◌≤◌, ◌<◌, ◌+◌, ◌^◌, ℕ, List, length, false}
use Rattle.std.specs.Prelude.{◌&&◌}
use Rattle.ode_script.specs.Cutting.{Pieces, cut}
use Rattle.ode_script.specs.Left.{HasLeft, HasPieces, starts_blank}
use Rattle.ode_script.specs.Pieces.{is_empty}
use Rattle.ode_value.specs.Limits.{statement_limit}
use Rattle.ode_script.proofs.reader.Reader.read_piece.Given as goal

-- what is left, behind the part that is read, has the pieces of the whole
abbrev pub invariant-loop-part : goal.invariant-loop-part
invariant-loop-part g l = record {
  left : (ps : Pieces) → HasPieces l.fn.self (g.S.Source.left l.fn.source) ps
      → (now : List ℕ) × (ps ≡ cut l.part l.self.allowed l.self.line now)
      × (is_empty l.part.text && starts_blank now ≡ false) × HasLeft l.self (g.S.Source.left l.source) now;
  shallow : l.part.depth + l.self.allowed < 2 ^ 64;
  within : length l.part.text ≤ statement_limit;
  fewer : length l.part.text + l.self.allowed ≤ l.fn.self.allowed;
  faults : g.S.Source.faults l.source ≡ g.S.Source.faults l.fn.source;
}

abbrev pub decreases-loop-part : goal.decreases-loop-part
decreases-loop-part g l = l.self.allowed
