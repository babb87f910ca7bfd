-- How runs join: some pieces, and then others.
use Rattle.std.specs.Prelude.{◌≡◌, ℕ, List, [], ◌∷◌, ◌++◌}
use Rattle.ode_machine.specs.Sessions.{Session}
use Rattle.ode_script.specs.Cutting.{Pieces, Then}
use Rattle.ode_machine.specs.Runs.{Item, Stretch, piece_stretch}
use Rattle.ode_value.specs.Language.{Language}

-- pieces by their lines and texts, and others behind them
abbrev pub before_pieces : List (ℕ × List ℕ) → Pieces → Pieces
before_pieces [] rest = rest
before_pieces (p ∷ ps) rest = Then p.0 p.1 (before_pieces ps rest)

-- the session that a stretch reaches, with items before its own
abbrev pub behind_items : List Item → Stretch → Stretch
behind_items items stretch = (stretch.0, items ++ stretch.1)

-- the stretch of some pieces, one after the other
abbrev pub pieces_stretch : Language → List (ℕ × List ℕ) → Session → Stretch
pieces_stretch l [] session = (session, [])
pieces_stretch l (p ∷ ps) session = behind_items (piece_stretch l session p.0 p.1).1 (pieces_stretch l ps (piece_stretch l session p.0 p.1).0)

-- a text begins with another
pub record BeginsWith (whole first : List ℕ) : Type 0 where
  pub more : List ℕ
  pub is : whole ≡ first ++ more
