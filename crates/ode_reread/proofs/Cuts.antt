-- Texts that are cut into tokens with a blank, or nothing, between them.
use Rattle.std.specs.Prelude.{◌≡◌, ℕ, List, [], ◌∷◌, ◌++◌}
use Rattle.ode_lex.specs.Tokens.{gap_at}
use Rattle.ode_lex.specs.declared.token.TokenKind.{TokenKind}
use Rattle.ode_terminals.specs.declared.seen.Place.{Place}
use Rattle.ode_terminals.specs.Seen.{seen}
use Rattle.ode_syntax.specs.Kept.{Spelled}
use Rattle.ode_relex.specs.Ends.{IsToken}

-- a token with these bytes
abbrev pub spell : Place → TokenKind → List ℕ → Spelled
spell place kind bytes = record { terminal = seen place bytes kind; kind = kind; bytes = bytes }

-- The text is these tokens, one behind the other.
pub data Cut (place : Place) : List ℕ → List Spelled → Type 0 where
  End : Cut place [] []
  -- a single blank (32 is the space)
  Blank : {bytes : List ℕ} {ts : List Spelled} → gap_at (32 ∷ bytes) ≡ 1 → Cut place bytes ts → Cut place (32 ∷ bytes) ts
  Token : {bytes : List ℕ} {ts : List Spelled} (kind : TokenKind) (w : List ℕ) → IsToken kind w bytes → Cut place bytes ts
      → Cut place (w ++ bytes) (spell place kind w ∷ ts)
