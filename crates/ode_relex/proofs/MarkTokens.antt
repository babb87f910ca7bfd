-- A mark in front of a text is one token.
use Rattle.std.proofs.Common.{◌≡◌, ℕ, true, false, not, ◌||◌, ◌==◌, List, [], ◌∷◌, refl, arith}
use Rattle.std.proofs.lemmas.Bool.Decides.{nat_tests}
use Rattle.ode_lex.specs.Marks.{mark_at, spelled_mark}
use Rattle.ode_lex.specs.Tokens.{gap_at, token_at}
use Rattle.ode_lex.specs.declared.token.Mark.{Mark}
use Rattle.ode_lex.specs.declared.token.Mark.TheVariants as mark
use Rattle.ode_lex.specs.declared.token.TokenKind.TheVariants as kind
use Rattle.ode_relex.specs.Ends.{ends_mark, IsToken}
use Rattle.ode_relex.proofs.WordTokens.{either_false, neither}

turned : (a b : ℕ) → (b == a) ≡ false → (a == b) ≡ false
turned a b e = grind (arith, nat_tests)

-- what is behind a mark goes on with no longer one
pub record Ended (b : ℕ) : Type 0 where
  pub slash : (47 == b) ≡ false
  pub equal : (61 == b) ≡ false
  pub greater : (62 == b) ≡ false

ended : (b : ℕ) → not (b == 47 || b == 61 || b == 62) ≡ true → Ended b
ended b e =
    let x = neither (b == 47 || b == 61) (b == 62) e in
    let y = either_false (b == 47) (b == 61) x.0 in
    record { slash = turned 47 b y.0; equal = turned 61 b y.1; greater = turned 62 b x.1 }

pub mark_token : (m : Mark) (rest : List ℕ) → ends_mark rest ≡ true → IsToken (kind.Mark m) (spelled_mark m) rest
unfolding token_at mark_at gap_at
mark_token mark.OpenBrace rest e = record { some = search arith; no_gap = refl; found = refl }
mark_token mark.CloseBrace rest e = record { some = search arith; no_gap = refl; found = refl }
mark_token mark.OpenParen rest e = record { some = search arith; no_gap = refl; found = refl }
mark_token mark.CloseParen rest e = record { some = search arith; no_gap = refl; found = refl }
mark_token mark.Semi rest e = record { some = search arith; no_gap = refl; found = refl }
mark_token mark.Comma rest e = record { some = search arith; no_gap = refl; found = refl }
mark_token mark.Dot rest e = record { some = search arith; no_gap = refl; found = refl }
mark_token mark.Colon rest e = record { some = search arith; no_gap = refl; found = refl }
mark_token mark.Plus rest e = record { some = search arith; no_gap = refl; found = refl }
mark_token mark.Minus rest e = record { some = search arith; no_gap = refl; found = refl }
mark_token mark.Star rest e = record { some = search arith; no_gap = refl; found = refl }
mark_token mark.Percent rest e = record { some = search arith; no_gap = refl; found = refl }
mark_token mark.AndAnd rest e = record { some = search arith; no_gap = refl; found = refl }
mark_token mark.OrOr rest e = record { some = search arith; no_gap = refl; found = refl }
mark_token mark.NotEqual rest e = record { some = search arith; no_gap = refl; found = refl }
mark_token mark.LessEqual rest e = record { some = search arith; no_gap = refl; found = refl }
mark_token mark.GreaterEqual rest e = record { some = search arith; no_gap = refl; found = refl }
mark_token mark.Arrow rest e = record { some = search arith; no_gap = refl; found = refl }
mark_token mark.Slash [] e = record { some = search arith; no_gap = refl; found = refl }
mark_token mark.Slash (b ∷ rest) e = record { some = search arith; no_gap = rw (ended b e).slash refl; found = refl }
mark_token mark.Assign [] e = record { some = search arith; no_gap = refl; found = refl }
mark_token mark.Assign (b ∷ rest) e = record { some = search arith; no_gap = refl; found = rw (ended b e).equal refl }
mark_token mark.Less [] e = record { some = search arith; no_gap = refl; found = refl }
mark_token mark.Less (b ∷ rest) e = record { some = search arith; no_gap = refl; found = rw (ended b e).equal refl }
mark_token mark.Greater [] e = record { some = search arith; no_gap = refl; found = refl }
mark_token mark.Greater (b ∷ rest) e = record { some = search arith; no_gap = refl; found = rw (ended b e).equal refl }
mark_token mark.Not [] e = record { some = search arith; no_gap = refl; found = refl }
mark_token mark.Not (b ∷ rest) e = record { some = search arith; no_gap = refl; found = rw (ended b e).equal refl }
mark_token mark.Equal [] e = record { some = search arith; no_gap = refl; found = refl }
mark_token mark.Equal (b ∷ rest) e = record { some = search arith; no_gap = refl; found = rw (ended b e).greater refl }
