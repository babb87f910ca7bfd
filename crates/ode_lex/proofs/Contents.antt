-- What is left of a text.
use Rattle.std.proofs.Common.{◌≡◌, ℕ, ◌+◌, ◌≤◌, true, leb, cond, List, [], ◌∷◌, length, drop, Option, Some, None, arith, ◌∙◌, ap, refl}
use Rattle.std.proofs.lemmas.Bool.Decides.{nat_tests}
use Rattle.std.proofs.lemmas.List.{drop-drop}
use Rattle.ode_value.specs.Limits.{text_limit}
use Rattle.ode_lex.specs.Texts.{begins_with_quote, content, length_of_short, with_front, SpellsByte}

-- the length of a text of which the first `at` bytes spell `count` bytes of content, and what is found behind them
abbrev pub length_behind : ℕ → ℕ → Option (List ℕ × ℕ) → Option ℕ
length_behind count at None = None
length_behind count at (Some found) = cond (leb (count + length found.0) text_limit) (Some (at + found.1)) None

same_length : (m n k l : ℕ) → m ≡ n → k ≡ l → cond (leb m text_limit) (Some k) None ≡ cond (leb n text_limit) (Some l) None
same_length m n k l e f = cc

-- at the front
pub behind_none : (found : Option (List ℕ × ℕ)) → length_of_short found ≡ length_behind 0 0 found
behind_none None = refl
behind_none (Some found) = same_length _ _ _ _ (omega arith) (omega arith)

-- at the closing quote
pub behind_closed : (count at : ℕ) (bytes : List ℕ) → count ≤ text_limit → begins_with_quote bytes ≡ true → length_behind count at (content bytes) ≡ Some (at + 1)
behind_closed count at [] small e = cc
behind_closed count at (b ∷ []) small e = rw e (grind (arith, nat_tests))
behind_closed count at (b ∷ c ∷ rest) small e = rw e (grind (arith, nat_tests))

-- behind one more byte of the content
behind_more : (count at b n : ℕ) (rest : Option (List ℕ × ℕ)) → length_behind count at (with_front b n rest) ≡ length_behind (count + 1) (at + n) rest
behind_more count at b n None = refl
behind_more count at b n (Some found) = same_length _ _ _ _ (omega arith) (omega arith)

pub behind_spelled : (count at n : ℕ) (bytes : List ℕ) → SpellsByte n (drop at bytes) → length_behind count at (content (drop at bytes)) ≡ length_behind (count + 1) (at + n) (content (drop (at + n) bytes))
behind_spelled count at n bytes spelled =
    ap (length_behind count at) spelled.1
    ∙ (behind_more count at spelled.0 n (content (drop n (drop at bytes)))
    ∙ ap (λ rest. length_behind (count + 1) (at + n) (content rest)) (drop-drop n at bytes))

-- behind too many
pub behind_full : (count at : ℕ) (rest : Option (List ℕ × ℕ)) → 2049 ≤ count → length_behind count at rest ≡ None
behind_full count at None full = refl
behind_full count at (Some found) full = grind (arith, nat_tests)
