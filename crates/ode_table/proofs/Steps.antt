-- What stands at a place of a list, and past its end.
use Rattle.std.proofs.Common.{◌≡◌, ℕ, Bool, false, List, [], ◌∷◌, zero, suc, Some, None, refl}
use Rattle.std.specs.Prelude.{slice_get, slice_index, slice_index_or}

pub next_at : (states : List ℕ) (at : ℕ) (state : ℕ) → slice_get states at ≡ Some state → state ≡ slice_index states at
next_at [] at state is = absurd (cc is)
next_at (q ∷ states) zero state is = cc is
next_at (q ∷ states) (suc at) state is = next_at states at state is

pub next_past : (states : List ℕ) (at : ℕ) → slice_get states at ≡ None → 0 ≡ slice_index states at
next_past [] at is = refl
next_past (q ∷ states) zero is = absurd (cc is)
next_past (q ∷ states) (suc at) is = next_past states at is

pub yes_at : (answers : List Bool) (at : ℕ) (answer : Bool) → slice_get answers at ≡ Some answer → answer ≡ slice_index_or answers at false
yes_at [] at answer is = absurd (cc is)
yes_at (b ∷ answers) zero answer is = cc is
yes_at (b ∷ answers) (suc at) answer is = yes_at answers at answer is

pub yes_past : (answers : List Bool) (at : ℕ) → slice_get answers at ≡ None → false ≡ slice_index_or answers at false
yes_past [] at is = refl
yes_past (b ∷ answers) zero is = absurd (cc is)
yes_past (b ∷ answers) (suc at) is = yes_past answers at is
