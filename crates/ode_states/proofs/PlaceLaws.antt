-- What stands at a place of a list, or else this.
use Rattle.std.proofs.Common.{◌≡◌, ℕ, List, [], ◌∷◌, zero, suc, refl}
use Rattle.std.specs.Prelude.{slice_get, slice_index_or}
use Rattle.std.specs.Option.{unwrap_or}

pub at_place : {X : Type 0} (xs : List X) (at : ℕ) (other : X) → unwrap_or (slice_get xs at) other ≡ slice_index_or xs at other
at_place [] at other = refl
at_place (x ∷ xs) zero other = refl
at_place (x ∷ xs) (suc at) other = at_place xs at other
