-- Which slots are open, by what is read of a header.
use Rattle.std.proofs.Common.{◌≡◌, ◌⊎◌, inl, inr, ⊎_elim, ℕ, List}
use Rattle.ode_gate.specs.Slots.{HasOpenSlot, HaveOneGeneration, IsBroken, IsNewer, bytes_of, place_of}
use Rattle.ode_gate.specs.Readings.{HasNone, IsBadAt, IsFirstNewer}
use Rattle.ode_gate.proofs.Counting.{holds_open, shut_open}

pub none_open : (image : List ℕ) → HasNone image → HasOpenSlot image → ⊥
none_open image none opened = ⊎_elim (shut_open (bytes_of 0 image) none.0) (shut_open (bytes_of 1 image) none.1) opened

pub newer_open : (image : List ℕ) (format : ℕ) → IsFirstNewer image format → HasOpenSlot image
newer_open image format newer = ⊎_elim
    (λ (first : IsNewer (bytes_of 0 image) format). inl first.opened)
    (λ (second : ((other : ℕ) → IsNewer (bytes_of 0 image) other → ⊥) × IsNewer (bytes_of 1 image) format). inr second.1.opened)
    newer

pub bad_open : (image : List ℕ) (at : ℕ) → IsBadAt image at → HasOpenSlot image
bad_open image at bad = ⊎_elim
    (λ (first : (at ≡ place_of 0) × IsBroken (bytes_of 0 image)). inl first.1.opened)
    (λ (other : ((at ≡ place_of 1) × (IsBroken (bytes_of 0 image) → ⊥) × IsBroken (bytes_of 1 image)) ⊎ ((at ≡ place_of 0) × HaveOneGeneration (bytes_of 0 image) (bytes_of 1 image))). ⊎_elim
    (λ (second : (at ≡ place_of 1) × (IsBroken (bytes_of 0 image) → ⊥) × IsBroken (bytes_of 1 image)). inr second.2.opened)
    (λ (both : (at ≡ place_of 0) × HaveOneGeneration (bytes_of 0 image) (bytes_of 1 image)). inl (holds_open (bytes_of 0 image) both.1.h both.1.first_holds))
    other)
    bad
