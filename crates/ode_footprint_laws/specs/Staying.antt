-- What a transaction leaves as it was: all that it didn't look at, and the next number where it drew none.
use Rattle.std.specs.Prelude.{◌≡◌, ℕ, false}
use Rattle.ode_footprint_laws.specs.Agreeing.{IsAmong, IsSameAt}
use Rattle.ode_value.specs.Footprints.{Footprint}
use Rattle.ode_value.specs.Language.{ListWorld}

-- between a world and one that came of it by what has this footprint
pub record StaysBut (f : Footprint) (before after : ListWorld) : Type 0 where
  pub classes : after.bones.classes ≡ before.bones.classes
  pub added : after.bones.added ≡ before.bones.added
  pub objects : (id : ℕ) → (IsAmong id f.looked → ⊥) → IsSameAt after before id
  pub next : f.drew ≡ false → after.bones.next ≡ before.bones.next
