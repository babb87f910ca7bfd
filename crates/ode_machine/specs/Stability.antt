-- References are stable over the worlds that settled transactions leave.
use Rattle.std.specs.Prelude.{◌≡◌, ℕ, ◌<◌, ◌≤◌, ◌==◌, List, [], ◌∷◌, Option, Some, None}
use Rattle.std.specs.List.{AllByRecursion, find}
use Rattle.std.specs.Option.{IfNone, MatchOption}
use Rattle.ode_value.specs.declared.value.Ref.{Ref}
use Rattle.ode_value.specs.Objects.{Activation}
use Rattle.ode_value.specs.Versions.{Version, version_numbered}
use Rattle.ode_value.specs.Worlds.{Object, Bones}
use Rattle.ode_value.specs.Denoting.{object_numbered, denotes}

-- a version has the number that a reference names, if it names one
abbrev pub SameVersion : Option ℕ → Version → Type 0
SameVersion None v = Unit {0}
SameVersion (Some number) v = v.number ≡ number

-- a reference denotes nothing any more
abbrev pub IsGone : Ref → List Bones → Type 0
IsGone r ws = AllByRecursion (λ (w : Bones). denotes w r ≡ None) ws

-- a reference denotes such a version, until that is removed
abbrev pub IsHeld : Ref → List Bones → Type 0
IsHeld r [] = Unit {0}
IsHeld r (w ∷ ws) = MatchOption (denotes w r) (IsGone r ws) (λ v. SameVersion r.version v × IsHeld r ws)

-- a reference denotes nothing; from some world on such a version; and then nothing again
abbrev pub IsStableFor : Ref → List Bones → Type 0
IsStableFor r [] = Unit {0}
IsStableFor r (w ∷ ws) = MatchOption (denotes w r) (IsStableFor r ws) (λ v. IsHeld r (w ∷ ws))

-- a version of an object was there, or its number is above the earlier last one
abbrev pub IsOldVersion : Object → ℕ → Version → Type 0
IsOldVersion o last v = IfNone (version_numbered v.number o.versions) (last < v.number)

-- an object that stays
pub record StaysObject (old new : Object) : Type 0 where
  pub class : new.class ≡ old.class
  pub last : old.last ≤ new.last
  pub versions : AllByRecursion (IsOldVersion old old.last) new.versions

-- an activation of an object was there, or its number is at least the earlier next one
abbrev pub IsOldActivation : ℕ → Object → Activation → Type 0
IsOldActivation next old a = MatchOption (find (λ (b : Activation). b.number == a.number) old.activations) (next ≤ a.number) (λ b. Unit {0})

-- the numbers of activations are at least this one
abbrev pub AreActivations : ℕ → List Activation → Type 0
AreActivations next activations = AllByRecursion (λ (a : Activation). next ≤ a.number) activations

-- an object is new, with numbers from the earlier next one on, or it stays
abbrev pub FollowsObject : Bones → Object → Type 0
FollowsObject old o =
    MatchOption (object_numbered o.id old.objects) ((old.next ≤ o.id) × AreActivations old.next o.activations)
    (λ p. StaysObject p o × AllByRecursion (IsOldActivation old.next p) o.activations)

-- a world follows another
pub record Follows (old new : Bones) : Type 0 where
  pub next : old.next ≤ new.next
  pub objects : AllByRecursion (FollowsObject old) new.objects

-- each world follows the one before it
abbrev pub EachFollows : Bones → List Bones → Type 0
EachFollows w [] = Unit {0}
EachFollows w (v ∷ vs) = Follows w v × EachFollows v vs

-- of a world, and of those behind it
pub record IsStable (first : Bones) (rest : List Bones) : Type 0 where
  pub references : (r : Ref) → IsStableFor r (first ∷ rest)
  pub numbers : EachFollows first rest
