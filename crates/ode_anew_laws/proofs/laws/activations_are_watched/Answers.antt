use Rattle.std.proofs.Common.{◌≡◌, Option, Some, None, refl}
use Rattle.std.specs.Option.{IsSome}
use Rattle.std.specs.List.{AllByRecursion}
use Rattle.ode_value.specs.declared.class.Class.{Class}
use Rattle.ode_types.specs.Families.{class_named}
use Rattle.ode_sound_laws.specs.Sound.{checked_classes}
use Rattle.ode_change_laws.specs.Moves.{AreWatched}
use Rattle.ode_anew_laws.proofs.WatchedChanges.{objects_watched}
use Rattle.ode_anew_laws.proofs.laws.activations_are_watched.Goals as goal

pub returns : goal.returns
returns c bones change classes checked there behind objects =
    by_class (class_named (checked_classes bones.classes) change.class) there (λ k found. objects_watched bones change classes checked k found behind bones.objects objects)
  where
    by_class : (o : Option Class) → IsSome o → ((k : Class) → o ≡ Some k → AllByRecursion (AreWatched bones change classes) bones.objects) → AllByRecursion (AreWatched bones change classes) bones.objects
    by_class None some watched = absurd (cc (some))
    by_class (Some k) some watched = watched k refl
