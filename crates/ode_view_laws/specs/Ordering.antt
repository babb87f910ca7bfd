-- Worlds whose parts are in the order of their numbers.
use Rattle.std.specs.Prelude.{◌≡◌, ◌<◌, ℕ, map}
use Rattle.std.specs.List.{AllByRecursion}
use Rattle.ode_laws.specs.Alike.{NumberWorld}
use Rattle.ode_value.specs.GoodWorlds.{RiseFrom}
use Rattle.ode_value.specs.Pasts.{Kept}
use Rattle.ode_value.specs.Worlds.{Object}

abbrev pub number_of : Object → ℕ
number_of o = o.id

abbrev pub row_number : ℕ × Kept (Unit {0}) ℕ → ℕ
row_number row = row.0

-- the numbers of a world's objects rise and were drawn, and there is a row of the past for each
pub record IsOrdered (w : NumberWorld) : Type 0 where
  pub rising : RiseFrom 0 (map number_of w.bones.objects)
  pub drawn : AllByRecursion (λ (o : Object). o.id < w.bones.next) w.bones.objects
  pub rows : map row_number w.pasts ≡ map number_of w.bones.objects
