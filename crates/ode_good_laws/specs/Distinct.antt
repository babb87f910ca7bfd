-- The numbers of objects and activations differ, and were drawn.
use Rattle.std.specs.Prelude.{◌<◌, ◌≤◌, ℕ, List, nat_eq}
use Rattle.std.specs.List.{AllByRecursion, IsDistinct, flat_map}
use Rattle.ode_value.specs.GoodWorlds.{drawn_numbers}
use Rattle.ode_value.specs.Transactions.{Tx}
use Rattle.ode_value.specs.Worlds.{Object, Bones}

-- all numbers of objects and their activations
abbrev pub numbers_of : List Object → List ℕ
numbers_of objects = flat_map drawn_numbers objects

-- they differ, and are below the next one
pub record AreDistinct (b : Bones) : Type 0 where
  pub distinct : IsDistinct nat_eq (numbers_of b.objects)
  pub drawn : AllByRecursion (λ n. n < b.next) (numbers_of b.objects)

-- so it is in both worlds of a transaction, and the next number hasn't fallen
pub record HasDistinct {O A : Type 0} (x : Tx O A) : Type 0 where
  pub first : AreDistinct x.first.bones
  pub now : AreDistinct x.now.bones
  pub next : x.first.bones.next ≤ x.now.bones.next
