-- What a run settles, and its worlds.
use Rattle.std.proofs.Common.{◌≡◌, ℕ, zero, suc, map, take, List, [], ◌∷◌, refl, ap}
use Rattle.ode_machine.specs.Runs.{Item, Refuses, Settles, world_at, worlds}
use Rattle.ode_number_laws.specs.Counting.{CountUp}
use Rattle.ode_ship_laws.specs.Worlds.{world_of}
use Rattle.ode_run_laws.specs.Settled.{settled_of}
use Rattle.ode_value.specs.Draining.{world_after}
use Rattle.ode_value.specs.Language.{ListWorld, Settlings}

pub worlds_are : (items : List Item) → worlds items ≡ map world_of (settled_of items)
worlds_are [] = refl
worlds_are (Refuses line ∷ items) = worlds_are items
worlds_are (Settles w text ∷ items) = ap (λ (ws : List ListWorld). w ∷ ws) (worlds_are items)

pub world_is : (k : ℕ) (w : ListWorld) (items : List Item) → world_after w (take k (settled_of items)) ≡ world_at k w items
world_is zero w [] = refl
world_is (suc k) w [] = refl
world_is zero w (Refuses line ∷ items) = world_is zero w items
world_is (suc k) w (Refuses line ∷ items) = world_is (suc k) w items
world_is zero w (Settles v text ∷ items) = refl
world_is (suc k) w (Settles v text ∷ items) = world_is k v items

-- the first of transactions whose numbers follow one another
pub some_count_up : (n k : ℕ) (settled : Settlings) → CountUp n (map world_of settled) → CountUp n (map world_of (take k settled))
some_count_up n zero settled up = tt
some_count_up n (suc k) [] up = tt
some_count_up n (suc k) (s ∷ settled) up = (up.0, some_count_up s.0.bones.transaction k settled up.1)
