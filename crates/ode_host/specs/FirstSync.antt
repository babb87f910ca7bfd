-- A run whose first sync is the first moment of which all is known.
use Rattle.std.specs.Prelude.{◌≡◌, ℕ, ◌<◌, ◌≤◌, ◌⊎◌, min, List}
use Rattle.ode_host.specs.View.{View}

-- Before the moment of the first sync a stop leaves what it might have left at the start. At that moment it leaves this
-- image and no other, and from then on what has P. The moment lies within the run, unless the run failed.
pub record SyncedRun (old new : View) (image : List ℕ) (failed : Type 0) (P : List ℕ → List ℕ → Type 0) : Type 0 where
  pub since : ℕ
  pub later : old.moment ≤ since
  pub within : failed ⊎ (since ≤ new.moment)
  pub before : (t : ℕ) (c o : List ℕ) → t < since → t ≤ new.moment → new.left t c o → old.left (min t old.moment) c o
  pub stands : (c o : List ℕ) → since ≤ new.moment → new.left since c o → c ≡ image
  pub each : (t : ℕ) (c o : List ℕ) → since ≤ t → t ≤ new.moment → new.left t c o → P c o
