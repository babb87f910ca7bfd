-- What the changes of classes of a language promise.
use Rattle.std.specs.Prelude.{◌≡◌, ◌≤◌, ℕ, List, Some, Ok}
use Rattle.ode_value.specs.declared.change.Change.{Change}
use Rattle.ode_value.specs.Changing.{changed_bones, changed_world}
use Rattle.ode_value.specs.Language.{Language, ListWorld}
use Rattle.ode_value.specs.Limits.{weight_limit}
use Rattle.ode_value.specs.Pasts.{lists}
use Rattle.ode_value.specs.Weights.{weight}
use Rattle.ode_value.specs.Worlds.{Declared}
use Rattle.ode_machine.specs.Refusals.{changed_in}
use Rattle.ode_good_laws.specs.Well.{IsWell}

-- with the fields of a change that was read and is accepted a good world is one again, where it isn't too heavy
pub record HasSoundChanges (l : Language) : Type 0 where
  pub changed : (piece : List ℕ) (c : Change) → l.change_of piece ≡ Some (Ok c) → (w : ListWorld) → IsWell l w → (classes : List Declared) → changed_in l w.bones c ≡ Ok classes
      → weight (changed_bones w.bones c classes) ≤ weight_limit → IsWell l (changed_world lists classes c w)
