-- Whether an object is there, as its record tells it.
use Rattle.std.proofs.Common.{◌≡◌, ℕ, Bool, true, false, cond, List, [], ◌∷◌, Some, None, refl, sym, ap}
use Rattle.std.specs.List.{AllByRecursion}
use Rattle.std.specs.Option.{option_and_then, option_map}
use Rattle.std.specs.Prelude.{◌==◌, is_some}
use Rattle.ode_heap.specs.Answering.{head_of_object}
use Rattle.ode_value.specs.Denoting.{if_live, object_at, object_numbered}
use Rattle.ode_value.specs.GoodWorlds.{IsGood, IsObject}
use Rattle.ode_value.specs.Language.{Language, ListWorld}
use Rattle.ode_value.specs.Worlds.{Bones, Object}

abbrev head_there : ℕ → List Object → Bool
head_there id os = is_some (option_map head_of_object (object_numbered id os))

all_live : (b : Bones) (id : ℕ) (os : List Object) → AllByRecursion (IsObject b) os → is_some (option_and_then if_live (object_numbered id os)) ≡ head_there id os
all_live b id [] all = refl
all_live b id (o ∷ os) all = by_number (o.id == id) (all_live b id os all.1) where
  by_number : (t : Bool) → is_some (option_and_then if_live (object_numbered id os)) ≡ head_there id os
      → is_some (option_and_then if_live (cond t (Some o) (object_numbered id os))) ≡ is_some (option_map head_of_object (cond t (Some o) (object_numbered id os)))
  by_number true rest = ap (λ (live : Bool). is_some (cond live (Some o) None)) all.0.live
  by_number false rest = rest

-- objects of a good world are live, so one is there where its record is
pub there_by_head : (l : Language) (w : ListWorld) → IsGood l w → (id : ℕ) → is_some (option_map head_of_object (object_numbered id w.bones.objects)) ≡ is_some (object_at w.bones id)
there_by_head l w good id = sym (all_live w.bones id w.bones.objects good.bones.objects)
