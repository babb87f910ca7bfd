-- The numbers of a good world tell its parts apart.
use Rattle.std.proofs.Common.{◌≡◌, ℕ, ◌+◌, ◌<◌, ◌≤◌, List, [], ◌∷◌, ◌++◌, map, length, arith}
use Rattle.std.proofs.lemmas.List.{length-append}
use Rattle.ode_value.specs.declared.change.Added.{Added}
use Rattle.ode_value.specs.GoodWorlds.{RiseFrom, AreClasses, IsActivation, IsObject, IsEntry, IsGood}
use Rattle.ode_value.specs.Language.{Language, ListWorld}
use Rattle.ode_value.specs.Objects.{Activation}
use Rattle.ode_value.specs.Worlds.{Declared, Object, Bones}
use Rattle.ode_laws.specs.Counted.{HasLast, IsQueued, AreCounted}
use Rattle.ode_laws.specs.Numbered.{HasNumbers, AreNumbered}
use Rattle.ode_laws.proofs.Each.{all-then}

classes_rise : (l : Language) (added : List Added) (earlier cs : List Declared) (low : ℕ) → low ≤ length earlier + 1 → AreClasses l added earlier cs → RiseFrom low (map (λ (d : Declared). d.class.number) cs)
classes_rise l added earlier [] low less are = tt
classes_rise l added earlier (c ∷ cs) low less are =
    let is : c.class.number ≡ length earlier + 1 = are.0.number in
    (omega arith, classes_rise l added (earlier ++ c ∷ []) cs (c.class.number + 1) (omega (arith, length-append earlier (c ∷ []))) are.1)

object_numbers : (b : Bones) (o : Object) → IsObject b o → HasNumbers b.next o
object_numbers b o is = record {
  drawn = is.number;
  rising = is.rising_activations;
  activations = all-then (IsActivation b o.class) (λ (a : Activation). a.number < b.next) (λ a act. act.number) o.activations is.activations;
}

pub good_numbered : (l : Language) (w : ListWorld) → IsGood l w → AreNumbered w.bones
good_numbered l w good = record {
  classes = classes_rise l w.bones.added [] w.bones.classes 0 (omega arith) good.bones.classes;
  rising = good.bones.rising;
  objects = all-then (IsObject w.bones) (HasNumbers w.bones.next) (object_numbers w.bones) w.bones.objects good.bones.objects;
}

pub good_counted : (l : Language) (w : ListWorld) → IsGood l w → AreCounted w.bones
good_counted l w good = record {
  next = good.bones.next;
  next_entry = good.bones.next_entry;
  few = good.bones.few;
  rising = good.bones.rising_queue;
  queue = all-then (IsEntry w.bones) (IsQueued w.bones.next_entry) (λ q is. (is.number, is.generation)) w.bones.queue good.bones.queue;
  lasts = all-then (IsObject w.bones) HasLast (λ o is. is.last) w.bones.objects good.bones.objects;
}
