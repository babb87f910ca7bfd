-- How much objects weigh, in the overlay and in the machine.
use Rattle.std.proofs.Common.{◌≡◌, ◌+◌, ℕ, List, [], ◌∷◌, Bool, true, false, cond, map, sum_by, Option, refl, sym, ap, ◌∙◌, zero-add}
use Rattle.std.proofs.lemmas.List.Sums.{sum_by-cons}
use Rattle.std.specs.List.{AllByRecursion, filter}
use Rattle.std.specs.Option.{option_map_or}
use Rattle.ode_heap.specs.Answering.{class_of}
use Rattle.ode_heap_laws.proofs.Classes.{same_numbered}
use Rattle.ode_objects.specs.Weights as seen
use Rattle.ode_objects.specs.declared.object.Active.{Active}
use Rattle.ode_objects.specs.declared.object.Object.{Object}
use Rattle.ode_objects.specs.declared.object.Version.{Version}
use Rattle.ode_overlay_laws.specs.Standing.{active_as, object_as, version_as}
use Rattle.ode_value.specs.Fields.{fields_of}
use Rattle.ode_value.specs.Keeping.{is_active, is_there, kept_object}
use Rattle.ode_value.specs.Lengths.{object_length}
use Rattle.ode_value.specs.Objects.{Activation}
use Rattle.ode_value.specs.Weights.{activation_weight, object_weight, version_weight}
use Rattle.ode_value.specs.Worlds as worlds
use Rattle.ode_value.specs.Worlds.{Declared}
use Rattle.ode_value.specs.declared.class.Class.{Class}
use Rattle.ode_value.specs.declared.class.Field.{Field}

-- what a commit keeps of an object
abbrev pub kept_weight : List Declared → worlds.Object → ℕ
kept_weight classes o = cond o.live (object_weight classes (kept_object o)) 0

-- the fields of a class, by the classes alone
fields_same : (classes : List Declared) (number : ℕ) → fields_of classes number ≡ seen.class_fields (map class_of classes) number
fields_same classes number = ap (λ (c : Option Class). option_map_or (λ (d : Class). d.fields) c []) (sym (same_numbered classes number))

versions_weigh : (fields : List Field) (vs : List Version) → sum_by (version_weight fields) (map version_as vs) ≡ sum_by (seen.version_weight fields) vs
versions_weigh fields [] = refl
versions_weigh fields (v ∷ vs) =
    sum_by-cons (version_weight fields) (version_as v) (map version_as vs) ∙ ap (λ (n : ℕ). seen.version_weight fields v + n) (versions_weigh fields vs)
    ∙ sym (sum_by-cons (seen.version_weight fields) v vs)

activations_weigh : (activations : List Active) → sum_by activation_weight (filter is_active (map active_as activations)) ≡ sum_by seen.active_weight activations
activations_weigh [] = refl
activations_weigh (a ∷ more) = by_on a.on (activations_weigh more) ∙ sym (sum_by-cons seen.active_weight a more) where
  by_on : (b : Bool) → sum_by activation_weight (filter is_active (map active_as more)) ≡ sum_by seen.active_weight more
      → sum_by activation_weight (cond b (active_as a ∷ filter is_active (map active_as more)) (filter is_active (map active_as more)))
      ≡ cond b (activation_weight (active_as a)) 0 + sum_by seen.active_weight more
  by_on true rest = sum_by-cons activation_weight (active_as a) (filter is_active (map active_as more)) ∙ ap (λ (n : ℕ). activation_weight (active_as a) + n) rest
  by_on false rest = rest ∙ sym (zero-add (sum_by seen.active_weight more))

pub object_weighs : (classes : List Declared) (id : ℕ) (o : Object) → kept_weight classes (object_as id o) ≡ seen.object_weight (map class_of classes) o
object_weighs classes id o =
    let fields = fields_of classes o.class in
    ap (λ (n : ℕ). cond o.live (object_length + n + sum_by activation_weight (filter is_active (map active_as o.activations))) 0) (versions_weigh fields o.versions)
    ∙ ap (λ (n : ℕ). cond o.live (object_length + sum_by (seen.version_weight fields) o.versions + n) 0) (activations_weigh o.activations)
    ∙ ap (λ (fs : List Field). cond o.live (object_length + sum_by (seen.version_weight fs) o.versions + sum_by seen.active_weight o.activations) 0) (fields_same classes o.class)

-- an object of a world between transactions is kept whole
all_on : (activations : List Activation) → AllByRecursion (λ (a : Activation). a.on ≡ true) activations → filter is_active activations ≡ activations
all_on [] each = refl
all_on (a ∷ more) each =
    ap (λ (b : Bool). cond b (a ∷ filter is_active more) (filter is_active more)) each.0 ∙ ap (λ (acts : List Activation). a ∷ acts) (all_on more each.1)

pub settled_weighs : (classes : List Declared) (o : worlds.Object) → o.live ≡ true → AllByRecursion (λ (a : Activation). a.on ≡ true) o.activations → kept_weight classes o ≡ object_weight classes o
settled_weighs classes o live on =
    ap (λ (b : Bool). cond b (object_weight classes (kept_object o)) 0) live
    ∙ ap (λ (acts : List Activation). object_weight classes (record o { activations = acts })) (all_on o.activations on)

pub all_kept : (classes : List Declared) (os : List worlds.Object) → sum_by (object_weight classes) (map kept_object (filter is_there os)) ≡ sum_by (kept_weight classes) os
all_kept classes [] = refl
all_kept classes (o ∷ os) = by_live o.live (all_kept classes os) ∙ sym (sum_by-cons (kept_weight classes) o os) where
  by_live : (b : Bool) → sum_by (object_weight classes) (map kept_object (filter is_there os)) ≡ sum_by (kept_weight classes) os
      → sum_by (object_weight classes) (map kept_object (cond b (o ∷ filter is_there os) (filter is_there os))) ≡ cond b (object_weight classes (kept_object o)) 0 + sum_by (kept_weight classes) os
  by_live true rest = sum_by-cons (object_weight classes) (kept_object o) (map kept_object (filter is_there os)) ∙ ap (λ (n : ℕ). object_weight classes (kept_object o) + n) rest
  by_live false rest = rest ∙ sym (zero-add (sum_by (kept_weight classes) os))
