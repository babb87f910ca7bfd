-- The numbers of objects and of their activations go on telling them apart.
use Rattle.std.proofs.Common.{◌≡◌, ◌==◌, ◌+◌, ◌<◌, ◌≤◌, ℕ, List, [], ◌∷◌, ◌++◌, Bool, true, false, cond, map, Some, refl, sym, ap, subst, ◌∙◌, arith}
use Rattle.std.proofs.lemmas.List.{map-append}
use Rattle.std.specs.List.{AllByRecursion, find}
use Rattle.ode_laws.proofs.Each.{all-append, all-map, all-then}
use Rattle.ode_laws.proofs.Numbers.{rise_more}
use Rattle.ode_laws.proofs.Rows.{find_rising, id_of, numbered_find}
use Rattle.ode_laws.specs.Numbered.{AreNumbered, HasNumbers}
use Rattle.ode_objects.specs.Objects.{activated, new_active, switched_off, taken_over, turned_off, with_states}
use Rattle.ode_objects.specs.declared.object.Active.{Active}
use Rattle.ode_objects.specs.declared.object.Object.{Object}
use Rattle.ode_object_laws.specs.Objects.{HaveNumbers}
use Rattle.ode_overlay_laws.specs.Standing.{active_as, object_as}
use Rattle.ode_types.specs.declared.running.Running.{Running}
use Rattle.ode_value.specs.GoodWorlds.{RiseFrom}
use Rattle.ode_value.specs.Objects.{Activation}
use Rattle.ode_value.specs.Worlds as worlds
use Rattle.ode_value.specs.Worlds.{Bones, Declared}
use Rattle.ode_value.specs.declared.value.Value.{Value}
use Rattle.ode_version_laws.proofs.EachLaws.{AnyTaking, IsKept}
use Rattle.ode_version_laws.proofs.SumLaws.{all_numbered}

abbrev number_of : Activation → ℕ
number_of a = a.number

abbrev Below : ℕ → Activation → Type 0
Below next a = a.number < next

-- ---- by the numbers alone

below_numbers : (next : ℕ) (acts : List Activation) → AllByRecursion (λ m. m < next) (map number_of acts) → AllByRecursion (Below next) acts
below_numbers next [] all = tt
below_numbers next (a ∷ acts) all = (all.0, below_numbers next acts all.1)

same_numbers : (next id : ℕ) (o p : Object) → map number_of (object_as id p).activations ≡ map number_of (object_as id o).activations → HasNumbers next (object_as id o) → HasNumbers next (object_as id p)
same_numbers next id o p same has = record {
  drawn = has.drawn;
  rising = subst (RiseFrom 0) (sym same) has.rising;
  activations =
      below_numbers next (object_as id p).activations
      (subst (AllByRecursion (λ m. m < next)) (sym same) (all-map (λ m. m < next) number_of (object_as id o).activations has.activations));
}

off_numbers : (number : ℕ) (acts : List Active) → map number_of (map active_as (map (turned_off number) acts)) ≡ map number_of (map active_as acts)
off_numbers number [] = refl
off_numbers number (a ∷ acts) =
    ap (λ (n : ℕ). n ∷ map number_of (map active_as (map (turned_off number) acts))) (by_test (a.number == number)) ∙ ap (λ (ns : List ℕ). a.number ∷ ns) (off_numbers number acts) where
      by_test : (b : Bool) → (cond b (record a { on = false }) a).number ≡ a.number
      by_test true = refl
      by_test false = refl

taken_numbers : (rs : List Running) (acts : List Active) → map number_of (map active_as (taken_over rs acts)) ≡ map number_of (map active_as acts)
taken_numbers [] acts = refl
taken_numbers (r ∷ rs) [] = refl
taken_numbers (r ∷ rs) (a ∷ acts) = ap (λ (ns : List ℕ). a.number ∷ ns) (taken_numbers rs acts)

-- ---- where the next number is a later one

pub later_numbers : (low next : ℕ) (o : worlds.Object) → low ≤ next → HasNumbers low o → HasNumbers next o
later_numbers low next o up has = record {
  drawn = let here : o.id < low = has.drawn in omega arith;
  rising = has.rising;
  activations = all-then (Below low) (Below next) (λ a below. let here : a.number < low = below in omega arith) o.activations has.activations;
}

one_more : (next : ℕ) (o : worlds.Object) (a : Activation) → a.number ≡ next → HasNumbers next o → HasNumbers (next + 1) (record o { activations = o.activations ++ a ∷ [] })
one_more next o a is has = record {
  drawn = let here : o.id < next = has.drawn in omega arith;
  rising =
      subst (RiseFrom 0) (sym (map-append number_of o.activations (a ∷ []) ∙ ap (λ (n : ℕ). map number_of o.activations ++ n ∷ []) is))
      (rise_more 0 next (map number_of o.activations) (omega arith) has.rising (all-map (λ m. m < next) number_of o.activations has.activations));
  activations =
      all-append (Below (next + 1)) o.activations (a ∷ [])
      (all-then (Below next) (Below (next + 1)) (λ b below. let here : b.number < next = below in omega arith) o.activations has.activations) (omega (arith, is), tt);
}

active_numbers : (next id class trigger : ℕ) (args : List Value) (o : Object) → HasNumbers next (object_as id o) → HasNumbers (next + 1) (object_as id (activated (new_active next class trigger args) o))
active_numbers next id class trigger args o has =
    let a = active_as (new_active next class trigger args) in
    subst (λ (acts : List Activation). HasNumbers (next + 1) (record (object_as id o) { activations = acts })) (sym (map-append active_as o.activations (new_active next class trigger args ∷ [])))
    (one_more next (object_as id o) a refl has)

pub numbers_kept : IsKept HasNumbers AnyTaking
numbers_kept = record {
  later = later_numbers;
  set = λ next id n fields o fit has. record { drawn = has.drawn; rising = has.rising; activations = has.activations };
  version = λ next id stamp v o fit has. record { drawn = has.drawn; rising = has.rising; activations = has.activations };
  dropped = λ next id n o more has. record { drawn = has.drawn; rising = has.rising; activations = has.activations };
  removed = λ next id o has. record { drawn = has.drawn; rising = has.rising; activations = has.activations };
  active = λ next id class trigger args o may has. active_numbers next id class trigger args o has;
  off = λ next id number o has. same_numbers next id o (switched_off number o) (off_numbers number o.activations) has;
  states = λ next id rs o has. same_numbers next id o (with_states rs o) (taken_numbers rs o.activations) has;
  new = λ next class fields fit. record { drawn = omega arith; rising = tt; activations = tt };
}

-- ---- of all objects

pub numbers_of : (b : Bones) → AreNumbered b → HaveNumbers b
numbers_of b numbered = λ id o is. all_numbered (HasNumbers b.next) id b.objects o numbered.objects is

pub each_numbered : (b : Bones) → RiseFrom 0 (map id_of b.objects) → HaveNumbers b → AllByRecursion (HasNumbers b.next) b.objects
each_numbered b rising have =
    all-then (λ (o : worlds.Object). find (λ (q : worlds.Object). q.id == o.id) b.objects ≡ Some o) (HasNumbers b.next) (λ o is. have o.id o (numbered_find o.id b.objects ∙ is)) b.objects
    (find_rising id_of 0 b.objects rising)

pub are_numbered : (b : Bones) → RiseFrom 0 (map (λ (d : Declared). d.class.number) b.classes) → RiseFrom 0 (map id_of b.objects) → HaveNumbers b → AreNumbered b
are_numbered b classes rising have = record { classes = classes; rising = rising; objects = each_numbered b rising have }
