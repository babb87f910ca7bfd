-- The growth that an overlay tells is that of the world.
use Rattle.std.proofs.Common.{◌≡◌, ◌+◌, ◌<◌, ◌≤◌, ◌==◌, ℕ, List, [], ◌∷◌, Bool, true, false, cond, find, length, map, sum_by, pos, ◌-ℤ◌, Option, Some, None, refl, sym, ap, ◌∙◌, le_of_eq, arith}
use Rattle.std.proofs.lemmas.Bool.Decides.{nat_tests}
use Rattle.std.proofs.lemmas.Int.{ints}
use Rattle.std.proofs.lemmas.List.Sums.{sum_by-cons}
use Rattle.std.specs.BTreeMap.{is_at}
use Rattle.std.specs.List.{AllByRecursion}
use Rattle.std.specs.List.Sorted.{IsStrictlySortedBy}
use Rattle.std.specs.Map.{keys_of, lookup, values_of}
use Rattle.std.specs.Option.{option_map, option_map_or}
use Rattle.std.specs.Ordering.{nat_cmp}
use Rattle.std.specs.declared.cmp.Ordering.TheVariants.{Less}
use Rattle.ode_heap.specs.Answering.{class_of}
use Rattle.ode_laws.proofs.Each.{all-then}
use Rattle.ode_laws.proofs.Rows.{numbered_find}
use Rattle.ode_laws.specs.Alike.{NumberTx}
use Rattle.ode_laws.specs.Numbered.{HasNumbers}
use Rattle.ode_objects.specs.Weights as seen
use Rattle.ode_objects.specs.declared.object.Object.{Object}
use Rattle.ode_objects.specs.declared.tracked.First.{First}
use Rattle.ode_objects.specs.declared.tracked.First.TheVariants.{Same, Other, Absent}
use Rattle.ode_objects.specs.declared.tracked.Tracked.{Tracked}
use Rattle.ode_overlay.specs.Layers.{Layer, tracked_at}
use Rattle.ode_overlay.specs.Settling.{bytes_after, bytes_before, growth}
use Rattle.ode_overlay_laws.specs.Standing.{IsIn, Stands, object_as}
use Rattle.ode_value.specs.Denoting.{object_numbered}
use Rattle.ode_value.specs.GoodWorlds.{RiseFrom}
use Rattle.ode_value.specs.Keeping.{kept_bones}
use Rattle.ode_value.specs.Lengths.{counters_length}
use Rattle.ode_value.specs.Weights.{added_weight, class_weight, object_weight, weight}
use Rattle.ode_value.specs.Worlds as worlds
use Rattle.ode_value.specs.Worlds.{Declared}
use Rattle.ode_value.specs.declared.change.Added.{Added}
use Rattle.ode_value.specs.declared.class.Class.{Class}
use Rattle.ode_version_laws.proofs.SumLaws.{all_numbered, total, total_most, total_of, total_same, total_sum, weight_at}
use Rattle.ode_version_laws.proofs.TrackedMaps.{all_found}
use Rattle.ode_version_laws.proofs.WeightLaws.{all_kept, kept_weight, object_weighs, settled_weighs}
use Rattle.ode_version_laws.specs.Growing.{GoesOnNumbered}
use Rattle.ode_version_laws.specs.Remembering.{Remembers, WasFirst}
use Rattle.ode_version_laws.specs.Showing.{AreSettled}

-- ---- tracked objects as things with numbers

abbrev Entry : Type 0
Entry = ℕ × Tracked

abbrev number_of : Entry → ℕ
number_of e = e.0

looked_up : (n : ℕ) (es : List Entry) → find (λ (e : Entry). number_of e == n) es ≡ option_map (λ (t : Tracked). (n, t)) (lookup (is_at (nat_cmp n)) es)
looked_up n [] = refl
looked_up n (e ∷ es) = by_test (e.0 == n) (is_at (nat_cmp n) e.0) (same_test n e.0) (same_number n e.0) (looked_up n es) where
  same_test : (n m : ℕ) → (m == n) ≡ is_at (nat_cmp n) m
  same_test n m = grind (arith, nat_tests)

  same_number : (n m : ℕ) → (m == n) ≡ true → m ≡ n
  same_number n m is = grind (arith, nat_tests)

  by_test : (a b : Bool) → a ≡ b → (a ≡ true → e.0 ≡ n) → find (λ (e : Entry). number_of e == n) es ≡ option_map (λ (t : Tracked). (n, t)) (lookup (is_at (nat_cmp n)) es)
      → cond a (Some e) (find (λ (e : Entry). number_of e == n) es) ≡ option_map (λ (t : Tracked). (n, t)) (cond b (Some e.1) (lookup (is_at (nat_cmp n)) es))
  by_test true true same is rest = ap (λ (m : ℕ). Some (m, e.1)) (is refl)
  by_test false false same is rest = rest
  by_test true false same is rest = absurd (cc)
  by_test false true same is rest = absurd (cc)

values_weigh : (w : Tracked → ℕ) (es : List Entry) → sum_by w (values_of es) ≡ sum_by (λ (e : Entry). w e.1) es
values_weigh w [] = refl
values_weigh w (e ∷ es) = sum_by-cons w e.1 (values_of es) ∙ ap (λ (n : ℕ). w e.1 + n) (values_weigh w es) ∙ sym (sum_by-cons (λ (e : Entry). w e.1) e es)

rise_sorted : (low : ℕ) (ns : List ℕ) → AllByRecursion (λ n. low ≤ n) ns → IsStrictlySortedBy nat_cmp ns → RiseFrom low ns
unfolding IsStrictlySortedBy
rise_sorted low [] above rising = tt
rise_sorted low (n ∷ ns) above rising = (above.0, rise_sorted (n + 1) ns (all-then (λ m. nat_cmp n m ≡ Less) (λ m. n + 1 ≤ m) (λ m less. up n m less) ns rising.0) rising.1) where
  up : (n m : ℕ) → nat_cmp n m ≡ Less → n + 1 ≤ m
  up n m less = grind (arith, nat_tests)

all_above : (ns : List ℕ) → AllByRecursion (λ n. 0 ≤ n) ns
all_above [] = tt
all_above (n ∷ ns) = (omega arith, all_above ns)

-- ---- number by number

balanced : (a b c d : ℕ) → c ≡ b → d ≡ a → a + c ≡ b + d
balanced a b c d first now = omega arith

weighed : (a b c k s t u m : ℕ) → a + s ≡ b + t → u ≡ t → a + (c + k + s + m) ≡ b + (c + k + u + m)
weighed a b c k s t u m objects kept = omega arith

differs : (a b c d : ℕ) → a + d ≡ b + c → pos a -ℤ pos b ≡ pos c -ℤ pos d
differs a b c d same = omega (arith, ints)

abbrev key : worlds.Object → ℕ
key o = o.id

module _ (x : Layer) (y : NumberTx) (stands : Stands x y) (remembers : Remembers x.objects y.first) (settled : AreSettled y.first) (numbered : GoesOnNumbered y) where
  abbrev n : ℕ
  n = y.now.bones.next

  -- by the first world's classes
  abbrev declared : List Declared
  declared = y.first.bones.classes

  abbrev classes : List Class
  classes = map class_of declared

  abbrev first_weight : worlds.Object → ℕ
  first_weight = object_weight declared

  abbrev now_weight : worlds.Object → ℕ
  now_weight = kept_weight declared

  abbrev own_weight : Object → ℕ
  own_weight = seen.object_weight classes

  abbrev weight_after : Tracked → ℕ
  weight_after = seen.weight_after classes

  abbrev weight_before : Tracked → ℕ
  weight_before = seen.weight_before classes

  abbrev weighs : (Tracked → ℕ) → Option Tracked → ℕ
  weighs w f = option_map_or w f 0

  abbrev weighs_by : (worlds.Object → ℕ) → Option worlds.Object → ℕ
  weighs_by w f = option_map_or w f 0

  abbrev first_at : ℕ → Option worlds.Object
  first_at id = object_numbered id y.first.bones.objects

  abbrev now_at : ℕ → Option worlds.Object
  now_at id = object_numbered id y.now.bones.objects

  settled_weight : (id : ℕ) (o : worlds.Object) → first_at id ≡ Some o → now_weight o ≡ first_weight o
  settled_weight id o is = settled_weighs declared o (settled id o is).live (settled id o is).on

  -- of one that is tracked
  first_weighs : (id : ℕ) (o : Object) → IsIn y.first id o → weighs_by first_weight (first_at id) ≡ own_weight o
  first_weighs id o at = ap (weighs_by first_weight) at.object ∙ sym (settled_weight id (object_as id o) at.object) ∙ object_weighs declared id o

  now_weighs : (id : ℕ) (o : Object) → IsIn y.now id o → weighs_by now_weight (now_at id) ≡ own_weight o
  now_weighs id o at = ap (weighs_by now_weight) at.object ∙ object_weighs declared id o

  tracked_weighs : (id : ℕ) (now : Object) (f : First) → IsIn y.now id now → WasFirst y.first id now f
      → seen.changed_weight classes now f + weighs_by first_weight (first_at id) ≡ seen.first_weight classes f + weighs_by now_weight (now_at id)
  tracked_weighs id now Same at was = ap (λ (w : ℕ). 0 + w) (first_weighs id now was ∙ sym (now_weighs id now at))
  tracked_weighs id now (Other o) at was =
      balanced (own_weight now) (own_weight o) (weighs_by first_weight (first_at id)) (weighs_by now_weight (now_at id)) (first_weighs id o was.is) (now_weighs id now at)
  tracked_weighs id now Absent at was =
      balanced (own_weight now) 0 (weighs_by first_weight (first_at id)) (weighs_by now_weight (now_at id)) (ap (weighs_by first_weight) was.object) (now_weighs id now at)

  -- of one that isn't
  other_weighs : (id : ℕ) (f : Option worlds.Object) → first_at id ≡ f → now_at id ≡ f → weighs_by first_weight (first_at id) ≡ weighs_by now_weight (now_at id)
  other_weighs id None first now = ap (weighs_by first_weight) first ∙ sym (ap (weighs_by now_weight) now)
  other_weighs id (Some o) first now = ap (weighs_by first_weight) first ∙ sym (settled_weight id o first) ∙ sym (ap (weighs_by now_weight) now)

  each_weighs : (id : ℕ) (f : Option Tracked) → tracked_at id x ≡ f
      → weighs weight_after f + weighs_by first_weight (first_at id) ≡ weighs weight_before f + weighs_by now_weight (now_at id)
  each_weighs id None is = ap (λ (w : ℕ). 0 + w) (other_weighs id (first_at id) refl (stands.others id is).object)
  each_weighs id (Some t) is = tracked_weighs id t.current t.first (stands.tracked id t is) (remembers.first id t is)

  -- ---- together

  drawn : AllByRecursion (λ (e : Entry). number_of e < n) x.objects
  drawn = all-then (λ (e : Entry). lookup (is_at (nat_cmp e.0)) x.objects ≡ Some e.1) (λ (e : Entry). number_of e < n) (λ e is. below e is) x.objects (all_found x.objects remembers.rising) where
    below : (e : Entry) → lookup (is_at (nat_cmp e.0)) x.objects ≡ Some e.1 → e.0 < n
    below e is = (all_numbered (HasNumbers n) e.0 y.now.bones.objects (object_as e.0 e.1.current) numbered.now.objects (stands.tracked e.0 e.1 is).object).drawn

  tracked_total : (w : Tracked → ℕ) → sum_by w (values_of x.objects) ≡ total n (λ id. weighs w (tracked_at id x))
  tracked_total w =
      values_weigh w x.objects
      ∙ total_of number_of (λ (e : Entry). w e.1) n 0 x.objects (rise_sorted 0 (keys_of x.objects) (all_above (keys_of x.objects)) remembers.rising) drawn
      ∙ total_same n (weight_at number_of (λ (e : Entry). w e.1) x.objects) (λ id. weighs w (tracked_at id x)) (λ id less. by_found id)
    where
      by_option : (id : ℕ) (f : Option Tracked) → option_map_or (λ (e : Entry). w e.1) (option_map (λ (t : Tracked). (id, t)) f) 0 ≡ weighs w f
      by_option id None = refl
      by_option id (Some t) = refl

      by_found : (id : ℕ) → weight_at number_of (λ (e : Entry). w e.1) x.objects id ≡ weighs w (tracked_at id x)
      by_found id = ap (λ (f : Option Entry). option_map_or (λ (e : Entry). w e.1) f 0) (looked_up id x.objects) ∙ by_option id (tracked_at id x)

  world_total : (w : worlds.Object → ℕ) (os : List worlds.Object) → RiseFrom 0 (map key os) → AllByRecursion (λ (o : worlds.Object). key o < n) os → sum_by w os ≡ total n (λ id. weighs_by w (object_numbered id os))
  world_total w os rise below =
      total_of key w n 0 os rise below
      ∙ total_same n (weight_at key w os) (λ id. weighs_by w (object_numbered id os)) (λ id less. ap (weighs_by w) (sym (numbered_find id os)))

  first_total : sum_by first_weight y.first.bones.objects ≡ total n (λ id. weighs_by first_weight (first_at id))
  first_total =
      world_total first_weight y.first.bones.objects numbered.first.rising
      (all-then (HasNumbers y.first.bones.next) (λ (o : worlds.Object). key o < n) (λ o has. let less : o.id < y.first.bones.next = has.drawn in omega (arith, less, numbered.next)) y.first.bones.objects numbered.first.objects)

  now_total : sum_by now_weight y.now.bones.objects ≡ total n (λ id. weighs_by now_weight (now_at id))
  now_total = world_total now_weight y.now.bones.objects numbered.now.rising (all-then (HasNumbers n) (λ (o : worlds.Object). key o < n) (λ o has. has.drawn) y.now.bones.objects numbered.now.objects)

  grown : bytes_after classes x + sum_by first_weight y.first.bones.objects ≡ bytes_before classes x + sum_by now_weight y.now.bones.objects
  grown =
      let each = total_same n (λ id. weighs weight_after (tracked_at id x) + weighs_by first_weight (first_at id)) (λ id. weighs weight_before (tracked_at id x) + weighs_by now_weight (now_at id))
      (λ id less. each_weighs id (tracked_at id x) refl)
      in
      let left = total_sum n (λ id. weighs weight_after (tracked_at id x)) (λ id. weighs_by first_weight (first_at id)) in
      let right = total_sum n (λ id. weighs weight_before (tracked_at id x)) (λ id. weighs_by now_weight (now_at id)) in
      ap (λ (a : ℕ). a + sum_by first_weight y.first.bones.objects) (tracked_total weight_after)
      ∙ ap (λ (b : ℕ). total n (λ id. weighs weight_after (tracked_at id x)) + b) first_total
      ∙ sym left ∙ each ∙ right
      ∙ sym (ap (λ (a : ℕ). a + sum_by now_weight y.now.bones.objects) (tracked_total weight_before)
      ∙ ap (λ (b : ℕ). total n (λ id. weighs weight_before (tracked_at id x)) + b) now_total)

  -- with the first world's added fields and classes
  abbrev weight_with : List worlds.Object → List Added → List Declared → ℕ
  weight_with os added ds = counters_length (length added) + sum_by class_weight ds + sum_by (object_weight ds) os + sum_by added_weight added

  same_weight : weight (kept_bones y.now.bones) ≡ weight_with (kept_bones y.now.bones).objects y.first.bones.added declared
  unfolding weight
  same_weight =
      let os = (kept_bones y.now.bones).objects in
      ap (λ (added : List Added). weight_with os added y.now.bones.classes) stands.added ∙ ap (λ (ds : List Declared). weight_with os y.first.bones.added ds) numbered.classes

  pub grows_law : growth classes x ≡ pos (weight (kept_bones y.now.bones)) -ℤ pos (weight y.first.bones)
  unfolding weight
  grows_law =
      let os = (kept_bones y.now.bones).objects in
      let added = y.first.bones.added in
      differs (bytes_after classes x) (bytes_before classes x) (weight_with os added declared) (weight y.first.bones)
      (weighed (bytes_after classes x) (bytes_before classes x) (counters_length (length added)) (sum_by class_weight declared) (sum_by first_weight y.first.bones.objects)
      (sum_by now_weight y.now.bones.objects) (sum_by first_weight os) (sum_by added_weight added) grown (all_kept declared y.now.bones.objects))
      ∙ sym (ap (λ (m : ℕ). pos m -ℤ pos (weight y.first.bones)) same_weight)

  -- ---- what changed objects took is part of the first world

  first_part : (id : ℕ) (now : Object) (f : First) → WasFirst y.first id now f → seen.first_weight classes f ≤ weighs_by first_weight (first_at id)
  first_part id now Same was = omega arith
  first_part id now (Other o) was = le_of_eq (sym (first_weighs id o was.is))
  first_part id now Absent was = omega arith

  each_part : (id : ℕ) (f : Option Tracked) → tracked_at id x ≡ f → weighs weight_before f ≤ weighs_by first_weight (first_at id)
  each_part id None is = omega arith
  each_part id (Some t) is = first_part id t.current t.first (remembers.first id t is)

  pub before_law : bytes_before classes x ≤ weight y.first.bones
  unfolding weight
  before_law =
      let part = total_most n (λ id. weighs weight_before (tracked_at id x)) (λ id. weighs_by first_weight (first_at id)) (λ id. each_part id (tracked_at id x) refl) in
      let before = tracked_total weight_before in
      omega (arith, part, before, first_total)
