-- The instances so far, and those from a number on, are all instances.
use Rattle.std.proofs.Common.{◌≡◌, ◌≤◌, ◌<◌, ◌+◌, ◌∙◌, ℕ, Bool, true, false, cond, drop, length, slice_index_or, subst, List, [], ◌∷◌, ◌++◌, map, Option, Some, None, Result, Err, Ok, append-nil, append_assoc, refl, sym, ap}
use Rattle.std.proofs.lemmas.List.{drop_all, drop_more}
use Rattle.std.specs.List.{AllByRecursion, filter}
use Rattle.std.specs.Option.{option_map}
use Rattle.std.specs.Prelude.{nat_le, ◌&&◌}
use Rattle.ode_asksyn.specs.declared.query.Query.{Query}
use Rattle.ode_heap.specs.Answering.{head_of_object}
use Rattle.ode_heap.specs.Answers.{Answers, Found, There}
use Rattle.ode_heap.specs.Staging.{OnTooLarge}
use Rattle.ode_heap.specs.declared.error.HeapError.{HeapError}
use Rattle.ode_heap.specs.declared.error.HeapError.TheVariants as heap
use Rattle.ode_heap.specs.declared.object.ObjectHead.{ObjectHead}
use Rattle.ode_query.proofs.ObjectLaws.{all_from, all_rise, first_from, first_is, first_low, first_then, none_from, numbers_in}
use Rattle.ode_query.specs.Answers.{Says}
use Rattle.ode_query.specs.Errors.{error_of}
use Rattle.ode_query.specs.Rows.{all_instances, instances, is_in}
use Rattle.ode_query.specs.declared.error.QueryError.{QueryError}
use Rattle.ode_query.specs.declared.error.QueryError.TheVariants as error
use Rattle.ode_value.specs.Classes.{is_a}
use Rattle.ode_value.specs.Denoting.{object_numbered}
use Rattle.ode_value.specs.GoodWorlds.{IsObject, RiseFrom}
use Rattle.ode_value.specs.Worlds.{Bones, Object}
use Rattle.ode_value.specs.declared.arithmetic.Fault.{Fault}

-- the number of the first object from a number on
abbrev pub number_from : ℕ → List Object → Option ℕ
number_from n os = option_map (λ (o : Object). o.id) (first_from n os)

-- the instances among these objects
abbrev pub instances_in : Bones → List ℕ → List Object → List ℕ
instances_in b class os = numbers_in (filter (is_in b class) os)

pub at_first : (b : Bones) (class : List ℕ) → RiseFrom 0 (numbers_in b.objects) → instances_in b class (all_from 0 b.objects) ≡ instances b class
at_first b class rise = ap (instances_in b class) (all_rise 0 b.objects rise)

no_first : (first : Option Object) → option_map (λ (o : Object). o.id) first ≡ None → first ≡ None
no_first None none = refl
no_first (Some o) none = absurd (cc (none))

-- there is none any more
pub at_end : (b : Bones) (class numbers : List ℕ) (from : ℕ) → number_from from b.objects ≡ None → numbers ++ instances_in b class (all_from from b.objects) ≡ instances b class → numbers ≡ instances b class
at_end b class numbers from none whole =
    sym (append-nil numbers) ∙ ap (λ (os : List Object). numbers ++ instances_in b class os) (sym (none_from from b.objects (no_first (first_from from b.objects) none))) ∙ whole

-- the object of a number that was found
found_is : (os : List Object) (from id : ℕ) → number_from from os ≡ Some id → (o : Object) × (first_from from os ≡ Some o) × (o.id ≡ id)
found_is os from id is = by (first_from from os) refl is where
  by : (first : Option Object) → first_from from os ≡ first → option_map (λ (o : Object). o.id) first ≡ Some id → (o : Object) × (first_from from os ≡ Some o) × (o.id ≡ id)
  by None same is = absurd (cc (is))
  by (Some o) same is = (o, same, cc (is))

-- has a record
pub has_head : (os : List Object) (from id : ℕ) → RiseFrom 0 (numbers_in os) → number_from from os ≡ Some id → option_map head_of_object (object_numbered id os) ≡ None → ⊥
has_head os from id rise is none =
    let found = found_is os from id is in
    let there = first_is from 0 os found.0 rise found.1 in
    let some : option_map head_of_object (object_numbered id os) ≡ Some (head_of_object found.0) = ap (λ (n : ℕ). option_map head_of_object (object_numbered n os)) (sym found.2) ∙ ap (option_map head_of_object) there in
    absurd (cc (some, none))

-- the number lies from there on, and below the next one that is drawn
pub found_low : (os : List Object) (from id : ℕ) → number_from from os ≡ Some id → from ≤ id
found_low os from id is = let found = found_is os from id is in subst (λ (n : ℕ). from ≤ n) found.2 (first_low from os found.0 found.1)

-- what all objects have the first one has
first_has : (P : Object → Type 0) (from : ℕ) (os : List Object) (o : Object) → AllByRecursion P os → first_from from os ≡ Some o → P o
first_has P from [] o all is = absurd (cc (is))
first_has P from (p ∷ ps) o all is = by (nat_le from p.id) (first_has P from ps o all.1) is where
  by : (t : Bool) → (first_from from ps ≡ Some o → P o) → cond t (Some p) (first_from from ps) ≡ Some o → P o
  by true rest found = let one : p ≡ o = cc (found) in subst P one all.0
  by false rest found = rest found

pub found_drawn : (b : Bones) (from id : ℕ) → AllByRecursion (IsObject b) b.objects → number_from from b.objects ≡ Some id → id < b.next
found_drawn b from id all is =
    let found = found_is b.objects from id is in
    let object = first_has (IsObject b) from b.objects found.0 all found.1 in
    subst (λ (n : ℕ). n < b.next) found.2 object.number

-- ---- one more object

head_class : (os : List Object) (id : ℕ) (o : Object) (head : ObjectHead) → o.id ≡ id → object_numbered o.id os ≡ Some o → Some head ≡ option_map head_of_object (object_numbered id os) → head.class ≡ o.class
head_class os id o head same there is =
    let both : Some head ≡ Some (head_of_object o) = is ∙ ap (λ (n : ℕ). option_map head_of_object (object_numbered n os)) (sym same) ∙ ap (option_map head_of_object) there in
    let one : head ≡ head_of_object o = cc (both) in
    ap (λ (h : ObjectHead). h.class) one

-- the number of one that is in the class goes behind those so far
one_more : (b : Bones) (class numbers : List ℕ) (o : Object) (rest : List Object) (member : Bool) → is_in b class o ≡ member
    → numbers ++ instances_in b class (o ∷ rest) ≡ cond member (numbers ++ o.id ∷ []) numbers ++ instances_in b class rest
one_more b class numbers o rest true is = ap (λ (t : Bool). numbers ++ numbers_in (cond t (o ∷ filter (is_in b class) rest) (filter (is_in b class) rest))) is ∙ sym (append_assoc numbers (o.id ∷ []) (instances_in b class rest))
one_more b class numbers o rest false is = ap (λ (t : Bool). numbers ++ numbers_in (cond t (o ∷ filter (is_in b class) rest) (filter (is_in b class) rest))) is

-- where it is asked of its record
pub goes_on : (b : Bones) (class numbers : List ℕ) (from id next : ℕ) (head : ObjectHead) (member : Bool) → RiseFrom 0 (numbers_in b.objects) → AllByRecursion (IsObject b) b.objects → number_from from b.objects ≡ Some id
    → Some head ≡ option_map head_of_object (object_numbered id b.objects) → member ≡ is_a b.classes head.class class → next ≡ id + 1
    → numbers ++ instances_in b class (all_from from b.objects) ≡ instances b class
    → cond member (numbers ++ id ∷ []) numbers ++ instances_in b class (all_from next b.objects) ≡ instances b class
goes_on b class numbers from id next head member rise all is there asked above whole =
    let found = found_is b.objects from id is in
    let o : Object = found.0 in
    let live = (first_has (IsObject b) from b.objects o all found.1).live in
    let its = head_class b.objects id o head found.2 (first_is from 0 b.objects o rise found.1) there in
    let in_class : is_in b class o ≡ member = ap (λ (t : Bool). t && is_a b.classes o.class class) live ∙ ap (λ (n : ℕ). is_a b.classes n class) (sym its) ∙ sym asked in
    let then : all_from from b.objects ≡ o ∷ all_from (id + 1) b.objects = first_then from 0 b.objects o rise found.1 ∙ ap (λ (n : ℕ). o ∷ all_from (n + 1) b.objects) found.2 in
    ap (λ (n : ℕ). cond member (numbers ++ id ∷ []) numbers ++ instances_in b class (all_from n b.objects)) above
    ∙ ap (λ (n : ℕ). cond member (numbers ++ n ∷ []) numbers ++ instances_in b class (all_from (id + 1) b.objects)) (sym found.2)
    ∙ sym (one_more b class numbers o (all_from (id + 1) b.objects) member in_class)
    ∙ ap (λ (os : List Object). numbers ++ instances_in b class os) (sym then)
    ∙ whole

-- ---- what the heap answers

-- what is answered is what is there
pub there_is : {R : Type 0} (v : R) (found : Found R) (value : R) → Answers (Ok v) found → found ≡ There value → v ≡ value
there_is v found value answers there = cc (answers, there)

-- where it is there, an error says nothing
pub heap_stops : {R X : Type 0} (why : HeapError) (found : Found R) (value : R) (x : X) → Answers {X = R} (Err why) found → found ≡ There value → OnTooLarge {A = R} (Err why) (λ total. ⊥) → Says {X = X} (Ok x) (Err (error_of why))
heap_stops heap.Memory found value x answers there large = tt
heap_stops heap.DiskFault found value x answers there large = tt
heap_stops (heap.TooLarge total) found value x answers there large = absurd large
heap_stops (heap.Damaged key) found value x answers there large = absurd (cc (answers, there))

-- ---- those of each variable

-- what stops the reading of some says nothing
pub list_stops : {X Y : Type 0} (x : X) (y : Y) (why : QueryError) → Says {X = X} (Ok x) (Err why) → Says {X = Y} (Ok y) (Err why)
list_stops x y error.Memory says = tt
list_stops x y (error.TooManyRows count) says = absurd says
list_stops x y (error.Fault fault) says = absurd (cc (says))
list_stops x y error.Output says = absurd says
list_stops x y error.DiskFault says = tt
list_stops x y (error.Damaged key) says = absurd says

abbrev pub are_lists : List (List ℕ) → Result (List (List ℕ)) Fault
are_lists lists = Ok lists

abbrev of_range : Bones → List ℕ × List ℕ → List ℕ
of_range b v = instances b v.1

module _ (b : Bones) (q : Query) (lists : List (List ℕ)) where
  pub lists_next : (more : List (List ℕ)) (numbers : List ℕ) (i : ℕ) (v : List ℕ × List ℕ) → i < length q.over → v ≡ slice_index_or q.over i v → instances b v.1 ≡ numbers → more ≡ lists ++ numbers ∷ []
      → lists ++ map (of_range b) (drop i q.over) ≡ all_instances b q → more ++ map (of_range b) (drop (i + 1) q.over) ≡ all_instances b q
  lists_next more numbers i v inside is comes pushed so =
      let split : drop i q.over ≡ v ∷ drop (i + 1) q.over = drop_more q.over i v inside ∙ ap (λ (u : List ℕ × List ℕ). u ∷ drop (i + 1) q.over) (sym is) in
      ap (λ (ls : List (List ℕ)). ls ++ map (of_range b) (drop (i + 1) q.over)) pushed
      ∙ append_assoc lists (numbers ∷ []) (map (of_range b) (drop (i + 1) q.over))
      ∙ ap (λ (ns : List ℕ). lists ++ ns ∷ map (of_range b) (drop (i + 1) q.over)) (sym comes)
      ∙ ap (λ (vs : List (List ℕ × List ℕ)). lists ++ map (of_range b) vs) (sym split)
      ∙ so

  pub lists_end : (i : ℕ) → length q.over ≤ i → lists ++ map (of_range b) (drop i q.over) ≡ all_instances b q → are_lists (all_instances b q) ≡ are_lists lists
  lists_end i end so =
      ap are_lists (sym so ∙ ap (λ (vs : List (List ℕ × List ℕ)). lists ++ map (of_range b) vs) (drop_all i q.over end) ∙ append-nil lists)
