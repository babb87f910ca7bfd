-- The rows so far, and those from a number on, are all rows.
use Rattle.std.proofs.Common.{◌≡◌, ◌≤◌, ◌<◌, ◌+◌, ◌∙◌, ℕ, Bool, true, false, cond, subst, List, [], ◌∷◌, ◌++◌, length, map, Option, Some, None, append-nil, append_assoc, refl, sym, ap}
use Rattle.std.proofs.Math.Seq.{drop-append_seam}
use Rattle.std.proofs.lemmas.List.Elements.{All-drop, All-head}
use Rattle.std.specs.List.{All, AllByRecursion}
use Rattle.std.specs.Option.{option_map, option_map_or}
use Rattle.std.specs.Prelude.{nat_le}
use Rattle.ode_clock.proofs.RowLaws.{all_from, first_from, first_is, first_low, first_then, none_from, numbers_in}
use Rattle.ode_heap.specs.Answering.{class_of, head_of_object}
use Rattle.ode_heap.specs.declared.object.ObjectHead.{ObjectHead}
use Rattle.ode_heap_laws.proofs.Classes.{same_numbered}
use Rattle.ode_value.specs.Denoting.{object_numbered}
use Rattle.ode_value.specs.GoodWorlds.{IsObject, RiseFrom}
use Rattle.ode_machine.specs.TimeRows.{kinds_of, time_row, time_rows}
use Rattle.ode_timer.specs.declared.clock.TimeRow.{TimeRow}
use Rattle.ode_timer.specs.Due.{AllRecur, Recurs}
use Rattle.ode_types.specs.Families as families
use Rattle.ode_value.specs.declared.class.Class.{Class}
use Rattle.ode_value.specs.declared.event.Kind.{Kind}
use Rattle.ode_value.specs.Worlds.{Bones, Declared, Object}

-- the number of the first object from a number on
abbrev pub number_from : ℕ → List Object → Option ℕ
number_from n os = option_map (λ (o : Object). o.id) (first_from n os)

no_first : (first : Option Object) → option_map (λ (o : Object). o.id) first ≡ None → first ≡ None
no_first None none = refl
no_first (Some o) none = absurd (cc (none))

-- there is none any more
pub rows_end : (b : Bones) (rows : List TimeRow) (from : ℕ) → number_from from b.objects ≡ None → rows ++ map (time_row b.classes) (all_from from b.objects) ≡ time_rows b → rows ≡ time_rows b
rows_end b rows from none whole =
    sym (append-nil rows) ∙ ap (λ (os : List Object). rows ++ map (time_row b.classes) os) (sym (none_from from b.objects (no_first (first_from from b.objects) none))) ∙ whole

-- the object of a number that was found
found_is : (os : List Object) (from id : ℕ) → number_from from os ≡ Some id → (o : Object) × (first_from from os ≡ Some o) × (o.id ≡ id)
found_is os from id is = by (first_from from os) refl is where
  by : (first : Option Object) → first_from from os ≡ first → option_map (λ (o : Object). o.id) first ≡ Some id → (o : Object) × (first_from from os ≡ Some o) × (o.id ≡ id)
  by None same is = absurd (cc (is))
  by (Some o) same is = (o, same, cc (is))

-- has a record
pub has_head : (os : List Object) (from id : ℕ) → RiseFrom 0 (numbers_in os) → number_from from os ≡ Some id → option_map head_of_object (object_numbered id os) ≡ None → ⊥
has_head os from id rise is none =
    let found = found_is os from id is in
    let there = first_is from 0 os found.0 rise found.1 in
    let some : option_map head_of_object (object_numbered id os) ≡ Some (head_of_object found.0) = ap (λ (n : ℕ). option_map head_of_object (object_numbered n os)) (sym found.2) ∙ ap (option_map head_of_object) there in
    absurd (cc (some, none))

-- the number lies from there on, and below the next one that is drawn
pub found_low : (os : List Object) (from id : ℕ) → number_from from os ≡ Some id → from ≤ id
found_low os from id is = let found = found_is os from id is in subst (λ (n : ℕ). from ≤ n) found.2 (first_low from os found.0 found.1)

first_drawn : (b : Bones) (from : ℕ) (os : List Object) (o : Object) → AllByRecursion (IsObject b) os → first_from from os ≡ Some o → o.id < b.next
first_drawn b from [] o all is = absurd (cc (is))
first_drawn b from (p ∷ ps) o all is = by (nat_le from p.id) (first_drawn b from ps o all.1) is where
  by : (t : Bool) → (first_from from ps ≡ Some o → o.id < b.next) → cond t (Some p) (first_from from ps) ≡ Some o → o.id < b.next
  by true rest found = let one : p ≡ o = cc (found) in subst (λ (q : Object). q.id < b.next) one all.0.number
  by false rest found = rest found

pub found_drawn : (b : Bones) (from id : ℕ) → AllByRecursion (IsObject b) b.objects → number_from from b.objects ≡ Some id → id < b.next
found_drawn b from id all is = let found = found_is b.objects from id is in subst (λ (n : ℕ). n < b.next) found.2 (first_drawn b from b.objects found.0 all found.1)

-- ---- one more row

-- the kinds of a class are found among the declared classes as among their trees
kinds_same : (cs : List Declared) (n : ℕ) → option_map_or (λ (c : Class). c.kinds) (families.class_numbered (map class_of cs) n) [] ≡ kinds_of cs n
kinds_same cs n = ap (λ (c : Option Class). option_map_or (λ (c : Class). c.kinds) c []) (same_numbered cs n)

-- the record of an object has its class
head_class : (os : List Object) (id : ℕ) (o : Object) (head : ObjectHead) → o.id ≡ id → object_numbered o.id os ≡ Some o → Some head ≡ option_map head_of_object (object_numbered id os) → head.class ≡ o.class
head_class os id o head same there is =
    let both : Some head ≡ Some (head_of_object o) = is ∙ ap (λ (n : ℕ). option_map head_of_object (object_numbered n os)) (sym same) ∙ ap (option_map head_of_object) there in
    let one : head ≡ head_of_object o = cc (both) in
    ap (λ (h : ObjectHead). h.class) one

-- the row of the object found stands behind those so far
pub row_found : (b : Bones) (classes : List Class) (rows : List TimeRow) (from id : ℕ) (head : ObjectHead) (kinds : List Kind) → RiseFrom 0 (numbers_in b.objects) → number_from from b.objects ≡ Some id
    → Some head ≡ option_map head_of_object (object_numbered id b.objects) → classes ≡ map class_of b.classes → kinds ≡ option_map_or (λ (c : Class). c.kinds) (families.class_numbered classes head.class) []
    → rows ++ map (time_row b.classes) (all_from from b.objects) ≡ time_rows b → rows ++ record { object = id; kinds = kinds } ∷ map (time_row b.classes) (all_from (id + 1) b.objects) ≡ time_rows b
row_found b classes rows from id head kinds rise is there same listed whole =
    let found = found_is b.objects from id is in
    let o : Object = found.0 in
    let class = head_class b.objects id o head found.2 (first_is from 0 b.objects o rise found.1) there in
    let its : kinds ≡ kinds_of b.classes o.class =
    listed ∙ ap (λ (cs : List Class). option_map_or (λ (c : Class). c.kinds) (families.class_numbered cs head.class) []) same ∙ kinds_same b.classes head.class ∙ ap (kinds_of b.classes) class in
    let row : record { object = id; kinds = kinds } ≡ time_row b.classes o =
    ap (λ (n : ℕ). record { object = n; kinds = kinds }) (sym found.2) ∙ ap (λ (ks : List Kind). record { object = o.id; kinds = ks }) its in
    let then : all_from from b.objects ≡ o ∷ all_from (id + 1) b.objects = first_then from 0 b.objects o rise found.1 ∙ ap (λ (n : ℕ). o ∷ all_from (n + 1) b.objects) found.2 in
    ap (λ (r : TimeRow). rows ++ r ∷ map (time_row b.classes) (all_from (id + 1) b.objects)) row ∙ ap (λ (os : List Object). rows ++ map (time_row b.classes) os) (sym then) ∙ whole

-- and is the last of them then
pub rows_next : (b : Bones) (rows more : List TimeRow) (row : TimeRow) (id next : ℕ) → next ≡ id + 1 → more ≡ rows ++ row ∷ [] → rows ++ row ∷ map (time_row b.classes) (all_from (id + 1) b.objects) ≡ time_rows b
    → more ++ map (time_row b.classes) (all_from next b.objects) ≡ time_rows b
rows_next b rows more row id next above pushed whole =
    ap (λ (n : ℕ). more ++ map (time_row b.classes) (all_from n b.objects)) above ∙ ap (λ (rs : List TimeRow). rs ++ map (time_row b.classes) (all_from (id + 1) b.objects)) pushed
    ∙ append_assoc rows (row ∷ []) (map (time_row b.classes) (all_from (id + 1) b.objects)) ∙ whole

-- its kinds recur where all do
pub row_recurs : (b : Bones) (rows rest : List TimeRow) (row : TimeRow) → rows ++ row ∷ rest ≡ time_rows b → AllRecur (time_rows b) → All Recurs row.kinds
row_recurs b rows rest row whole all =
    let some : AllRecur (rows ++ row ∷ rest) = subst AllRecur (sym whole) all in
    let behind : AllRecur (row ∷ rest) = subst AllRecur (drop-append_seam rows (row ∷ rest)) (All-drop (λ (r : TimeRow). All Recurs r.kinds) (length rows) (rows ++ row ∷ rest) some) in
    All-head (λ (r : TimeRow). All Recurs r.kinds) row rest behind
