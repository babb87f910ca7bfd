-- What is read of one kind of records is read of the records of that kind alone.
use Rattle.std.proofs.Common.{◌≡◌, ℕ, List, [], ◌∷◌, ◌++◌, map, Bool, true, false, cond, Option, Some, refl, sym, ap, ◌∙◌, arith}
use Rattle.std.specs.Prelude.{◌==◌, ◌&&◌}
use Rattle.std.specs.BTreeMap.{is_at}
use Rattle.std.specs.List.{AllByRecursion, filter, find, flat_map}
use Rattle.std.specs.Map.{keys_of}
use Rattle.std.proofs.lemmas.Bool.Decides.{nat_tests}
use Rattle.std.proofs.lemmas.List.{append-nil}
use Rattle.std.proofs.lemmas.List.Elements.{filter-append}
use Rattle.ode_keep.specs.Entries.{Entries, value_under}
use Rattle.ode_value.specs.Keys.{key_cmp}
use Rattle.ode_value.specs.Records.{Row}
use Rattle.ode_value.specs.declared.key.Key.{Key}
use Rattle.ode_heap.specs.Answers.{Found}
use Rattle.ode_heap.specs.Walking.{collected, is_from}
use Rattle.ode_heap.proofs.Passing.{collected_of_those, value_of_those}

abbrev pub is_of_kind : ℕ → Row → Bool
is_of_kind kind e = e.0.kind == kind

abbrev pub rows_of : ℕ → List Row → List Row
rows_of kind es = filter (is_of_kind kind) es

-- ---- what is read

same_kind : (k q : Key) → is_at (key_cmp k) q ≡ true → (q.kind == k.kind) ≡ true
same_kind k q here = grind (arith, nat_tests)

pub value_of_kind : (es : Entries) (k : Key) → value_under es k ≡ value_under (rows_of k.kind es) k
value_of_kind es k = sym (value_of_those (λ q. q.kind == k.kind) k (same_kind k) es)

pub collected_of_kind : (X : Type 0) (take : Key → List ℕ → Found X) (kind a n : ℕ) (es : Entries)
    → collected (is_from kind a n) take es ≡ collected (is_from kind a n) take (rows_of kind es)
collected_of_kind X take kind a n es = sym (collected_of_those (λ q. q.kind == kind) X (is_from kind a n) take inside es)
  where
    inside : (q : Key) → is_from kind a n q ≡ true → (q.kind == kind) ≡ true
    inside q here = grind (arith, nat_tests)

module _ (kind : ℕ) (rest : Key → Bool) where
  abbrev both : Key → Bool
  both k = k.kind == kind && rest k

  find_step : (e : Row) (es : Entries) → find both (keys_of es) ≡ find both (keys_of (rows_of kind es))
      → (b : Bool) → (e.0.kind == kind) ≡ b → find both (keys_of (e ∷ es)) ≡ find both (keys_of (cond b (e ∷ rows_of kind es) (rows_of kind es)))
  find_step e es more true is = ap (λ (o : Option Key). cond (both e.0) (Some e.0) o) more
  find_step e es more false is = ap (λ b. cond (b && rest e.0) (Some e.0) (find both (keys_of es))) is ∙ more

  pub found_of_kind : (es : Entries) → find both (keys_of es) ≡ find both (keys_of (rows_of kind es))
  found_of_kind [] = refl
  found_of_kind (e ∷ es) = find_step e es (found_of_kind es) (e.0.kind == kind) refl

-- ---- records in ten kinds

abbrev pub AreOfKind : ℕ → List Row → Type 0
AreOfKind kind es = AllByRecursion (λ (e : Row). e.0.kind ≡ kind) es

all_of : (kind : ℕ) (es : List Row) → AreOfKind kind es → rows_of kind es ≡ es
all_of kind [] all = refl
all_of kind (e ∷ es) all =
    let here : (e.0.kind == kind) ≡ true = let is = all.0 in grind (arith, nat_tests) in
    ap (λ b. cond b (e ∷ rows_of kind es) (rows_of kind es)) here ∙ ap (λ (more : List Row). e ∷ more) (all_of kind es all.1)

none_of : (kind other : ℕ) (es : List Row) → (other == kind) ≡ false → AreOfKind other es → rows_of kind es ≡ []
none_of kind other [] apart all = refl
none_of kind other (e ∷ es) apart all =
    let here : (e.0.kind == kind) ≡ false = ap (λ n. n == kind) all.0 ∙ apart in
    ap (λ b. cond b (e ∷ rows_of kind es) (rows_of kind es)) here ∙ none_of kind other es apart all.1

-- records of another kind are passed over
pub passed : (kind other : ℕ) (es rest : List Row) → (other == kind) ≡ false → AreOfKind other es → rows_of kind (es ++ rest) ≡ rows_of kind rest
passed kind other es rest apart all = filter-append (is_of_kind kind) es rest ∙ ap (λ (xs : List Row). xs ++ rows_of kind rest) (none_of kind other es apart all)

-- those of the kind are kept
pub kept : (kind : ℕ) (es rest : List Row) → AreOfKind kind es → rows_of kind rest ≡ [] → rows_of kind (es ++ rest) ≡ es
kept kind es rest all none =
    filter-append (is_of_kind kind) es rest ∙ ap (λ (xs : List Row). xs ++ rows_of kind rest) (all_of kind es all) ∙ ap (λ (xs : List Row). es ++ xs) none ∙ append-nil es

joined : (kind : ℕ) (es rest : List Row) → AreOfKind kind es → AreOfKind kind rest → AreOfKind kind (es ++ rest)
joined kind [] rest all more = more
joined kind (e ∷ es) rest all more = (all.0, joined kind es rest all.1 more)

module _ (X : Type 0) where
  pub map_of_kind : (f : X → Row) (kind : ℕ) → ((x : X) → (f x).0.kind ≡ kind) → (xs : List X) → AreOfKind kind (map f xs)
  map_of_kind f kind each [] = tt
  map_of_kind f kind each (x ∷ xs) = (each x, map_of_kind f kind each xs)

  pub flat_map_of_kind : (f : X → List Row) (kind : ℕ) → ((x : X) → AreOfKind kind (f x)) → (xs : List X) → AreOfKind kind (flat_map f xs)
  flat_map_of_kind f kind each [] = tt
  flat_map_of_kind f kind each (x ∷ xs) = joined kind (f x) (flat_map f xs) (each x) (flat_map_of_kind f kind each xs)

-- ten lists behind one another
module _ (c : Row) (r2 r3 r4 r5 r6 r7 r8 r9 r10 : List Row) (k1 : c.0.kind ≡ 1) (k2 : AreOfKind 2 r2) (k3 : AreOfKind 3 r3) (k4 : AreOfKind 4 r4) (k5 : AreOfKind 5 r5)
    (k6 : AreOfKind 6 r6) (k7 : AreOfKind 7 r7) (k8 : AreOfKind 8 r8) (k9 : AreOfKind 9 r9) (k10 : AreOfKind 10 r10) where
  abbrev pub ten : List Row
  ten = c ∷ (r2 ++ (r3 ++ (r4 ++ (r5 ++ (r6 ++ (r7 ++ (r8 ++ (r9 ++ r10))))))))

  behind : (kind : ℕ) (es : List Row) → (1 == kind) ≡ false → rows_of kind (c ∷ es) ≡ rows_of kind es
  behind kind es apart = ap (λ b. cond b (c ∷ rows_of kind es) (rows_of kind es)) (ap (λ n. n == kind) k1 ∙ apart)

  to_objects : (kind : ℕ) → (1 == kind) ≡ false → (2 == kind) ≡ false → (3 == kind) ≡ false → (4 == kind) ≡ false → (5 == kind) ≡ false
      → rows_of kind ten ≡ rows_of kind (r6 ++ (r7 ++ (r8 ++ (r9 ++ r10))))
  to_objects kind a1 a2 a3 a4 a5 =
      behind kind _ a1 ∙ passed kind 2 r2 _ a2 k2 ∙ passed kind 3 r3 _ a3 k3 ∙ passed kind 4 r4 _ a4 k4 ∙ passed kind 5 r5 _ a5 k5

  pub first_kind : rows_of 1 ten ≡ c ∷ []
  first_kind =
      let more : List Row = r2 ++ (r3 ++ (r4 ++ (r5 ++ (r6 ++ (r7 ++ (r8 ++ (r9 ++ r10))))))) in
      ap (λ b. cond b (c ∷ rows_of 1 more) (rows_of 1 more)) (ap (λ n. n == 1) k1)
      ∙ ap (λ (rest : List Row). c ∷ rest)
      (passed 1 2 r2 _ refl k2 ∙ passed 1 3 r3 _ refl k3 ∙ passed 1 4 r4 _ refl k4 ∙ passed 1 5 r5 _ refl k5 ∙ passed 1 6 r6 _ refl k6 ∙ passed 1 7 r7 _ refl k7
      ∙ passed 1 8 r8 _ refl k8 ∙ passed 1 9 r9 _ refl k9 ∙ none_of 1 10 r10 refl k10)

  pub sixth_kind : rows_of 6 ten ≡ r6
  sixth_kind =
      to_objects 6 refl refl refl refl refl
      ∙ kept 6 r6 _ k6 (passed 6 7 r7 _ refl k7 ∙ passed 6 8 r8 _ refl k8 ∙ passed 6 9 r9 _ refl k9 ∙ none_of 6 10 r10 refl k10)

  pub seventh_kind : rows_of 7 ten ≡ r7
  seventh_kind =
      to_objects 7 refl refl refl refl refl ∙ passed 7 6 r6 _ refl k6 ∙ kept 7 r7 _ k7 (passed 7 8 r8 _ refl k8 ∙ passed 7 9 r9 _ refl k9 ∙ none_of 7 10 r10 refl k10)

  pub eighth_kind : rows_of 8 ten ≡ r8
  eighth_kind =
      to_objects 8 refl refl refl refl refl ∙ passed 8 6 r6 _ refl k6 ∙ passed 8 7 r7 _ refl k7 ∙ kept 8 r8 _ k8 (passed 8 9 r9 _ refl k9 ∙ none_of 8 10 r10 refl k10)

  pub ninth_kind : rows_of 9 ten ≡ r9
  ninth_kind =
      to_objects 9 refl refl refl refl refl ∙ passed 9 6 r6 _ refl k6 ∙ passed 9 7 r7 _ refl k7 ∙ passed 9 8 r8 _ refl k8 ∙ kept 9 r9 _ k9 (none_of 9 10 r10 refl k10)
