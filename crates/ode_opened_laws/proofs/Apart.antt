-- Numbers of objects and activations that differ, object by object.
use Rattle.std.proofs.Common.{◌≡◌, ℕ, List, [], ◌∷◌, ◌++◌, map, Bool, true, false, cond, Some, None, refl, ap, subst, ◌∙◌, arith}
use Rattle.std.specs.Prelude.{◌==◌, ◌||◌, nat_eq}
use Rattle.std.specs.List.{AllByRecursion, IsDistinct, flat_map, list_any}
use Rattle.std.proofs.lemmas.Bool.Decides.{nat_tests}
use Rattle.ode_codec.specs.StoredRows.{activation_row, activation_rows, state_of}
use Rattle.ode_keep.specs.Entries.{Entries}
use Rattle.ode_opening_laws.proofs.Each.{all_before, all_behind}
use Rattle.ode_opening_objects.specs.Triggers.{has_number, is_shared}
use Rattle.ode_value.specs.Denoting.{object_numbered}
use Rattle.ode_value.specs.GoodWorlds.{drawn_numbers}
use Rattle.ode_value.specs.Objects.{Activation}
use Rattle.ode_value.specs.Records.{Row}
use Rattle.ode_value.specs.Worlds.{Object, World}

other : (m n : ℕ) → nat_eq m n ≡ false → (m == n) ≡ false
other m n is = grind (arith, nat_tests)

other_way : (m n : ℕ) → nat_eq m n ≡ false → (n == m) ≡ false
other_way m n is = grind (arith, nat_tests)

same : (m n : ℕ) → (m == n) ≡ true → m ≡ n
same m n is = grind (arith, nat_tests)

-- what follows of two for each
module _ {X : Type 0} (P : X → Type 0) where
  all_with : (Q R : X → Type 0) → ((x : X) → P x → Q x → R x) → (xs : List X) → AllByRecursion P xs → AllByRecursion Q xs → AllByRecursion R xs
  all_with Q R next [] all more = tt
  all_with Q R next (x ∷ xs) all more = (next x all.0 more.0, all_with Q R next xs all.1 more.1)

-- no number is this one
abbrev Apart : ℕ → List ℕ → Type 0
Apart m ns = AllByRecursion (λ n. nat_eq m n ≡ false) ns

apart_from : (xs ys : List ℕ) → IsDistinct nat_eq (xs ++ ys) → AllByRecursion (λ x. Apart x ys) xs
unfolding IsDistinct
apart_from [] ys distinct = tt
apart_from (x ∷ xs) ys distinct = (all_behind (λ n. nat_eq x n ≡ false) xs ys distinct.0, apart_from xs ys distinct.1)

distinct_second : (xs ys : List ℕ) → IsDistinct nat_eq (xs ++ ys) → IsDistinct nat_eq ys
unfolding IsDistinct
distinct_second [] ys distinct = distinct
distinct_second (x ∷ xs) ys distinct = distinct_second xs ys distinct.1

-- ---- an activation's number is no object's

abbrev numbers : List Activation → List ℕ
numbers acts = map (λ (a : Activation). a.number) acts

-- no object of these has this number
abbrev IsNone : List Object → ℕ → Type 0
IsNone os n = AllByRecursion (λ (p : Object). (p.id == n) ≡ false) os

ids_apart : (n : ℕ) (os : List Object) → Apart n (flat_map drawn_numbers os) → IsNone os n
ids_apart n [] all = tt
ids_apart n (o ∷ os) all = (other_way n o.id all.0, ids_apart n os (all_behind (λ m. nat_eq n m ≡ false) (numbers o.activations) (flat_map drawn_numbers os) all.1))

each_apart : (n : ℕ) (acts : List Activation) → Apart n (numbers acts) → AllByRecursion (λ (a : Activation). (n == a.number) ≡ false) acts
each_apart n [] all = tt
each_apart n (a ∷ acts) all = (other n a.number all.0, each_apart n acts all.1)

acts_apart : (n : ℕ) (os : List Object) → Apart n (flat_map drawn_numbers os) → AllByRecursion (λ (o : Object). AllByRecursion (λ (a : Activation). (n == a.number) ≡ false) o.activations) os
acts_apart n [] all = tt
acts_apart n (o ∷ os) all = (
  each_apart n o.activations (all_before (λ m. nat_eq n m ≡ false) (numbers o.activations) (flat_map drawn_numbers os) all.1),
  acts_apart n os (all_behind (λ m. nat_eq n m ≡ false) (numbers o.activations) (flat_map drawn_numbers os) all.1),
)

own_apart : (os : List Object) (acts : List Activation) → AllByRecursion (λ n. Apart n (flat_map drawn_numbers os)) (numbers acts) → AllByRecursion (λ (a : Activation). IsNone os a.number) acts
own_apart os [] all = tt
own_apart os (a ∷ acts) all = (ids_apart a.number os all.0, own_apart os acts all.1)

abbrev AreNone : List Object → Object → Type 0
AreNone os o = AllByRecursion (λ (a : Activation). IsNone os a.number) o.activations

all_none : (os : List Object) → IsDistinct nat_eq (flat_map drawn_numbers os) → AllByRecursion (AreNone os) os
unfolding IsDistinct
all_none [] distinct = tt
all_none (o ∷ os) distinct =
    let own = each_apart o.id o.activations (all_before (λ m. nat_eq o.id m ≡ false) (numbers o.activations) (flat_map drawn_numbers os) distinct.0) in
    let others = own_apart os o.activations (apart_from (numbers o.activations) (flat_map drawn_numbers os) distinct.1) in
    let later = acts_apart o.id os (all_behind (λ m. nat_eq o.id m ≡ false) (numbers o.activations) (flat_map drawn_numbers os) distinct.0) in
    let rest = all_none os (distinct_second (numbers o.activations) (flat_map drawn_numbers os) distinct.1) in (
      all_with (λ (a : Activation). (o.id == a.number) ≡ false) (λ (a : Activation). IsNone os a.number) (λ (a : Activation). IsNone (o ∷ os) a.number) (λ a here more. (here, more)) o.activations own
          others,
      all_with (λ (p : Object). AllByRecursion (λ (a : Activation). (o.id == a.number) ≡ false) p.activations) (AreNone os) (AreNone (o ∷ os))
          (λ p here more. all_with (λ (a : Activation). (o.id == a.number) ≡ false) (λ (a : Activation). IsNone os a.number) (λ (a : Activation). IsNone (o ∷ os) a.number) (λ a one two. (one, two)) p.activations here
          more) os later rest,
    )

none_is : (os : List Object) (n : ℕ) → IsNone os n → object_numbered n os ≡ None
none_is [] n none = refl
none_is (o ∷ os) n none = ap (λ b. cond b (Some o) (object_numbered n os)) none.0 ∙ none_is os n none.1

each_none : (os : List Object) (acts : List Activation) → AllByRecursion (λ (a : Activation). IsNone os a.number) acts → AllByRecursion (λ (a : Activation). object_numbered a.number os ≡ None) acts
each_none os [] all = tt
each_none os (a ∷ acts) all = (none_is os a.number all.0, each_none os acts all.1)

each_object_none : (os ps : List Object) → AllByRecursion (AreNone os) ps → AllByRecursion (λ (o : Object). AllByRecursion (λ (a : Activation). object_numbered a.number os ≡ None) o.activations) ps
each_object_none os [] all = tt
each_object_none os (p ∷ ps) all = (each_none os p.activations all.0, each_object_none os ps all.1)

pub no_objects : (os : List Object) → IsDistinct nat_eq (flat_map drawn_numbers os) → AllByRecursion (λ (o : Object). AllByRecursion (λ (a : Activation). object_numbered a.number os ≡ None) o.activations) os
no_objects os distinct = each_object_none os os (all_none os distinct)

-- ---- no two activations have one number

abbrev row_number : Row → ℕ
row_number e = e.0.b

none_has : (n : ℕ) (es : Entries) → Apart n (map row_number es) → has_number es n ≡ false
none_has n [] all = refl
none_has n (e ∷ es) all = ap (λ b. b || list_any (λ (f : Row). f.0.b == n) es) (other_way n e.0.b all.0) ∙ none_has n es all.1

pub none_shared : (es : Entries) (n : ℕ) → IsDistinct nat_eq (map row_number es) → is_shared es n ≡ false
unfolding IsDistinct
none_shared [] n distinct = refl
none_shared (e ∷ es) n distinct = by (none_shared es n distinct.1) (e.0.b == n) refl
  where
    by : is_shared es n ≡ false → (b : Bool) → (e.0.b == n) ≡ b → cond b (has_number es n) (is_shared es n) ≡ false
    by rest true test = none_has n es (subst (λ (m : ℕ). Apart m (map row_number es)) (same e.0.b n test) distinct.0)
    by rest false test = rest

module _ (w : World (Unit {0}) ℕ) where
  abbrev row_of : Object → Activation → Row
  row_of o a = activation_row o.id (state_of w o.id a.number) a

  abbrev rows_of : List Object → Entries
  rows_of os = flat_map (activation_rows w) os

  row_apart : (n : ℕ) (o : Object) (acts : List Activation) (ns : List ℕ) (es : Entries) → (Apart n ns → Apart n (map row_number es)) → Apart n (numbers acts ++ ns)
      → Apart n (map row_number (map (row_of o) acts ++ es))
  row_apart n o [] ns es rest all = rest all
  row_apart n o (a ∷ acts) ns es rest all = (all.0, row_apart n o acts ns es rest all.1)

  -- what is apart from all numbers is apart from those of the activations
  some_apart : (n : ℕ) (os : List Object) → Apart n (flat_map drawn_numbers os) → Apart n (map row_number (rows_of os))
  some_apart n [] all = tt
  some_apart n (o ∷ os) all = row_apart n o o.activations (flat_map drawn_numbers os) (rows_of os) (λ more. some_apart n os more) all.1

  rows_differ : (o : Object) (acts : List Activation) (ns : List ℕ) (es : Entries) → ((n : ℕ) → Apart n ns → Apart n (map row_number es))
      → (IsDistinct nat_eq ns → IsDistinct nat_eq (map row_number es)) → IsDistinct nat_eq (numbers acts ++ ns) → IsDistinct nat_eq (map row_number (map (row_of o) acts ++ es))
  unfolding IsDistinct
  rows_differ o [] ns es apart rest distinct = rest distinct
  rows_differ o (a ∷ acts) ns es apart rest distinct =
      (row_apart a.number o acts ns es (apart a.number) distinct.0, rows_differ o acts ns es apart rest distinct.1)

  pub activations_differ : (os : List Object) → IsDistinct nat_eq (flat_map drawn_numbers os) → IsDistinct nat_eq (map row_number (rows_of os))
  unfolding IsDistinct
  activations_differ [] distinct = tt
  activations_differ (o ∷ os) distinct =
      rows_differ o o.activations (flat_map drawn_numbers os) (rows_of os) (λ n all. some_apart n os all) (λ rest. activations_differ os rest) distinct.1
