-- Lists of numbers that differ.
use Rattle.std.proofs.Common.{◌≡◌, ℕ, ◌<◌, Bool, true, false, cond, List, [], ◌∷◌, ◌++◌, map, refl, sym, ap, ◌∙◌, subst, arith, append_assoc}
use Rattle.std.specs.Prelude.{nat_eq, ◌==◌}
use Rattle.std.specs.List.{AllByRecursion, IsDistinct, filter}
use Rattle.std.proofs.lemmas.Bool.{eqb-true}
use Rattle.ode_value.specs.GoodWorlds.{drawn_numbers}
use Rattle.ode_value.specs.Keeping.{is_active, is_there, kept_object}
use Rattle.ode_value.specs.Objects.{Activation}
use Rattle.ode_value.specs.Worlds.{Object, with_object}
use Rattle.ode_laws.proofs.Each.{all-append}
use Rattle.ode_laws.proofs.Numbers.{apart}
use Rattle.ode_good_laws.specs.Distinct.{numbers_of}

-- none of some is among others
abbrev pub Apart : List ℕ → List ℕ → Type 0
Apart xs ys = AllByRecursion (λ x. AllByRecursion (λ y. nat_eq x y ≡ false) ys) xs

all-first : (P : ℕ → Type 0) (xs ys : List ℕ) → AllByRecursion P (xs ++ ys) → AllByRecursion P xs
all-first P [] ys all = tt
all-first P (x ∷ xs) ys all = (all.0, all-first P xs ys all.1)

all-second : (P : ℕ → Type 0) (xs ys : List ℕ) → AllByRecursion P (xs ++ ys) → AllByRecursion P ys
all-second P [] ys all = all
all-second P (x ∷ xs) ys all = all-second P xs ys all.1

pub split : (xs ys : List ℕ) → IsDistinct nat_eq (xs ++ ys) → IsDistinct nat_eq xs × IsDistinct nat_eq ys × Apart xs ys
unfolding IsDistinct
split [] ys h = (tt, h, tt)
split (x ∷ xs) ys h =
    let rest = split xs ys h.1 in
    ((all-first (λ y. nat_eq x y ≡ false) xs ys h.0, rest.0), rest.1, (all-second (λ y. nat_eq x y ≡ false) xs ys h.0, rest.2))

pub join : (xs ys : List ℕ) → IsDistinct nat_eq xs → IsDistinct nat_eq ys → Apart xs ys → IsDistinct nat_eq (xs ++ ys)
unfolding IsDistinct
join [] ys one two apart_all = two
join (x ∷ xs) ys one two apart_all = (all-append (λ y. nat_eq x y ≡ false) xs ys one.0 apart_all.0, join xs ys one.1 two apart_all.1)

pub one_alone : (n : ℕ) → IsDistinct nat_eq (n ∷ [])
unfolding IsDistinct
one_alone n = (tt, tt)

none_of : IsDistinct nat_eq []
unfolding IsDistinct
none_of = tt

-- a number above all others
below_apart : (n : ℕ) (xs : List ℕ) → AllByRecursion (λ m. m < n) xs → Apart xs (n ∷ [])
below_apart n [] all = tt
below_apart n (x ∷ xs) all = ((apart x n all.0, tt), below_apart n xs all.1)

above_apart : (a b : ℕ) → a < b → nat_eq b a ≡ false
above_apart a b less = by_test (b == a) (eqb-true b a) where
  by_test : (t : Bool) → (t ≡ true → b ≡ a) → t ≡ false
  by_test true same = let e : b ≡ a = same refl in absurd (omega arith)
  by_test false same = refl

above_all : (n : ℕ) (xs : List ℕ) → AllByRecursion (λ m. m < n) xs → AllByRecursion (λ y. nat_eq n y ≡ false) xs
above_all n [] all = tt
above_all n (x ∷ xs) all = (above_apart x n all.0, above_all n xs all.1)

pub with_last_one : (n : ℕ) (xs : List ℕ) → IsDistinct nat_eq xs → AllByRecursion (λ m. m < n) xs → IsDistinct nat_eq (xs ++ n ∷ [])
with_last_one n xs h below = join xs (n ∷ []) h (one_alone n) (below_apart n xs below)

apart-last : (n : ℕ) (xs ys : List ℕ) → Apart xs ys → AllByRecursion (λ m. m < n) ys → Apart (xs ++ n ∷ []) ys
apart-last n xs ys h below = all-append (λ x. AllByRecursion (λ y. nat_eq x y ≡ false) ys) xs (n ∷ []) h (above_all n ys below, tt)

-- ---- numbers of objects

-- an object's numbers, and those of the others
pub all-numbers : (P : ℕ → Type 0) (id : ℕ) (f : Object → Object) → ((o : Object) → AllByRecursion P (drawn_numbers o) → AllByRecursion P (drawn_numbers (f o))) → (os : List Object) → AllByRecursion P (numbers_of os)
    → AllByRecursion P (numbers_of (with_object id f os))
all-numbers P id f keeps [] all = tt
all-numbers P id f keeps (o ∷ os) all = by_test (o.id == id) (all-numbers P id f keeps os (all-second P (drawn_numbers o) (numbers_of os) all)) where
  by_test : (t : Bool) → AllByRecursion P (numbers_of (with_object id f os)) → AllByRecursion P (numbers_of (cond t (f o ∷ os) (o ∷ with_object id f os)))
  by_test true rest = all-append P (drawn_numbers (f o)) (numbers_of os) (keeps o (all-first P (drawn_numbers o) (numbers_of os) all)) (all-second P (drawn_numbers o) (numbers_of os) all)
  by_test false rest = all-append P (drawn_numbers o) (numbers_of (with_object id f os)) (all-first P (drawn_numbers o) (numbers_of os) all) rest

-- an object that keeps its numbers
pub same_numbers : (id : ℕ) (f : Object → Object) → ((o : Object) → drawn_numbers (f o) ≡ drawn_numbers o) → (os : List Object) → numbers_of (with_object id f os) ≡ numbers_of os
same_numbers id f same [] = refl
same_numbers id f same (o ∷ os) = by_test (o.id == id) (same_numbers id f same os) where
  by_test : (t : Bool) → numbers_of (with_object id f os) ≡ numbers_of os → numbers_of (cond t (f o ∷ os) (o ∷ with_object id f os)) ≡ drawn_numbers o ++ numbers_of os
  by_test true rest = ap (λ ns. ns ++ numbers_of os) (same o)
  by_test false rest = ap (λ ns. drawn_numbers o ++ ns) rest

pub map_numbers : (f : Object → Object) → ((o : Object) → drawn_numbers (f o) ≡ drawn_numbers o) → (os : List Object) → numbers_of (map f os) ≡ numbers_of os
map_numbers f same [] = refl
map_numbers f same (o ∷ os) = ap (λ ns. ns ++ numbers_of (map f os)) (same o) ∙ ap (λ ns. drawn_numbers o ++ ns) (map_numbers f same os)

pub more_numbers : (os more : List Object) → numbers_of (os ++ more) ≡ numbers_of os ++ numbers_of more
more_numbers [] more = refl
more_numbers (o ∷ os) more = ap (λ ns. drawn_numbers o ++ ns) (more_numbers os more) ∙ sym (append_assoc (drawn_numbers o) (numbers_of os) (numbers_of more))

-- an object with one number more, above all
pub inserted : (n id : ℕ) (f : Object → Object) → ((o : Object) → drawn_numbers (f o) ≡ drawn_numbers o ++ n ∷ []) → (os : List Object) → IsDistinct nat_eq (numbers_of os) → AllByRecursion (λ m. m < n) (numbers_of os)
    → IsDistinct nat_eq (numbers_of (with_object id f os))
inserted n id f adds [] h below = h
inserted n id f adds (o ∷ os) h below = by_test (o.id == id) (inserted n id f adds os parts.1 rest_below) where
  parts : IsDistinct nat_eq (drawn_numbers o) × IsDistinct nat_eq (numbers_of os) × Apart (drawn_numbers o) (numbers_of os)
  parts = split (drawn_numbers o) (numbers_of os) h

  own_below : AllByRecursion (λ m. m < n) (drawn_numbers o)
  own_below = all-first (λ m. m < n) (drawn_numbers o) (numbers_of os) below

  rest_below : AllByRecursion (λ m. m < n) (numbers_of os)
  rest_below = all-second (λ m. m < n) (drawn_numbers o) (numbers_of os) below

  -- what differs from the others and from n differs from all behind
  still_apart : Apart (drawn_numbers o) (numbers_of (with_object id f os))
  still_apart = each_apart (drawn_numbers o) parts.2 own_below where
    each_apart : (xs : List ℕ) → Apart xs (numbers_of os) → AllByRecursion (λ m. m < n) xs → Apart xs (numbers_of (with_object id f os))
    each_apart [] h below = tt
    each_apart (x ∷ xs) h below = (
      all-numbers (λ y. nat_eq x y ≡ false) id f
          (λ p all. subst (AllByRecursion (λ y. nat_eq x y ≡ false)) (sym (adds p)) (all-append (λ y. nat_eq x y ≡ false) (drawn_numbers p) (n ∷ []) all (apart x n below.0, tt))) os h.0,
      each_apart xs h.1 below.1,
    )

  by_test : (t : Bool) → IsDistinct nat_eq (numbers_of (with_object id f os)) → IsDistinct nat_eq (numbers_of (cond t (f o ∷ os) (o ∷ with_object id f os)))
  by_test true rest =
      subst (λ ns. IsDistinct nat_eq (ns ++ numbers_of os)) (sym (adds o))
      (join (drawn_numbers o ++ n ∷ []) (numbers_of os) (with_last_one n (drawn_numbers o) parts.0 own_below) parts.1 (apart-last n (drawn_numbers o) (numbers_of os) parts.2 rest_below))
  by_test false rest = join (drawn_numbers o) (numbers_of (with_object id f os)) parts.0 rest still_apart

-- ---- what is kept

filter_all : (P : ℕ → Type 0) (p : Activation → Bool) (acts : List Activation) → AllByRecursion P (map (λ (a : Activation). a.number) acts) → AllByRecursion P (map (λ (a : Activation). a.number) (filter p acts))
filter_all P p [] all = tt
filter_all P p (a ∷ acts) all = by_test (p a) (filter_all P p acts all.1) where
  by_test : (t : Bool) → AllByRecursion P (map (λ (b : Activation). b.number) (filter p acts)) → AllByRecursion P (map (λ (b : Activation). b.number) (cond t (a ∷ filter p acts) (filter p acts)))
  by_test true rest = (all.0, rest)
  by_test false rest = rest

filter_distinct : (p : Activation → Bool) (acts : List Activation) → IsDistinct nat_eq (map (λ (a : Activation). a.number) acts) → IsDistinct nat_eq (map (λ (a : Activation). a.number) (filter p acts))
unfolding IsDistinct
filter_distinct p [] h = tt
filter_distinct p (a ∷ acts) h = by_test (p a) (filter_distinct p acts h.1) where
  by_test : (t : Bool) → IsDistinct nat_eq (map (λ (b : Activation). b.number) (filter p acts)) → IsDistinct nat_eq (map (λ (b : Activation). b.number) (cond t (a ∷ filter p acts) (filter p acts)))
  by_test true rest = (filter_all (λ y. nat_eq a.number y ≡ false) p acts h.0, rest)
  by_test false rest = rest

-- what holds of all numbers holds of those that are kept
pub kept_all : (P : ℕ → Type 0) (os : List Object) → AllByRecursion P (numbers_of os) → AllByRecursion P (numbers_of (map kept_object (filter is_there os)))
kept_all P [] all = tt
kept_all P (o ∷ os) all = by_test (is_there o) (kept_all P os (all-second P (drawn_numbers o) (numbers_of os) all)) where
  own : AllByRecursion P (drawn_numbers o)
  own = all-first P (drawn_numbers o) (numbers_of os) all

  by_test : (t : Bool) → AllByRecursion P (numbers_of (map kept_object (filter is_there os))) → AllByRecursion P (numbers_of (map kept_object (cond t (o ∷ filter is_there os) (filter is_there os))))
  by_test true rest = all-append P (drawn_numbers (kept_object o)) (numbers_of (map kept_object (filter is_there os))) (own.0, filter_all P is_active o.activations own.1) rest
  by_test false rest = rest

kept_own : (o : Object) → IsDistinct nat_eq (drawn_numbers o) → IsDistinct nat_eq (drawn_numbers (kept_object o))
unfolding IsDistinct
kept_own o h = (filter_all (λ y. nat_eq o.id y ≡ false) is_active o.activations h.0, filter_distinct is_active o.activations h.1)

pub kept_distinct : (os : List Object) → IsDistinct nat_eq (numbers_of os) → IsDistinct nat_eq (numbers_of (map kept_object (filter is_there os)))
kept_distinct [] h = h
kept_distinct (o ∷ os) h = by_test (is_there o) (kept_distinct os parts.1) where
  parts : IsDistinct nat_eq (drawn_numbers o) × IsDistinct nat_eq (numbers_of os) × Apart (drawn_numbers o) (numbers_of os)
  parts = split (drawn_numbers o) (numbers_of os) h

  own : IsDistinct nat_eq (drawn_numbers (kept_object o))
  own = kept_own o parts.0

  still_apart : Apart (drawn_numbers (kept_object o)) (numbers_of (map kept_object (filter is_there os)))
  still_apart = (kept_all (λ y. nat_eq o.id y ≡ false) os parts.2.0, filter_all (λ x. AllByRecursion (λ y. nat_eq x y ≡ false) (numbers_of (map kept_object (filter is_there os)))) is_active o.activations (all-rest (map (λ (a : Activation). a.number) o.activations) parts.2.1)) where
    all-rest : (xs : List ℕ) → Apart xs (numbers_of os) → Apart xs (numbers_of (map kept_object (filter is_there os)))
    all-rest [] h = tt
    all-rest (x ∷ xs) h = (kept_all (λ y. nat_eq x y ≡ false) os h.0, all-rest xs h.1)

  by_test : (t : Bool) → IsDistinct nat_eq (numbers_of (map kept_object (filter is_there os))) → IsDistinct nat_eq (numbers_of (map kept_object (cond t (o ∷ filter is_there os) (filter is_there os))))
  by_test true rest = join (drawn_numbers (kept_object o)) (numbers_of (map kept_object (filter is_there os))) own rest still_apart
  by_test false rest = rest
