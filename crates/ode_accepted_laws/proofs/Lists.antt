-- Look-ups in lists that are joined, numbered or turned round.
use Rattle.std.proofs.Common.{◌≡◌, ◌⊎◌, inl, inr, ℕ, zero, suc, ◌+◌, Bool, true, false, cond, List, [], ◌∷◌, ◌++◌, map, reverse, length, Option, Some, None, refl, sym, ap, ◌∙◌, subst, arith}
use Rattle.std.specs.Prelude.{◌||◌, slice_get}
use Rattle.std.specs.List.{AllByRecursion, enumerate_from, find, flat_map, list_all, list_any}
use Rattle.std.specs.Option.{is_none, option_or}
use Rattle.std.specs.Str.{bytes_eq}
use Rattle.std.proofs.lemmas.Bool.{and_parts}
use Rattle.std.proofs.lemmas.Grind.{flat_map-append}
use Rattle.std.proofs.lemmas.List.{append-nil, append_assoc, map-append, reverse-append}
use Rattle.std.proofs.lemmas.List.Folds.{find-append}
use Rattle.std.proofs.lemmas.Slice.Eq.{bytes_eq-Decides}
use Rattle.ode_laws.proofs.Each.{all-append}

-- ---- names

pub name_itself : (n : List ℕ) → bytes_eq n n ≡ true
name_itself n = (bytes_eq-Decides n n).1 refl

pub names_same : (m n : List ℕ) → bytes_eq m n ≡ true → m ≡ n
names_same m n h = (bytes_eq-Decides m n).0 h

-- ---- what isn't there

pub none_is : {X : Type 0} (o : Option X) → is_none o ≡ true → o ≡ None
none_is None h = refl
none_is (Some x) h = absurd (cc)

-- nothing is in the second, where neither has anything
pub second_none : {X : Type 0} (o p : Option X) → option_or o p ≡ None → p ≡ None
second_none None p h = h
second_none (Some x) p h = absurd (cc)

pub find-none : {X : Type 0} (p : X → Bool) (xs : List X) → AllByRecursion (λ x. p x ≡ false) xs → find p xs ≡ None
find-none p [] all = refl
find-none p (x ∷ xs) all = ap (λ b. cond b (Some x) (find p xs)) all.0 ∙ find-none p xs all.1

-- ---- joined lists

pub get-left : {X : Type 0} (xs ys : List X) (p : ℕ) (x : X) → slice_get xs p ≡ Some x → slice_get (xs ++ ys) p ≡ Some x
get-left [] ys p x h = absurd (cc)
get-left (z ∷ xs) ys zero x h = h
get-left (z ∷ xs) ys (suc p) x h = get-left xs ys p x h

-- one among some, or the one behind them
pub get-last : {X : Type 0} (xs : List X) (y z : X) (p : ℕ) → slice_get (xs ++ y ∷ []) p ≡ Some z → (slice_get xs p ≡ Some z) ⊎ ((p ≡ length xs) × (y ≡ z))
get-last [] y z zero h = inr (refl, cc)
get-last [] y z (suc p) h = absurd (cc)
get-last (x ∷ xs) y z zero h = inl h
get-last (x ∷ xs) y z (suc p) h = by_rest (get-last xs y z p h) where
  by_rest : (slice_get xs p ≡ Some z) ⊎ ((p ≡ length xs) × (y ≡ z)) → (slice_get xs p ≡ Some z) ⊎ ((suc p ≡ length (x ∷ xs)) × (y ≡ z))
  by_rest (inl e) = inl e
  by_rest (inr e) = inr (ap suc e.0, e.1)

pub enumerate-append : {X : Type 0} (n : ℕ) (xs ys : List X) → enumerate_from n (xs ++ ys) ≡ enumerate_from n xs ++ enumerate_from (n + length xs) ys
enumerate-append {X} n [] ys =
    let none : List X = [] in
    let here : n ≡ n + length none = omega arith in
    ap (λ m. enumerate_from m ys) here
enumerate-append n (x ∷ xs) ys =
    let far : n + 1 + length xs ≡ n + length (x ∷ xs) = omega arith in
    ap (λ l. (n, x) ∷ l) (enumerate-append (n + 1) xs ys ∙ ap (λ m. enumerate_from (n + 1) xs ++ enumerate_from m ys) far)

-- ---- what holds of all

pub all-reverse : {X : Type 0} (P : X → Type 0) (xs : List X) → AllByRecursion P xs → AllByRecursion P (reverse xs)
all-reverse P [] all = tt
all-reverse P (x ∷ xs) all = subst (AllByRecursion P) (sym (reverse-append (x ∷ []) xs)) (all-append P (reverse xs) (x ∷ []) (all-reverse P xs all.1) (all.0, tt))

pub all-right : {X : Type 0} (P : X → Type 0) (xs ys : List X) → AllByRecursion P (xs ++ ys) → AllByRecursion P ys
all-right P [] ys all = all
all-right P (x ∷ xs) ys all = all-right P xs ys all.1

-- a test of all passes the one that is found
pub all-tested : {X : Type 0} (p q : X → Bool) (xs : List X) → list_all p xs ≡ true → (x : X) → find q xs ≡ Some x → p x ≡ true
all-tested p q [] all x h = absurd (cc)
all-tested p q (y ∷ ys) all x h =
    let parts = and_parts (p y) (list_all p ys) all in
    by_test (q y) h (all-tested p q ys parts.1 x) where
      by_test : (b : Bool) → cond b (Some y) (find q ys) ≡ Some x → (find q ys ≡ Some x → p x ≡ true) → p x ≡ true
      by_test true e rest = let same : y ≡ x = cc in subst (λ z. p z ≡ true) same (and_parts (p y) (list_all p ys) all).0
      by_test false e rest = rest e

-- ---- lists of lists

-- what is found in one of them, and what holds of that one
pub find-flat : {X Y : Type 0} (P : X → Type 0) (f : X → List Y) (p : Y → Bool) (xs : List X) → AllByRecursion P xs → (y : Y) → find p (flat_map f xs) ≡ Some y → (x : X) × P x × (find p (f x) ≡ Some y)
find-flat P f p [] all y h = absurd (cc)
find-flat {X} {Y} P f p (x ∷ xs) all y h = by_here (find p (f x)) refl (sym (find-append p (f x) (flat_map f xs)) ∙ h) (find-flat P f p xs all.1 y) where
  by_here : (o : Option Y) → find p (f x) ≡ o → option_or o (find p (flat_map f xs)) ≡ Some y → (find p (flat_map f xs) ≡ Some y → (z : X) × P z × (find p (f z) ≡ Some y)) → (z : X) × P z × (find p (f z) ≡ Some y)
  by_here (Some w) here e rest = (x, all.0, here ∙ e)
  by_here None here e rest = rest e

-- with the lists turned round
pub flat-next : {X Y : Type 0} (f : X → List Y) (x : X) (xs : List X) → flat_map f (reverse (x ∷ xs)) ≡ flat_map f (reverse xs) ++ f x
flat-next f x xs =
    ap (flat_map f) (reverse-append (x ∷ []) xs) ∙ flat_map-append f (reverse xs) (x ∷ [])
    ∙ ap (λ l. flat_map f (reverse xs) ++ l) (append-nil (f x))

pub map-reverse : {X Y : Type 0} (f : X → Y) (xs : List X) → map f (reverse xs) ≡ reverse (map f xs)
map-reverse f [] = refl
map-reverse f (x ∷ xs) =
    ap (map f) (reverse-append (x ∷ []) xs) ∙ map-append f (reverse xs) (x ∷ []) ∙ ap (λ l. l ++ f x ∷ []) (map-reverse f xs)
    ∙ sym (reverse-append (f x ∷ []) (map f xs))

-- each passes one of the tests
pub all-any : {X : Type 0} (test : X → X → Bool) → ((x : X) → test x x ≡ true) → (xs : List X) → AllByRecursion (λ x. list_any (test x) xs ≡ true) xs
all-any {X} test itself xs = behind [] xs where
  or_right : (a b : Bool) → b ≡ true → (a || b) ≡ true
  or_right true b h = refl
  or_right false b h = h

  found : (x : X) (front rest : List X) → list_any (test x) (front ++ x ∷ rest) ≡ true
  found x [] rest = ap (λ b. b || list_any (test x) rest) (itself x)
  found x (y ∷ front) rest = or_right (test x y) (list_any (test x) (front ++ x ∷ rest)) (found x front rest)

  behind : (front rest : List X) → AllByRecursion (λ x. list_any (test x) (front ++ rest) ≡ true) rest
  behind front [] = tt
  behind front (x ∷ rest) = (found x front rest, subst (λ l. AllByRecursion (λ y. list_any (test y) l ≡ true) rest) (append_assoc front (x ∷ []) rest) (behind (front ++ x ∷ []) rest))
