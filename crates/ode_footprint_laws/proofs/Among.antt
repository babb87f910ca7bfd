-- Numbers that are among others.
use Rattle.std.proofs.Common.{◌≡◌, ℕ, Bool, true, false, List, [], ◌∷◌, ◌++◌, refl, sym, subst, arith}
use Rattle.std.proofs.lemmas.Bool.{eqb-true}
use Rattle.std.proofs.lemmas.Bool.Decides.{nat_tests}
use Rattle.std.specs.BTreeSet.{insert_key}
use Rattle.std.specs.Cmp.{ranked}
use Rattle.std.specs.Prelude.{◌||◌, nat_eq}
use Rattle.std.specs.List.{fold, list_any}
use Rattle.std.specs.Ordering.{match_ordering, nat_cmp}
use Rattle.std.specs.declared.cmp.Ordering.{Ordering}
use Rattle.std.specs.declared.cmp.Ordering.TheVariants.{Less, Equal, Greater}
use Rattle.ode_footprint_laws.specs.Agreeing.{IsAmong}

-- all of these are among those
abbrev pub Within : List ℕ → List ℕ → Type 0
Within ids all = (id : ℕ) → IsAmong id ids → IsAmong id all

pub itself : (n : ℕ) → nat_eq n n ≡ true
itself n = grind (arith, nat_tests)

pub either_left : (a b : Bool) → a ≡ true → (a || b) ≡ true
either_left true b is = refl
either_left false b is = absurd (cc)

pub either_right : (a b : Bool) → b ≡ true → (a || b) ≡ true
either_right true b is = refl
either_right false b is = is

pub among_front : (id : ℕ) (xs ys : List ℕ) → IsAmong id xs → IsAmong id (xs ++ ys)
among_front id [] ys is = absurd (cc)
among_front id (x ∷ xs) ys is = by_test (nat_eq id x) is (among_front id xs ys) where
  by_test : (b : Bool) → (b || list_any (nat_eq id) xs) ≡ true → (IsAmong id xs → IsAmong id (xs ++ ys)) → (b || list_any (nat_eq id) (xs ++ ys)) ≡ true
  by_test true is more = refl
  by_test false is more = more is

pub among_back : (id : ℕ) (xs ys : List ℕ) → IsAmong id ys → IsAmong id (xs ++ ys)
among_back id [] ys is = is
among_back id (x ∷ xs) ys is = either_right (nat_eq id x) (list_any (nat_eq id) (xs ++ ys)) (among_back id xs ys is)

pub within_front : (xs ys all : List ℕ) → Within (xs ++ ys) all → Within xs all
within_front xs ys all within id is = within id (among_front id xs ys is)

pub within_back : (xs ys all : List ℕ) → Within (xs ++ ys) all → Within ys all
within_back xs ys all within id is = within id (among_back id xs ys is)

pub within_first : (x : ℕ) (xs all : List ℕ) → Within (x ∷ xs) all → IsAmong x all
within_first x xs all within = within x (either_left (nat_eq x x) (list_any (nat_eq x) xs) (itself x))

pub within_rest : (x : ℕ) (xs all : List ℕ) → Within (x ∷ xs) all → Within xs all
within_rest x xs all within id is = within id (either_right (nat_eq id x) (list_any (nat_eq id) xs) is)

-- ---- numbers that join others at their places

abbrev joined : ℕ → List ℕ → List ℕ
joined n xs = insert_key nat_cmp xs n

joined_here : (n : ℕ) (xs : List ℕ) → IsAmong n (joined n xs)
joined_here n [] = either_left (nat_eq n n) false (itself n)
joined_here n (x ∷ xs) = by_order (nat_cmp n x) refl (joined_here n xs) where
  by_order : (o : Ordering) → o ≡ nat_cmp n x → IsAmong n (joined n xs) → IsAmong n (match_ordering o (n ∷ x ∷ xs) (x ∷ xs) (x ∷ joined n xs))
  by_order Less e rest = either_left (nat_eq n n) (list_any (nat_eq n) (x ∷ xs)) (itself n)
  by_order Equal e rest =
      let same : n ≡ x = ranked n x Equal e in
      either_left (nat_eq n x) (list_any (nat_eq n) xs) (subst (λ m. nat_eq n m ≡ true) same (itself n))
  by_order Greater e rest = either_right (nat_eq n x) (list_any (nat_eq n) (joined n xs)) rest

joined_more : (id n : ℕ) (xs : List ℕ) → IsAmong id xs → IsAmong id (joined n xs)
joined_more id n [] is = absurd (cc)
joined_more id n (x ∷ xs) is = by_order (nat_cmp n x) is (joined_more id n xs) where
  by_test : (b : Bool) → (b || list_any (nat_eq id) xs) ≡ true → (IsAmong id xs → IsAmong id (joined n xs)) → (b || list_any (nat_eq id) (joined n xs)) ≡ true
  by_test true here rest = refl
  by_test false here rest = rest here

  by_order : (o : Ordering) → IsAmong id (x ∷ xs) → (IsAmong id xs → IsAmong id (joined n xs)) → IsAmong id (match_ordering o (n ∷ x ∷ xs) (x ∷ xs) (x ∷ joined n xs))
  by_order Less here rest = either_right (nat_eq id n) (list_any (nat_eq id) (x ∷ xs)) here
  by_order Equal here rest = here
  by_order Greater here rest = by_test (nat_eq id x) here rest

-- what was there before
pub among_before : (ids : List ℕ) (id : ℕ) (xs : List ℕ) → IsAmong id xs → IsAmong id (fold (insert_key nat_cmp) xs ids)
among_before [] id xs is = is
among_before (n ∷ ids) id xs is = among_before ids id (joined n xs) (joined_more id n xs is)

-- and what joins
pub among_looked : (ids : List ℕ) (id : ℕ) (xs : List ℕ) → IsAmong id ids → IsAmong id (fold (insert_key nat_cmp) xs ids)
among_looked [] id xs is = absurd (cc)
among_looked (n ∷ ids) id xs is = by_test (nat_eq id n) refl is (among_looked ids id (joined n xs)) where
  by_test : (b : Bool) → nat_eq id n ≡ b → (b || list_any (nat_eq id) ids) ≡ true → (IsAmong id ids → IsAmong id (fold (insert_key nat_cmp) (joined n xs) ids)) → IsAmong id (fold (insert_key nat_cmp) (joined n xs) ids)
  by_test true e here rest =
      let same : id ≡ n = eqb-true id n e in
      among_before ids id (joined n xs) (subst (λ m. IsAmong m (joined n xs)) (sym same) (joined_here n xs))
  by_test false e here rest = rest here
