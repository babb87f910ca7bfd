-- Classes of a list, by their numbers and by their names.
use Rattle.std.proofs.Common.{◌≡◌, ℕ, zero, suc, ◌+◌, List, [], ◌∷◌, ◌++◌, length, map, Bool, true, false, cond, Some, None, refl, ap, sym, ◌∙◌, ◌<◌, arith, append_assoc, length-append}
use Rattle.std.proofs.lemmas.Bool.Decides.{nat_tests}
use Rattle.std.proofs.lemmas.List.{map-append}
use Rattle.std.proofs.lemmas.List.FromFn.{map-range_with_len_more}
use Rattle.std.specs.Prelude.{◌==◌}
use Rattle.std.specs.BTreeMap.{insert_entry}
use Rattle.std.specs.List.{find, slice_get, position_from, range_with_len}
use Rattle.std.specs.Map.{lookup}
use Rattle.std.specs.Option.{option_and_then, option_or}
use Rattle.std.specs.Ordering.{match_ordering}
use Rattle.std.specs.declared.cmp.Ordering.{Ordering}
use Rattle.std.specs.declared.cmp.Ordering.TheVariants.{Less, Equal, Greater}

-- what a map answers behind an insertion, at a test that passes one key at most
module _ {K X : Type 0} (p : K → Bool) (cmp : K → K → Ordering) (k : K) (v : X) (same : (x : K) → cmp k x ≡ Equal → p k ≡ p x) (one : (x : K) → p k ≡ true → p x ≡ true → cmp k x ≡ Equal) where
  pub lookup-insert_entry : (es : List (K × X)) → lookup p (insert_entry cmp es k v) ≡ cond (p k) (Some v) (lookup p es)
  lookup-insert_entry [] = refl
  lookup-insert_entry (e ∷ es) = by_order (lookup-insert_entry es) (cmp k e.0) refl where
    equal : (s t : Bool) → s ≡ t → cond t (Some v) (lookup p es) ≡ cond s (Some v) (cond t (Some e.1) (lookup p es))
    equal true true h = refl
    equal false false h = refl
    equal true false h = absurd (cc)
    equal false true h = absurd (cc)

    greater : (s t : Bool) → (s ≡ true → t ≡ true → ⊥) → cond t (Some e.1) (cond s (Some v) (lookup p es)) ≡ cond s (Some v) (cond t (Some e.1) (lookup p es))
    greater true true h = absurd (h refl refl)
    greater true false h = refl
    greater false true h = refl
    greater false false h = refl

    apart : cmp k e.0 ≡ Greater → p k ≡ true → p e.0 ≡ true → ⊥
    apart q a b = let other = one e.0 a b in cc

    by_order : lookup p (insert_entry cmp es k v) ≡ cond (p k) (Some v) (lookup p es) → (o : Ordering) → cmp k e.0 ≡ o → lookup p (match_ordering o ((k, v) ∷ e ∷ es) ((e.0, v) ∷ es) (e ∷ insert_entry cmp es k v)) ≡ cond (p k) (Some v) (lookup p (e ∷ es))
    by_order rest Less q = refl
    by_order rest Equal q = equal (p k) (p e.0) (same e.0 q)
    by_order rest Greater q = ap (cond (p e.0) (Some e.1)) rest ∙ greater (p k) (p e.0) (apart q)

-- the first place of one that passes
module _ {X : Type 0} (p : X → Bool) where
  pub position_from-append : (i : ℕ) (xs : List X) (y : X) → position_from p i (xs ++ y ∷ []) ≡ option_or (position_from p i xs) (cond (p y) (Some (i + length xs)) None)
  position_from-append i [] y = let e : i + 0 ≡ i = omega arith in rw e refl
  position_from-append i (x ∷ xs) y = by_test (position_from-append (i + 1) xs y ∙ ap (λ n. option_or (position_from p (i + 1) xs) (cond (p y) (Some n) None)) same) (p x) where
    same : i + 1 + length xs ≡ i + length (x ∷ xs)
    same = omega arith

    by_test : position_from p (i + 1) (xs ++ y ∷ []) ≡ option_or (position_from p (i + 1) xs) (cond (p y) (Some (i + length (x ∷ xs))) None)
        → (t : Bool) → cond t (Some i) (position_from p (i + 1) (xs ++ y ∷ [])) ≡ option_or (cond t (Some i) (position_from p (i + 1) xs)) (cond (p y) (Some (i + length (x ∷ xs))) None)
    by_test next true = refl
    by_test next false = next

  pub slice_get-behind : (front : List X) (x : X) (xs : List X) → slice_get (front ++ x ∷ xs) (length front) ≡ Some x
  slice_get-behind [] x xs = refl
  slice_get-behind (y ∷ front) x xs = slice_get-behind front x xs

  pub length-more : (x : X) (ys : List X) → length (ys ++ x ∷ []) ≡ length ys + 1
  length-more x [] = refl
  length-more x (y ∷ ys) = let rest = length-more x ys in omega arith

  found_behind : (front xs : List X) (i : ℕ) → i ≡ length front → find p xs ≡ option_and_then (slice_get (front ++ xs)) (position_from p i xs)
  found_behind front [] i h = refl
  found_behind front (x ∷ xs) i h =
      by_test
      (found_behind (front ++ x ∷ []) xs (i + 1) (omega (arith, length-more x front)) ∙ ap (λ (all : List X). option_and_then (slice_get all) (position_from p (i + 1) xs)) (append_assoc front (x ∷ []) xs))
      (p x) where
        here : Some x ≡ slice_get (front ++ x ∷ xs) i
        here = rw h (sym (slice_get-behind front x xs))

        by_test : find p xs ≡ option_and_then (slice_get (front ++ x ∷ xs)) (position_from p (i + 1) xs)
            → (t : Bool) → cond t (Some x) (find p xs) ≡ option_and_then (slice_get (front ++ x ∷ xs)) (cond t (Some i) (position_from p (i + 1) xs))
        by_test next true = here
        by_test next false = next

  pub find-position : (xs : List X) → find p xs ≡ option_and_then (slice_get xs) (position_from p 0 xs)
  find-position xs = found_behind [] xs 0 refl

  pub not_found : (xs : List X) (i : ℕ) → find p xs ≡ None → position_from p i xs ≡ None
  not_found [] i h = refl
  not_found (x ∷ xs) i h = by_test (not_found xs (i + 1)) (p x) h where
    by_test : (find p xs ≡ None → position_from p (i + 1) xs ≡ None) → (t : Bool) → cond t (Some x) (find p xs) ≡ None → cond t (Some i) (position_from p (i + 1) xs) ≡ None
    by_test rest true q = absurd (cc)
    by_test rest false q = rest q

-- numbers that rise by one
first_and_rest : (a b : ℕ) (xs ys : List ℕ) → a ∷ xs ≡ b ∷ ys → (a ≡ b) × (xs ≡ ys)
first_and_rest a b xs ys h = (cc, cc)

same_number : (a b c : ℕ) → a ≡ b → b ≡ c → (a == c) ≡ true
same_number a b c p q = grind (arith, nat_tests)

other_number : (a b c : ℕ) → a ≡ b → b < c → (a == c) ≡ false
other_number a b c p q = grind (arith, nat_tests)

lower_number : (a b c : ℕ) → a ≡ b → c < b → (a == c) ≡ false
lower_number a b c p q = grind (arith, nat_tests)

pub range_with_len-more : (a n : ℕ) → range_with_len a (n + 1) ≡ range_with_len a n ++ (a + n) ∷ []
range_with_len-more a n = map_is (range_with_len a (n + 1)) ∙ map-range_with_len_more (λ k. k) a n (a + n) refl ∙ ap (λ ks. ks ++ (a + n) ∷ []) (sym (map_is (range_with_len a n))) where
  map_is : (ks : List ℕ) → ks ≡ map (λ k. k) ks
  map_is [] = refl
  map_is (k ∷ ks) = ap (λ l. k ∷ l) (map_is ks)

-- what is numbered from a number on
module _ {X : Type 0} (number : X → ℕ) where
  pub find-numbered : (a : ℕ) (xs : List X) → map number xs ≡ range_with_len a (length xs) → (k n : ℕ) → n ≡ a + k → find (λ x. number x == n) xs ≡ slice_get xs k
  find-numbered a [] h k n is = refl
  find-numbered a (x ∷ xs) h zero n is =
      let both = first_and_rest (number x) a (map number xs) (range_with_len (a + 1) (length xs)) h in
      ap (λ t. cond t (Some x) (find (λ y. number y == n) xs)) (same_number (number x) a n both.0 (omega arith))
  find-numbered a (x ∷ xs) h (suc k) n is =
      let both = first_and_rest (number x) a (map number xs) (range_with_len (a + 1) (length xs)) h in
      ap (λ t. cond t (Some x) (find (λ y. number y == n) xs)) (other_number (number x) a n both.0 (omega arith))
      ∙ find-numbered (a + 1) xs both.1 k n (omega arith)

  pub none-numbered : (a : ℕ) (xs : List X) → map number xs ≡ range_with_len a (length xs) → (n : ℕ) → n < a → find (λ x. number x == n) xs ≡ None
  none-numbered a [] h n low = refl
  none-numbered a (x ∷ xs) h n low =
      let both = first_and_rest (number x) a (map number xs) (range_with_len (a + 1) (length xs)) h in
      ap (λ t. cond t (Some x) (find (λ y. number y == n) xs)) (lower_number (number x) a n both.0 low)
      ∙ none-numbered (a + 1) xs both.1 n (omega arith)

  pub numbered-more : (a : ℕ) (xs : List X) (y : X) → map number xs ≡ range_with_len a (length xs) → number y ≡ a + length xs → map number (xs ++ y ∷ []) ≡ range_with_len a (length (xs ++ y ∷ []))
  numbered-more a xs y h is =
      let long : length (xs ++ y ∷ []) ≡ length xs + 1 = length-append xs (y ∷ []) in
      map-append number xs (y ∷ []) ∙ ap (λ ns. ns ++ number y ∷ []) h ∙ ap (λ n. range_with_len a (length xs) ++ n ∷ []) is ∙ sym (range_with_len-more a (length xs)) ∙ ap (range_with_len a) (sym long)
