-- Lists that grow by what they don't have yet have each member once, at its first place.
use Rattle.std.proofs.Common.{◌≡◌, ℕ, ◌+◌, ◌<◌, Bool, true, false, cond, List, [], ◌∷◌, ◌++◌, length, map, take, get_or, refl, ap, sym, ◌∙◌, append-nil, Some, None, Option}
use Rattle.std.specs.Prelude.{◌||◌, not, filter, filter_map}
use Rattle.std.specs.List.{list_any, cons_option}
use Rattle.std.proofs.lemmas.List.{map-append, take_more}
use Rattle.std.proofs.lemmas.List.Elements.{filter_map-append}
use Rattle.ode_value.specs.Symbols.{distinct}
use Rattle.ode_value.proofs.SymbolLaws.{distinct-any}
use Rattle.ode_symbols.specs.Alphabets.{with_new, with_any}

filter-last : {A : Type 0} (p : A → Bool) (xs : List A) (y : A) → filter p (xs ++ y ∷ []) ≡ cond (p y) (filter p xs ++ y ∷ []) (filter p xs)
filter-last p [] y = refl
filter-last {A} p (x ∷ xs) y = by_test (p x) (p y) (filter p (xs ++ y ∷ [])) (filter-last p xs y) where
  by_test : (t u : Bool) (f : List A) → f ≡ cond u (filter p xs ++ y ∷ []) (filter p xs) → cond t (x ∷ f) f ≡ cond u (cond t (x ∷ filter p xs) (filter p xs) ++ y ∷ []) (cond t (x ∷ filter p xs) (filter p xs))
  by_test true true f h = ap (λ l. x ∷ l) h
  by_test true false f h = ap (λ l. x ∷ l) h
  by_test false true f h = h
  by_test false false f h = h

distinct-last : {A : Type 0} (same : A → A → Bool) (xs : List A) (y : A) → distinct same (xs ++ y ∷ []) ≡ cond (list_any (λ x. same x y) xs) (distinct same xs) (distinct same xs ++ y ∷ [])
distinct-last same [] y = refl
distinct-last {A} same (x ∷ xs) y = by_test (list_any (λ z. same z y) xs) (same x y) refl (distinct same (xs ++ y ∷ [])) (distinct-last same xs y) where
  others : A → Bool
  others z = not (same x z)

  by_test : (t u : Bool) → same x y ≡ u → (d : List A) → d ≡ cond t (distinct same xs) (distinct same xs ++ y ∷ [])
      → x ∷ filter (λ z. not (same x z)) d ≡ cond (u || t) (x ∷ filter (λ z. not (same x z)) (distinct same xs)) (x ∷ filter (λ z. not (same x z)) (distinct same xs) ++ y ∷ [])
  by_test true true p d h = ap (λ l. x ∷ filter (λ z. not (same x z)) l) h
  by_test true false p d h = ap (λ l. x ∷ filter (λ z. not (same x z)) l) h
  by_test false u p d h =
      ap (λ l. x ∷ filter (λ z. not (same x z)) l) h
      ∙ ap (λ l. x ∷ l) (filter-last (λ z. not (same x z)) (distinct same xs) y)
      ∙ ap (λ b. x ∷ cond (not b) (filter (λ z. not (same x z)) (distinct same xs) ++ y ∷ []) (filter (λ z. not (same x z)) (distinct same xs))) p
      ∙ chosen u
    where
      chosen : (b : Bool) → x ∷ cond (not b) (filter (λ z. not (same x z)) (distinct same xs) ++ y ∷ []) (filter (λ z. not (same x z)) (distinct same xs))
          ≡ cond (b || false) (x ∷ filter (λ z. not (same x z)) (distinct same xs)) (x ∷ filter (λ z. not (same x z)) (distinct same xs) ++ y ∷ [])
      chosen true = refl
      chosen false = refl

module _ {A : Type 0} (same : A → A → Bool) (eq : (x y : A) → same x y ≡ true → x ≡ y) where
  pub distinct-more : (xs : List A) (y : A) → with_new same (distinct same xs) y ≡ distinct same (xs ++ y ∷ [])
  distinct-more xs y =
      ap (λ t. cond t (distinct same xs) (distinct same xs ++ y ∷ [])) (distinct-any same eq y xs)
      ∙ sym (distinct-last same xs y)

  -- so many members of a list, and one more
  pub list-more : (xs : List A) (i : ℕ) (d : A) → i < length xs → with_new same (distinct same (take i xs)) (get_or xs i d) ≡ distinct same (take (i + 1) xs)
  list-more xs i d h = distinct-more (take i xs) (get_or xs i d) ∙ ap (distinct same) (sym (take_more xs i d h))

  pub map-more : {B : Type 0} (f : B → A) (xs : List B) (i : ℕ) (d : B) → i < length xs → with_new same (distinct same (map f (take i xs))) (f (get_or xs i d)) ≡ distinct same (map f (take (i + 1) xs))
  map-more f xs i d h =
      distinct-more (map f (take i xs)) (f (get_or xs i d))
      ∙ ap (distinct same) (sym (map-append f (take i xs) (get_or xs i d ∷ [])))
      ∙ ap (λ l. distinct same (map f l)) (sym (take_more xs i d h))

  any-more : (xs : List A) (o : Option A) → with_any same (distinct same xs) o ≡ distinct same (xs ++ cons_option o [])
  any-more xs None = ap (distinct same) (sym (append-nil xs))
  any-more xs (Some x) = distinct-more xs x

  pub filter-more : {B : Type 0} (f : B → Option A) (xs : List B) (i : ℕ) (d : B) → i < length xs → with_any same (distinct same (filter_map f (take i xs))) (f (get_or xs i d)) ≡ distinct same (filter_map f (take (i + 1) xs))
  filter-more f xs i d h =
      any-more (filter_map f (take i xs)) (f (get_or xs i d))
      ∙ ap (distinct same) (sym (filter_map-append f (take i xs) (get_or xs i d ∷ [])))
      ∙ ap (λ l. distinct same (filter_map f l)) (sym (take_more xs i d h))
