-- What is kept of pasts beside objects that are kept.
use Rattle.std.proofs.Common.{◌≡◌, ◌==◌, ℕ, List, [], ◌∷◌, Bool, true, false, cond, Option, Some, None, refl, sym, ap, ◌∙◌}
use Rattle.std.proofs.lemmas.Bool.{eqb-true, false≢true}
use Rattle.std.specs.List.{AllByRecursion, cons_option, filter, filter_map}
use Rattle.std.specs.Option.{option_map}
use Rattle.ode_laws.proofs.Each.{all-of}
use Rattle.ode_value.specs.Denoting.{object_at}
use Rattle.ode_value.specs.Keeping.{has_activation, kept_past, kept_row}
use Rattle.ode_value.specs.Pasts.{Kept}
use Rattle.ode_value.specs.Worlds.{Bones, Object, kept_at, with_kept}

-- a test that asks for more
pub filter_within : {X : Type 0} (p q : X → Bool) (xs : List X) → AllByRecursion (λ x. p x ≡ true → q x ≡ true) xs → filter p (filter q xs) ≡ filter p xs
filter_within p q [] all = refl
filter_within {X} p q (x ∷ xs) all = by_tests (p x) (q x) refl refl all.0 (filter_within p q xs all.1) where
  by_tests : (a b : Bool) → p x ≡ a → q x ≡ b → (p x ≡ true → q x ≡ true) → filter p (filter q xs) ≡ filter p xs → filter p (cond b (x ∷ filter q xs) (filter q xs)) ≡ cond a (x ∷ filter p xs) (filter p xs)
  by_tests true true e f leads more = ap (λ t. cond t (x ∷ filter p (filter q xs)) (filter p (filter q xs))) e ∙ ap (λ (ys : List X). x ∷ ys) more
  by_tests false true e f leads more = ap (λ t. cond t (x ∷ filter p (filter q xs)) (filter p (filter q xs))) e ∙ more
  by_tests true false e f leads more = absurd (false≢true (sym f ∙ leads e))
  by_tests false false e f leads more = more

-- no activation is on that wasn't
abbrev pub IsWithin : Object → Object → Type 0
IsWithin c d = (n : ℕ) → has_activation c n ≡ true → has_activation d n ≡ true

abbrev pub Below : Option Object → Option Object → Type 0
Below None None = Unit {0}
Below (Some d) (Some c) = IsWithin c d
Below None (Some c) = ⊥
Below (Some d) None = ⊥

-- a change of what is kept by a number is found there
pub kept_with_at : {K : Type 0} (id : ℕ) (g : K → K) (rows : List (ℕ × K)) → kept_at id (with_kept id g rows) ≡ option_map g (kept_at id rows)
kept_with_at id g [] = refl
kept_with_at {K} id g (row ∷ rows) = by_test (row.0 == id) refl (kept_with_at id g rows) where
  by_test : (b : Bool) → (row.0 == id) ≡ b → kept_at id (with_kept id g rows) ≡ option_map g (kept_at id rows)
      → kept_at id (cond b ((row.0, g row.1) ∷ rows) (row ∷ with_kept id g rows)) ≡ option_map g (cond b (Some row.1) (kept_at id rows))
  by_test true is more = ap (λ t. cond t (Some (g row.1)) (kept_at id rows)) is
  by_test false is more = ap (λ t. cond t (Some row.1) (kept_at id (with_kept id g rows))) is ∙ more

-- rows that are chosen by their numbers
pub kept_chosen : {K : Type 0} (n : ℕ) (g : ℕ → Bool) → g n ≡ true → (rows : List (ℕ × K)) → kept_at n (filter (λ (row : ℕ × K). g row.0) rows) ≡ kept_at n rows
kept_chosen n g goes [] = refl
kept_chosen {K} n g goes (row ∷ rows) = by_tests (row.0 == n) refl (g row.0) refl (kept_chosen n g goes rows) where
  by_tests : (t : Bool) → (row.0 == n) ≡ t → (u : Bool) → g row.0 ≡ u → kept_at n (filter (λ (r : ℕ × K). g r.0) rows) ≡ kept_at n rows
      → kept_at n (cond u (row ∷ filter (λ (r : ℕ × K). g r.0) rows) (filter (λ (r : ℕ × K). g r.0) rows)) ≡ cond t (Some row.1) (kept_at n rows)
  by_tests true is true there more = ap (λ v. cond v (Some row.1) (kept_at n (filter (λ (r : ℕ × K). g r.0) rows))) is
  by_tests true is false there more = absurd (false≢true (sym there ∙ ap g (eqb-true row.0 n is) ∙ goes))
  by_tests false is true there more = ap (λ v. cond v (Some row.1) (kept_at n (filter (λ (r : ℕ × K). g r.0) rows))) is ∙ more
  by_tests false is false there more = more

-- what is kept by a number
abbrev pub Row : Type 0 → Type 0 → Type 0
Row O A = ℕ × Kept O A

module _ {O A : Type 0} where
  abbrev pub row_by : Row O A → Option Object → Option (Row O A)
  row_by row f = option_map (λ (o : Object). (row.0, kept_past row.1 o)) f

  pub past_again : (k : Kept O A) (d c : Object) → IsWithin c d → kept_past (kept_past k d) c ≡ kept_past k c
  past_again k d c within =
      ap (λ (rows : List (ℕ × A)). record k { activations = rows })
      (filter_within (λ (row : ℕ × A). has_activation c row.0) (λ (row : ℕ × A). has_activation d row.0) k.activations
      (all-of (λ (row : ℕ × A). has_activation c row.0 ≡ true → has_activation d row.0 ≡ true) (λ row. within row.0) k.activations))

  -- what is kept by the number of a live object
  pub kept_there : (D : Bones) (id : ℕ) (d : Object) → object_at D id ≡ Some d → (rows : List (Row O A)) → kept_at id (filter_map (kept_row D) rows) ≡ option_map (λ (k : Kept O A). kept_past k d) (kept_at id rows)
  kept_there D id d at [] = refl
  kept_there D id d at (row ∷ rows) = by_tests (row.0 == id) refl (object_at D row.0) refl (kept_there D id d at rows) where
    by_tests : (t : Bool) → (row.0 == id) ≡ t → (f : Option Object) → object_at D row.0 ≡ f → kept_at id (filter_map (kept_row D) rows) ≡ option_map (λ (k : Kept O A). kept_past k d) (kept_at id rows)
        → kept_at id (cons_option (row_by row f) (filter_map (kept_row D) rows)) ≡ option_map (λ (k : Kept O A). kept_past k d) (cond t (Some row.1) (kept_at id rows))
    by_tests true is (Some o) there more =
        let both : Some o ≡ Some d = sym there ∙ ap (object_at D) (eqb-true row.0 id is) ∙ at in
        let same : o ≡ d = cc in
        ap (λ u. cond u (Some (kept_past row.1 o)) (kept_at id (filter_map (kept_row D) rows))) is ∙ ap (λ (q : Object). Some (kept_past row.1 q)) same
    by_tests true is None there more = absurd (let both = sym there ∙ ap (object_at D) (eqb-true row.0 id is) ∙ at in cc both)
    by_tests false is (Some o) there more = ap (λ u. cond u (Some (kept_past row.1 o)) (kept_at id (filter_map (kept_row D) rows))) is ∙ more
    by_tests false is None there more = more

  module _ (D C : Bones) (below : (n : ℕ) → Below (object_at D n) (object_at C n)) where
    abbrev once : List (Row O A) → List (Row O A)
    once rows = filter_map (kept_row D) rows

    abbrev last : List (Row O A) → List (Row O A)
    last rows = filter_map (kept_row C) rows

    pub rows_again : (rows : List (Row O A)) → last (once rows) ≡ last rows
    rows_again [] = refl
    rows_again (row ∷ rows) = by_objects (object_at D row.0) (object_at C row.0) refl (below row.0) (rows_again rows) where
      by_objects : (f g : Option Object) → object_at C row.0 ≡ g → Below f g → last (once rows) ≡ last rows → last (cons_option (row_by row f) (once rows)) ≡ cons_option (row_by row g) (last rows)
      by_objects None None there less more = more
      by_objects (Some d) (Some c) there less more =
          ap (λ (o : Option Object). cons_option (row_by (row.0, kept_past row.1 d) o) (last (once rows))) there
          ∙ ap (λ (k : Kept O A). (row.0, k) ∷ last (once rows)) (past_again row.1 d c less) ∙ ap (λ (rs : List (Row O A)). (row.0, kept_past row.1 c) ∷ rs) more
      by_objects None (Some c) there less more = absurd less
      by_objects (Some d) None there less more = absurd less

    -- a change of what is kept by one number
    module _ (id : ℕ) (g h : Kept O A → Kept O A) (d c : Object) (at_d : object_at D id ≡ Some d) (at_c : object_at C id ≡ Some c) (same : (k : Kept O A) → kept_past (h (kept_past k d)) c ≡ kept_past (g k) c) where
      pub rows_with : (rows : List (Row O A)) → last (with_kept id h (once rows)) ≡ last (with_kept id g rows)
      rows_with [] = refl
      rows_with (row ∷ rows) = by_test (row.0 == id) refl (rows_with rows) where
        apart : (f e : Option Object) → object_at C row.0 ≡ e → Below f e → (row.0 == id) ≡ false → last (with_kept id h (once rows)) ≡ last (with_kept id g rows)
            → last (with_kept id h (cons_option (row_by row f) (once rows))) ≡ cons_option (row_by row e) (last (with_kept id g rows))
        apart None None there less is more = more
        apart (Some u) (Some v) there less is more =
            ap (λ t. last (cond t ((row.0, h (kept_past row.1 u)) ∷ once rows) ((row.0, kept_past row.1 u) ∷ with_kept id h (once rows)))) is
            ∙ ap (λ (o : Option Object). cons_option (row_by (row.0, kept_past row.1 u) o) (last (with_kept id h (once rows)))) there
            ∙ ap (λ (k : Kept O A). (row.0, k) ∷ last (with_kept id h (once rows))) (past_again row.1 u v less) ∙ ap (λ (rs : List (Row O A)). (row.0, kept_past row.1 v) ∷ rs) more
        apart None (Some v) there less is more = absurd less
        apart (Some u) None there less is more = absurd less

        by_test : (t : Bool) → (row.0 == id) ≡ t → last (with_kept id h (once rows)) ≡ last (with_kept id g rows)
            → last (with_kept id h (cons_option (row_by row (object_at D row.0)) (once rows))) ≡ last (cond t ((row.0, g row.1) ∷ rows) (row ∷ with_kept id g rows))
        by_test true is more =
            let number : row.0 ≡ id = eqb-true row.0 id is in
            let there_d : object_at D row.0 ≡ Some d = ap (object_at D) number ∙ at_d in
            let there_c : object_at C row.0 ≡ Some c = ap (object_at C) number ∙ at_c in
            ap (λ (o : Option Object). last (with_kept id h (cons_option (row_by row o) (once rows)))) there_d
            ∙ ap (λ t. last (cond t ((row.0, h (kept_past row.1 d)) ∷ once rows) ((row.0, kept_past row.1 d) ∷ with_kept id h (once rows)))) is
            ∙ ap (λ (o : Option Object). cons_option (row_by (row.0, h (kept_past row.1 d)) o) (last (once rows))) there_c
            ∙ ap (λ (k : Kept O A). (row.0, k) ∷ last (once rows)) (same row.1) ∙ ap (λ (rs : List (Row O A)). (row.0, kept_past (g row.1) c) ∷ rs) (rows_again rows)
            ∙ sym (ap (λ (o : Option Object). cons_option (row_by (row.0, g row.1) o) (last rows)) there_c)
        by_test false is more = apart (object_at D row.0) (object_at C row.0) refl (below row.0) is more
