-- What is found by a number behind a change, whether it is found or not.
use Rattle.std.proofs.Common.{◌≡◌, ℕ, Bool, true, false, cond, List, [], ◌∷◌, ◌++◌, ◌==◌, Option, Some, None, refl, sym, ap, ◌∙◌}
use Rattle.std.specs.Option.{option_map}
use Rattle.ode_laws.proofs.Rows.{at_changed, at_other}
use Rattle.ode_value.specs.Denoting.{object_numbered}
use Rattle.ode_value.specs.Worlds.{Object, kept_at, with_kept, with_object}

-- the first of two, where there is one
abbrev pub either_of : {X : Type 0} → Option X → Option X → Option X
either_of (Some x) more = Some x
either_of None more = more

-- a change of what has another number
pub not_this : {X : Type 0} (t : Bool) (g : X → X) (o : Option X) → t ≡ false → option_map (λ x. cond t (g x) x) o ≡ o
not_this t g None is = refl
not_this t g (Some x) is = ap (λ b. Some (cond b (g x) x)) is

pub numbered_with : (n id : ℕ) (g : Object → Object) → ((o : Object) → (g o).id ≡ o.id) → (os : List Object)
    → object_numbered n (with_object id g os) ≡ option_map (λ o. cond (n == id) (g o) o) (object_numbered n os)
numbered_with n id g same [] = refl
numbered_with n id g same (p ∷ os) = by_tests (p.id == id) (p.id == n) refl refl (numbered_with n id g same os) where
  chosen : Object → Object
  chosen o = cond (n == id) (g o) o

  by_tests : (a b : Bool) → (p.id == id) ≡ a → (p.id == n) ≡ b → object_numbered n (with_object id g os) ≡ option_map chosen (object_numbered n os)
      → object_numbered n (cond a (g p ∷ os) (p ∷ with_object id g os)) ≡ option_map chosen (cond b (Some p) (object_numbered n os))
  by_tests true true e h rest =
      ap (λ t. cond t (Some (g p)) (object_numbered n os)) (ap (λ i. i == n) (same p) ∙ h) ∙ ap (λ t. Some (cond t (g p) p)) (sym (at_changed p.id n id true e h))
  by_tests true false e h rest =
      ap (λ t. cond t (Some (g p)) (object_numbered n os)) (ap (λ i. i == n) (same p) ∙ h) ∙ sym (not_this (n == id) g (object_numbered n os) (at_other p.id n id e h))
  by_tests false true e h rest = ap (λ t. cond t (Some p) (object_numbered n (with_object id g os))) h ∙ ap (λ t. Some (cond t (g p) p)) (sym (at_changed p.id n id false e h))
  by_tests false false e h rest = ap (λ t. cond t (Some p) (object_numbered n (with_object id g os))) h ∙ rest

pub kept_with : {K : Type 0} (n id : ℕ) (g : K → K) (rows : List (ℕ × K)) → kept_at n (with_kept id g rows) ≡ option_map (λ k. cond (n == id) (g k) k) (kept_at n rows)
kept_with n id g [] = refl
kept_with {K} n id g (row ∷ rows) = by_tests (row.0 == id) (row.0 == n) refl refl (kept_with n id g rows) where
  chosen : K → K
  chosen k = cond (n == id) (g k) k

  by_tests : (a b : Bool) → (row.0 == id) ≡ a → (row.0 == n) ≡ b → kept_at n (with_kept id g rows) ≡ option_map chosen (kept_at n rows)
      → kept_at n (cond a ((row.0, g row.1) ∷ rows) (row ∷ with_kept id g rows)) ≡ option_map chosen (cond b (Some row.1) (kept_at n rows))
  by_tests true true e h rest = ap (λ t. cond t (Some (g row.1)) (kept_at n rows)) h ∙ ap (λ t. Some (cond t (g row.1) row.1)) (sym (at_changed row.0 n id true e h))
  by_tests true false e h rest = ap (λ t. cond t (Some (g row.1)) (kept_at n rows)) h ∙ sym (not_this (n == id) g (kept_at n rows) (at_other row.0 n id e h))
  by_tests false true e h rest = ap (λ t. cond t (Some row.1) (kept_at n (with_kept id g rows))) h ∙ ap (λ t. Some (cond t (g row.1) row.1)) (sym (at_changed row.0 n id false e h))
  by_tests false false e h rest = ap (λ t. cond t (Some row.1) (kept_at n (with_kept id g rows))) h ∙ rest

pub numbered_append : (n : ℕ) (os more : List Object) → object_numbered n (os ++ more) ≡ either_of (object_numbered n os) (object_numbered n more)
numbered_append n [] more = refl
numbered_append n (o ∷ os) more = by_test (o.id == n) (numbered_append n os more) where
  by_test : (b : Bool) → object_numbered n (os ++ more) ≡ either_of (object_numbered n os) (object_numbered n more)
      → cond b (Some o) (object_numbered n (os ++ more)) ≡ either_of (cond b (Some o) (object_numbered n os)) (object_numbered n more)
  by_test true rest = refl
  by_test false rest = rest

pub kept_append : {K : Type 0} (n : ℕ) (rows more : List (ℕ × K)) → kept_at n (rows ++ more) ≡ either_of (kept_at n rows) (kept_at n more)
kept_append n [] more = refl
kept_append n (row ∷ rows) more = by_test (row.0 == n) (kept_append n rows more) where
  by_test : (b : Bool) → kept_at n (rows ++ more) ≡ either_of (kept_at n rows) (kept_at n more)
      → cond b (Some row.1) (kept_at n (rows ++ more)) ≡ either_of (cond b (Some row.1) (kept_at n rows)) (kept_at n more)
  by_test true rest = refl
  by_test false rest = rest

pub either_none : {X : Type 0} (o : Option X) → either_of o None ≡ o
either_none None = refl
either_none (Some x) = refl
