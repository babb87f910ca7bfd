-- The versions of an object with one changed, and without one, by its place in the overlay and by its number in the machine.
use Rattle.std.proofs.Common.{◌≡◌, ◌+◌, ◌<◌, ◌≤◌, ◌==◌, ℕ, suc, List, [], ◌∷◌, Bool, true, false, cond, not, nat_lt, map, length, option_map, position, Option, Some, None, refl, sym, ap, ◌∙◌, arith}
use Rattle.std.proofs.lemmas.Bool.{eqb-true}
use Rattle.std.proofs.lemmas.Bool.Decides.{nat_tests}
use Rattle.std.specs.List.{position_or_len}
use Rattle.ode_objects.specs.Objects.{is_numbered, without_at, written_at}
use Rattle.ode_objects.specs.declared.object.Version.{Version}
use Rattle.ode_overlay_laws.specs.Standing.{version_as}
use Rattle.ode_value.specs.GoodWorlds.{RiseFrom}
use Rattle.ode_value.specs.Making.{with_fields, without_version}
use Rattle.ode_value.specs.Versions as versions
use Rattle.ode_value.specs.declared.value.Value.{Value}

-- ---- the place of the first that passes a test

module _ {X : Type 0} (p : X → Bool) (x : X) (xs : List X) where
  abbrev at : ℕ
  at = position_or_len p xs

  abbrev one_on : ℕ → ℕ
  one_on i = suc i

  first_at : nat_lt 0 (length (x ∷ xs)) ≡ true
  first_at = grind (arith, nat_tests)

  later_at : (b : Bool) → nat_lt at (length xs) ≡ b → nat_lt (1 + at) (length (x ∷ xs)) ≡ b
  later_at true below = grind (arith, nat_tests)
  later_at false above = grind (arith, nat_tests)

  later : (b : Bool) → nat_lt at (length xs) ≡ b → cond b (Some (1 + at)) None ≡ option_map one_on (cond b (Some at) None)
  later true below = let e : 1 + at ≡ suc at = omega arith in ap (λ (i : ℕ). Some i) e
  later false above = refl

  pub position_step : (b : Bool) → p x ≡ b → position p (x ∷ xs) ≡ cond b (Some 0) (option_map one_on (position p xs))
  position_step true is =
      ap (λ (b : Bool). cond (nat_lt (cond (not b) (1 + at) 0) (length (x ∷ xs))) (Some (cond (not b) (1 + at) 0)) None) is
      ∙ ap (λ (b : Bool). cond b (Some 0) None) first_at
  position_step false is =
      ap (λ (b : Bool). cond (nat_lt (cond (not b) (1 + at) 0) (length (x ∷ xs))) (Some (cond (not b) (1 + at) 0)) None) is
      ∙ ap (λ (b : Bool). cond b (Some (1 + at)) None) (later_at (nat_lt at (length xs)) refl)
      ∙ later (nat_lt at (length xs)) refl

-- ---- one version changed

abbrev numbers_of : List versions.Version → List ℕ
numbers_of vs = map (λ (v : versions.Version). v.number) vs

-- a version, with these fields and this stamp where a test is true
abbrev set_where : Bool → ℕ × List Value → Version → versions.Version
set_where b fields v = cond b (record (version_as v) { fields = fields.1; stamp = fields.0 }) (version_as v)

-- a number that is below one
other : (n m : ℕ) → n < m → (m == n) ≡ false
other n m less = grind (arith, nat_tests)

none_changed : (n low : ℕ) (fields : ℕ × List Value) (vs : List Version) → n < low → RiseFrom low (numbers_of (map version_as vs))
    → map (with_fields fields.0 n fields.1) (map version_as vs) ≡ map version_as vs
none_changed n low fields [] less rise = refl
none_changed n low fields (v ∷ vs) less rise =
    let from : low ≤ v.number = rise.0 in
    let off : (v.number == n) ≡ false = other n v.number (omega arith) in
    ap (λ (b : Bool). set_where b fields v ∷ map (with_fields fields.0 n fields.1) (map version_as vs)) off
    ∙ ap (λ (ws : List versions.Version). version_as v ∷ ws) (none_changed n (v.number + 1) fields vs (omega arith) rise.1)

-- a place behind the first one
written_later : (n : ℕ) (fields : ℕ × List Value) (v : Version) (vs : List Version) (at : Option ℕ) → written_at (option_map (λ (i : ℕ). suc i) at) n fields (v ∷ vs) ≡ v ∷ written_at at n fields vs
written_later n fields v vs None = refl
written_later n fields v vs (Some i) = refl

pub written_same : (n low : ℕ) (fields : ℕ × List Value) (vs : List Version) → RiseFrom low (numbers_of (map version_as vs))
    → map (with_fields fields.0 n fields.1) (map version_as vs) ≡ map version_as (written_at (position (is_numbered n) vs) n fields vs)
written_same n low fields [] rise = refl
written_same n low fields (v ∷ vs) rise =
    by_test (v.number == n) refl (written_same n (v.number + 1) fields vs rise.1) ∙ sym (ap (λ (at : Option ℕ). map version_as (written_at at n fields (v ∷ vs))) (position_step (is_numbered n) v vs (v.number == n) refl))
  where
    by_test : (b : Bool) → (v.number == n) ≡ b → map (with_fields fields.0 n fields.1) (map version_as vs) ≡ map version_as (written_at (position (is_numbered n) vs) n fields vs)
        → set_where (v.number == n) fields v ∷ map (with_fields fields.0 n fields.1) (map version_as vs)
        ≡ map version_as (written_at (cond b (Some 0) (option_map (λ (i : ℕ). suc i) (position (is_numbered n) vs))) n fields (v ∷ vs))
    by_test true is rest =
        let same : v.number ≡ n = eqb-true v.number n is in
        ap (λ (b : Bool). set_where b fields v ∷ map (with_fields fields.0 n fields.1) (map version_as vs)) is
        ∙ ap (λ (m : ℕ). record { number = m; parent = v.parent; stamp = fields.0; fields = fields.1 } ∷ map (with_fields fields.0 n fields.1) (map version_as vs)) same
        ∙ ap (λ (ws : List versions.Version). record { number = n; parent = v.parent; stamp = fields.0; fields = fields.1 } ∷ ws) (none_changed n (v.number + 1) fields vs (omega arith) rise.1)
    by_test false is rest =
        ap (λ (b : Bool). set_where b fields v ∷ map (with_fields fields.0 n fields.1) (map version_as vs)) is
        ∙ ap (λ (ws : List versions.Version). version_as v ∷ ws) rest
        ∙ sym (ap (map version_as) (written_later n fields v vs (position (is_numbered n) vs)))

-- ---- without one version

none_gone : (n low : ℕ) (vs : List Version) → n < low → RiseFrom low (numbers_of (map version_as vs)) → without_version n (map version_as vs) ≡ map version_as vs
none_gone n low [] less rise = refl
none_gone n low (v ∷ vs) less rise =
    let from : low ≤ v.number = rise.0 in
    let off : (v.number == n) ≡ false = other n v.number (omega arith) in
    ap (λ (b : Bool). cond (not b) (version_as v ∷ without_version n (map version_as vs)) (without_version n (map version_as vs))) off
    ∙ ap (λ (ws : List versions.Version). version_as v ∷ ws) (none_gone n (v.number + 1) vs (omega arith) rise.1)

without_later : (v : Version) (vs : List Version) (at : Option ℕ) → without_at (option_map (λ (i : ℕ). suc i) at) (v ∷ vs) ≡ v ∷ without_at at vs
without_later v vs None = refl
without_later v vs (Some i) = refl

pub without_same : (n low : ℕ) (vs : List Version) → RiseFrom low (numbers_of (map version_as vs))
    → without_version n (map version_as vs) ≡ map version_as (without_at (position (is_numbered n) vs) vs)
without_same n low [] rise = refl
without_same n low (v ∷ vs) rise =
    by_test (v.number == n) refl (without_same n (v.number + 1) vs rise.1) ∙ sym (ap (λ (at : Option ℕ). map version_as (without_at at (v ∷ vs))) (position_step (is_numbered n) v vs (v.number == n) refl))
  where
    by_test : (b : Bool) → (v.number == n) ≡ b → without_version n (map version_as vs) ≡ map version_as (without_at (position (is_numbered n) vs) vs)
        → cond (not (v.number == n)) (version_as v ∷ without_version n (map version_as vs)) (without_version n (map version_as vs))
        ≡ map version_as (without_at (cond b (Some 0) (option_map (λ (i : ℕ). suc i) (position (is_numbered n) vs))) (v ∷ vs))
    by_test true is rest =
        let same : v.number ≡ n = eqb-true v.number n is in
        ap (λ (b : Bool). cond (not b) (version_as v ∷ without_version n (map version_as vs)) (without_version n (map version_as vs))) is
        ∙ none_gone n (v.number + 1) vs (omega arith) rise.1
    by_test false is rest =
        ap (λ (b : Bool). cond (not b) (version_as v ∷ without_version n (map version_as vs)) (without_version n (map version_as vs))) is
        ∙ ap (λ (ws : List versions.Version). version_as v ∷ ws) rest
        ∙ sym (ap (map version_as) (without_later v vs (position (is_numbered n) vs)))
