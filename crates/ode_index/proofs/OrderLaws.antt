-- The order of values is total, and values that it holds equal are equal.
use Rattle.std.proofs.Common.{◌≡◌, ℕ, ℤ, pos, List, [], ◌∷◌, refl, sym, ap, ◌∙◌, arith}
use Rattle.std.proofs.lemmas.Cmp.{int_cmp_total, nat_cmp_total, nat_list_cmp_total, on_total, then_total}
use Rattle.std.proofs.lemmas.Map.Lookups.{exact_bytes, exact_signed, exact_unsigned}
use Rattle.std.specs.Cmp.{IsTotalOrder}
use Rattle.std.specs.Cmp.Lexicographic.{slice_cmp}
use Rattle.std.specs.Ordering.{int_cmp, nat_cmp, on, ordering_reverse, ordering_then, then_cmp}
use Rattle.std.specs.Prelude.{true, false, cond, Option, Some, None}
use Rattle.std.specs.declared.cmp.Ordering.{Ordering}
use Rattle.std.specs.declared.cmp.Ordering.TheVariants.{Less, Equal, Greater}
use Rattle.ode_value.specs.declared.value.Ref.{Ref}
use Rattle.ode_value.specs.declared.value.Value.{Value}
use Rattle.ode_value.specs.declared.value.Value.TheVariants as value
use Rattle.ode_index.specs.Order.{ref_cmp, sort_place, value_cmp, version_place}

-- ---- the order, by parts that each value has

abbrev number_in : Value → ℤ
number_in (value.Int n) = n
number_in (value.Bool b) = pos (cond b 1 0)
number_in (value.Text t) = pos 0
number_in (value.Reference r) = pos 0

abbrev letters_in : Value → List ℕ
letters_in (value.Int n) = []
letters_in (value.Bool b) = []
letters_in (value.Text t) = t
letters_in (value.Reference r) = r.object ∷ version_place r.version ∷ []

abbrev by_parts : Value → Value → Ordering
by_parts = then_cmp (on sort_place nat_cmp) (then_cmp (on number_in int_cmp) (on letters_in (slice_cmp nat_cmp)))

parts_total : IsTotalOrder by_parts
parts_total = then_total (on_total sort_place nat_cmp_total) (then_total (on_total number_in int_cmp_total) (on_total letters_in nat_list_cmp_total))

then_equal : (o : Ordering) → o ≡ ordering_then o Equal
then_equal Less = refl
then_equal Equal = refl
then_equal Greater = refl

parts_same : (v w : Value) → value_cmp v w ≡ by_parts v w
unfolding value_cmp
parts_same (value.Int m) (value.Int n) = then_equal (int_cmp m n)
parts_same (value.Int m) (value.Bool c) = refl
parts_same (value.Int m) (value.Text t) = refl
parts_same (value.Int m) (value.Reference s) = refl
parts_same (value.Bool b) (value.Int n) = refl
parts_same (value.Bool true) (value.Bool true) = refl
parts_same (value.Bool true) (value.Bool false) = refl
parts_same (value.Bool false) (value.Bool true) = refl
parts_same (value.Bool false) (value.Bool false) = refl
parts_same (value.Bool b) (value.Text t) = refl
parts_same (value.Bool b) (value.Reference s) = refl
parts_same (value.Text s) (value.Int n) = refl
parts_same (value.Text s) (value.Bool c) = refl
parts_same (value.Text s) (value.Text t) = refl
parts_same (value.Text s) (value.Reference r) = refl
parts_same (value.Reference r) (value.Int n) = refl
parts_same (value.Reference r) (value.Bool c) = refl
parts_same (value.Reference r) (value.Text t) = refl
parts_same (value.Reference r) (value.Reference s) =
    ap (ordering_then (nat_cmp r.object s.object)) (then_equal (nat_cmp (version_place r.version) (version_place s.version)))

same_total : {K : Type 0} (R S : K → K → Ordering) → ((x y : K) → R x y ≡ S x y) → IsTotalOrder S → IsTotalOrder R
same_total R S same o = record {
  antisymm = λ x y. same x y ∙ o.antisymm x y ∙ ap ordering_reverse (sym (same y x));
  trans = λ x y z f g. same x z ∙ o.trans x y z (sym (same x y) ∙ f) (sym (same y z) ∙ g);
  congr = λ x y z f. same x z ∙ o.congr x y z (sym (same x y) ∙ f) ∙ sym (same y z);
}

pub value_total : IsTotalOrder value_cmp
value_total = same_total value_cmp by_parts parts_same parts_total

-- ---- values that it holds equal

then_first : (r s : Ordering) → ordering_then r s ≡ Equal → r ≡ Equal
then_first Less s e = e
then_first Equal s e = refl
then_first Greater s e = e

then_second : (r s : Ordering) → ordering_then r s ≡ Equal → s ≡ Equal
then_second Less s e = absurd (cc (e))
then_second Equal s e = e
then_second Greater s e = absurd (cc (e))

same_places : (m n : Option ℕ) → version_place m ≡ version_place n → m ≡ n
same_places None None e = refl
same_places None (Some n) e = absurd (omega (arith, e))
same_places (Some m) None e = absurd (omega (arith, e))
same_places (Some m) (Some n) e = let is : m ≡ n = omega (arith, e) in ap (λ k. Some k) is

same_refs : (r s : Ref) → ref_cmp r s ≡ Equal → r ≡ s
same_refs r s e =
    let objects = nat_cmp r.object s.object in
    let versions = nat_cmp (version_place r.version) (version_place s.version) in
    let object : r.object ≡ s.object = exact_unsigned r.object s.object (then_first objects versions e) in
    let version : r.version ≡ s.version = same_places r.version s.version (exact_unsigned _ _ (then_second objects versions e)) in
    λ i. record { object = object i; version = version i }

pub equal_values : (v w : Value) → value_cmp v w ≡ Equal → v ≡ w
unfolding value_cmp
equal_values (value.Int m) (value.Int n) e = ap (λ k. value.Int k) (exact_signed m n e)
equal_values (value.Int m) (value.Bool c) e = absurd (cc (e))
equal_values (value.Int m) (value.Text t) e = absurd (cc (e))
equal_values (value.Int m) (value.Reference s) e = absurd (cc (e))
equal_values (value.Bool b) (value.Int n) e = absurd (cc (e))
equal_values (value.Bool true) (value.Bool true) e = refl
equal_values (value.Bool true) (value.Bool false) e = absurd (cc (e))
equal_values (value.Bool false) (value.Bool true) e = absurd (cc (e))
equal_values (value.Bool false) (value.Bool false) e = refl
equal_values (value.Bool b) (value.Text t) e = absurd (cc (e))
equal_values (value.Bool b) (value.Reference s) e = absurd (cc (e))
equal_values (value.Text s) (value.Int n) e = absurd (cc (e))
equal_values (value.Text s) (value.Bool c) e = absurd (cc (e))
equal_values (value.Text s) (value.Text t) e = ap (λ k. value.Text k) (exact_bytes s t e)
equal_values (value.Text s) (value.Reference r) e = absurd (cc (e))
equal_values (value.Reference r) (value.Int n) e = absurd (cc (e))
equal_values (value.Reference r) (value.Bool c) e = absurd (cc (e))
equal_values (value.Reference r) (value.Text t) e = absurd (cc (e))
equal_values (value.Reference r) (value.Reference s) e = ap (λ k. value.Reference k) (same_refs r s e)
