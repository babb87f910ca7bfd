-- The records of added fields are no more bytes than are counted of the fields.
use Rattle.std.proofs.Common.{◌≡◌, ◌==◌, ◌<◌, ◌≤◌, ◌∙◌, ℕ, ◌+◌, List, [], ◌∷◌, ◌++◌, map, length, Bool, true, false, cond, refl, sym, ap, arith, length-append}
use Rattle.std.specs.Int.{w16, to_be_bytes}
use Rattle.std.specs.List.{flat_map, sum_by}
use Rattle.std.proofs.lemmas.Bool.{eqb-true}
use Rattle.std.proofs.lemmas.Bool.Decides.{nat_tests}
use Rattle.std.proofs.lemmas.List.Sums.{sum_by-cons}
use Rattle.ode_codec.specs.StoredRows.{added_row, referred, sort_number, u32}
use Rattle.ode_value.specs.Changing.{added_to}
use Rattle.ode_value.specs.GoodWorlds.{RiseFrom}
use Rattle.ode_value.specs.Lengths.{value_length}
use Rattle.ode_value.specs.Records.{Row, byte, row_weight, spelled_value, total_weight}
use Rattle.ode_value.specs.Weights.{added_weight}
use Rattle.ode_value.specs.Worlds.{Declared}
use Rattle.ode_value.specs.declared.change.Added.{Added}
use Rattle.ode_value.specs.declared.value.Value.{Value}
use Rattle.ode_value.specs.declared.value.Value.TheVariants as value

pub both_weigh : (xs ys : List Row) → total_weight (xs ++ ys) ≡ total_weight xs + total_weight ys
both_weigh [] ys = omega arith
both_weigh (x ∷ xs) ys = let more = both_weigh xs ys in omega (arith, more)

pub value_weighs : (v : Value) → length (spelled_value v) ≡ value_length v
value_weighs (value.Int n) = refl
value_weighs (value.Bool b) = refl
value_weighs (value.Text t) = omega (arith, length-append (byte 2 ++ to_be_bytes w16 (length t)) t)
value_weighs (value.Reference r) = refl

above : (class n : ℕ) → class < n → (class == n) ≡ false
above class n less = grind (arith, nat_tests, less)

module _ (classes : List Declared) where
  field_weighs : (a : Added) → row_weight (added_row classes a) ≡ added_weight a
  field_weighs a =
      let name = byte (length a.name) ++ a.name in
      omega (
        arith,
        value_weighs a.value,
        length-append (name ++ byte (sort_number a.sort) ++ u32 (referred classes a.sort)) (spelled_value a.value),
        length-append (name ++ byte (sort_number a.sort)) (u32 (referred classes a.sort)),
        length-append name (byte (sort_number a.sort)),
        length-append (byte (length a.name)) a.name,
      )

  -- the records of those of a class
  abbrev own : List Added → Declared → List Row
  own added d = map (added_row classes) (added_to d.class.number added)

  -- class by class
  abbrev all : List Added → List Declared → List Row
  all added ds = flat_map (own added) ds

  -- one field more counts once at most, as the classes' numbers rise
  module _ (a : Added) (added : List Added) where
    abbrev with_one : Bool → Declared → List Row
    with_one b d = map (added_row classes) (cond b (a ∷ added_to d.class.number added) (added_to d.class.number added))

    none_more : (low : ℕ) (ds : List Declared) → a.class < low → RiseFrom low (map (λ (d : Declared). d.class.number) ds) → total_weight (all (a ∷ added) ds) ≡ total_weight (all added ds)
    none_more low [] less rising = refl
    none_more low (d ∷ ds) less rising =
        ap (λ (b : Bool). total_weight (with_one b d ++ all (a ∷ added) ds)) (above a.class d.class.number (omega (arith, less, rising.0)))
        ∙ both_weigh (own added d) (all (a ∷ added) ds)
        ∙ ap (λ (n : ℕ). total_weight (own added d) + n) (none_more (d.class.number + 1) ds (omega (arith, less, rising.0)) rising.1)
        ∙ sym (both_weigh (own added d) (all added ds))

    one_more : (low : ℕ) (ds : List Declared) → RiseFrom low (map (λ (d : Declared). d.class.number) ds) → total_weight (all (a ∷ added) ds) ≤ added_weight a + total_weight (all added ds)
    one_more low [] rising = omega arith
    one_more low (d ∷ ds) rising = by_test (a.class == d.class.number) refl (one_more (d.class.number + 1) ds rising.1) where
      by_test : (b : Bool) → (a.class == d.class.number) ≡ b → total_weight (all (a ∷ added) ds) ≤ added_weight a + total_weight (all added ds)
          → total_weight (with_one b d ++ all (a ∷ added) ds) ≤ added_weight a + total_weight (own added d ++ all added ds)
      by_test true is more =
          let same : a.class ≡ d.class.number = eqb-true a.class d.class.number is in
          let rest = none_more (d.class.number + 1) ds (omega (arith, same)) rising.1 in
          omega (arith, rest, field_weighs a, both_weigh (own added d) (all (a ∷ added) ds), both_weigh (own added d) (all added ds))
      by_test false is more = omega (arith, more, both_weigh (own added d) (all (a ∷ added) ds), both_weigh (own added d) (all added ds))

  none_weigh : (ds : List Declared) → total_weight (all [] ds) ≡ 0
  none_weigh [] = refl
  none_weigh (d ∷ ds) = none_weigh ds

  pub fields_weigh : (added : List Added) → RiseFrom 0 (map (λ (d : Declared). d.class.number) classes) → total_weight (all added classes) ≤ sum_by added_weight added
  fields_weigh [] rising = let none = none_weigh classes in omega (arith, none)
  fields_weigh (a ∷ added) rising =
      let one = one_more a added 0 classes rising in
      let rest = fields_weigh added rising in
      omega (arith, one, rest, sum_by-cons added_weight a added)
