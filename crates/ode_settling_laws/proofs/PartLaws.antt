-- What stands under the keys of one object.
use Rattle.std.proofs.Common.{◌≡◌, ◌==◌, ℕ, ◌+◌, ◌<◌, ◌≤◌, List, [], ◌∷◌, map, Bool, true, false, cond, Option, Some, None, refl, sym, ap, ◌∙◌, arith}
use Rattle.std.proofs.lemmas.Bool.{eqb-true}
use Rattle.std.proofs.lemmas.Bool.Decides.{nat_tests}
use Rattle.std.specs.Prelude.{◌||◌}
use Rattle.std.specs.BTreeMap.{is_at}
use Rattle.std.specs.List.{AllByRecursion, filter, find, list_any}
use Rattle.std.specs.Option.{option_and_then, option_map, unwrap_or}
use Rattle.ode_codec.specs.StoredRows.{activation_row}
use Rattle.ode_keep.specs.Entries.{value_under}
use Rattle.ode_laws.proofs.BornLaws.{HasAll}
use Rattle.ode_laws.proofs.Rows.{find-map}
use Rattle.ode_objects.specs.Objects.{has_number, is_numbered, stamp_of, values_of}
use Rattle.ode_objects.specs.declared.object.Active.{Active}
use Rattle.ode_objects.specs.declared.object.Fields.{Fields}
use Rattle.ode_objects.specs.declared.object.Fields.TheVariants.{Read, Written}
use Rattle.ode_objects.specs.declared.object.Version.{Version}
use Rattle.ode_overlay_laws.specs.Standing.{active_as, version_as}
use Rattle.ode_settling_laws.specs.Formed.{IsNewest, active_value, stored_values, version_value}
use Rattle.ode_value.specs.Fields.{born_values}
use Rattle.ode_value.specs.GoodWorlds.{RiseFrom}
use Rattle.ode_value.specs.Keeping.{is_active}
use Rattle.ode_value.specs.Keys.{activation_key, key_cmp, version_key}
use Rattle.ode_value.specs.Objects.{Activation}
use Rattle.ode_value.specs.Records.{Row, version_bytes, version_row}
use Rattle.ode_value.specs.Versions as machine
use Rattle.ode_value.specs.Worlds.{kept_at}
use Rattle.ode_value.specs.declared.class.Field.{Field}

-- ---- versions

version_at : (id n m : ℕ) (b : Bool) → (m == n) ≡ b → is_at (key_cmp (version_key id n)) (version_key id m) ≡ b
version_at id n m true is = grind (arith, nat_tests)
version_at id n m false is = grind (arith, nat_tests)

-- a version's record has its values as the definition of records has them
abbrev pub HasStored : List Field → Version → Type 0
HasStored fields v = born_values (stamp_of v.fields) fields (values_of v.fields) ≡ stored_values fields v.fields

-- a version with the newest stamp has all values in its record
abbrev pub HasAllIfNewest : ℕ → List Field → machine.Version → Type 0
HasAllIfNewest newest fields v = v.stamp ≡ newest → HasAll fields v

-- so does one of which what was written has that stamp have its values as it is stored
stored_by : (newest : ℕ) (fields : List Field) (f : Fields) → (stamp_of f ≡ newest → born_values (stamp_of f) fields (values_of f) ≡ values_of f) → IsNewest newest f
    → born_values (stamp_of f) fields (values_of f) ≡ stored_values fields f
stored_by newest fields (Read stamp values) all is = refl
stored_by newest fields (Written kept) all is = all is

pub all_stored : (newest : ℕ) (fields : List Field) (vs : List Version) → AllByRecursion (HasAllIfNewest newest fields) (map version_as vs)
    → AllByRecursion (λ (v : Version). IsNewest newest v.fields) vs → AllByRecursion (HasStored fields) vs
all_stored newest fields [] all are = tt
all_stored newest fields (v ∷ vs) all are = (stored_by newest fields v.fields all.0 are.0, all_stored newest fields vs all.1 are.1)

module _ (id n : ℕ) (fields : List Field) where
  abbrev row_of : Version → Row
  row_of v = version_row id fields (version_as v)

  version_spelled : (v : Version) → HasStored fields v → (row_of v).1 ≡ version_value fields v
  version_spelled v stored = ap (version_bytes (unwrap_or v.parent 0) (stamp_of v.fields)) stored

  pub versions_stand : (vs : List Version) → AllByRecursion (HasStored fields) vs
      → value_under (map (version_row id fields) (map version_as vs)) (version_key id n) ≡ option_map (version_value fields) (find (is_numbered n) vs)
  versions_stand [] stored = refl
  versions_stand (v ∷ vs) stored =
      ap (λ b. cond b (Some (row_of v).1) (value_under (map (version_row id fields) (map version_as vs)) (version_key id n))) (version_at id n v.number (v.number == n) refl)
      ∙ by_test (v.number == n) (version_spelled v stored.0) (versions_stand vs stored.1) where
        by_test : (b : Bool) → (row_of v).1 ≡ version_value fields v → value_under (map (version_row id fields) (map version_as vs)) (version_key id n) ≡ option_map (version_value fields) (find (is_numbered n) vs)
            → cond b (Some (row_of v).1) (value_under (map (version_row id fields) (map version_as vs)) (version_key id n)) ≡ option_map (version_value fields) (cond b (Some v) (find (is_numbered n) vs))
        by_test true same more = ap (λ (bytes : List ℕ). Some bytes) same
        by_test false same more = more

-- ---- activations

abbrev pub of_number : ℕ → Activation → Bool
of_number n a = a.number == n

abbrev pub number_of : Activation → ℕ
number_of a = a.number

activation_at : (id n m : ℕ) (b : Bool) → (m == n) ≡ b → is_at (key_cmp (activation_key id n)) (activation_key id m) ≡ b
activation_at id n m true is = grind (arith, nat_tests)
activation_at id n m false is = grind (arith, nat_tests)

-- by what is kept of their states
pub activations_stand : (id n : ℕ) (state : ℕ → ℕ) (acts : List Activation)
    → value_under (map (λ (a : Activation). activation_row id (state a.number) a) acts) (activation_key id n)
    ≡ option_map (λ (a : Activation). (activation_row id (state a.number) a).1) (find (of_number n) acts)
activations_stand id n state [] = refl
activations_stand id n state (a ∷ acts) =
    ap (λ b. cond b (Some (activation_row id (state a.number) a).1) (value_under (map (λ (c : Activation). activation_row id (state c.number) c) acts) (activation_key id n)))
    (activation_at id n a.number (a.number == n) refl)
    ∙ by_test (a.number == n) (activations_stand id n state acts) where
      by_test : (b : Bool) → value_under (map (λ (c : Activation). activation_row id (state c.number) c) acts) (activation_key id n)
          ≡ option_map (λ (c : Activation). (activation_row id (state c.number) c).1) (find (of_number n) acts)
          → cond b (Some (activation_row id (state a.number) a).1) (value_under (map (λ (c : Activation). activation_row id (state c.number) c) acts) (activation_key id n))
          ≡ option_map (λ (c : Activation). (activation_row id (state c.number) c).1) (cond b (Some a) (find (of_number n) acts))
      by_test true more = refl
      by_test false more = more

-- of activations whose numbers rise, one that is on
abbrev pub only_on : Activation → Option Activation
only_on a = cond a.on (Some a) None

is_same : (a b : ℕ) → (a == b) ≡ true → a ≡ b
is_same a b is = grind (arith, nat_tests)

is_above : (a b low : ℕ) → a < low → low ≤ b → (b == a) ≡ false
is_above a b low less up = grind (arith, nat_tests)

none_later : (n low : ℕ) (acts : List Activation) → n < low → RiseFrom low (map number_of acts) → find (of_number n) acts ≡ None
none_later n low [] less rise = refl
none_later n low (a ∷ acts) less rise =
    let up : low ≤ a.number = rise.0 in
    ap (λ b. cond b (Some a) (find (of_number n) acts)) (is_above n a.number low less up) ∙ none_later n (a.number + 1) acts (omega arith) rise.1

pub found_on : (n low : ℕ) (acts : List Activation) → RiseFrom low (map number_of acts) → find (of_number n) (filter is_active acts) ≡ option_and_then only_on (find (of_number n) acts)
found_on n low [] rise = refl
found_on n low (a ∷ acts) rise = by_tests a.on (a.number == n) refl (found_on n (a.number + 1) acts rise.1) where
  none : (a.number == n) ≡ true → find (of_number n) (filter is_active acts) ≡ option_and_then only_on (find (of_number n) acts) → find (of_number n) (filter is_active acts) ≡ None
  none is more =
      let same : a.number ≡ n = is_same a.number n is in
      more ∙ ap (option_and_then only_on) (none_later n (a.number + 1) acts (omega arith) rise.1)

  by_tests : (on b : Bool) → (a.number == n) ≡ b → find (of_number n) (filter is_active acts) ≡ option_and_then only_on (find (of_number n) acts)
      → find (of_number n) (cond on (record a { on = on } ∷ filter is_active acts) (filter is_active acts)) ≡ option_and_then only_on (cond b (Some (record a { on = on })) (find (of_number n) acts))
  by_tests true true is more = ap (λ t. cond t (Some (record a { on = true })) (find (of_number n) (filter is_active acts))) is
  by_tests false true is more = none is more
  by_tests true false is more = ap (λ t. cond t (Some (record a { on = true })) (find (of_number n) (filter is_active acts))) is ∙ more
  by_tests false false is more = more

any_found : (n : ℕ) (acts : List Activation) (a : Activation) → find (of_number n) acts ≡ Some a → list_any (of_number n) acts ≡ true
any_found n [] a is = absurd (cc)
any_found n (b ∷ acts) a is = by_test (of_number n b) is (any_found n acts a) where
  by_test : (t : Bool) → cond t (Some b) (find (of_number n) acts) ≡ Some a → (find (of_number n) acts ≡ Some a → list_any (of_number n) acts ≡ true) → (t || list_any (of_number n) acts) ≡ true
  by_test true e more = refl
  by_test false e more = more e

pub number_found : (n : ℕ) (acts : List Active) (a : Active) → find (has_number n) acts ≡ Some a → a.number ≡ n
number_found n [] a is = absurd (cc)
number_found n (b ∷ acts) a is = by_test (b.number == n) refl is (number_found n acts a) where
  by_test : (t : Bool) → (b.number == n) ≡ t → cond t (Some b) (find (has_number n) acts) ≡ Some a → (find (has_number n) acts ≡ Some a → a.number ≡ n) → a.number ≡ n
  by_test true test e more = let same : b ≡ a = cc in ap (λ (c : Active). c.number) (sym same) ∙ eqb-true b.number n test
  by_test false test e more = more e

-- the state of the one of a number
pub state_found : (n : ℕ) (acts : List Active) → kept_at n (map (λ (a : Active). (a.number, a.state)) acts) ≡ option_map (λ (a : Active). a.state) (find (has_number n) acts)
state_found n [] = refl
state_found n (a ∷ acts) = by_test (a.number == n) (state_found n acts) where
  by_test : (t : Bool) → kept_at n (map (λ (b : Active). (b.number, b.state)) acts) ≡ option_map (λ (b : Active). b.state) (find (has_number n) acts)
      → cond t (Some a.state) (kept_at n (map (λ (b : Active). (b.number, b.state)) acts)) ≡ option_map (λ (b : Active). b.state) (cond t (Some a) (find (has_number n) acts))
  by_test true more = refl
  by_test false more = more

-- those of a tracked object that are on, with their states
module _ (id n : ℕ) (state : ℕ → ℕ) (acts : List Active) (rise : RiseFrom 0 (map number_of (map active_as acts)))
    (states : (m : ℕ) → list_any (of_number m) (filter is_active (map active_as acts)) ≡ true → state m ≡ unwrap_or (kept_at m (map (λ (a : Active). (a.number, a.state)) acts)) 0) where
  abbrev active : List Activation
  active = filter is_active (map active_as acts)

  abbrev spelled : Activation → List ℕ
  spelled a = (activation_row id (state a.number) a).1

  found : find (of_number n) active ≡ option_and_then only_on (option_map active_as (find (has_number n) acts))
  found = found_on n 0 (map active_as acts) rise ∙ ap (option_and_then only_on) (find-map (has_number n) (of_number n) active_as (λ a. refl) acts)

  by_on : (a : Active) → find (has_number n) acts ≡ Some a → (on : Bool) → a.on ≡ on → option_map spelled (cond on (Some (active_as a)) None) ≡ cond on (Some (activation_row id a.state (active_as a)).1) None
  by_on a is false off = refl
  by_on a is true on =
      let there : find (of_number n) active ≡ Some (active_as a) =
      found ∙ ap (λ (f : Option Active). option_and_then only_on (option_map active_as f)) is ∙ ap (λ t. cond t (Some (active_as a)) None) on in
      let is_state : state n ≡ a.state =
      states n (any_found n active (active_as a) there)
      ∙ ap (λ (m : Option ℕ). unwrap_or m 0) (state_found n acts ∙ ap (λ (f : Option Active). option_map (λ (b : Active). b.state) f) is) in
      ap (λ m. Some (activation_row id m (active_as a)).1) (ap state (number_found n acts a is) ∙ is_state)

  by_found : (f : Option Active) → find (has_number n) acts ≡ f → option_map spelled (option_and_then only_on (option_map active_as f)) ≡ option_and_then (active_value id) f
  by_found None is = refl
  by_found (Some a) is = by_on a is a.on refl

  pub actives_stand : value_under (map (λ (a : Activation). activation_row id (state a.number) a) active) (activation_key id n) ≡ option_and_then (active_value id) (find (has_number n) acts)
  actives_stand = activations_stand id n state active ∙ ap (λ (f : Option Activation). option_map spelled f) found ∙ by_found (find (has_number n) acts) refl
