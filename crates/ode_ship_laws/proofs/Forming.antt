-- What a primary keeps of a settled transaction is a frame of the form.
use Rattle.std.proofs.Common.{◌≡◌, ◌+◌, ◌≤◌, ℕ, Bool, true, false, cond, if◌then◌else◌, IsTrue, length, map, List, [], ◌∷◌, Option, Some, None, refl, sym, ◌∙◌, ap, arith}
use Rattle.std.proofs.lemmas.Cmp.{eq_by_cmp_equiv, tied_itself}
use Rattle.std.proofs.lemmas.Map.{lookup-none}
use Rattle.std.proofs.lemmas.Map.Entries.{none_past_head}
use Rattle.std.specs.BTreeMap.{is_at}
use Rattle.std.specs.List.{AllByRecursion}
use Rattle.std.specs.List.Sorted.{IsStrictlySortedBy}
use Rattle.std.specs.Map.{lookup}
use Rattle.std.specs.Option.{IfSome, is_some, unwrap_or}
use Rattle.std.specs.Ordering.{is_eq}
use Rattle.ode_codec.specs.Reading.{record_under}
use Rattle.ode_codec.specs.Standing.{HoldsWorld}
use Rattle.ode_keep.proofs.Applying.{applied_at, changed_at}
use Rattle.ode_keep.proofs.Keys.{distinct_keys, key_total}
use Rattle.ode_keep.proofs.Lengths.{IsShortChange, short_each}
use Rattle.ode_keep.specs.Entries.{Changes, Entries, HasRisingKeys, applied, changed, value_under}
use Rattle.ode_keep.specs.Payloads.{FitsChange}
use Rattle.ode_keep.specs.Snapshots.{FitsKey}
use Rattle.ode_keep.specs.declared.limits.TheConstants.{MAX_PAGED_BYTES, MAX_VALUE}
use Rattle.ode_language.specs.Languages.{ode}
use Rattle.ode_number_laws.specs.Counting.{CountUp}
use Rattle.ode_ship.specs.Frames.{FitsFrame, IsFrame, IsShipped, IsStored, next_by, next_told}
use Rattle.ode_ship_laws.specs.Worlds.{world_of}
use Rattle.ode_standby.specs.Courses.{next_of}
use Rattle.ode_standby.specs.Primary.{ShippedFrom}
use Rattle.ode_transact.proofs.RecordLaws.{records_are_light}
use Rattle.ode_transact.specs.Logging.{AreKept, AreOf, Kept}
use Rattle.ode_value.specs.Keys.{counters_key, key_cmp}
use Rattle.ode_value.specs.Language.{ListWorld, Settlings}
use Rattle.ode_value.specs.declared.key.Key.{Key}

-- ---- the value under each key

later_rise : (c : Key × Option (List ℕ)) (cs : Changes) → HasRisingKeys (c ∷ cs) → HasRisingKeys cs
unfolding IsStrictlySortedBy
later_rise c cs rising = rising.1

itself : (k : Key) → is_at (key_cmp k) k ≡ true
itself k = ap is_eq (tied_itself key_total k)

-- no later change has the key of the first
none_later : (c : Key × Option (List ℕ)) (cs : Changes) → HasRisingKeys (c ∷ cs) → lookup (is_at (key_cmp c.0)) cs ≡ None
none_later c cs rising = lookup-none (is_at (key_cmp c.0)) cs (none_past_head (eq_by_cmp_equiv key_total) c.0 c cs (distinct_keys (c ∷ cs) rising) (itself c.0))

-- behind changes with rising keys each has left its own
first_stays : (c : Key × Option (List ℕ)) (cs : Changes) (entries : Entries) → HasRisingKeys (c ∷ cs) → value_under (applied cs (changed entries c.0 c.1)) c.0 ≡ c.1
first_stays c cs entries rising =
    applied_at c.0 cs (changed entries c.0 c.1) (later_rise c cs rising)
    ∙ ap (λ (found : Option (Option (List ℕ))). unwrap_or found (value_under (changed entries c.0 c.1) c.0)) (none_later c cs rising)
    ∙ changed_at entries c.0 c.1 c.0
    ∙ ap (λ (b : Bool). cond b c.1 (value_under entries c.0)) (itself c.0)

all_stay : (cs : Changes) (entries : Entries) → HasRisingKeys cs → AllByRecursion (λ (c : Key × Option (List ℕ)). value_under (applied cs entries) c.0 ≡ c.1) cs
all_stay [] entries rising = tt
all_stay (c ∷ cs) entries rising = (first_stays c cs entries rising, all_stay cs (changed entries c.0 c.1) (later_rise c cs rising))

-- ---- the form

-- what stands in records is a record
abbrev Decode : Entries → Type 0
Decode entries = (k : Key) (v : List ℕ) → FitsKey k → value_under entries k ≡ Some v → IsTrue (is_some (record_under k v))

stored : (entries : Entries) → Decode entries → (k : Key) (w : Option (List ℕ)) → FitsKey k → IfSome w (λ v. length v ≤ MAX_VALUE) → value_under entries k ≡ w → IsStored k w
stored entries decode k None fits short is = tt
stored entries decode k (Some v) fits short is = (short, decode k v fits is)

each_shipped : (entries : Entries) → Decode entries → (cs : Changes) → AllByRecursion FitsChange cs → AllByRecursion IsShortChange cs → AllByRecursion (λ (c : Key × Option (List ℕ)). value_under entries c.0 ≡ c.1) cs → AllByRecursion IsShipped cs
each_shipped entries decode [] fit short stay = tt
each_shipped entries decode (c ∷ cs) fit short stay =
    (record { fits = fit.0; stored = stored entries decode c.0 c.1 fit.0.key short.0 stay.0 }, each_shipped entries decode cs fit.1 short.1 stay.1)

told_at : (b : Bool) (w found : Option (List ℕ)) (rest : Option (Option (List ℕ))) (told : Option ℕ) (n : ℕ) → (next_by (unwrap_or rest found) ≡ Some n → told ≡ Some n)
    → next_by (unwrap_or (cond b (Some w) rest) found) ≡ Some n → (if b then next_by w else told) ≡ Some n
told_at true w found rest told n later is = is
told_at false w found rest told n later is = later is

-- changes behind which the next number is another tell it
told : (cs : Changes) (found : Option (List ℕ)) (n : ℕ) → (next_by found ≡ Some n → ⊥) → next_by (unwrap_or (lookup (is_at (key_cmp counters_key)) cs) found) ≡ Some n → next_told cs ≡ Some n
told [] found n other is = absurd (other is)
told (c ∷ cs) found n other is =
    told_at (is_at (key_cmp counters_key) c.0) c.1 found (lookup (is_at (key_cmp counters_key)) cs) (next_told cs) n (told cs found n other) is

not_next : (m n : ℕ) → Some m ≡ Some n → n ≡ m + 1 → ⊥
not_next m n is more = let same : m ≡ n = cc (is) in absurd (omega (arith, same, more))

module _ (tells : (entries : Entries) (w : ListWorld) → HoldsWorld ode entries w → next_of entries ≡ Some w.bones.transaction)
    (decodes : (entries : Entries) (w : ListWorld) (k : Key) (v : List ℕ) → AreOf ode entries w → FitsKey k → value_under entries k ≡ Some v → IsTrue (is_some (record_under k v))) where
  formed : (w v : ListWorld) (entries : Entries) (k : Kept) → AreOf ode entries w → k.0 ≡ w.bones.transaction → AreOf ode (applied k.1 entries) v → v.bones.transaction ≡ w.bones.transaction + 1 → FitsFrame k → IsFrame k
  formed w v entries k before numbered after up fits =
      let old : next_of entries ≡ Some k.0 = tells entries w before.0 ∙ ap Some (sym numbered) in
      let new : v.bones.transaction ≡ k.0 + 1 = omega (arith, up, numbered) in
      let next : next_by (unwrap_or (lookup (is_at (key_cmp counters_key)) k.1) (value_under entries counters_key)) ≡ Some (k.0 + 1) =
      ap next_by (sym (applied_at counters_key k.1 entries fits.rising)) ∙ tells (applied k.1 entries) v after.0 ∙ ap Some new in
      record {
        number = fits.number;
        few = fits.few;
        each = each_shipped (applied k.1 entries) (λ q x. decodes (applied k.1 entries) v q x after) k.1 fits.each (short_each k.1 fits.short) (all_stay k.1 entries fits.rising);
        rising = fits.rising;
        next = told k.1 (value_under entries counters_key) (k.0 + 1) (λ same. not_next k.0 (k.0 + 1) (sym old ∙ same) refl) next;
      }

  pub kept_shipped : (w : ListWorld) (entries : Entries) (settled : Settlings) (kept : List Kept) → AreOf ode entries w → AreKept ode w entries settled kept → CountUp w.bones.transaction (map world_of settled) → AllByRecursion FitsFrame kept
      → ShippedFrom MAX_PAGED_BYTES entries kept
  kept_shipped w entries [] [] before are up fit = tt
  kept_shipped w entries [] (k ∷ kept) before are up fit = absurd are
  kept_shipped w entries (s ∷ settled) [] before are up fit = absurd are
  kept_shipped w entries (s ∷ settled) (k ∷ kept) before are up fit = (
    formed w s.0 entries k before are.0 are.1 up.0 fit.0,
    tells entries w before.0 ∙ ap Some (sym are.0),
    records_are_light ode (applied k.1 entries) s.0 are.1.0,
    kept_shipped s.0 (applied k.1 entries) settled kept are.1 are.2 up.1 fit.1,
  )
