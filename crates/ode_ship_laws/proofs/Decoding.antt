-- Records that an opening accepts decode.
use Rattle.std.proofs.Common.{◌≡◌, ℕ, Bool, true, false, cond, List, [], ◌∷◌, Option, Some, None, Ok, Err, refl, sym, ◌∙◌, ap, arith}
use Rattle.std.proofs.lemmas.Bool.Decides.{nat_tests}
use Rattle.std.proofs.lemmas.Map.Entries.{lookup-filter-keys}
use Rattle.std.specs.BTreeMap.{is_at}
use Rattle.std.specs.Option.{is_some}
use Rattle.ode_codec.specs.Reading.{record_under}
use Rattle.ode_codec.specs.declared.record.Counters.{Counters}
use Rattle.ode_keep.proofs.Keys.{same_key}
use Rattle.ode_keep.specs.Entries.{Entries, value_under}
use Rattle.ode_keep.specs.Snapshots.{FitsKey}
use Rattle.ode_language.specs.Languages.{ode}
use Rattle.ode_opening.specs.Classes.{classes_in}
use Rattle.ode_opening_objects.specs.Objects.{objects_keep}
use Rattle.ode_opening_objects.specs.Triggers.{is_reached_in}
use Rattle.ode_opening_tables.specs.Tables.{places_from}
use Rattle.ode_opening_records.specs.Reading.{AreOpened, base_of, opened_by}
use Rattle.ode_opening_records.specs.declared.base.Base.{Base}
use Rattle.ode_passes.specs.Records.{record_in}
use Rattle.ode_passes.specs.Rules.{Ruled, ◌>>=◌, found, through}
use Rattle.ode_passes.specs.Tally.{counted, counters_or, is_plain, is_light, no_tally, tallied, tally_in}
use Rattle.ode_passes.specs.Walking.{is_from, within}
use Rattle.ode_passes.specs.declared.cause.Cause.{Cause}
use Rattle.ode_passes.specs.declared.cause.Cause.TheVariants as cause
use Rattle.ode_passes.specs.declared.tally.Tally.{Tally}
use Rattle.ode_value.specs.Keys.{counters_key, key, key_cmp}
use Rattle.ode_value.specs.Records.{Row}
use Rattle.ode_value.specs.declared.key.Key.{Key}

-- what rules gave, one behind the other, each gave
given : {X Y : Type 0} (m : Ruled X) (next : X → Ruled Y) (y : Y) → m >>= next ≡ Ok y → (x : X) × (m ≡ Ok x) × (next x ≡ Ok y)
given (Ok x) next y is = (x, refl, is)
given (Err e) next y is = absurd (cc (is))

-- what is found is there
found_some : {X : Type 0} (why : Cause) (o : Option X) (x : X) → found why o ≡ Ok x → is_some o ≡ true
found_some why (Some y) x is = refl
found_some why None x is = absurd (cc (is))

one_decodes : (t u : Tally) (e : Row) → tallied t e ≡ Ok u → is_some (record_under e.0 e.1) ≡ true
one_decodes t u e is =
    let plain = given (is_plain t.first e) (λ p. record_in e >>= λ r. Ok (record { first = t.first; total = counted t.total e; counters = counters_or t.counters r })) u is in
    let read = given (record_in e) (λ r. Ok (record { first = t.first; total = counted t.total e; counters = counters_or t.counters r })) u plain.2 in
    found_some (cause.Record e.0) (record_under e.0 e.1) read.0 read.1

module _ (k : Key) (v : List ℕ) where
  this_decodes : (b : Bool) (e : Row) (es : Entries) → is_at (key_cmp k) e.0 ≡ b → is_some (record_under e.0 e.1) ≡ true → (value_under es k ≡ Some v → is_some (record_under k v) ≡ true)
      → cond b (Some e.1) (value_under es k) ≡ Some v → is_some (record_under k v) ≡ true
  this_decodes true e es at here later is =
      let value : e.1 ≡ v = cc (is) in
      ap (λ (q : Key). is_some (record_under q v)) (sym (same_key k e.0 at)) ∙ ap (λ (w : List ℕ). is_some (record_under e.0 w)) (sym value) ∙ here
  this_decodes false e es at here later is = later is

  all_decode : (es : Entries) (t u : Tally) → through tallied t es ≡ Ok u → value_under es k ≡ Some v → is_some (record_under k v) ≡ true
  all_decode [] t u ran is = absurd (cc (is))
  all_decode (e ∷ es) t u ran is =
      let first = given (tallied t e) (λ s. through tallied s es) u ran in
      this_decodes (is_at (key_cmp k) e.0) e es refl (one_decodes t first.0 e first.1) (all_decode es first.0 u first.2) is

  passes : FitsKey k → is_from (key 0 0 0) 255 k ≡ true
  passes fits = let a = fits.a in let b = fits.b in let kind = fits.kind in grind (arith, nat_tests)

  stands_within : (entries : Entries) → FitsKey k → value_under (within 0 255 entries) k ≡ value_under entries k
  stands_within entries fits =
      lookup-filter-keys (is_at (key_cmp k)) (λ (q : Key). is_from (key 0 0 0) 255 q) (is_from (key 0 0 0) 255 k) (λ q at. ap (λ (x : Key). is_from (key 0 0 0) 255 x) (same_key k q at)) entries
      ∙ ap (λ (b : Bool). cond b (value_under entries k) None) (passes fits)

  tally_decodes : (entries : Entries) (tally : Counters × ℕ) → tally_in false entries ≡ Ok tally → FitsKey k → value_under entries k ≡ Some v → is_some (record_under k v) ≡ true
  unfolding tally_in
  tally_decodes entries tally is fits there =
      let all = given (through tallied (no_tally false) (within 0 255 entries)) (λ t. found (cause.Missing counters_key) t.counters >>= λ c. Ok (c, t.total)) tally is in
      all_decode (within 0 255 entries) (no_tally false) all.0 all.1 (stands_within entries fits ∙ there)

  pub opened_decodes : (entries : Entries) (base : Base) → AreOpened false ode entries (Ok base) → FitsKey k → value_under entries k ≡ Some v → is_some (record_under k v) ≡ true
  unfolding opened_by
  opened_decodes entries base opened fits there =
      let first = given (tally_in false entries) (λ tally. classes_in ode tally.0.added entries >>= λ classes. opened.tables >>= λ own.
      objects_keep tally.0 (is_reached_in own (places_from 0 classes)) classes entries >>= λ kept. is_light false tally.1 >>= λ light. Ok (base_of classes own tally.1)) base (sym opened.is) in
      tally_decodes entries first.0 first.1 fits there
