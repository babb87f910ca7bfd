-- A tally of records that decode.
use Rattle.std.proofs.Common.{◌≡◌, ℕ, ◌+◌, ◌-◌, ◌^◌, ◌≤◌, [], ◌∷◌, Bool, true, false, cond, min, Option, Some, Ok, refl, ap, ◌∙◌, arith}
use Rattle.std.specs.Prelude.{◌==◌, ◌||◌, not}
use Rattle.std.specs.List.{AllByRecursion}
use Rattle.ode_codec.specs.FirstFormat.{is_of_first}
use Rattle.ode_codec.specs.Reading.{record_under}
use Rattle.ode_codec.specs.declared.record.Counters.{Counters}
use Rattle.ode_codec.specs.declared.record.Record.{Record}
use Rattle.ode_keep.specs.Entries.{Entries}
use Rattle.ode_passes.specs.Rules.{◌>>=◌, found, needs, through}
use Rattle.ode_passes.specs.Tally.{counted, counters_or, tallied}
use Rattle.ode_passes.specs.declared.cause.Cause.TheVariants as cause
use Rattle.ode_passes.specs.declared.tally.Tally.{Tally}
use Rattle.ode_value.specs.Keys.{entry_kind}
use Rattle.ode_value.specs.Records.{Row, row_weight, total_weight}

-- a record has no stamp and is no added field, where it is of the first format
abbrev pub IsPlain : Bool → Row → Type 0
IsPlain first e = (not first || is_of_first e.0 e.1) ≡ true

-- one that decodes, and isn't the counters
pub record IsPart (first : Bool) (e : Row) : Type 0 where
  pub r : Record
  pub reads : record_under e.0 e.1 ≡ Some r
  pub plain : IsPlain first e
  pub other : (before : Option Counters) → counters_or before r ≡ before

-- one that the limit on all records counts, and one that it doesn't
abbrev pub IsTallied : Row → Type 0
IsTallied e = (e.0.kind == entry_kind) ≡ false

abbrev pub IsUncounted : Row → Type 0
IsUncounted e = (e.0.kind == entry_kind) ≡ true

pub one_more : (t : Tally) (e : Row) (r : Record) → IsPlain t.first e → record_under e.0 e.1 ≡ Some r → tallied t e ≡ Ok (record { first = t.first; total = counted t.total e; counters = counters_or t.counters r })
one_more t e r plain reads =
    ap (λ b. needs (cause.Record e.0) b >>= λ _. found (cause.Record e.0) (record_under e.0 e.1) >>= λ s. Ok (record { first = t.first; total = counted t.total e; counters = counters_or t.counters s })) plain
    ∙ ap (λ (o : Option Record). found (cause.Record e.0) o >>= λ s. Ok (record { first = t.first; total = counted t.total e; counters = counters_or t.counters s })) reads

small_sum : (total w : ℕ) → total + w ≤ 2 ^ 64 - 1 → min (total + w) (2 ^ 64 - 1) ≡ total + w
small_sum total w small = omega (arith, small)

pub counted_is : (total : ℕ) (e : Row) → IsTallied e → total + row_weight e ≤ 2 ^ 64 - 1 → counted total e ≡ total + row_weight e
counted_is total e is small = ap (λ b. cond b total (min (total + row_weight e) (2 ^ 64 - 1))) is ∙ small_sum total (row_weight e) small

pub parts_tallied : (es : Entries) (t : Tally) → AllByRecursion (IsPart t.first) es → AllByRecursion IsTallied es → t.total + total_weight es ≤ 2 ^ 64 - 1
    → through tallied t es ≡ Ok (record { first = t.first; total = t.total + total_weight es; counters = t.counters })
parts_tallied [] t all counts small =
    let same : t.total ≡ t.total + 0 = omega arith in
    ap (λ (n : ℕ). Ok (record { first = t.first; total = n; counters = t.counters })) same
parts_tallied (e ∷ es) t all counts small =
    let part = all.0 in
    let next : Tally = record { first = t.first; total = t.total + row_weight e; counters = t.counters } in
    let step : tallied t e ≡ Ok next =
    one_more t e part.r part.plain part.reads
    ∙ ap (λ (n : ℕ). Ok (record { first = t.first; total = n; counters = counters_or t.counters part.r })) (counted_is t.total e counts.0 (omega (arith, small)))
    ∙ ap (λ (c : Option Counters). Ok (record { first = t.first; total = t.total + row_weight e; counters = c })) (part.other t.counters) in
    let sum : t.total + row_weight e + total_weight es ≡ t.total + (row_weight e + total_weight es) = omega arith in
    ap (λ m. m >>= λ s. through tallied s es) step
    ∙ parts_tallied es next all.1 counts.1 (omega (arith, small))
    ∙ ap (λ (n : ℕ). Ok (record { first = t.first; total = n; counters = t.counters })) sum

pub entries_tallied : (es : Entries) (t : Tally) → AllByRecursion (IsPart t.first) es → AllByRecursion IsUncounted es → through tallied t es ≡ Ok t
entries_tallied [] t all none = refl
entries_tallied (e ∷ es) t all none =
    let part = all.0 in
    let step : tallied t e ≡ Ok t =
    one_more t e part.r part.plain part.reads
    ∙ ap (λ b. Ok (record { first = t.first; total = cond b t.total (min (t.total + row_weight e) (2 ^ 64 - 1)); counters = counters_or t.counters part.r })) none.0
    ∙ ap (λ (c : Option Counters). Ok (record { first = t.first; total = t.total; counters = c })) (part.other t.counters) in
    ap (λ m. m >>= λ s. through tallied s es) step ∙ entries_tallied es t all.1 none.1
