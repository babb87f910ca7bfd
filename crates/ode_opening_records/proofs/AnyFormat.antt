-- What is opened as records of the first format is opened as others too.
use Rattle.std.proofs.Common.{◌≡◌, ℕ, List, [], ◌∷◌, Bool, true, false, Ok, Err, refl, sym, ap, ◌∙◌, arith}
use Rattle.std.specs.Prelude.{◌||◌, nat_le, not}
use Rattle.std.proofs.lemmas.Bool.Decides.{nat_tests}
use Rattle.ode_codec.specs.FirstFormat.{is_of_first}
use Rattle.ode_codec.specs.declared.record.Counters.{Counters}
use Rattle.ode_codec.specs.declared.record.Record.{Record}
use Rattle.ode_keep.specs.Entries.{Entries}
use Rattle.ode_opening.specs.Classes.{classes_in}
use Rattle.ode_opening_objects.specs.Objects.{objects_keep}
use Rattle.ode_opening_objects.specs.Triggers.{is_reached_in}
use Rattle.ode_opening_tables.specs.Tables.{places_from}
use Rattle.ode_passes.specs.Records.{record_in}
use Rattle.ode_passes.specs.Rules.{Ruled, ◌>>=◌, found, needs, through}
use Rattle.ode_passes.specs.Tally.{counted, counters_or, is_light, no_tally, tallied, tally_in}
use Rattle.ode_passes.specs.Walking.{within}
use Rattle.ode_passes.specs.declared.cause.Cause.TheVariants as cause
use Rattle.ode_passes.specs.declared.tally.Tally.{Tally}
use Rattle.ode_value.specs.Keys.{counters_key}
use Rattle.ode_value.specs.Language.{Language}
use Rattle.ode_value.specs.Limits.{first_weight_limit, weight_limit}
use Rattle.ode_value.specs.Records.{Row}
use Rattle.ode_value.specs.Tables.{Table}
use Rattle.ode_value.specs.declared.class.Class.{Class}
use Rattle.ode_opening_records.specs.Reading.{AreOpened, base_of, opened_by}
use Rattle.ode_opening_records.specs.declared.base.Base.{Base}

-- both parts of a rule that holds
both_given : {X Y : Type 0} (m : Ruled X) (next : X → Ruled Y) (y : Y) → m >>= next ≡ Ok y → (x : X) × (m ≡ Ok x) × (next x ≡ Ok y)
both_given (Ok x) next y is = (x, refl, is)
both_given (Err why) next y is = absurd (cc)

-- ---- the tally

abbrev free : Tally → Tally
free t = record { first = false; total = t.total; counters = t.counters }

abbrev behind : Bool → Tally → Row → Record → Tally
behind first t e r = record { first = first; total = counted t.total e; counters = counters_or t.counters r }

one_free : (t : Tally) (e : Row) (u : Tally) → tallied t e ≡ Ok u → tallied (free t) e ≡ Ok (free u)
one_free t e u is =
    let plain = both_given (needs (cause.Record e.0) (not t.first || is_of_first e.0 e.1)) (λ _. record_in e >>= λ r. Ok (behind t.first t e r)) u is in
    let read = both_given (record_in e) (λ r. Ok (behind t.first t e r)) u plain.2 in
    let same : behind t.first t e read.0 ≡ u = cc (read.2) in
    ap (λ (m : Ruled Record). m >>= λ r. Ok (behind false t e r)) read.1 ∙ ap (λ (v : Tally). Ok (free v)) same

all_free : (es : Entries) (t u : Tally) → through tallied t es ≡ Ok u → through tallied (free t) es ≡ Ok (free u)
all_free [] t u is = let same : t ≡ u = cc (is) in ap (λ (v : Tally). Ok (free v)) same
all_free (e ∷ es) t u is =
    let first = both_given (tallied t e) (λ v. through tallied v es) u is in
    ap (λ (m : Ruled Tally). m >>= λ v. through tallied v es) (one_free t e first.0 first.1) ∙ all_free es first.0 u first.2

abbrev ended : Tally → Ruled (Counters × ℕ)
ended t = found (cause.Missing counters_key) t.counters >>= λ c. Ok (c, t.total)

tally_free : (first : Bool) (entries : Entries) (tally : Counters × ℕ) → tally_in first entries ≡ Ok tally → tally_in false entries ≡ Ok tally
unfolding tally_in
tally_free first entries tally is =
    let all = both_given (through tallied (no_tally first) (within 0 255 entries)) ended tally is in
    ap (λ (m : Ruled Tally). m >>= ended) (all_free (within 0 255 entries) (no_tally first) all.0 all.1) ∙ all.2

-- ---- the limit

more_room : (n : ℕ) → nat_le n first_weight_limit ≡ true → nat_le n weight_limit ≡ true
more_room n few = grind (arith, nat_tests, few)

light_free : (first : Bool) (n : ℕ) (u : Unit {0}) → is_light first n ≡ Ok u → is_light false n ≡ Ok tt
light_free false n u is = by (nat_le n weight_limit) refl is
  where
    by : (b : Bool) → nat_le n weight_limit ≡ b → needs (cause.Size n) b ≡ Ok u → is_light false n ≡ Ok tt
    by true few is = ap (needs (cause.Size n)) few
    by false few is = absurd (cc (is))
light_free true n u is = by (nat_le n first_weight_limit) refl is
  where
    by : (b : Bool) → nat_le n first_weight_limit ≡ b → needs (cause.Size n) b ≡ Ok u → is_light false n ≡ Ok tt
    by true few is = ap (needs (cause.Size n)) (more_room n few)
    by false few is = absurd (cc (is))

-- ---- all rules

module _ (first : Bool) (l : Language) (entries : Entries) (base : Base) (opened : AreOpened first l entries (Ok base)) where
  abbrev keeps : Counters × ℕ → List Class → List Table → Ruled (Unit {0})
  keeps t cs own = objects_keep t.0 (is_reached_in own (places_from 0 cs)) cs entries

  abbrev lit : Bool → Counters × ℕ → List Class → List Table → Ruled Base
  lit of t cs own = is_light of t.1 >>= λ _. Ok (base_of cs own t.1)

  abbrev kept : Bool → Counters × ℕ → List Class → List Table → Ruled Base
  kept of t cs own = keeps t cs own >>= λ _. lit of t cs own

  abbrev tabled : Bool → Counters × ℕ → List Class → Ruled Base
  tabled of t cs = opened.tables >>= kept of t cs

  abbrev classed : Bool → Counters × ℕ → Ruled Base
  classed of t = classes_in l t.0.added entries >>= tabled of t

  -- what each rule gave
  tally : (t : Counters × ℕ) × (tally_in first entries ≡ Ok t) × (classed first t ≡ Ok base)
  unfolding opened_by
  tally = both_given (tally_in first entries) (classed first) base (sym opened.is)

  classes : (cs : List Class) × (classes_in l tally.0.0.added entries ≡ Ok cs) × (tabled first tally.0 cs ≡ Ok base)
  classes = both_given (classes_in l tally.0.0.added entries) (tabled first tally.0) base tally.2

  own : (ts : List Table) × (opened.tables ≡ Ok ts) × (kept first tally.0 classes.0 ts ≡ Ok base)
  own = both_given opened.tables (kept first tally.0 classes.0) base classes.2

  objects : (u : Unit {0}) × (keeps tally.0 classes.0 own.0 ≡ Ok u) × (lit first tally.0 classes.0 own.0 ≡ Ok base)
  objects = both_given (keeps tally.0 classes.0 own.0) (λ _. lit first tally.0 classes.0 own.0) base own.2

  light : (u : Unit {0}) × (is_light first tally.0.1 ≡ Ok u) × (◌≡◌ {A = Ruled Base} (Ok (base_of classes.0 own.0 tally.0.1)) (Ok base))
  light = both_given (is_light first tally.0.1) (λ _. Ok (base_of classes.0 own.0 tally.0.1)) base objects.2

  any_tally : tally_in false entries ≡ Ok tally.0
  any_tally = tally_free first entries tally.0 tally.1

  all_free_too : opened_by false l opened.tables entries ≡ Ok base
  unfolding opened_by
  all_free_too =
      ap (λ (m : Ruled (Counters × ℕ)). m >>= classed false) any_tally
      ∙ ap (λ (m : Ruled (List Class)). m >>= tabled false tally.0) classes.1
      ∙ ap (λ (m : Ruled (List Table)). m >>= kept false tally.0 classes.0) own.1
      ∙ ap (λ (m : Ruled (Unit {0})). m >>= λ _. lit false tally.0 classes.0 own.0) objects.1
      ∙ ap (λ (m : Ruled (Unit {0})). m >>= λ _. Ok (base_of classes.0 own.0 tally.0.1)) (light_free first tally.0.1 light.0 light.1)
      ∙ light.2

  same_tally : (t : Counters × ℕ) → tally_in false entries ≡ Ok t → tally.0 ≡ t
  same_tally t is = let both : (let m : Ruled (Counters × ℕ) = Ok tally.0 in m) ≡ Ok t = sym any_tally ∙ is in cc (both)

  pub alike : AreOpened false l entries (Ok base)
  alike = record {
    tables = opened.tables;
    come_to = λ t cs is read.
        let same = same_tally t is in
        opened.come_to tally.0 cs tally.1 (ap (λ (u : Counters × ℕ). classes_in l u.0.added entries) same ∙ read);
    is = sym all_free_too;
  }

pub opened_alike : (first : Bool) (l : Language) (entries : Entries) (base : Base) → AreOpened first l entries (Ok base) → AreOpened false l entries (Ok base)
opened_alike = alike
