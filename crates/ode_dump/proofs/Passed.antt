-- What passes over records leave.
use Rattle.std.proofs.Common.{◌≡◌, List, [], ◌∷◌, ◌++◌, true, Option, Some, None, Ok, Err, refl, sym, ap, subst, ◌∙◌, append_assoc}
use Rattle.std.specs.List.{AllByRecursion}
use Rattle.std.specs.List.Sorted.{IsStrictlySortedBy}
use Rattle.std.specs.Map.{keys_of}
use Rattle.std.specs.Option.{is_some, option_map_or}
use Rattle.std.proofs.lemmas.List.{append-nil}
use Rattle.ode_codec.specs.Reading.{record_under}
use Rattle.ode_codec.specs.declared.record.Record.{Record}
use Rattle.ode_keep.proofs.Maps.{rising_some}
use Rattle.ode_keep.specs.Entries.{Entries, HasRisingKeys}
use Rattle.ode_passes.specs.Answers.{Leaves, OnBroken}
use Rattle.ode_passes.specs.Rules.{◌>>=◌, found, through}
use Rattle.ode_passes.specs.Walking.{is_from}
use Rattle.ode_passes.specs.declared.cause.Cause.{Cause}
use Rattle.ode_passes.specs.declared.cause.Cause.TheVariants as cause
use Rattle.ode_passes.specs.declared.error.OpenError.{OpenError}
use Rattle.ode_passes.specs.declared.error.OpenError.TheVariants as error
use Rattle.ode_value.specs.Keys.{key, key_cmp}
use Rattle.ode_value.specs.Records.{Row}
use Rattle.ode_value.specs.declared.class.Class.{Class}
use Rattle.ode_value.specs.declared.key.Key.{Key}
use Rattle.ode_dump.specs.Dumping.{AreRecords, all, lines_of}
use Rattle.ode_dump.specs.Lines.{record_line}
use Rattle.ode_dump.specs.Order.{Lines}
use Rattle.ode_dump.specs.Passing.{with_key, with_line}
use Rattle.ode_dump.specs.declared.keys.Keys.{Keys}
use Rattle.ode_dump.specs.declared.listing.Listing.{Listing}

-- ---- keys

keys_through : (ks : List Key) (es : Entries) → through with_key (record { keys = ks }) es ≡ Ok (record { keys = ks ++ keys_of es })
keys_through ks [] = ap (λ (all : List Key). Ok (record { keys = all })) (sym (append-nil ks))
keys_through ks (e ∷ es) = keys_through (ks ++ e.0 ∷ []) es ∙ ap (λ (all : List Key). Ok (record { keys = all })) (append_assoc ks (e.0 ∷ []) (keys_of es))

pub keys_are : (ks : List Key) (es : Entries) (k : Keys) → ks ≡ [] → through with_key (record { keys = ks }) es ≡ Ok k → k.keys ≡ keys_of es
keys_are ks es k none ran =
    let all : through with_key (record { keys = ks }) es ≡ Ok (record { keys = ks ++ keys_of es }) = keys_through ks es in
    let same : k ≡ record { keys = ks ++ keys_of es } = cc in
    ap (λ (read : Keys). read.keys) same ∙ ap (λ (before : List Key). before ++ keys_of es) none

pub keys_stop : (X : Type 0) (Holds : Entries → Type 0) (ks : List Key) (k : Keys) (e : OpenError)
    → ((es : Entries) → Holds es → Leaves {X = Unit {0}} (through with_key (record { keys = ks }) (all es)) k (Err e))
    → OnBroken {X = X} (Err e) ((es : Entries) → Holds es → ⊥)
keys_stop X Holds ks k (error.BadFile why) ran = λ es holds. let goes = keys_through ks (all es) in let stops = ran es holds in absurd (cc (goes, stops))
keys_stop X Holds ks k error.DiskFault ran = tt
keys_stop X Holds ks k error.Memory ran = tt

-- ---- lines

module _ (cs : Listing) where
  abbrev more : Lines → Key → Record → Listing
  more ls k r = record cs { lines = ls ++ (k, record_line cs.classes.now r) ∷ [] }

  lines_at : (ls : Lines) (e : Row) (es : Entries) (s : Listing) (o : Option Record) → record_under e.0 e.1 ≡ o
      → ((xs : Lines) → through with_line (record cs { lines = xs }) es ≡ Ok s → s.lines ≡ xs ++ lines_of cs.classes.now es)
      → ((found (cause.Record e.0) o >>= λ r. Ok (more ls e.0 r)) >>= λ t. through with_line t es) ≡ Ok s → s.lines ≡ ls ++ lines_of cs.classes.now (e ∷ es)
  lines_at ls e es s None is rest ran = absurd (cc (ran))
  lines_at ls e es s (Some r) is rest ran =
      rest (ls ++ (e.0, record_line cs.classes.now r) ∷ []) ran
      ∙ append_assoc ls ((e.0, record_line cs.classes.now r) ∷ []) (lines_of cs.classes.now es)
      ∙ sym (ap (λ (o : Option Record). ls ++ ((e.0, option_map_or (record_line cs.classes.now) o []) ∷ lines_of cs.classes.now es)) is)

  pub lines_through : (es : Entries) (ls : Lines) (s : Listing) → through with_line (record cs { lines = ls }) es ≡ Ok s → s.lines ≡ ls ++ lines_of cs.classes.now es
  lines_through [] ls s ran = let same : record cs { lines = ls } ≡ s = cc in sym (ap (λ (t : Listing). t.lines) same) ∙ sym (append-nil ls)
  lines_through (e ∷ es) ls s ran = lines_at ls e es s (record_under e.0 e.1) refl (λ xs goes. lines_through es xs s goes) ran

  goes_at : (ls : Lines) (e : Row) (es : Entries) (why : Cause) (o : Option Record) → is_some o ≡ true
      → ((xs : Lines) → through with_line (record cs { lines = xs }) es ≡ Err why → ⊥)
      → ((found (cause.Record e.0) o >>= λ r. Ok (more ls e.0 r)) >>= λ t. through with_line t es) ≡ Err why → ⊥
  goes_at ls e es why None is rest ran = cc (is)
  goes_at ls e es why (Some r) is rest ran = rest (ls ++ (e.0, record_line cs.classes.now r) ∷ []) ran

  goes_on : (es : Entries) (ls : Lines) (why : Cause) → AllByRecursion (λ (e : Row). is_some (record_under e.0 e.1) ≡ true) es
      → through with_line (record cs { lines = ls }) es ≡ Err why → ⊥
  goes_on [] ls why are ran = cc (ran)
  goes_on (e ∷ es) ls why are ran = goes_at ls e es why (record_under e.0 e.1) are.0 (λ xs stops. goes_on es xs why are.1 stops) ran

  pub lines_stop : (X : Type 0) (Holds : Entries → Type 0) (ls : Lines) (s : Listing) (e : OpenError)
      → ((es : Entries) → Holds es → Leaves {X = Unit {0}} (through with_line (record cs { lines = ls }) (all es)) s (Err e))
      → OnBroken {X = X} (Err e) ((es : Entries) → Holds es → AreRecords es → ⊥)
  lines_stop X Holds ls s (error.BadFile why) ran = λ es holds are. goes_on (all es) ls why are (ran es holds)
  lines_stop X Holds ls s error.DiskFault ran = tt
  lines_stop X Holds ls s error.Memory ran = tt

-- ---- keys of lines

keys_same : (classes : List Class) (es : Entries) → keys_of (lines_of classes es) ≡ keys_of es
keys_same classes [] = refl
keys_same classes (e ∷ es) = ap (λ (ks : List Key). e.0 ∷ ks) (keys_same classes es)

pub lines_rise : (classes : List Class) (entries : Entries) → HasRisingKeys entries → HasRisingKeys (lines_of classes (all entries))
lines_rise classes entries rising =
    let some : HasRisingKeys (all entries) = rising_some key_cmp (λ e. is_from (key 0 0 0) 255 e.0) entries rising in
    subst (λ (ks : List Key). IsStrictlySortedBy key_cmp ks) (sym (keys_same classes (all entries))) some
