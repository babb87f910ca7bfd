-- What batches leave of records fits a snapshot.
use Rattle.std.proofs.Common.{ℕ, List, [], ◌∷◌, Bool, true, false, cond, Option, Some, None, subst, sym}
use Rattle.std.specs.Prelude.{not}
use Rattle.std.specs.BTreeMap.{is_at, insert_entry}
use Rattle.std.specs.List.{AllByRecursion, filter}
use Rattle.std.specs.Ordering.{match_ordering}
use Rattle.std.specs.declared.cmp.Ordering.{Ordering}
use Rattle.std.specs.declared.cmp.Ordering.TheVariants.{Less, Equal, Greater}
use Rattle.ode_value.specs.declared.key.Key.{Key}
use Rattle.ode_value.specs.Records.{Row}
use Rattle.ode_gate.specs.declared.header.Header.{Header}
use Rattle.ode_journal.specs.Histories.{ArePayloads, in_turn}
use Rattle.ode_keep.specs.Entries.{Changes, Entries, applied, changed}
use Rattle.ode_value.specs.Keys.{key_cmp}
use Rattle.ode_keep.proofs.Applying.{changed_rising}
use Rattle.ode_areas.specs.Image.{HasMap}
use Rattle.ode_keep.specs.Payloads.{FitsChange, IsPayload}
use Rattle.ode_keep.specs.Snapshots.{FitsRow, FitsSnapshot}

abbrev AllFit : Entries → Type 0
AllFit es = AllByRecursion FitsRow es

kept_at : (e : Row) (rest : Entries) (b : Bool) → FitsRow e → AllFit rest → AllFit (cond b (e ∷ rest) rest)
kept_at e rest true fits all = (fits, all)
kept_at e rest false fits all = all

kept : (test : Row → Bool) (es : Entries) → AllFit es → AllFit (filter test es)
kept test [] all = tt
kept test (e ∷ es) all = kept_at e (filter test es) (test e) all.0 (kept test es all.1)

put_at : (k : Key) (v : List ℕ) (e : Row) (es rest : Entries) → FitsRow (k, v) → AllFit (e ∷ es) → AllFit rest → (r : Ordering)
    → AllFit (match_ordering r ((k, v) ∷ e ∷ es) ((e.0, v) ∷ es) (e ∷ rest))
put_at k v e es rest fits all more Less = (fits, all)
put_at k v e es rest fits all more Equal = (record { key = all.0.key; value = fits.value }, all.1)
put_at k v e es rest fits all more Greater = (all.0, more)

put_fits : (k : Key) (v : List ℕ) (es : Entries) → FitsRow (k, v) → AllFit es → AllFit (insert_entry key_cmp es k v)
put_fits k v [] fits all = (fits, tt)
put_fits k v (e ∷ es) fits all = put_at k v e es (insert_entry key_cmp es k v) fits all (put_fits k v es fits all.1) (key_cmp k e.0)

pub rows_changed : (es : Entries) (k : Key) (w : Option (List ℕ)) → FitsChange (k, w) → AllFit es → AllFit (changed es k w)
rows_changed es k None fits all = kept (λ e. not (is_at (key_cmp k) e.0)) es all
rows_changed es k (Some v) fits all = put_fits k v es (record { key = fits.key; value = fits.value }) all

-- a change that fits leaves records that fit
pub changed_fits : (es : Entries) (k : Key) (w : Option (List ℕ)) → FitsChange (k, w) → FitsSnapshot es → FitsSnapshot (changed es k w)
changed_fits es k w change fits = record { rows = rows_changed es k w change fits.rows; rising = changed_rising es k w fits.rising }

-- and so do changes of which each fits
pub applied_fits : (cs : Changes) (es : Entries) → AllByRecursion FitsChange cs → FitsSnapshot es → FitsSnapshot (applied cs es)
applied_fits [] es each fits = fits
applied_fits (c ∷ cs) es each fits = applied_fits cs (changed es c.0 c.1) each.1 (changed_fits es c.0 c.1 each.0 fits)

replayed_fits : (batches : List Changes) (frames : List (List ℕ)) (es : Entries) → ArePayloads IsPayload batches frames → FitsSnapshot es → FitsSnapshot (in_turn applied batches es)
replayed_fits [] [] es are fits = fits
replayed_fits [] (f ∷ fs) es are fits = absurd are
replayed_fits (b ∷ bs) [] es are fits = absurd are
replayed_fits (b ∷ bs) (f ∷ fs) es are fits =
    replayed_fits bs fs (applied b es) are.1 (applied_fits b es are.0.each fits)

-- the records of a file fit a snapshot
pub map_fits : (h : Header) (file : List ℕ) (entries : Entries) → HasMap h file entries → FitsSnapshot entries
map_fits h file entries has =
    subst FitsSnapshot (sym has.map) (replayed_fits has.batches has.frames has.body has.payloads has.snapshot.fits)
