-- What `check` and `dump` say of a file that is opened.
use Rattle.std.proofs.Common.{◌≡◌, ◌⊎◌, ◌∙◌, ◌++◌, ⊎_elim, inl, ℕ, List, Bool, Result, Some, Ok, Err, refl, sym, subst}
use Rattle.ode_codec.specs.declared.record.Counters.{Counters}
use Rattle.ode_host.specs.Causes.{RoseIf}
use Rattle.ode_host.specs.Host.{Looks, Prints, Tells}
use Rattle.ode_host.specs.View.{View}
use Rattle.ode_host.specs.declared.status.Status.{Status}
use Rattle.ode_host.specs.declared.status.Status.TheVariants as status
use Rattle.ode_host.proofs.Moments.{tells_looks}
use Rattle.ode_keep.specs.Entries.{Entries}
use Rattle.ode_language.specs.Languages.{ode}
use Rattle.ode_open.specs.Opening.{IsRefused, read_error}
use Rattle.ode_opening_records.specs.Reading.{AreOpened, opened_by}
use Rattle.ode_opening_records.specs.declared.base.Base.{Base}
use Rattle.ode_passes.specs.Answers.{OnBroken}
use Rattle.ode_passes.specs.Rules.{Ruled}
use Rattle.ode_passes.specs.Tally.{tally_in}
use Rattle.ode_passes.specs.declared.cause.Cause.{Cause}
use Rattle.ode_passes.specs.declared.error.OpenError.{OpenError as ReadError}
use Rattle.ode_passes.specs.declared.error.OpenError.TheVariants as read
use Rattle.ode_begin.specs.Answers.{BreaksRule, SaidFront}
use Rattle.ode_top.specs.Answers.{IsInspectStatus, SaysRecords}
use Rattle.ode_top.specs.Claims.{Inspects}
use Rattle.ode_top.specs.declared.call.Mode.{Mode}
use Rattle.ode_begin.proofs.Calling.{tells_same}
use Rattle.ode_begin.proofs.Leaving.{idle_on, line_idle}

-- what holds at a broken rule may be weakened
pub on_broken : {X : Type 0} (r : Result X ReadError) (P Q : Type 0) → (P → Q) → OnBroken r P → OnBroken r Q
on_broken (Ok x) P Q to has = tt
on_broken (Err read.Memory) P Q to has = tt
on_broken (Err read.DiskFault) P Q to has = tt
on_broken (Err (read.BadFile cause)) P Q to has = to has

-- an error of reading that breaks no rule came from outside
pub read_refused : (X : Type 0) (image : List ℕ) (why : ReadError) (P : Type 0) → OnBroken {X = X} (Err why) P → (P → ⊥) → IsRefused {X = X} image (Err (read_error why))
read_refused X image read.Memory P broken none = inl tt
read_refused X image read.DiskFault P broken none = inl tt
read_refused X image (read.BadFile cause) P broken none = absurd (none broken)

-- records that are opened have a tally
pub opened_tally : (first : Bool) (entries : Entries) (base : Base) → AreOpened first ode entries (Ok base) → (tally : Counters × ℕ) × (tally_in first entries ≡ Ok tally)
unfolding opened_by
opened_tally first entries base opened = by (tally_in first entries) refl
  where
    untallied : (why : Cause) → tally_in first entries ≡ Err why → opened_by first ode opened.tables entries ≡ Err why
    untallied why is = rw is refl

    by : (tallied : Ruled (Counters × ℕ)) → tally_in first entries ≡ tallied → (tally : Counters × ℕ) × (tally_in first entries ≡ Ok tally)
    by (Ok tally) is = (tally, is)
    by (Err why) is = let no = opened.is ∙ untallied why is in absurd (cc (no))

-- It is said what the records are, or the print of it failed.
module _ (mode : Mode) (old mid new : View) (said : List ℕ) (result : Status) (looks : Looks old mid)
    (records : (image : List ℕ) → Tells old image → SaysRecords mode image said)
    (rules : (image : List ℕ) → Tells old image → BreaksRule image → ⊥)
    (ends : (result ≡ status.Ok) ⊎ (result ≡ status.WriteFault)) (prints : Prints said mid new)
    (rose : RoseIf (result ≡ status.WriteFault) mid.print_faults new.print_faults)
    (printed : (result ≡ status.WriteFault → ⊥) → (text : List ℕ) → mid.text ≡ Some text → new.text ≡ Some (text ++ said))
    (cut : result ≡ status.WriteFault → (text : List ℕ) → mid.text ≡ Some text → SaidFront said text new) where
  not_bad : result ≡ status.BadFile → ⊥
  not_bad is = ⊎_elim (λ (same : result ≡ status.Ok). cc (same, is)) (λ (failed : result ≡ status.WriteFault). cc (failed, is)) ends

  pub records_inspects : Inspects mode old new result
  records_inspects = record {
    said = λ is image text tells before. record {
      tells = tells_same image mid new prints.keeps prints.image (tells_looks image old mid looks tells);
      said = said;
      records = records image tells;
      printed = printed (λ (failed : result ≡ status.WriteFault). cc (is, failed)) text (looks.text ∙ before);
    };
    bad_file = λ is image text tells before. absurd (not_bad is);
    cut = λ is image text tells before. record { said = said; reason = inl (records image tells); front = cut is text (looks.text ∙ before) };
    keeps = λ image tells none is. not_bad is;
    breaks = λ image tells breaks ok. rules image tells breaks;
    answers = ⊎_elim (λ (same : result ≡ status.Ok). subst IsInspectStatus (sym same) tt) (λ (failed : result ≡ status.WriteFault). subst IsInspectStatus (sym failed) tt) ends;
    idle = idle_on result old mid new looks (line_idle status.Ok result said mid new ends prints rose (λ loud. loud));
  }
