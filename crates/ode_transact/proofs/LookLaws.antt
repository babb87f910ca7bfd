-- What a context looks at, and what stands behind that.
use Rattle.std.proofs.Common.{◌≡◌, ◌∙◌, Bool, true, Result, Ok, Err, ap, refl, sym}
use Rattle.std.specs.Prelude.{IfErr, IfOk, IsErrOf, OnOk}
use Rattle.ode_host.proofs.Calls.{rose_as}
use Rattle.ode_host.specs.Causes.{RoseIf}
use Rattle.ode_host.specs.Host.{Looks}
use Rattle.ode_host.specs.View.{View}
use Rattle.ode_interpreter.specs.Seen.{Leaves}
use Rattle.ode_interpreter.specs.declared.stop.Stop.TheVariants as stop
use Rattle.ode_keep.specs.Entries.{Entries}
use Rattle.ode_overlay.specs.Answers.{Answer, Answers, UnlessFault, is_usable}
use Rattle.ode_overlay.specs.declared.error.OverlayError.{OverlayError}
use Rattle.ode_overlay.specs.declared.error.OverlayError.TheVariants as error
use Rattle.ode_run.specs.Contexts.{ContextRuns}
use Rattle.ode_run.specs.Knowing.{IsSound}
use Rattle.ode_run.specs.Serving.{LeavesUsable}
use Rattle.ode_run.specs.Stopping.{read}
use Rattle.ode_run.specs.declared.context.Ctx.{Ctx}
use Rattle.ode_value.specs.Language.{Language, ListTx, ListWorld}

-- what is read is what is known
pub found_is : {R : Type 0} (result : Result R OverlayError) (answer : Answer R) (value : R) → Answers result answer → answer ≡ Ok value → IfOk (read result) (λ found. found ≡ value)
found_is (Ok v) answer value gives is = let e : Ok v ≡ Ok value = sym gives ∙ is in cc e
found_is (Err why) answer value gives is = tt

-- nothing that is known is damaged
pub found_sound : {R : Type 0} (result : Result R OverlayError) (answer : Answer R) (value : R) → Answers result answer → answer ≡ Ok value → IfErr (read result) IsSound
found_sound (Ok v) answer value gives is = tt
found_sound (Err error.Memory) answer value gives is = tt
found_sound (Err error.DiskFault) answer value gives is = tt
found_sound (Err (error.Damaged key)) answer value gives is = cc (gives, is)
found_sound (Err (error.NoObject id)) answer value gives is = tt
found_sound (Err (error.NoVersion r)) answer value gives is = tt
found_sound (Err (error.LastVersion id)) answer value gives is = tt
found_sound (Err error.TooManyChanges) answer value gives is = tt
found_sound (Err error.TooLong) answer value gives is = tt
found_sound (Err error.NoNumber) answer value gives is = tt

-- ---- the keeper and the host's faults

module _ {R : Type 0} where
  reads_usable : (result : Result R OverlayError) (live : Bool) → live ≡ is_usable result → Leaves (read result) (live ≡ true) (λ why. Unit {0})
  reads_usable (Ok v) live is = is
  reads_usable (Err error.Memory) live is = is
  reads_usable (Err error.DiskFault) live is = tt
  reads_usable (Err (error.Damaged key)) live is = tt
  reads_usable (Err (error.NoObject id)) live is = is
  reads_usable (Err (error.NoVersion r)) live is = is
  reads_usable (Err (error.LastVersion id)) live is = is
  reads_usable (Err error.TooManyChanges) live is = is
  reads_usable (Err error.TooLong) live is = is
  reads_usable (Err error.NoNumber) live is = is

  fails_on : (result : Result R OverlayError) → result ≡ Err error.DiskFault → read result ≡ Err stop.DiskFault
  fails_on result is = ap (λ (r : Result R OverlayError). read r) is

  fails_back : (result : Result R OverlayError) → read result ≡ Err stop.DiskFault → result ≡ Err error.DiskFault
  fails_back (Ok v) is = absurd (cc is)
  fails_back (Err error.Memory) is = absurd (cc is)
  fails_back (Err error.DiskFault) is = refl
  fails_back (Err (error.Damaged key)) is = absurd (cc is)
  fails_back (Err (error.NoObject id)) is = absurd (cc is)
  fails_back (Err (error.NoVersion r)) is = absurd (cc is)
  fails_back (Err (error.LastVersion id)) is = absurd (cc is)
  fails_back (Err error.TooManyChanges) is = absurd (cc is)
  fails_back (Err error.TooLong) is = absurd (cc is)
  fails_back (Err error.NoNumber) is = absurd (cc is)

  -- a read leaves the keeper usable, but where the disk failed
  pub read_usable : (result : Result R OverlayError) (live : Bool) (a b : View) → live ≡ is_usable result → Looks a b → RoseIf (IsErrOf result error.DiskFault) a.disk_faults b.disk_faults → LeavesUsable (read result) live a b
  read_usable result live a b usable looks cause = record {
    usable = reads_usable result live usable;
    looks = looks;
    faults = rose_as (result ≡ Err error.DiskFault) (read result ≡ Err stop.DiskFault) a.disk_faults b.disk_faults (fails_on result) (fails_back result) cause;
  }

-- ---- the context goes on over the keeper that was read

module _ {H K : Type 0} (seen : H → View) (held : K → View → Entries → Type 0) (live : K → Bool) (l : Language) (w : ListWorld) (ctx : Ctx K) (h : H) (t : ListTx) (is : ContextRuns seen held live l w ctx h t) where
  module _ (q : K) (h' : H) where
    over : live q ≡ true → held q (seen h') is.entries → ContextRuns seen held live l w (record ctx { heap = q }) h' t
    over usable records = record {
      entries = is.entries;
      world = is.world;
      context = record {
        state = record { usable = usable; records = records; known = is.context.state.known; budget = is.context.state.budget; bytes = is.context.state.bytes };
        classes = is.context.classes;
      };
      tables = is.tables;
      fit = is.fit;
      runs = is.runs;
      first = is.first;
    }

    pub look_stays : {R : Type 0} (result : Result R OverlayError) → UnlessFault result ((base : Entries) → held ctx.heap (seen h) base → held q (seen h') base) → live q ≡ is_usable result
        → OnOk (read result) (ContextRuns seen held live l w (record ctx { heap = q }) h' t)
    look_stays (Ok v) holds usable = over usable (holds is.entries is.context.state.records)
    look_stays (Err why) holds usable = tt
