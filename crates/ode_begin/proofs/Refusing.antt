-- What a call does where the file isn't opened.
use Rattle.std.proofs.Common.{◌≡◌, ◌⊎◌, ◌++◌, ⊎_elim, inl, inr, List, ℕ, Option, Some, Err, refl, sym, subst}
use Rattle.ode_host.specs.Causes.{RoseIf}
use Rattle.ode_host.specs.FirstSync.{SyncedRun}
use Rattle.ode_host.specs.Host.{DiskCalls, HostCalls, Looks, Prints, Tells}
use Rattle.ode_host.specs.View.{View}
use Rattle.ode_host.specs.declared.status.Status.{Status}
use Rattle.ode_host.specs.declared.status.Status.TheVariants as status
use Rattle.ode_host.proofs.Calls.{disk_host, host_calls_on}
use Rattle.ode_machine.specs.Runs.{Item}
use Rattle.ode_open.specs.Opening.{IsFromOutside, IsOpenedTo}
use Rattle.ode_open.specs.declared.error.OpenError.{OpenError}
use Rattle.ode_open.specs.declared.error.OpenError.TheVariants as why_not
use Rattle.ode_ends.specs.Statuses.{IsEnding, IsRunStatus}
use Rattle.ode_value.specs.Language.{ListWorld}
use Rattle.ode_begin.specs.Answers.{EndsFor, IsIdle, IsNoRun, IsSilent, SaidFront, why_line}
use Rattle.ode_begin.specs.Claims.{RunsBy, RunsNone}
use Rattle.ode_begin.specs.Holds.{Holds}
use Rattle.ode_begin.specs.Stops.{StaysHeld}
use Rattle.ode_begin.proofs.Claiming.{NoneBroken, none_said, none_silent, world_absent, world_unopened}
use Rattle.ode_begin.proofs.Leaving.{idle_looks, idle_on, line_idle, line_leaves, never_silent}

-- ---- the status

-- its line was printed, or the print of it failed
abbrev pub IsSaid : Status → Type 0
IsSaid s = (s ≡ status.BadFile) ⊎ (s ≡ status.WriteFault)

-- nothing was said, or its line was
pub way : (why : OpenError) (s : Status) → EndsFor why s → IsSilent s ⊎ IsSaid s
way why_not.Memory s is = inl (subst IsSilent (sym is) tt)
way why_not.DiskFault s is = inl (subst IsSilent (sym is) tt)
way why_not.NoDatabase s is = inr is
way (why_not.NewerFormat found) s is = ⊎_elim (λ (none : s ≡ status.Memory). inl (subst IsSilent (sym none) tt)) (λ (said : IsSaid s). inr said) is
way (why_not.BadFile cause) s is = ⊎_elim (λ (none : s ≡ status.Memory). inl (subst IsSilent (sym none) tt)) (λ (said : IsSaid s). inr said) is

pub said_as : (P : Status → Type 0) → P status.BadFile → P status.WriteFault → (s : Status) → IsSaid s → P s
said_as P bad cut s said = ⊎_elim (λ (same : s ≡ status.BadFile). subst P (sym same) bad) (λ (failed : s ≡ status.WriteFault). subst P (sym failed) cut) said

-- it is one of four
pub refused_as : (P : Status → Type 0) → P status.Memory → P status.DiskFault → P status.BadFile → P status.WriteFault → (why : OpenError) (s : Status) → EndsFor why s → P s
refused_as P memory fault bad cut why_not.Memory s is = subst P (sym is) memory
refused_as P memory fault bad cut why_not.DiskFault s is = subst P (sym is) fault
refused_as P memory fault bad cut why_not.NoDatabase s is = said_as P bad cut s is
refused_as P memory fault bad cut (why_not.NewerFormat found) s is = ⊎_elim (λ (none : s ≡ status.Memory). subst P (sym none) memory) (said_as P bad cut s) is
refused_as P memory fault bad cut (why_not.BadFile cause) s is = ⊎_elim (λ (none : s ≡ status.Memory). subst P (sym none) memory) (said_as P bad cut s) is

pub refused_status : (why : OpenError) (s : Status) → EndsFor why s → IsNoRun s
refused_status = refused_as IsNoRun tt tt tt tt

pub refused_no_usage : (why : OpenError) (s : Status) → EndsFor why s → s ≡ status.Usage → ⊥
refused_no_usage why s ends is = subst IsNoRun is (refused_status why s ends)

pub refused_no_read : (why : OpenError) (s : Status) → EndsFor why s → s ≡ status.ReadFault → ⊥
refused_no_read why s ends is = subst IsNoRun is (refused_status why s ends)

-- where a line was said, the outside didn't fail
pub inside : (why : OpenError) (s : Status) → EndsFor why s → IsSaid s → IsFromOutside why → ⊥
inside why_not.Memory s is said outside = said_as (λ r. r ≡ status.Memory → ⊥) (λ no. cc (no)) (λ no. cc (no)) s said is
inside why_not.DiskFault s is said outside = said_as (λ r. r ≡ status.DiskFault → ⊥) (λ no. cc (no)) (λ no. cc (no)) s said is
inside why_not.NoDatabase s is said outside = outside
inside (why_not.NewerFormat found) s is said outside = outside
inside (why_not.BadFile cause) s is said outside = outside

pub outside_or : (why : OpenError) → IsFromOutside why ⊎ (IsFromOutside why → ⊥)
outside_or why_not.Memory = inl tt
outside_or why_not.DiskFault = inl tt
outside_or why_not.NoDatabase = inr (λ outside. outside)
outside_or (why_not.NewerFormat found) = inr (λ outside. outside)
outside_or (why_not.BadFile cause) = inr (λ outside. outside)

-- where the outside failed, that is the status
pub outside_as : (P : Status → Type 0) → P status.Memory → P status.DiskFault → (why : OpenError) (s : Status) → IsFromOutside why → EndsFor why s → P s
outside_as P memory fault why_not.Memory s outside is = subst P (sym is) memory
outside_as P memory fault why_not.DiskFault s outside is = subst P (sym is) fault
outside_as P memory fault why_not.NoDatabase s outside is = absurd outside
outside_as P memory fault (why_not.NewerFormat found) s outside is = absurd outside
outside_as P memory fault (why_not.BadFile cause) s outside is = absurd outside

-- a fault of the disk is answered with its status, and nothing else is
pub fault_to : (why : OpenError) (s : Status) → EndsFor why s → why ≡ why_not.DiskFault → s ≡ status.DiskFault
fault_to why s ends is = subst (λ (e : OpenError). EndsFor e s) is ends

fault_from : (why : OpenError) (s : Status) → EndsFor why s → s ≡ status.DiskFault → why ≡ why_not.DiskFault
fault_from why_not.DiskFault s ends is = refl
fault_from why_not.Memory s ends is = cc (ends, is)
fault_from why_not.NoDatabase s ends is = absurd (said_as (λ r. r ≡ status.DiskFault → ⊥) (λ no. cc (no)) (λ no. cc (no)) s ends is)
fault_from (why_not.NewerFormat found) s ends is = absurd (⊎_elim (λ (none : s ≡ status.Memory). cc (none, is)) (λ (said : IsSaid s). said_as (λ r. r ≡ status.DiskFault → ⊥) (λ no. cc (no)) (λ no. cc (no)) s said is) ends)
fault_from (why_not.BadFile cause) s ends is = absurd (⊎_elim (λ (none : s ≡ status.Memory). cc (none, is)) (λ (said : IsSaid s). said_as (λ r. r ≡ status.DiskFault → ⊥) (λ no. cc (no)) (λ no. cc (no)) s said is) ends)

-- ---- what was done

-- A file wasn't opened, for this reason.
module _ {H : Type 0} (seen : H → View) (old : View) (mid new : H) (why : OpenError) (result : Status) (ends : EndsFor why result) (still : IsSilent result → new ≡ mid) where
  pub still_as : (P : View → Type 0) → P (seen mid) → IsSilent result → P (seen new)
  still_as P at silent = subst (λ (h : H). P (seen h)) (sym (still silent)) at

  pub world_refused : (does : ListWorld → List ℕ → List Item) (failed : Type 0) → DiskCalls failed old (seen mid) → (script : Option (List ℕ))
      → ((image text : List ℕ) (w : ListWorld) → Tells old image → Holds image w → old.text ≡ Some text → SyncedRun old (seen mid) image failed (StaysHeld w text))
      → (failed → why ≡ why_not.DiskFault)
      → ((image : List ℕ) (w : ListWorld) → Tells old image → Holds image w → IsFromOutside why)
      → ((image text file : List ℕ) (w : ListWorld) → Tells old image → Holds image w → old.text ≡ Some text → Tells (seen mid) file → Holds file w)
      → RunsBy does script script old (seen new) result
  world_refused does failed calls script stops to outside left = ⊎_elim
      (λ (is : IsFromOutside why).
      still_as (λ (v : View). RunsBy does script script old v result)
      (world_unopened does script old (seen mid) failed calls stops result (λ f. fault_to why result ends (to f))
      (outside_as (λ s. IsEnding s → ⊥) (λ ending. ending) (λ ending. ending) why result is ends)
      (outside_as IsRunStatus tt tt why result is ends) left)
      (outside_as IsSilent tt tt why result is ends))
      (λ (within : IsFromOutside why → ⊥). world_absent does script script old (seen new) result (λ image w tells holds. within (outside image w tells holds)))
      (outside_or why)

  -- What is said of it is its line.
  module _ (prints : (IsSilent result → ⊥) → Prints (why_line why) (seen mid) (seen new))
      (rose : RoseIf (result ≡ status.WriteFault) (seen mid).print_faults (seen new).print_faults)
      (printed : result ≡ status.BadFile → (text : List ℕ) → (seen mid).text ≡ Some text → (seen new).text ≡ Some (text ++ why_line why))
      (cut : result ≡ status.WriteFault → (text : List ℕ) → (seen mid).text ≡ Some text → SaidFront (why_line why) text (seen new)) where
    pub loud : IsSaid result → IsSilent result → ⊥
    loud said = never_silent status.BadFile result (λ no. no) said

    pub refused_leaves : (failed : Type 0) → DiskCalls failed old (seen mid) → (failed → why ≡ why_not.DiskFault) → (why ≡ why_not.DiskFault → failed)
        → HostCalls (result ≡ status.DiskFault) (result ≡ status.WriteFault) old (seen new)
    refused_leaves failed calls to back = ⊎_elim
        (λ (silent : IsSilent result).
        still_as (λ (v : View). HostCalls (result ≡ status.DiskFault) (result ≡ status.WriteFault) old v)
        (disk_host failed (result ≡ status.DiskFault) (result ≡ status.WriteFault) old (seen mid) (λ f. fault_to why result ends (to f))
        (λ is. back (fault_from why result ends is)) (λ is. subst IsSilent is silent) calls) silent)
        (λ (said : IsSaid result).
        host_calls_on ⊥ ⊥ (result ≡ status.DiskFault) (result ≡ status.WriteFault) old (seen mid) (seen new) (λ none. none) (λ none. none)
        (disk_host failed ⊥ ⊥ old (seen mid) (λ f. inside why result ends said (subst IsFromOutside (sym (to f)) tt)) absurd (λ none. none) calls)
        (line_leaves status.BadFile result (why_line why) (seen mid) (seen new) said (prints (loud said)) rose (λ is. cc (is))))
        (way why result ends)

    -- It was only looked at, and what is said is why.
    module _ (looks : Looks old (seen mid)) (answer : (image : List ℕ) → Tells old image → IsFromOutside why ⊎ IsOpenedTo image (Err why)) where
      pub broken : (IsFromOutside why → ⊥) → (image : List ℕ) → Tells old image → IsOpenedTo image (Err why)
      broken inside image tells = ⊎_elim (λ (outside : IsFromOutside why). absurd (inside outside)) (λ (to : IsOpenedTo image (Err why)). to) (answer image tells)

      pub none_refused : (script : Option (List ℕ)) → NoneBroken old → RunsNone script script old (seen new) result
      none_refused script held = ⊎_elim
          (λ (silent : IsSilent result).
          none_silent script old (seen new) result held silent (refused_status why result ends) (still_as (λ (v : View). Looks old v) looks silent))
          (λ (said : IsSaid result).
          none_said script old (seen mid) (seen new) (why_line why) result held looks
          (λ image tells. (why, broken (inside why result ends said) image tells, refl)) said (prints (loud said)) rose
          (λ whole. ⊎_elim (λ (bad : result ≡ status.BadFile). printed bad) (λ (failed : result ≡ status.WriteFault). absurd (whole failed)) said) cut)
          (way why result ends)

      pub refused_idle : IsIdle result old (seen new)
      refused_idle = ⊎_elim
          (λ (silent : IsSilent result). idle_looks result old (seen new) (still_as (λ (v : View). Looks old v) looks silent))
          (λ (said : IsSaid result).
          idle_on result old (seen mid) (seen new) looks
          (line_idle status.BadFile result (why_line why) (seen mid) (seen new) said (prints (loud said)) rose (λ no. no)))
          (way why result ends)
