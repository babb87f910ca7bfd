-- When the claims of a run hold.
use Rattle.std.proofs.Common.{◌≡◌, ◌≤◌, ◌⊎◌, ◌∙◌, ◌++◌, ⊎_elim, List, ℕ, Option, Some, refl, sym, subst, arith}
use Rattle.ode_host.specs.Causes.{RoseIf}
use Rattle.ode_host.specs.FirstSync.{SyncedRun}
use Rattle.ode_host.specs.Host.{DiskCalls, Keeps, LeavesOnly, Looks, Prints, Tells}
use Rattle.ode_host.specs.View.{View}
use Rattle.ode_host.specs.declared.status.Status.{Status}
use Rattle.ode_host.specs.declared.status.Status.TheVariants as status
use Rattle.ode_host.proofs.Moments.{tells_looks}
use Rattle.ode_machine.proofs.MomentLaws.{at_start}
use Rattle.ode_machine.specs.Moments.{IsAfterSome}
use Rattle.ode_machine.specs.Runs.{Item}
use Rattle.ode_open.proofs.Synced.{synced_as, synced_on}
use Rattle.ode_opened.specs.declared.opened.Opened.{Opened}
use Rattle.ode_pagemap.specs.declared.map.PageMap.{PageMap}
use Rattle.ode_script.specs.Cutting.{ending_of, pieces}
use Rattle.ode_ends.specs.Statuses.{IsEnding, IsRunStatus}
use Rattle.ode_value.specs.Language.{ListWorld}
use Rattle.ode_begin.specs.Answers.{BreaksRule, IsRunOf, IsNoRun, IsSilent, SaidFront, SaysWhy}
use Rattle.ode_begin.specs.Claims.{RunsNone, RunsBy}
use Rattle.ode_begin.specs.Holds.{Holds}
use Rattle.ode_begin.specs.Opening.{OpensTo}
use Rattle.ode_begin.specs.Stops.{StaysHeld}
use Rattle.ode_begin.proofs.Calling.{exit_cut, none_cut, still_tells, tells_same}
use Rattle.ode_begin.proofs.Leaving.{idle_looks, idle_on, line_idle, told_by}

-- a file that holds a world breaks no rule
abbrev pub NoneBroken : View → Type 0
NoneBroken old = (image : List ℕ) (w : ListWorld) → Tells old image → Holds image w → BreaksRule image → ⊥

-- no file was met that holds a world
pub world_absent : (does : ListWorld → List ℕ → List Item) (before after : Option (List ℕ)) (old new : View) (result : Status) → ((image : List ℕ) (w : ListWorld) → Tells old image → Holds image w → ⊥)
    → RunsBy does before after old new result
world_absent does before after old new result none = record {
  run = λ bytes image text w finds ending. absurd (none image w finds.tells finds.holds);
  cut = λ bytes image text w finds cut. absurd (none image w finds.tells finds.holds);
  stops = λ bytes image text w finds. absurd (none image w finds.tells finds.holds);
  answers = λ image w tells holds. absurd (none image w tells holds);
}

module _ (script : Option (List ℕ)) (old new : View) (result : Status) (held : NoneBroken old) where
  -- Nothing was done but looking, and the status has no line.
  pub none_silent : IsSilent result → IsNoRun result → Looks old new → RunsNone script script old new result
  none_silent silent no_run looks = record {
    held = held;
    bad_file = λ is image text tells said breaks. absurd (subst IsSilent is silent);
    no_world = λ image tells breaks. no_run;
    idle = λ image tells breaks. (idle_looks result old new looks, refl);
    bad_file_cut = λ is image text tells said breaks. absurd (subst IsSilent is silent);
  }

  -- A file was met that breaks none.
  pub none_absent : ((image : List ℕ) → Tells old image → BreaksRule image → ⊥) → (after : Option (List ℕ)) → RunsNone script after old new result
  none_absent keeps after = record {
    held = held;
    bad_file = λ bad image text tells said breaks. absurd (keeps image tells breaks);
    no_world = λ image tells breaks. absurd (keeps image tells breaks);
    idle = λ image tells breaks. absurd (keeps image tells breaks);
    bad_file_cut = λ cut image text tells said breaks. absurd (keeps image tells breaks);
  }

-- What is claimed of a file that breaks a rule holds where it holds of each that does.
pub none_where : (before after : Option (List ℕ)) (old new : View) (result : Status) → NoneBroken old
    → ((image : List ℕ) → Tells old image → BreaksRule image → RunsNone before after old new result) → RunsNone before after old new result
none_where before after old new result held each = record {
  held = held;
  bad_file = λ is image text tells said breaks. (each image tells breaks).bad_file is image text tells said breaks;
  no_world = λ image tells breaks. (each image tells breaks).no_world image tells breaks;
  idle = λ image tells breaks. (each image tells breaks).idle image tells breaks;
  bad_file_cut = λ is image text tells said breaks. (each image tells breaks).bad_file_cut is image text tells said breaks;
}

-- at the end of calls that didn't fail a stop leaves what it leaves from their sync on
pub at_end : (old mid : View) (image : List ℕ) (failed : Type 0) (P : List ℕ → List ℕ → Type 0) → SyncedRun old mid image failed P → (failed → ⊥)
    → (c o : List ℕ) → mid.left mid.moment c o → P c o
at_end old mid image failed P run none c o left =
    ⊎_elim (λ (is : failed). absurd (none is)) (λ (up : run.since ≤ mid.moment). run.each mid.moment c o up (omega arith) left) run.within

-- A file was to be opened: there was a sync, and from then on a stop leaves the world.
module _ (does : ListWorld → List ℕ → List Item) (script : Option (List ℕ)) (old mid : View) (failed : Type 0) (calls : DiskCalls failed old mid)
    (stops : (image text : List ℕ) (w : ListWorld) → Tells old image → Holds image w → old.text ≡ Some text → SyncedRun old mid image failed (StaysHeld w text)) where
  abbrev AfterSome : List ℕ → ListWorld → List ℕ → List ℕ → List ℕ → Type 0
  AfterSome bytes w text = IsAfterSome Holds (does w bytes) w text

  here : (bytes text : List ℕ) (w : ListWorld) (c o : List ℕ) → StaysHeld w text c o → AfterSome bytes w text c o
  here bytes text w c o stays = subst (λ (t : List ℕ). AfterSome bytes w text c t) (sym stays.1) (at_start Holds (does w bytes) w text c stays.0)

  -- It failed, and nothing came behind it.
  pub world_unopened : (result : Status) → (failed → result ≡ status.DiskFault) → (IsEnding result → ⊥) → IsRunStatus result
      → ((image text file : List ℕ) (w : ListWorld) → Tells old image → Holds image w → old.text ≡ Some text → Tells mid file → Holds file w) → RunsBy does script script old mid result
  world_unopened result to no_end run left = record {
    run = λ bytes image text w finds ending. absurd (no_end ending);
    cut = λ bytes image text w finds cut.
        let now = still_tells old mid calls.keeps image finds.tells in
        none_cut (does w bytes) w text now.0 mid now.1 (left image text now.0 w finds.tells finds.holds finds.said now.1) (calls.text ∙ finds.said);
    stops = λ bytes image text w finds.
        synced_as old mid image failed (result ≡ status.DiskFault) (StaysHeld w text) (AfterSome bytes w text) (here bytes text w) (stops image text w finds.tells finds.holds finds.said) to;
    answers = λ image w tells holds. run;
  }

  -- A script was run over its keeper.
  pub world_opened : (o : Opened PageMap) → ((image : List ℕ) (w : ListWorld) → Tells old image → Holds image w → OpensTo w o mid) → (failed → ⊥)
      → (new : View) (after : Option (List ℕ)) (result : Status) → ((file out : List ℕ) → Tells new file → new.text ≡ Some out → new.left new.moment file out) → Keeps mid new
      → ((w : ListWorld) (bytes text : List ℕ) → script ≡ Some bytes → OpensTo w o mid → mid.text ≡ Some text → IsEnding result → IsRunOf (does w bytes) (ending_of (pieces bytes)) w text after new result)
      → ((w : ListWorld) (bytes text : List ℕ) → script ≡ Some bytes → OpensTo w o mid → mid.text ≡ Some text → LeavesOnly mid new (IsAfterSome Holds (does w bytes) w text))
      → ((w : ListWorld) → OpensTo w o mid → IsRunStatus result)
      → RunsBy does script after old new result
  world_opened o opens none new after result may_stay keeps ran any_moment answers = record {
    run = λ bytes image text w finds ending. ran w bytes text finds.given (opens image w finds.tells finds.holds) (calls.text ∙ finds.said) ending;
    cut = λ bytes image text w finds cut.
        let now = still_tells old mid calls.keeps image finds.tells in
        let out = told_by mid new keeps text (calls.text ∙ finds.said) in
        exit_cut (does w bytes) w text now.0 mid new may_stay now.1 keeps out.0 out.1
        (any_moment w bytes text finds.given (opens image w finds.tells finds.holds) (calls.text ∙ finds.said))
        (λ c o left. here bytes text w c o (at_end old mid image failed (StaysHeld w text) (stops image text w finds.tells finds.holds finds.said) none c o left));
    stops = λ bytes image text w finds.
        synced_on old mid image failed (result ≡ status.DiskFault) (StaysHeld w text) (AfterSome bytes w text) (here bytes text w) (stops image text w finds.tells finds.holds finds.said) none new
        (any_moment w bytes text finds.given (opens image w finds.tells finds.holds) (calls.text ∙ finds.said));
    answers = λ image w tells holds. answers w (opens image w tells holds);
  }

-- A file was met that breaks a rule, and the line that says which way was printed, or its print failed.
module _ (script : Option (List ℕ)) (old mid new : View) (said : List ℕ) (result : Status) (held : NoneBroken old) (looks : Looks old mid)
    (reason : (image : List ℕ) → Tells old image → SaysWhy image said)
    (ends : (result ≡ status.BadFile) ⊎ (result ≡ status.WriteFault)) (prints : Prints said mid new)
    (rose : RoseIf (result ≡ status.WriteFault) mid.print_faults new.print_faults)
    (printed : (result ≡ status.WriteFault → ⊥) → (text : List ℕ) → mid.text ≡ Some text → new.text ≡ Some (text ++ said))
    (cut : result ≡ status.WriteFault → (text : List ℕ) → mid.text ≡ Some text → SaidFront said text new) where
  pub none_said : RunsNone script script old new result
  none_said = record {
    held = held;
    bad_file = λ is image text tells before breaks. record {
      tells = tells_same image mid new prints.keeps prints.image (tells_looks image old mid looks tells);
      said = said;
      reason = reason image tells;
      printed = printed (λ (failed : result ≡ status.WriteFault). cc (is, failed)) text (looks.text ∙ before);
    };
    no_world = λ image tells breaks. ⊎_elim (λ (same : result ≡ status.BadFile). subst IsNoRun (sym same) tt) (λ (failed : result ≡ status.WriteFault). subst IsNoRun (sym failed) tt) ends;
    idle = λ image tells breaks. (idle_on result old mid new looks (line_idle status.BadFile result said mid new ends prints rose (λ loud. loud)), refl);
    bad_file_cut = λ is image text tells before breaks. record { said = said; reason = reason image tells; front = cut is text (looks.text ∙ before) };
  }
