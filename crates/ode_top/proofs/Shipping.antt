-- A call over a file that is opened for a run, whatever its moments are; and a run that ships.
use Rattle.std.proofs.Common.{◌≡◌, ◌∙◌, ⊎_elim, append-nil, ℕ, List, [], ◌∷◌, Option, Some, refl, sym, subst, arith}
use Rattle.ode_gate.specs.declared.places.TheConstants.{FORMAT}
use Rattle.ode_host.specs.FirstSync.{SyncedRun}
use Rattle.ode_host.specs.Host.{DiskCalls, Keeps, LeavesOnly, Tells}
use Rattle.ode_host.specs.View.{View}
use Rattle.ode_host.specs.declared.status.Status.{Status}
use Rattle.ode_host.specs.declared.status.Status.TheVariants as status
use Rattle.ode_keep.specs.Entries.{Entries}
use Rattle.ode_keeper.specs.Files.{FileMeans}
use Rattle.ode_language.specs.Languages.{ode}
use Rattle.ode_machine.specs.Runs.{Item, Refuses, Settles, trace, world_at}
use Rattle.ode_open.proofs.Synced.{synced_as, synced_on}
use Rattle.ode_open.specs.Opening.{IsFromOutside}
use Rattle.ode_open.specs.declared.error.OpenError.{OpenError}
use Rattle.ode_open.specs.declared.error.OpenError.TheVariants as why_not
use Rattle.ode_opened.specs.declared.opened.Opened.{Opened}
use Rattle.ode_pagemap.specs.declared.map.PageMap.{PageMap}
use Rattle.ode_paging.specs.Meaning.{PagesMeanIn}
use Rattle.ode_script.specs.Cutting.{ending_of, pieces}
use Rattle.ode_trace.specs.Shipping.{IsShippedSoFar, ShippedAs}
use Rattle.ode_ends.specs.Resting.{DiskHas, HoldsBy}
use Rattle.ode_ends.specs.Statuses.{IsEnding, IsRunStatus}
use Rattle.ode_value.specs.Language.{ListWorld}
use Rattle.ode_begin.specs.Answers.{EndsFor, IsSilent}
use Rattle.ode_top.specs.Claims.{ShipsWorld}
use Rattle.ode_begin.specs.Holds.{Holds}
use Rattle.ode_begin.specs.Opening.{OpensTo}
use Rattle.ode_begin.specs.Stops.{IsCutAt, StaysIn}
use Rattle.ode_top.specs.Stops.{ShipsSoFar}
use Rattle.ode_begin.proofs.Calling.{at_exit, still_tells}
use Rattle.ode_begin.proofs.Claiming.{at_end}
use Rattle.ode_begin.proofs.Holding.{pages_hold}
use Rattle.ode_begin.proofs.Leaving.{told_by}
use Rattle.ode_begin.proofs.Refusing.{fault_to, outside_as, outside_or}
use Rattle.ode_begin.proofs.Reopening.{LeftIn, StopsIn}

-- ---- a call of which this is known at each moment

-- it was cut short behind an opening
pub cut_opened : (P Stay : List ℕ → List ℕ → Type 0) (old mid new : View) (image text : List ℕ) (failed : Type 0) → ((c o : List ℕ) → Stay c o → P c o)
    → SyncedRun old mid image failed Stay → (failed → ⊥) → ((file out : List ℕ) → Tells new file → new.text ≡ Some out → new.left new.moment file out)
    → Keeps old mid → Keeps mid new → Tells old image → mid.text ≡ Some text → LeavesOnly mid new P → IsCutAt P new
cut_opened P Stay old mid new image text failed here stops none may_stay first keeps tells said run =
    let now = still_tells old mid first image tells in
    let there = still_tells mid new keeps now.0 now.1 in
    let out = told_by mid new keeps text said in
    record {
      image = there.0;
      out = out.0;
      tells = there.1;
      said = out.1;
      moment = at_exit P mid new may_stay run (λ c o left. here c o (at_end old mid image failed Stay stops none c o left)) there.0 out.0 there.1 out.1;
    }

-- it was cut short at the opening
pub cut_unopened : (P : List ℕ → List ℕ → Type 0) (old mid : View) (image text : List ℕ) → Keeps old mid → Tells old image → mid.text ≡ Some text
    → ((file : List ℕ) → Tells mid file → P file text) → IsCutAt P mid
cut_unopened P old mid image text keeps tells said left =
    let now = still_tells old mid keeps image tells in
    record { image = now.0; out = text; tells = now.1; said = said; moment = left now.0 now.1 }

-- ---- the moments of a run that ships

after_none : (w : ListWorld) (items : List Item) → world_at 0 w items ≡ w
after_none w [] = refl
after_none w (Refuses line ∷ items) = after_none w items
after_none w (Settles world text ∷ items) = refl

-- nothing was done yet
pub ships_here : (items : List Item) (w : ListWorld) (entries : Entries) (text image out : List ℕ) → StaysIn w entries text image out → ShipsSoFar items w entries text image out
ships_here items w entries text image out stays =
    let same = sym (after_none w items) in
    record {
      moment = record {
        settled = 0;
        held = subst (λ (u : ListWorld). HoldsBy ode FileMeans image u) same stays.0.0.held;
        frames = [];
        few = omega arith;
        kept = tt;
        fit = tt;
        front = [];
        rest = [];
        is_front = refl;
        printed = stays.0.1 ∙ sym (append-nil text);
      };
      holds = subst (λ (u : ListWorld). Holds image u) same stays.0.0;
    }

-- a file of pages is a file
pub ships_files : (items : List Item) (w : ListWorld) (entries : Entries) (text image out : List ℕ)
    → IsShippedSoFar (PagesMeanIn FORMAT) items w entries text image out → ShipsSoFar items w entries text image out
ships_files items w entries text image out some =
    let holds = pages_hold image (world_at some.settled w items) some.held in
    record {
      moment = record {
        settled = some.settled;
        held = holds.held;
        frames = some.frames;
        few = some.few;
        kept = some.kept;
        fit = some.fit;
        front = some.front;
        rest = some.rest;
        is_front = some.is_front;
        printed = some.printed;
      };
      holds = holds;
    }

-- ---- its claims

-- no file was met that holds a world
ships_absent : (before after : Option (List ℕ)) (old new : View) (result : Status) → ((image : List ℕ) (w : ListWorld) → Tells old image → Holds image w → ⊥)
    → ShipsWorld before after old new result
ships_absent before after old new result none = record {
  run = λ bytes image text w entries finds means ending. absurd (none image w finds.tells finds.holds);
  cut = λ bytes image text w entries finds means cut. absurd (none image w finds.tells finds.holds);
  stops = λ bytes image text w entries finds means. absurd (none image w finds.tells finds.holds);
  answers = λ image w tells holds. absurd (none image w tells holds);
}

module _ (script : Option (List ℕ)) (old mid : View) (failed : Type 0) (calls : DiskCalls failed old mid) (stops : StopsIn old mid failed) where
  -- the file wasn't opened, and nothing came behind it
  ships_unopened : (result : Status) → (failed → result ≡ status.DiskFault) → (IsEnding result → ⊥) → IsRunStatus result → LeftIn old mid → ShipsWorld script script old mid result
  ships_unopened result to no_end run left = record {
    run = λ bytes image text w entries finds means ending. absurd (no_end ending);
    cut = λ bytes image text w entries finds means cut.
        cut_unopened (ShipsSoFar (trace ode w bytes) w entries text) old mid image text calls.keeps finds.tells (calls.text ∙ finds.said)
        (λ file now.
        let there = left image text file w entries finds.tells finds.holds means finds.said now in
        ships_here (trace ode w bytes) w entries text file text ((there.0, refl), there.1));
    stops = λ bytes image text w entries finds means.
        synced_as old mid image failed (result ≡ status.DiskFault) (StaysIn w entries text) (ShipsSoFar (trace ode w bytes) w entries text)
        (ships_here (trace ode w bytes) w entries text) (stops image text w entries finds.tells finds.holds means finds.said) to;
    answers = λ image w tells holds. run;
  }

  -- it was, and a script was run
  pub ships_opened : (o : Opened PageMap) → ((image : List ℕ) (w : ListWorld) → Tells old image → Holds image w → OpensTo w o mid)
      → ((image : List ℕ) (w : ListWorld) (entries : Entries) → Tells old image → Holds image w → FileMeans image entries → DiskHas (PagesMeanIn FORMAT) entries mid)
      → (failed → ⊥) → (new : View) (after : Option (List ℕ)) (result : Status)
      → ((file out : List ℕ) → Tells new file → new.text ≡ Some out → new.left new.moment file out) → Keeps mid new
      → ((w : ListWorld) (bytes text : List ℕ) (entries : Entries) → script ≡ Some bytes → OpensTo w o mid → mid.text ≡ Some text → DiskHas (PagesMeanIn FORMAT) entries mid → IsEnding result
      → ShippedAs (PagesMeanIn FORMAT) (trace ode w bytes) (ending_of (pieces bytes)) w entries text after new result)
      → ((w : ListWorld) (bytes text : List ℕ) (entries : Entries) → script ≡ Some bytes → OpensTo w o mid → mid.text ≡ Some text → DiskHas (PagesMeanIn FORMAT) entries mid
      → LeavesOnly mid new (ShipsSoFar (trace ode w bytes) w entries text))
      → ((w : ListWorld) → OpensTo w o mid → IsRunStatus result)
      → ShipsWorld script after old new result
  ships_opened o opens disk none new after result may_stay keeps shipped any_moment answers = record {
    run = λ bytes image text w entries finds means ending.
        shipped w bytes text entries finds.given (opens image w finds.tells finds.holds) (calls.text ∙ finds.said) (disk image w entries finds.tells finds.holds means) ending;
    cut = λ bytes image text w entries finds means cut.
        cut_opened (ShipsSoFar (trace ode w bytes) w entries text) (StaysIn w entries text) old mid new image text failed (ships_here (trace ode w bytes) w entries text)
        (stops image text w entries finds.tells finds.holds means finds.said) none may_stay calls.keeps keeps finds.tells (calls.text ∙ finds.said)
        (any_moment w bytes text entries finds.given (opens image w finds.tells finds.holds) (calls.text ∙ finds.said) (disk image w entries finds.tells finds.holds means));
    stops = λ bytes image text w entries finds means.
        synced_on old mid image failed (result ≡ status.DiskFault) (StaysIn w entries text) (ShipsSoFar (trace ode w bytes) w entries text)
        (ships_here (trace ode w bytes) w entries text) (stops image text w entries finds.tells finds.holds means finds.said) none new
        (any_moment w bytes text entries finds.given (opens image w finds.tells finds.holds) (calls.text ∙ finds.said) (disk image w entries finds.tells finds.holds means));
    answers = λ image w tells holds. answers w (opens image w tells holds);
  }

-- The file wasn't opened, for this reason.
pub ships_refused : {H : Type 0} (seen : H → View) (old : View) (mid new : H) (why : OpenError) (result : Status) → EndsFor why result → (IsSilent result → new ≡ mid)
    → (failed : Type 0) → DiskCalls failed old (seen mid) → (script : Option (List ℕ)) → StopsIn old (seen mid) failed → (failed → why ≡ why_not.DiskFault)
    → ((image : List ℕ) (w : ListWorld) → Tells old image → Holds image w → IsFromOutside why) → LeftIn old (seen mid) → ShipsWorld script script old (seen new) result
ships_refused seen old mid new why result ends still failed calls script stops to outside left = ⊎_elim
    (λ (is : IsFromOutside why).
    subst (λ h. ShipsWorld script script old (seen h) result) (sym (still (outside_as IsSilent tt tt why result is ends)))
    (ships_unopened script old (seen mid) failed calls stops result (λ f. fault_to why result ends (to f))
    (outside_as (λ s. IsEnding s → ⊥) (λ ending. ending) (λ ending. ending) why result is ends)
    (outside_as IsRunStatus tt tt why result is ends) left))
    (λ (within : IsFromOutside why → ⊥). ships_absent script script old (seen new) result (λ image w tells holds. within (outside image w tells holds)))
    (outside_or why)
