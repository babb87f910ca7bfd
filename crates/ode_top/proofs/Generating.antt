-- A run of a number's script.
use Rattle.std.proofs.Common.{◌≡◌, ◌⊎◌, ◌∙◌, ⊎_elim, ℕ, zero, suc, List, [], ◌∷◌, ◌++◌, Bool, true, false, Option, Some, append-nil, append_assoc, ap, refl, sym, subst}
use Rattle.ode_gate.specs.declared.places.TheConstants.{FORMAT}
use Rattle.ode_gen.specs.Generating.{gen_script}
use Rattle.ode_host.proofs.Moments.{weaker}
use Rattle.ode_host.specs.FirstSync.{SyncedRun}
use Rattle.ode_host.specs.Host.{DiskCalls, Keeps, LeavesCut, LeavesOnly, Stands, Tells}
use Rattle.ode_host.specs.View.{View}
use Rattle.ode_host.specs.declared.status.Status.{Status}
use Rattle.ode_host.specs.declared.status.Status.TheVariants as status
use Rattle.ode_language.specs.Languages.{ode}
use Rattle.ode_machine.proofs.MomentLaws.{at_start, refusal_leaves, runs_on}
use Rattle.ode_machine.specs.Moments.{Holding, IsAfterSome}
use Rattle.ode_machine.specs.Runs.{Item, Refuses, Settles, any_refused, final, status_at, text_of, text_until, trace, world_at}
use Rattle.ode_open.proofs.Synced.{synced_as, synced_on}
use Rattle.ode_open.specs.Opening.{IsFromOutside}
use Rattle.ode_open.specs.declared.error.OpenError.{OpenError}
use Rattle.ode_open.specs.declared.error.OpenError.TheVariants as why_not
use Rattle.ode_opened.specs.declared.opened.Opened.{Opened}
use Rattle.ode_pagemap.specs.declared.map.PageMap.{PageMap}
use Rattle.ode_paging.specs.Meaning.{PagesMeanIn}
use Rattle.ode_script.specs.Cutting.{End, Ending, ending_of, pieces}
use Rattle.ode_trace.proofs.HearingLaws.{final_heard, refused_heard}
use Rattle.ode_trace.specs.Hearing.{heard_items}
use Rattle.ode_ends.specs.Endings.{RanAs}
use Rattle.ode_ends.specs.Statuses.{IsEnding, IsRunStatus}
use Rattle.ode_trace.specs.declared.tally.Tally.{Tally}
use Rattle.ode_value.specs.Language.{ListWorld}
use Rattle.ode_begin.specs.Answers.{EndsFor, IsSilent}
use Rattle.ode_top.specs.Answers.{IsGenStatus, IsGenerated, counts_line, gen_items, gen_said, gen_tally}
use Rattle.ode_top.specs.Claims.{Generates}
use Rattle.ode_begin.specs.Holds.{Holds, HoldsInPages}
use Rattle.ode_begin.specs.Opening.{OpensTo}
use Rattle.ode_begin.specs.Stops.{StaysHeld}
use Rattle.ode_begin.proofs.Calling.{after_some, exit_cut, none_cut, still_tells}
use Rattle.ode_begin.proofs.Claiming.{at_end}
use Rattle.ode_begin.proofs.Holding.{pages_hold}
use Rattle.ode_begin.proofs.Leaving.{told_by}
use Rattle.ode_begin.proofs.Refusing.{fault_to, outside_as, outside_or}

-- ---- a line behind a run

-- it settles nothing
settled_before : (k : ℕ) (w : ListWorld) (items : List Item) (line : List ℕ) → world_at k w (items ++ (Refuses line ∷ [])) ≡ world_at k w items
settled_before k w [] line = refl
settled_before k w (Refuses l ∷ items) line = settled_before k w items line
settled_before zero w (Settles v text ∷ items) line = refl
settled_before (suc k) w (Settles v text ∷ items) line = settled_before k v items line

-- and comes behind all that is printed
text_before : (k : ℕ) (items : List Item) (line : List ℕ) → (rest : List ℕ) × (text_until k (items ++ (Refuses line ∷ [])) ≡ text_until k items ++ rest)
text_before k [] line = (line ++ [], refl)
text_before k (Refuses l ∷ items) line = let more = text_before k items line in (more.0, ap (λ (t : List ℕ). l ++ t) more.1 ∙ sym (append_assoc l (text_until k items) more.0))
text_before zero (Settles v text ∷ items) line = ([], refl)
text_before (suc k) (Settles v text ∷ items) line = let more = text_before k items line in (more.0, ap (λ (t : List ℕ). text ++ t) more.1 ∙ sym (append_assoc text (text_until k items) more.0))

-- so a moment of the run is one of the run with the line
before_line : (holds : Holding) (items : List Item) (line : List ℕ) (w : ListWorld) (text image out : List ℕ) → IsAfterSome holds items w text image out
    → IsAfterSome holds (items ++ (Refuses line ∷ [])) w text image out
before_line holds items line w text image out some =
    let more = text_before some.settled items line in
    record {
      settled = some.settled;
      held = subst (λ (u : ListWorld). holds image u) (sym (settled_before some.settled w items line)) some.held;
      front = some.front;
      rest = some.rest ++ more.0;
      is_front = more.1 ∙ ap (λ (t : List ℕ). t ++ more.0) some.is_front ∙ append_assoc some.front some.rest more.0;
      printed = some.printed;
    }

-- nothing is heard of a quiet run
nothing_heard : (items : List Item) → text_of (heard_items true items) ≡ []
nothing_heard [] = refl
nothing_heard (Settles w text ∷ items) = nothing_heard items
nothing_heard (Refuses line ∷ items) = nothing_heard items

module _ (number : ℕ) (w : ListWorld) (text : List ℕ) where
  abbrev items : List Item
  items = heard_items true (trace ode w (gen_script number))

  -- the run alone
  pub run_leaves : (old new : View) → LeavesOnly old new (IsAfterSome HoldsInPages items w text) → LeavesOnly old new (IsAfterSome Holds (gen_items number w) w text)
  run_leaves old new run =
      weaker old new (IsAfterSome HoldsInPages items w text) (IsAfterSome Holds (gen_items number w) w text)
      (λ c o some. before_line Holds items (gen_said number w) w text c o (after_some items w text c o some)) run

  -- and its line
  module _ (tally : Tally) (left : Option (List ℕ)) (mid new : View) (result : Status) (ran : RanAs (PagesMeanIn FORMAT) items (ending_of (pieces (gen_script number))) w text left mid result)
      (counted : tally ≡ gen_tally number w) where
    said_before : mid.text ≡ Some text
    said_before = ran.ends.printed ∙ ap (λ (l : List ℕ). Some (text ++ l)) (nothing_heard (trace ode w (gen_script number))) ∙ ap Some (append-nil text)

    ends_held : Holds ran.ends.image (final w items)
    ends_held = pages_hold ran.ends.image (final w items) ran.ends.holds

    pub generated : ((said : List ℕ) → mid.text ≡ Some said → new.text ≡ Some (said ++ counts_line number tally)) → ((file : List ℕ) → Stands file mid → Stands file new) → IsGenerated number w text new result
    generated says same = record {
      stated = ran.stated ∙ ap (status_at (ending_of (pieces (gen_script number)))) (refused_heard true (trace ode w (gen_script number)));
      ends = record {
        image = ran.ends.image;
        stands = same ran.ends.image ran.ends.stands;
        holds = subst (λ (u : ListWorld). Holds ran.ends.image u) (final_heard true w (trace ode w (gen_script number))) ends_held;
        printed = says text said_before ∙ ap (λ (t : Tally). Some (text ++ counts_line number t)) counted;
      };
    }

    pub line_leaves : (old : View) → LeavesOnly old mid (IsAfterSome HoldsInPages items w text)
        → ((file said : List ℕ) → Stands file mid → mid.text ≡ Some said → LeavesOnly mid new (LeavesCut file said (counts_line number tally))) → LeavesOnly old new (IsAfterSome Holds (gen_items number w) w text)
    line_leaves old run cut =
        runs_on Holds items (Refuses (gen_said number w) ∷ []) w text old mid new (run_leaves old mid run)
        (refusal_leaves Holds (gen_said number w) [] (final w items) ran.ends.image (text ++ text_of items) mid new ends_held
        (subst (λ (t : Tally). LeavesOnly mid new (LeavesCut ran.ends.image (text ++ text_of items) (counts_line number t))) counted (cut ran.ends.image (text ++ text_of items) ran.ends.stands ran.ends.printed)))

    status_of_end : (refused : Bool) → IsGenStatus (status_at End refused)
    status_of_end true = tt
    status_of_end false = tt

    -- the limits are never met
    pub ended_status : ending_of (pieces (gen_script number)) ≡ End → IsGenStatus result
    ended_status ends = subst IsGenStatus (sym (ran.stated ∙ ap (λ (e : Ending). status_at e (any_refused items)) ends)) (status_of_end (any_refused items))

-- what a run is answered with that didn't end by itself
pub cut_status : (s : Status) → IsRunStatus s → (IsEnding s → ⊥) → (s ≡ status.ReadFault → ⊥) → IsGenStatus s
cut_status status.Ok run no_end no_read = tt
cut_status status.Refused run no_end no_read = tt
cut_status status.DiskFault run no_end no_read = tt
cut_status status.WriteFault run no_end no_read = tt
cut_status status.Memory run no_end no_read = tt
cut_status status.ReadFault run no_end no_read = absurd (no_read refl)
cut_status status.LongStatement run no_end no_read = absurd (no_end tt)
cut_status status.LongScript run no_end no_read = absurd (no_end tt)
cut_status status.Usage run no_end no_read = absurd run
cut_status status.BadFile run no_end no_read = absurd run

-- ---- the claims

-- no file was met that holds a world
generates_none : (number : ℕ) (old new : View) (result : Status) → ((image : List ℕ) (w : ListWorld) → Tells old image → Holds image w → ⊥) → Generates number old new result
generates_none number old new result none = record {
  run = λ image text w tells holds said ending. absurd (none image w tells holds);
  cut = λ image text w tells holds said cut. absurd (none image w tells holds);
  stops = λ image text w tells holds said. absurd (none image w tells holds);
  answers = λ image text w tells holds said. absurd (none image w tells holds);
}

-- A file was to be opened: there was a sync, and from then on a stop leaves the world.
module _ (number : ℕ) (old mid : View) (failed : Type 0) (calls : DiskCalls failed old mid)
    (stops : (image text : List ℕ) (w : ListWorld) → Tells old image → Holds image w → old.text ≡ Some text → SyncedRun old mid image failed (StaysHeld w text)) where
  abbrev AfterSome : ListWorld → List ℕ → List ℕ → List ℕ → Type 0
  AfterSome w text = IsAfterSome Holds (gen_items number w) w text

  here : (text : List ℕ) (w : ListWorld) (c o : List ℕ) → StaysHeld w text c o → AfterSome w text c o
  here text w c o stays = subst (λ (t : List ℕ). AfterSome w text c t) (sym stays.1) (at_start Holds (gen_items number w) w text c stays.0)

  -- It failed, and nothing came behind it.
  generates_unopened : (result : Status) → (failed → result ≡ status.DiskFault) → (IsEnding result → ⊥) → IsGenStatus result
      → ((image text file : List ℕ) (w : ListWorld) → Tells old image → Holds image w → old.text ≡ Some text → Tells mid file → Holds file w) → Generates number old mid result
  generates_unopened result to no_end is left = record {
    run = λ image text w tells holds said ending. absurd (no_end ending);
    cut = λ image text w tells holds said cut.
        let now = still_tells old mid calls.keeps image tells in
        none_cut (gen_items number w) w text now.0 mid now.1 (left image text now.0 w tells holds said now.1) (calls.text ∙ said);
    stops = λ image text w tells holds said.
        synced_as old mid image failed (result ≡ status.DiskFault) (StaysHeld w text) (AfterSome w text) (here text w) (stops image text w tells holds said) to;
    answers = λ image text w tells holds said. is;
  }

  -- The script was run over its keeper.
  pub generates_opened : (o : Opened PageMap) → ((image : List ℕ) (w : ListWorld) → Tells old image → Holds image w → OpensTo w o mid) → (failed → ⊥)
      → (new : View) (result : Status) → ((file out : List ℕ) → Tells new file → new.text ≡ Some out → new.left new.moment file out) → Keeps mid new
      → ((w : ListWorld) (text : List ℕ) → OpensTo w o mid → mid.text ≡ Some text → IsEnding result → IsGenerated number w text new result)
      → ((w : ListWorld) (text : List ℕ) → OpensTo w o mid → mid.text ≡ Some text → LeavesOnly mid new (AfterSome w text))
      → ((w : ListWorld) (text : List ℕ) → OpensTo w o mid → mid.text ≡ Some text → IsGenStatus result)
      → Generates number old new result
  generates_opened o opens none new result may_stay keeps ran any_moment answers = record {
    run = λ image text w tells holds said ending. ran w text (opens image w tells holds) (calls.text ∙ said) ending;
    cut = λ image text w tells holds said cut.
        let now = still_tells old mid calls.keeps image tells in
        let out = told_by mid new keeps text (calls.text ∙ said) in
        exit_cut (gen_items number w) w text now.0 mid new may_stay now.1 keeps out.0 out.1
        (any_moment w text (opens image w tells holds) (calls.text ∙ said))
        (λ c o left. here text w c o (at_end old mid image failed (StaysHeld w text) (stops image text w tells holds said) none c o left));
    stops = λ image text w tells holds said.
        synced_on old mid image failed (result ≡ status.DiskFault) (StaysHeld w text) (AfterSome w text) (here text w) (stops image text w tells holds said) none new
        (any_moment w text (opens image w tells holds) (calls.text ∙ said));
    answers = λ image text w tells holds said. answers w text (opens image w tells holds) (calls.text ∙ said);
  }

-- A file wasn't opened, for this reason.
pub generates_refused : {H : Type 0} (number : ℕ) (seen : H → View) (old : View) (mid new : H) (why : OpenError) (result : Status) (failed : Type 0) → DiskCalls failed old (seen mid)
    → ((image text : List ℕ) (w : ListWorld) → Tells old image → Holds image w → old.text ≡ Some text → SyncedRun old (seen mid) image failed (StaysHeld w text))
    → EndsFor why result → (IsSilent result → new ≡ mid) → (failed → why ≡ why_not.DiskFault)
    → ((image : List ℕ) (w : ListWorld) → Tells old image → Holds image w → IsFromOutside why)
    → ((image text file : List ℕ) (w : ListWorld) → Tells old image → Holds image w → old.text ≡ Some text → Tells (seen mid) file → Holds file w) → Generates number old (seen new) result
generates_refused {H} number seen old mid new why result failed calls stops ends still to outside left = ⊎_elim
    (λ (is : IsFromOutside why).
    subst (λ (h : H). Generates number old (seen h) result) (sym (still (outside_as IsSilent tt tt why result is ends)))
    (generates_unopened number old (seen mid) failed calls stops result (λ f. fault_to why result ends (to f))
    (outside_as (λ s. IsEnding s → ⊥) (λ ending. ending) (λ ending. ending) why result is ends) (outside_as IsGenStatus tt tt why result is ends) left))
    (λ (within : IsFromOutside why → ⊥). generates_none number old (seen new) result (λ image w tells holds. within (outside image w tells holds)))
    (outside_or why)
