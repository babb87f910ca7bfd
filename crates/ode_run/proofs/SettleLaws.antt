-- The last points of a context's transaction, and what is left behind them.
use Rattle.std.proofs.Common.{◌≡◌, ◌⊎◌, ℕ, Bool, false, List, Result, Ok, Err, IfErr, IfOk, sym, ap, subst, ◌∙◌, inl, inr}
use Rattle.ode_host.specs.View.{View}
use Rattle.ode_interpreter.specs.Seen.{Leaves, with_classes}
use Rattle.ode_interpreter.specs.declared.stop.Stop.{Stop}
use Rattle.ode_interpreter.specs.declared.stop.Stop.TheVariants as stop
use Rattle.ode_keep.specs.Entries.{Entries}
use Rattle.ode_known_laws.specs.Knowing.{IsKnown, declared_in}
use Rattle.ode_laws.specs.Alike.{NumberTx, NumberWorld, RunsAs}
use Rattle.ode_overlay.specs.Layers.{Layer}
use Rattle.ode_overlay.specs.Rewinding.{rewind}
use Rattle.ode_overlay.specs.Settling.{growth_told}
use Rattle.ode_run.proofs.ContextLaws.{IsKept, IsReturned, begins, known_of}
use Rattle.ode_run.proofs.EndLaws.{same_view}
use Rattle.ode_run.specs.Contexts.{ContextRuns, IsContext, IsOpen, LeavesOpen, tables_of, tx_of, tx_over}
use Rattle.ode_run.specs.Ending.{last_points}
use Rattle.ode_run.specs.Knowing.{IsSound, Known, Knows, tx}
use Rattle.ode_run.specs.declared.context.Ctx.{Ctx}
use Rattle.ode_run.specs.declared.work.Work.{Work}
use Rattle.ode_schema.specs.Parts.{Parts}
use Rattle.ode_settled_laws.specs.Holding.{SettledOver}
use Rattle.ode_states.specs.Machine.{checked}
use Rattle.ode_states.specs.declared.fired.Fired.{Fired}
use Rattle.ode_value.specs.Firings.{whole_list}
use Rattle.ode_value.specs.Language.{Language, ListTx, ListWorld}
use Rattle.ode_value.specs.Objects.{Histories, Starts}
use Rattle.ode_value.specs.Pasts.{numbers}
use Rattle.ode_value.specs.Settling.{Settled, aborted, posted}
use Rattle.ode_value.specs.Tables.{Table}
use Rattle.ode_value.specs.Worlds.{Declared}
use Rattle.ode_value.specs.declared.class.Class.{Class}
use Rattle.ode_value.specs.declared.event.Kind.TheVariants.{TAbort}
use Rattle.ode_version_laws.specs.Growing.{GoesOnNumbered}
use Rattle.ode_view_laws.specs.Viewing.{Beside, nothing_beside, running, world_now}

-- ---- the last points

-- what a call that posts them knows of its program and of the transaction
abbrev pub IsPosting : {H K : Type 0} → (H → View) → (K → View → Entries → Type 0) → (K → Bool) → Work H K → Work H K → Parts → Result (Unit {0}) Stop → (NumberTx → NumberTx) → Type 0
IsPosting {H} seen held live w w' p result behind = (k : Known H) → checked k.first.bones.classes ≡ p.classes → Knows seen held live w p k
    → IfOk result (λ _. with_classes k.first.bones.classes (tx k.first.bones.classes k w') ≡ behind (with_classes k.first.bones.classes (tx k.first.bones.classes k w)))

module _ {H K : Type 0} (seen : H → View) (held : K → View → Entries → Type 0) (live : K → Bool) where
  pub points_over : (w w' : Work H K) (p : Parts) (q : K) (x : Layer) (deferred : List (ℕ × Fired)) (text : List ℕ) (left : ℕ) (h : H) → IsReturned w w' q x deferred text left h
      → (result : Result (Unit {0}) Stop) (behind : NumberTx → NumberTx) → IsPosting seen held live w w' p result behind → IsKept seen held live w w' p result
      → (entries : Entries) (first : NumberWorld) → p.classes ≡ declared_in first
      → IsOpen (held w.heap.now (seen w.host.now)) (live w.heap.now) w.overlay.now w.budget.now w.bytes entries first
      → IfOk result (λ _. tx_over first x deferred text left ≡ behind (tx_over first w.overlay.now w.deferred.now w.text.now w.budget.now))
  unfolding world_now
  points_over w w' p q x deferred text left h back (Err why) behind posts kept entries first classes state = tt
  points_over w w' p q x deferred text left h back (Ok u) behind posts kept entries first classes state =
      let k = known_of w entries first in
      let knows = begins seen held live w p entries first classes state in
      let lent = (kept k knows).lent in
      let is : tx first.bones.classes k w' ≡ behind (tx first.bones.classes k w) = posts k (sym classes) knows in
      same_view first.bones.classes first x w'.overlay.now deferred w'.deferred.now text w'.text.now left w'.budget.now
      (sym (back.overlay (sym lent.overlay))) (sym (back.deferred (sym lent.deferred))) (sym (back.text (sym lent.text))) (sym (back.budget (sym lent.budget))) ∙ is

  -- ---- the context with another overlay

  pub context_over : (entries : Entries) (first : NumberWorld) (ctx : Ctx K) (host : H) (x : Layer) → IsContext seen held live entries first ctx host → IsKnown entries first x
      → IsContext seen held live entries first (record ctx { overlay = x }) host
  context_over entries first ctx host x context known = record {
    state = record {
      usable = context.state.usable;
      records = context.state.records;
      known = known;
      budget = context.state.budget;
      bytes = context.state.bytes;
    };
    classes = context.classes;
  }

  -- ---- what it did is taken back

  module _ (entries : Entries) (first : NumberWorld) (ctx back : Ctx K) (host host' : H) (context : IsContext seen held live entries first ctx host) (taken : back ≡ record ctx { overlay = rewind ctx.classes ctx.overlay }) where
    pub taken_context : host' ≡ host → IsKnown entries first (rewind (declared_in first) ctx.overlay) → IsContext seen held live entries first back host'
    taken_context same known =
        subst (λ (h : H). IsContext seen held live entries first back h) (sym same)
        (subst (λ (q : Ctx K). IsContext seen held live entries first q host) (sym taken)
        (context_over entries first ctx host (rewind ctx.classes ctx.overlay) context (subst (λ (cs : List Class). IsKnown entries first (rewind cs ctx.overlay)) (sym context.classes) known)))

    taken_tx : aborted (numbers (tables_of ctx)) (tx_of first ctx) ≡ tx_over first (rewind (declared_in first) ctx.overlay) ctx.deferred ctx.text ctx.budget → tx_of first back ≡ aborted (numbers (tables_of ctx)) (tx_of first ctx)
    taken_tx view =
        ap (λ (q : Ctx K). tx_of first q) taken ∙ ap (λ (cs : List Class). tx_over first (rewind cs ctx.overlay) ctx.deferred ctx.text ctx.budget) context.classes ∙ sym view

    pub points_behind : (after : Ctx K) (result : Result (Unit {0}) Stop) → aborted (numbers (tables_of ctx)) (tx_of first ctx) ≡ tx_over first (rewind (declared_in first) ctx.overlay) ctx.deferred ctx.text ctx.budget
        → IfOk result (λ _. tx_of first after ≡ posted (numbers (tables_of back)) (whole_list (numbers (tables_of back))) TAbort (tx_of first back))
        → IfOk result (λ _. tx_of first after ≡ last_points (tables_of ctx) false (tx_of first ctx))
    points_behind after result view posts =
        subst (λ (y : NumberTx). IfOk result (λ _. tx_of first after ≡ posted (numbers (tables_of ctx)) (whole_list (numbers (tables_of ctx))) TAbort y)) (taken_tx view)
        (subst (λ (ts : ℕ → ℕ → Table). IfOk result (λ _. tx_of first after ≡ posted (numbers ts) (whole_list (numbers ts)) TAbort (tx_of first back))) (ap (λ (q : Ctx K). tables_of q) taken) posts)

  -- ---- over lists of points

  module _ (l : Language) (w : ListWorld) (ctx after : Ctx K) (host : H) (x : ListTx) (is : ContextRuns seen held live l w ctx host x) where
    abbrev first_of : NumberWorld
    first_of = is.world.world.stored.world

    abbrev stored_tables : ℕ → ℕ → Table
    stored_tables = is.world.world.stored.tables

    pub runs_stored : RunsAs stored_tables (tx_of first_of ctx) x
    runs_stored = subst (λ (ts : ℕ → ℕ → Table). RunsAs ts (tx_of first_of ctx) x) (sym is.tables) is.runs

    pub points_stored : (kept given : Bool) → given ≡ kept → tx_of first_of after ≡ last_points (tables_of ctx) given (tx_of first_of ctx) → tx_of first_of after ≡ last_points stored_tables kept (tx_of first_of ctx)
    points_stored kept given same points =
        subst (λ (ts : ℕ → ℕ → Table). tx_of first_of after ≡ last_points ts kept (tx_of first_of ctx)) (sym is.tables)
        (subst (λ b. tx_of first_of after ≡ last_points (tables_of ctx) b (tx_of first_of ctx)) same points)

    -- its growth is told by the classes that it has
    pub settled_by : (classes : List Class) (now : Layer) (records : Entries) (text line : List ℕ) (s : Settled Histories Starts) → classes ≡ declared_in first_of
        → SettledOver l stored_tables w (growth_told (declared_in first_of) now) records text line s → SettledOver l (tables_of ctx) w (growth_told classes now) records text line s
    settled_by classes now records text line s same settled =
        subst (λ (cs : List Class). SettledOver l (tables_of ctx) w (growth_told cs now) records text line s) (sym same)
        (subst (λ (ts : ℕ → ℕ → Table). SettledOver l ts w (growth_told (declared_in first_of) now) records text line s) is.tables settled)

-- by whatever stands beside the overlay numbers tell parts apart
pub numbered_by : (classes : List Declared) (first : NumberWorld) (x : Layer) (b : Beside) → GoesOnNumbered (running classes first x nothing_beside) → GoesOnNumbered (running classes first x b)
numbered_by classes first x b numbered = record { first = numbered.first; now = numbered.now; next = numbered.next; classes = numbered.classes }

-- ---- what a call leaves, by what one before it left

module _ (C : Type 0) (before after : View) where
  -- it ended for the same reason
  pub leaves_too : {R S : Type 0} (result : Result R Stop) (fails : Result S Stop) (why : Stop) → result ≡ Err why → fails ≡ Err why → LeavesOpen result C before after → LeavesOpen fails C before after
  leaves_too {R} {S} result fails why is so left = record {
    stays = subst (λ (f : Result S Stop). Leaves f C IsSound) (sym so) (by_stop why (subst (λ (r : Result R Stop). Leaves r C IsSound) is left.stays));
    looks = left.looks;
    faults = record { later = left.faults.later; rose = λ e. let same : why ≡ stop.DiskFault = cc (sym so ∙ e) in left.faults.rose (is ∙ ap (λ (t : Stop). Err t) same); calm = by_calm left.faults.calm };
  } where
    by_stop : (why : Stop) → Leaves {R = R} (Err why) C IsSound → Leaves {R = S} (Err why) C IsSound
    by_stop (stop.Abort reason) stays = stays
    by_stop stop.Memory stays = stays
    by_stop stop.DiskFault stays = stays
    by_stop (stop.Damaged key) stays = stays

    by_calm : (result ≡ Err stop.DiskFault) ⊎ (after.disk_faults ≡ before.disk_faults) → (fails ≡ Err stop.DiskFault) ⊎ (after.disk_faults ≡ before.disk_faults)
    by_calm (inl e) = let same : why ≡ stop.DiskFault = cc (sym is ∙ e) in inl (so ∙ ap (λ (t : Stop). Err t) same)
    by_calm (inr same) = inr same

  -- that one was done, and this one ends for want of memory at most
  pub leaves_behind : {R S : Type 0} (v : R) (result : Result S Stop) → IfErr result (λ why. why ≡ stop.Memory) → LeavesOpen (Ok v) C before after → LeavesOpen result C before after
  leaves_behind {R} {S} v result memory left = record {
    stays = by_result result memory left.stays;
    looks = left.looks;
    faults = record { later = left.faults.later; rose = λ is. absurd (other result memory is); calm = by_calm left.faults.calm };
  } where
    other : (result : Result S Stop) → IfErr result (λ why. why ≡ stop.Memory) → result ≡ Err stop.DiskFault → ⊥
    other (Ok s) memory is = cc is
    other (Err why) memory is = let e : why ≡ stop.DiskFault = cc is in cc (sym memory ∙ e)

    by_result : (result : Result S Stop) → IfErr result (λ why. why ≡ stop.Memory) → C → Leaves result C IsSound
    by_result (Ok s) memory stays = stays
    by_result (Err (stop.Abort reason)) memory stays = stays
    by_result (Err stop.Memory) memory stays = stays
    by_result (Err stop.DiskFault) memory stays = tt
    by_result (Err (stop.Damaged key)) memory stays = absurd (cc memory)

    by_calm : (Ok v ≡ Err stop.DiskFault) ⊎ (after.disk_faults ≡ before.disk_faults) → (result ≡ Err stop.DiskFault) ⊎ (after.disk_faults ≡ before.disk_faults)
    by_calm (inl is) = absurd (cc is)
    by_calm (inr same) = inr same
