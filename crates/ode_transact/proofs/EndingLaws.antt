-- What a transaction that settles leaves of its context and its host.
use Rattle.std.proofs.Common.{◌≡◌, ◌∙◌, ◌<◌, ◌≤◌, ◌^◌, ◌++◌, ⊎_elim, inl, inr, ℕ, List, map, Bool, true, false, not, Option, Some, None, Result, Ok, Err, ap, arith, refl, sym, subst}
use Rattle.std.specs.Prelude.{◌+ℤ◌, ℤ, pos, IfOk, IsErrOf, OnOk, take}
use Rattle.std.specs.Option.{is_some}
use Rattle.ode_codec.specs.declared.record.Counters.{Counters}
use Rattle.ode_heap.specs.Answering.{class_of, counters_of}
use Rattle.ode_heap.specs.Answers.{Found, There}
use Rattle.ode_heap_laws.specs.Few.{HoldsCounted}
use Rattle.ode_host.proofs.Calls.{disk_host, host_calls_as, looks_calls, rose_as, rose_none}
use Rattle.ode_host.proofs.Moments.{keeps_joined, looks_on, started, weaker}
use Rattle.ode_host.specs.Causes.{RoseIf}
use Rattle.ode_host.specs.Host.{HostCalls, LeavesOnly, Looks, Printed, Stands}
use Rattle.ode_host.specs.View.{View}
use Rattle.ode_interpreter.specs.declared.stop.Stop.{Stop}
use Rattle.ode_interpreter.specs.declared.stop.Stop.TheVariants as stop
use Rattle.ode_keep.specs.Entries.{Changes, Entries, applied}
use Rattle.ode_machine.specs.Moments.{LeavesSettling}
use Rattle.ode_opened.specs.declared.opened.Opened.{Opened}
use Rattle.ode_overlay.specs.Settling.{growth_told}
use Rattle.ode_run.specs.Contexts.{ContextRuns, IsContext, parts_of, tables_in, tables_of}
use Rattle.ode_run.specs.Ending.{IsHeldBy, SettledOver}
use Rattle.ode_run.specs.declared.context.Ctx.{Ctx}
use Rattle.ode_schema.specs.Parts.{AreFit, Parts}
use Rattle.ode_sound_laws.specs.Typed.{AreFromOne}
use Rattle.ode_transact.proofs.RestLaws.{image_holds, rests}
use Rattle.ode_transact.proofs.Settles.{same_text}
use Rattle.ode_transact.specs.Ending.{line_of}
use Rattle.ode_transact.specs.Errors.{fault_of}
use Rattle.ode_transact.specs.Resting.{HoldsBy, IsAtRest, resting_parts}
use Rattle.ode_transact.specs.Settling.{LeavesBatch, Meaning}
use Rattle.ode_transact.specs.Working.{settled_by}
use Rattle.ode_transact.specs.declared.error.EngineError.{EngineError}
use Rattle.ode_transact.specs.declared.error.EngineError.TheVariants as engine
use Rattle.ode_good_laws.specs.Well.{IsWell}
use Rattle.ode_value.specs.Language.{Language, ListTx, ListWorld}
use Rattle.ode_value.specs.Limits.{weight_limit}
use Rattle.ode_value.specs.Objects.{Histories, Starts}
use Rattle.ode_value.specs.Pasts.{lists}
use Rattle.ode_value.specs.Settling.{Settled, abort, commit}
use Rattle.ode_value.specs.Tables.{Table}
use Rattle.ode_value.specs.Texts.{aborted_line, committed_line}
use Rattle.ode_value.specs.Weights.{weight}
use Rattle.ode_value.specs.Worlds.{Bones, Declared}
use Rattle.ode_value.specs.declared.reason.Reason.{Reason}

-- ---- how it settles

-- kept or aborted, by its ending
pub ends_over : (l : Language) (tables : ℕ → ℕ → Table) (w : ListWorld) (grown : ℤ) (records : Entries) (text : List ℕ) (t : ListTx) (ending : Option Reason) (kept : Bool) → is_some ending ≡ not kept
    → (kept ≡ true → SettledOver l tables w grown records text (committed_line w.bones.transaction) (commit lists t))
    → ((reason : Reason) → kept ≡ false → SettledOver l tables w grown records text (aborted_line w.bones.transaction reason) (abort lists reason t))
    → SettledOver l tables w grown records text (line_of w.bones.transaction ending) (settled_by ending t)
ends_over l tables w grown records text t None true is commits aborts = commits refl
ends_over l tables w grown records text t None false is commits aborts = absurd (cc (is))
ends_over l tables w grown records text t (Some why) true is commits aborts = absurd (cc (is))
ends_over l tables w grown records text t (Some why) false is commits aborts = aborts why refl

-- the number that its counters tell
pub number_is : (found : Found Counters) (counters : Counters) (b : Bones) → found ≡ There counters → found ≡ There (counters_of b) → counters.next_transaction ≡ b.transaction
number_is found counters b answered shown =
    let both : There counters ≡ There (counters_of b) = sym answered ∙ shown in
    let same : counters ≡ counters_of b = cc (both) in
    ap (λ (c : Counters). c.next_transaction) same

-- ---- what a stop leaves

-- the host only looked
pub looks_leave : (old new : View) (P : List ℕ → List ℕ → Type 0) → ((c o : List ℕ) → old.left old.moment c o → P c o) → Looks old new → LeavesOnly old new P
looks_leave old new P here looks = looks_on old old new P (started old P) here looks

-- before it settles: the world before, and none of the text
pub before_leaves : (l : Language) (means : Meaning) (entries : Entries) (w v : ListWorld) (said text : List ℕ) (view : View) → (file : List ℕ) × Stands file view × means file entries
    → ((c o : List ℕ) → view.left view.moment c o → view.text ≡ Some o) → view.text ≡ Some said → HoldsCounted l entries w → AreFromOne w.bones
    → (c o : List ℕ) → view.left view.moment c o → LeavesSettling (HoldsBy l means) w v said text c o
before_leaves l means entries w v said text view stands text_stands printed held ones c o left =
    inl (image_holds l means c entries w (subst (λ (f : List ℕ). means f entries) (sym (stands.1.only c o left)) stands.2) held ones, same_text o said (sym (text_stands c o left) ∙ printed))

-- while it settles
pub batch_leaves : (l : Language) (means : Meaning) (entries : Entries) (changes : Changes) (w v : ListWorld) (said text printed : List ℕ) (old new : View) → HoldsCounted l entries w → AreFromOne w.bones
    → HoldsCounted l (applied changes entries) v → AreFromOne v.bones → text ≡ printed → LeavesOnly old new (LeavesBatch means entries changes said text) → LeavesOnly old new (LeavesSettling (HoldsBy l means) w v said printed)
batch_leaves l means entries changes w v said text printed old new before ones after others is run =
    weaker old new (LeavesBatch means entries changes said text) (LeavesSettling (HoldsBy l means) w v said printed)
    (λ c o left. ⊎_elim
    (λ was. inl (image_holds l means c entries w was.0 before ones, was.1))
    (λ now. inr (image_holds l means c (applied changes entries) v now.0 after others, now.1, now.2 ∙ ap (λ (t : List ℕ). said ++ take now.1 t) is))
    left)
    run

-- behind calls that change nothing
pub batch_runs : {H K : Type 0} (seen : H → View) (held : K → View → Entries → Type 0) (means : Meaning) (entries : Entries) (changes : Changes) (said text printed : List ℕ) (heap now : K) (old mid new : H) → now ≡ heap → mid ≡ old → text ≡ printed
    → (held now (seen mid) entries → (seen mid).text ≡ Some said → LeavesOnly (seen mid) (seen new) (LeavesBatch means entries changes said text))
    → held heap (seen old) entries → (seen old).text ≡ Some said → LeavesOnly (seen old) (seen new) (LeavesBatch means entries changes said printed)
batch_runs {H} {K} seen held means entries changes said text printed heap now old mid new same at is run =
    subst (λ (t : List ℕ). held heap (seen old) entries → (seen old).text ≡ Some said → LeavesOnly (seen old) (seen new) (LeavesBatch means entries changes said t)) is
    (subst (λ (h : H). held heap (seen h) entries → (seen h).text ≡ Some said → LeavesOnly (seen h) (seen new) (LeavesBatch means entries changes said text)) at
    (subst (λ (k : K). held k (seen mid) entries → (seen mid).text ≡ Some said → LeavesOnly (seen mid) (seen new) (LeavesBatch means entries changes said text)) same run))

-- calls that change nothing leave what the heap holds
pub heap_back : {H K : Type 0} (seen : H → View) (held : K → View → Entries → Type 0) (entries : Entries) (heap now : K) (old mid : H) → now ≡ heap → mid ≡ old → held heap (seen old) entries → held now (seen mid) entries
heap_back {H} {K} seen held entries heap now old mid same at records =
    subst (λ (k : K). held k (seen mid) entries) (sym same) (subst (λ (h : H). held heap (seen h) entries) (sym at) records)

-- printed after calls that only looked, in other words
pub printed_behind : {R : Type 0} (result : Result R EngineError) (text printed : List ℕ) (old mid new : View) → Looks old mid → text ≡ printed → OnOk result (Printed text mid new) → OnOk result (Printed printed old new)
printed_behind (Err why) text printed old mid new looks is prints = prints
printed_behind (Ok done) text printed old mid new looks is prints =
    λ said was. prints said (looks.text ∙ was) ∙ ap (λ (t : List ℕ). Some (said ++ t)) is

-- printed, in other words
pub printed_as : {R : Type 0} (result : Result R EngineError) (text printed : List ℕ) (old new : View) → text ≡ printed → OnOk result (Printed text old new) → OnOk result (Printed printed old new)
printed_as (Err why) text printed old new is prints = prints
printed_as (Ok done) text printed old new is prints = λ said was. prints said was ∙ ap (λ (t : List ℕ). Some (said ++ t)) is

-- the parts of a context, which a call before left as they were
pub parts_behind : {K : Type 0} (result : Result (Opened K) EngineError) (a b : Parts) → b ≡ a → IfOk result (λ rest. resting_parts rest ≡ b) → IfOk result (λ rest. resting_parts rest ≡ a)
parts_behind (Ok rest) a b same is = is ∙ same
parts_behind (Err why) a b same is = tt

-- ---- what it leaves at the end

light_enough : (bytes : ℕ) → bytes ≤ weight_limit → bytes < 2 ^ 64
light_enough bytes light = omega (arith, light)

module _ {H K : Type 0} (seen : H → View) (held : K → View → Entries → Type 0) (live : K → Bool) where
  -- a context whose heap was read
  pub reads_on : (l : Language) (w : ListWorld) (t : ListTx) (ctx : Ctx K) (heap : K) (old new : H) (runs : ContextRuns seen held live l w ctx old t) → live heap ≡ true → held heap (seen new) runs.entries
      → ContextRuns seen held live l w (record ctx { heap = heap }) new t
  reads_on l w t ctx heap old new runs usable records = record {
    entries = runs.entries;
    world = runs.world;
    context = record {
      state = record {
        usable = usable;
        records = records;
        known = runs.context.state.known;
        budget = runs.context.state.budget;
        bytes = runs.context.state.bytes;
      };
      classes = runs.context.classes;
    };
    tables = runs.tables;
    fit = runs.fit;
    runs = runs.runs;
    first = runs.first;
  }

  module _ (l : Language) (w : ListWorld) (t : ListTx) (s : Settled Histories Starts) (ctx now : Ctx K) (old mid new : H) (runs : ContextRuns seen held live l w ctx old t)
      (context : IsContext seen held live runs.entries runs.world.world.stored.world now mid) (changes : Changes) (line : List ℕ)
      (over : SettledOver l (tables_of ctx) w (growth_told now.classes now.overlay) (applied changes runs.entries) now.text line s)
      (parts : parts_of now ≡ parts_of ctx) (well : IsWell l s.0) where
    bones_are : runs.world.world.stored.world.bones ≡ w.bones
    bones_are = runs.world.world.stands.bones

    classes_are : now.classes ≡ map class_of s.0.bones.classes
    classes_are = context.classes ∙ ap (λ (b : Bones). map class_of b.classes) bones_are ∙ ap (λ (cs : List Declared). map class_of cs) (sym over.classes)

    sum_is : pos now.bytes +ℤ growth_told now.classes now.overlay ≡ pos (weight s.0.bones)
    sum_is = ap (λ (n : ℕ). pos n +ℤ growth_told now.classes now.overlay) (context.state.bytes ∙ ap weight bones_are) ∙ over.grows well.good

    rests_in : (rest : Opened K) → ((entries : Entries) → held now.heap (seen mid) entries → held rest.keeper (seen new) (applied changes entries)) → resting_parts rest ≡ parts_of now
        → ((sum : ℕ) → pos now.bytes +ℤ growth_told now.classes now.overlay ≡ pos sum → sum < 2 ^ 64 → rest.bytes ≡ sum) → live rest.keeper ≡ true → IsAtRest seen held live l s.0 rest new
    rests_in rest records same bytes usable =
        let parts_are : parts_of ctx ≡ resting_parts rest = sym (same ∙ parts) in
        rests seen held live l (applied changes runs.entries) s.0 rest new
        (subst (λ (p : Parts). IsHeldBy l (tables_in p) (applied changes runs.entries) s.0) parts_are (over.holds well.good))
        usable (records runs.entries context.state.records)
        (ap (λ (p : Parts). p.classes) same ∙ classes_are)
        (subst AreFit parts_are runs.fit)
        (bytes (weight s.0.bones) sum_is (light_enough (weight s.0.bones) well.good.bones.light))

    pub ends_at_rest : (result : Result (Opened K) EngineError)
        → IfOk result (λ rest. (entries : Entries) → held now.heap (seen mid) entries → held rest.keeper (seen new) (applied changes entries))
        → IfOk result (λ rest. resting_parts rest ≡ parts_of now)
        → IfOk result (λ rest. (sum : ℕ) → pos now.bytes +ℤ growth_told now.classes now.overlay ≡ pos sum → sum < 2 ^ 64 → rest.bytes ≡ sum)
        → IfOk result (λ rest. live rest.keeper ≡ true) → IfOk result (λ rest. IsAtRest seen held live l s.0 rest new)
    ends_at_rest (Ok rest) records same bytes usable = rests_in rest records same bytes usable
    ends_at_rest (Err why) records same bytes usable = tt

-- ---- what it leaves of the host

-- calls that only looked, and then an error
pub looks_fail : {R : Type 0} (result : Result R EngineError) (old new : View) → Looks old new → RoseIf (IsErrOf result engine.DiskFault) old.disk_faults new.disk_faults → (IsErrOf result engine.WriteFault → ⊥)
    → HostCalls (IsErrOf result engine.DiskFault) (IsErrOf result engine.WriteFault) old new
looks_fail result old new looks rose silent = disk_host (IsErrOf result engine.DiskFault) (IsErrOf result engine.DiskFault) (IsErrOf result engine.WriteFault) old new (λ is. is) (λ is. is) silent
    (looks_calls (IsErrOf result engine.DiskFault) old new looks rose)

-- the same error
error_as : {R S : Type 0} (first : Result R EngineError) (result : Result S EngineError) (why e : EngineError) → first ≡ Err why → result ≡ Err why → IsErrOf first e → IsErrOf result e
error_as first result why e is same failed = let one : why ≡ e = cc (is, failed) in same ∙ ap (λ (x : EngineError). Err x) one

-- and that of a call before
pub fails_as : {R S : Type 0} (first : Result R EngineError) (result : Result S EngineError) (why : EngineError) (old new : View) → first ≡ Err why → result ≡ Err why → Looks old new
    → RoseIf (IsErrOf first engine.DiskFault) old.disk_faults new.disk_faults → (IsErrOf first engine.WriteFault → ⊥) → HostCalls (IsErrOf result engine.DiskFault) (IsErrOf result engine.WriteFault) old new
fails_as first result why old new is same looks rose silent =
    looks_fail result old new looks
    (rose_as (IsErrOf first engine.DiskFault) (IsErrOf result engine.DiskFault) old.disk_faults new.disk_faults (error_as first result why engine.DiskFault is same) (error_as result first why engine.DiskFault same is) rose)
    (λ failed. silent (error_as result first why engine.WriteFault same is failed))

-- or one that isn't the host's
pub fails_apart : {S : Type 0} (result : Result S EngineError) (why : EngineError) (old new : View) → result ≡ Err why → (why ≡ engine.DiskFault → ⊥) → (why ≡ engine.WriteFault → ⊥) → Looks old new
    → new.disk_faults ≡ old.disk_faults → HostCalls (IsErrOf result engine.DiskFault) (IsErrOf result engine.WriteFault) old new
fails_apart result why old new is no_disk no_print looks calm =
    looks_fail result old new looks
    (subst (λ (n : ℕ). RoseIf (IsErrOf result engine.DiskFault) old.disk_faults n) (sym calm) (rose_none (IsErrOf result engine.DiskFault) old.disk_faults (λ failed. no_disk (cc (is, failed)))))
    (λ failed. no_print (cc (is, failed)))

-- and then calls of any kind
pub looks_then : (F P : Type 0) (old mid new : View) → Looks old mid → mid.disk_faults ≡ old.disk_faults → HostCalls F P mid new → HostCalls F P old new
looks_then F P old mid new looks calm calls = record {
  keeps = keeps_joined old mid new looks.keeps calls.keeps;
  disk_faults = subst (λ (n : ℕ). RoseIf F n new.disk_faults) calm calls.disk_faults;
  print_faults = subst (λ (n : ℕ). RoseIf P n new.print_faults) looks.print_faults calls.print_faults;
}

-- a count of faults that didn't rise
pub none_rose : (F : Type 0) (before now : ℕ) → (F → ⊥) → RoseIf F before now → now ≡ before
none_rose F before now none rose = ⊎_elim (λ failed. absurd (none failed)) (λ calm. calm) rose.calm

-- a fault of the disk is told as one, and no other error is
pub fault_disk : (s : Stop) → fault_of s ≡ engine.DiskFault → s ≡ stop.DiskFault
fault_disk (stop.Abort why) is = cc (is)
fault_disk stop.Memory is = cc (is)
fault_disk stop.DiskFault is = refl
fault_disk (stop.Damaged key) is = cc (is)

-- what calls left that ended so
pub calls_as : {R S : Type 0} (first : Result R EngineError) (result : Result S EngineError) (why : EngineError) (old new : View) → first ≡ Err why → result ≡ Err why
    → HostCalls (IsErrOf first engine.DiskFault) (IsErrOf first engine.WriteFault) old new → HostCalls (IsErrOf result engine.DiskFault) (IsErrOf result engine.WriteFault) old new
calls_as first result why old new is same calls =
    host_calls_as (IsErrOf first engine.DiskFault) (IsErrOf first engine.WriteFault) (IsErrOf result engine.DiskFault) (IsErrOf result engine.WriteFault) old new
    (error_as first result why engine.DiskFault is same) (error_as result first why engine.DiskFault same is) (error_as first result why engine.WriteFault is same) (error_as result first why engine.WriteFault same is) calls
