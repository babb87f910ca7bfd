-- What calls of an engine come to, from the calls that they are made of.
use Rattle.std.proofs.Common.{◌≡◌, ◌∙◌, ◌+◌, ℕ, suc, List, [], ◌++◌, length, Bool, Result, Some, Ok, Err, ap, append-nil, append_assoc, arith, refl, subst, sym}
use Rattle.std.specs.Prelude.{IsErrOf, OnOk}
use Rattle.ode_engine.specs.Refusing.{IsUndamaged}
use Rattle.ode_engine.specs.Serving.{IsAnswer, IsSession, Serves, StandsIn, session_after, settlings}
use Rattle.ode_engine.specs.declared.commanding.State.{State}
use Rattle.ode_engine.specs.declared.commanding.State.TheVariants as state
use Rattle.ode_engine.specs.declared.engine.Done.{Done}
use Rattle.ode_engine.specs.declared.engine.Done.TheVariants as done
use Rattle.ode_good_laws.specs.Well.{IsWell}
use Rattle.ode_heap_laws.specs.Few.{HoldsCounted}
use Rattle.ode_host.proofs.Calls.{disk_host, host_calls_as, host_calls_on, looks_calls, rose_none}
use Rattle.ode_host.proofs.Moments.{joined, looks_none, one_call}
use Rattle.ode_host.specs.Causes.{RoseIf}
use Rattle.ode_host.specs.Host.{HostCalls, LeavesOnly, Looks, Nothing, Printed, Stands}
use Rattle.ode_host.specs.View.{View}
use Rattle.ode_keep.specs.Entries.{Entries}
use Rattle.ode_machine.proofs.MomentLaws.{at_start, settling_leaves}
use Rattle.ode_machine.specs.Commands.{Step, settles}
use Rattle.ode_machine.specs.Moments.{IsAfterSome, LeavesSettling}
use Rattle.ode_machine.specs.Runs.{Item}
use Rattle.ode_machine.specs.Sessions.{Session}
use Rattle.ode_opened.specs.declared.opened.Opened.{Opened}
use Rattle.ode_transact.specs.Contexts.{ContextRuns, Ctx}
use Rattle.ode_sound_laws.specs.Typed.{AreFromOne}
use Rattle.ode_transact.proofs.OutputLaws.{counting_append, counting_none}
use Rattle.ode_transact.proofs.TransactSteps.{drain_leaves}
use Rattle.ode_transact.specs.Items.{items_of, texts_of}
use Rattle.ode_transact.specs.Output.{all_heard, counting, heard}
use Rattle.ode_transact.specs.Resting.{HoldsBy, IsAtRest}
use Rattle.ode_transact.specs.Settling.{Meaning}
use Rattle.ode_transact.specs.declared.error.EngineError.{EngineError}
use Rattle.ode_transact.specs.declared.output.Output.{Output}
use Rattle.ode_transact.specs.declared.error.EngineError.TheVariants as error
use Rattle.ode_value.specs.Answers.{Answer}
use Rattle.ode_value.specs.Draining.{drain, with_drain, world_after}
use Rattle.ode_value.specs.Language.{Language, ListTx, ListWorld, Settlings}
use Rattle.ode_value.specs.Limits.{drain_limit}
use Rattle.ode_value.specs.Objects.{Histories, Starts}
use Rattle.ode_value.specs.Pasts.{lists}
use Rattle.ode_value.specs.Settling.{Settled}

same_text : (a b : List ℕ) → ◌≡◌ {A = _} (Some a) (Some b) → a ≡ b
same_text a b is = cc (is)

one_more : (ran count : ℕ) → ran ≡ count → ran + 1 ≡ suc count
one_more ran count is = omega (arith, is)

-- ---- calls that only look

-- they told no fault
abbrev pub AreQuiet : View → View → Type 0
AreQuiet old new = Looks old new × HostCalls ⊥ ⊥ old new

pub quiet_none : (v : View) → AreQuiet v v
quiet_none v = (looks_none v, record { keeps = (looks_none v).keeps; disk_faults = rose_none ⊥ v.disk_faults (λ none. none); print_faults = rose_none ⊥ v.print_faults (λ none. none) })

pub quiet_by : (F : Type 0) (old new : View) → (F → ⊥) → Looks old new → RoseIf F old.disk_faults new.disk_faults → AreQuiet old new
quiet_by F old new none looks rose = (looks, disk_host F ⊥ ⊥ old new none absurd (λ none. none) (looks_calls F old new looks rose))

-- one of them told this fault
pub told_by : {R : Type 0} (F : Type 0) (e : EngineError) (old new : View) → (F → e ≡ error.DiskFault) → (e ≡ error.DiskFault → F) → (e ≡ error.WriteFault → ⊥) → Looks old new
    → RoseIf F old.disk_faults new.disk_faults → HostCalls (IsErrOf {T = R} (Err e) error.DiskFault) (IsErrOf {T = R} (Err e) error.WriteFault) old new
told_by F e old new to back silent looks rose =
    disk_host F (Err e ≡ Err error.DiskFault) (Err e ≡ Err error.WriteFault) old new (λ f. ap Err (to f)) (λ is. back (cc (is))) (λ is. silent (cc (is))) (looks_calls F old new looks rose)

-- none of them did
pub told_none : {R : Type 0} (v : R) (old new : View) → AreQuiet old new → HostCalls (IsErrOf {T = R} (Ok v) error.DiskFault) (IsErrOf {T = R} (Ok v) error.WriteFault) old new
told_none v old new quiet = host_calls_as ⊥ ⊥ (Ok v ≡ Err error.DiskFault) (Ok v ≡ Err error.WriteFault) old new absurd (λ is. cc (is)) absurd (λ is. cc (is)) quiet.1

-- those of more calls behind such
pub told_on : (F P : Type 0) (old mid new : View) → HostCalls ⊥ ⊥ old mid → HostCalls F P mid new → HostCalls F P old new
told_on F P old mid new quiet more = host_calls_on ⊥ ⊥ F P old mid new (λ none. none) (λ none. none) quiet more

-- ---- what is held now

module _ {H K : Type 0} (seen : H → View) (held : K → View → Entries → Type 0) (live : K → Bool) (l : Language) where
  -- a keeper holds this world
  pub record HoldsNow (w : ListWorld) (host : H) : Type 0 where
    keeper : K
    entries : Entries
    records : held keeper (seen host) entries
    world : HoldsCounted l entries w
    ones : AreFromOne w.bones

  pub rest_now : (w : ListWorld) (o : Opened K) (host : H) → IsWell l w → IsAtRest seen held live l w o host → HoldsNow w host
  rest_now w o host well is = record { keeper = o.keeper; entries = is.entries; records = is.records; world = is.world; ones = well.ones }

  pub running_now : (w : ListWorld) (ctx : Ctx K) (host : H) (t : ListTx) → IsWell l w → ContextRuns seen held live l w ctx host t → HoldsNow w host
  running_now w ctx host t well is = record { keeper = ctx.heap; entries = is.entries; records = is.context.state.records; world = is.world; ones = well.ones }

module _ {H K : Type 0} (seen : H → View) (held : K → View → Entries → Type 0) (live : K → Bool) (means : Meaning) (l : Language)
    (stands : (keeper : K) (host : H) (entries : Entries) → held keeper (seen host) entries → (file : List ℕ) × Stands file (seen host) × means file entries)
    (text_stands : (host : H) (c o : List ℕ) → (seen host).left (seen host).moment c o → (seen host).text ≡ Some o) where
  abbrev Now : ListWorld → H → Type 0
  Now = HoldsNow seen held live l

  -- a stop now leaves it
  now_holds : (w : ListWorld) (host : H) → Now w host → (c o : List ℕ) → (seen host).left (seen host).moment c o → HoldsBy l means c w
  now_holds w host now c o left =
      let there = stands now.keeper host now.entries now.records in
      record { entries = now.entries; are = subst (λ (f : List ℕ). means f now.entries) (sym (there.1.only c o left)) there.2; world = now.world.world; ones = now.ones }

  -- and so does one while calls look
  pub looked_leaves : (w : ListWorld) (old new : H) → Now w old → Looks (seen old) (seen new) → (items : List Item) (said : List ℕ) → (seen old).text ≡ Some said
      → LeavesOnly (seen old) (seen new) (IsAfterSome (HoldsBy l means) items w said)
  looked_leaves w old new now looks items said is =
      one_call Nothing (seen old) (seen new) (IsAfterSome (HoldsBy l means) items w said) looks.time
      (λ d e c o left same.
      let out : o ≡ said = same.1 ∙ same_text e said (sym (text_stands old d e left) ∙ is) in
      subst (λ (f : List ℕ). IsAfterSome (HoldsBy l means) items w said f o) (sym same.0)
      (subst (λ (t : List ℕ). IsAfterSome (HoldsBy l means) items w said d t) (sym out) (at_start (HoldsBy l means) items w said d (now_holds w old now d e left))))

  -- ---- a transaction settles

  -- what a stop leaves of a settling
  abbrev pub LeavesOne : Bool → ListWorld → Settled Histories Starts → H → H → Type 0
  LeavesOne quiet w s old new = (said : List ℕ) → (seen old).text ≡ Some said → LeavesOnly (seen old) (seen new) (LeavesSettling (HoldsBy l means) w s.0 said (heard quiet s.1))

  -- it has settled
  pub record HasSettled (w : ListWorld) (s : Settled Histories Starts) (old new : H) (start output : Output) : Type 0 where
    pub printed : Printed (heard start.quiet s.1) (seen old) (seen new)
    pub counts : output ≡ counting start s.1
    pub any_moment : LeavesOne start.quiet w s old new

  -- what a stop leaves of the drain behind it
  abbrev pub LeavesDrain : Bool → ListWorld → H → H → Type 0
  LeavesDrain quiet w old new = (said : List ℕ) (more : List Item) → (seen old).text ≡ Some said
      → LeavesOnly (seen old) (seen new) (IsAfterSome (HoldsBy l means) (items_of (all_heard quiet (drain lists drain_limit w)) ++ more) w said)

  -- ---- what is served

  printed_behind : (result : Result (State K × Done) EngineError) (text : List ℕ) (old mid new : View) → mid.text ≡ old.text → OnOk result (Printed text mid new) → OnOk result (Printed text old new)
  printed_behind (Ok r) text old mid new same printed = λ said is. printed said (same ∙ is)
  printed_behind (Err e) text old mid new same printed = tt

  -- to an output
  module _ (start output : Output) where
    abbrev Served : Session → Answer Step → Result (State K × Done) EngineError → H → H → Type 0
    Served session answer result old new = Serves seen held live means l session answer result old new start output

    -- an error, where nothing but looks was done
    pub stopped_serves : (session : Session) (answer : Answer Step) (e : EngineError) (old new : H) → Now session.world old → Looks (seen old) (seen new) → IsUndamaged e → Served session answer (Err e) old new
    stopped_serves session answer e old new now looks sound = record {
      answers = tt;
      goes_on = tt;
      stands = tt;
      printed = tt;
      counts = tt;
      any_moment = λ said more is. looked_leaves session.world old new now looks (items_of (all_heard start.quiet (settlings answer)) ++ more) said is;
      sound = sound;
    }

    -- an answer by which nothing is settled
    pub quiet_serves : output ≡ start → (session : Session) (answer : Answer Step) (s : State K) (d : Done) (old new : H) → Now session.world old → Looks (seen old) (seen new) → settlings answer ≡ []
        → IsAnswer d answer → IsSession l (session_after session answer) → StandsIn seen held live l (session_after session answer) s new → Served session answer (Ok (s, d)) old new
    quiet_serves same session answer s d old new now looks none says goes_on is = record {
      answers = says;
      goes_on = goes_on;
      stands = is;
      printed = subst (λ (settled : Settlings). Printed (texts_of (all_heard start.quiet settled)) (seen old) (seen new)) (sym none) (λ text told. looks.text ∙ told ∙ ap Some (sym (append-nil text)));
      counts = same ∙ counting_none start ∙ ap (λ (settled : Settlings). counting start (texts_of settled)) (sym none);
      any_moment = λ said more told. looked_leaves session.world old new now looks (items_of (all_heard start.quiet (settlings answer)) ++ more) said told;
      sound = tt;
    }

    -- behind calls that only looked
    pub behind_serves : (session : Session) (answer : Answer Step) (result : Result (State K × Done) EngineError) (old mid new : H) → Now session.world old → Looks (seen old) (seen mid)
        → Served session answer result mid new → Served session answer result old new
    behind_serves session answer result old mid new now looks serves = record {
      answers = serves.answers;
      goes_on = serves.goes_on;
      stands = serves.stands;
      printed = printed_behind result (texts_of (all_heard start.quiet (settlings answer))) (seen old) (seen mid) (seen new) looks.text serves.printed;
      counts = serves.counts;
      any_moment = λ said more is.
          joined (seen old) (seen mid) (seen new) (IsAfterSome (HoldsBy l means) (items_of (all_heard start.quiet (settlings answer)) ++ more) session.world said)
          (looked_leaves session.world old mid now looks (items_of (all_heard start.quiet (settlings answer)) ++ more) said is)
          (serves.any_moment said more (looks.text ∙ is));
      sound = serves.sound;
    }

    -- a transaction has not settled
    pub unsettled_serves : (session : Session) (s : Settled Histories Starts) (e : EngineError) (old new : H) → LeavesOne start.quiet session.world s old new → IsUndamaged e → Served session (Ok (settles s)) (Err e) old new
    unsettled_serves session s e old new leaves_one sound = record {
      answers = tt;
      goes_on = tt;
      stands = tt;
      printed = tt;
      counts = tt;
      any_moment = λ said more is.
          settling_leaves (HoldsBy l means) (heard start.quiet s.1) (items_of (all_heard start.quiet (drain lists drain_limit s.0)) ++ more) session.world s.0 said (seen old) (seen new) (leaves_one said is);
      sound = sound;
    }

    -- it has, and the drain follows, to the output that it left
    module _ (middle : Output) where
      drained_leaves : (w : ListWorld) (s : Settled Histories Starts) (old mid new : H) → HasSettled w s old mid start middle → LeavesDrain middle.quiet s.0 mid new → (said : List ℕ) (more : List Item) → (seen old).text ≡ Some said
          → LeavesOnly (seen old) (seen new) (IsAfterSome (HoldsBy l means) (items_of (all_heard start.quiet (with_drain lists drain_limit s)) ++ more) w said)
      drained_leaves w s old mid new one drained said more is =
          drain_leaves start middle w s (drain lists drain_limit s.0) (seen old) (seen mid) (seen new) one.counts (HoldsBy l means) more said (one.any_moment said is)
          (drained (said ++ heard start.quiet s.1) more (one.printed said is))

      pub undrained_serves : (session : Session) (s : Settled Histories Starts) (e : EngineError) (old mid new : H) → HasSettled session.world s old mid start middle → LeavesDrain middle.quiet s.0 mid new
          → IsUndamaged e → Served session (Ok (settles s)) (Err e) old new
      undrained_serves session s e old mid new one drained sound = record {
        answers = tt;
        goes_on = tt;
        stands = tt;
        printed = tt;
        counts = tt;
        any_moment = drained_leaves session.world s old mid new one drained;
        sound = sound;
      }

      pub drained_serves : (session : Session) (s : Settled Histories Starts) (o : Opened K) (ran : ℕ) (old mid new : H) → HasSettled session.world s old mid start middle → LeavesDrain middle.quiet s.0 mid new
          → ran ≡ length (drain lists drain_limit s.0) → IsSession l (settles s).0
          → IsAtRest seen held live l (world_after s.0 (drain lists drain_limit s.0)) o new → Printed (texts_of (all_heard middle.quiet (drain lists drain_limit s.0))) (seen mid) (seen new)
          → output ≡ counting middle (texts_of (drain lists drain_limit s.0))
          → Served session (Ok (settles s)) (Ok (state.Rest o, done.Settled (ran + 1))) old new
      drained_serves session s o ran old mid new one drained count goes_on rests printed counts =
          let more : Settlings = drain lists drain_limit s.0 in
          let drain_printed : Printed (texts_of (all_heard start.quiet more)) (seen mid) (seen new) =
          subst (λ (quiet : Bool). Printed (texts_of (all_heard quiet more)) (seen mid) (seen new)) (ap (λ (o : Output). o.quiet) one.counts) printed in
          record {
            answers = one_more ran (length more) count;
            goes_on = goes_on;
            stands = (refl, rests);
            printed = λ said is. drain_printed (said ++ heard start.quiet s.1) (one.printed said is) ∙ ap Some (append_assoc said (heard start.quiet s.1) (texts_of (all_heard start.quiet more)));
            counts = counts ∙ ap (λ (o : Output). counting o (texts_of more)) one.counts ∙ counting_append start s.1 (texts_of more);
            any_moment = drained_leaves session.world s old mid new one drained;
            sound = tt;
          }
