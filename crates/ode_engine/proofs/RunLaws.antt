-- Statements, from what they are made of.
use Rattle.std.proofs.Common.{◌≡◌, ◌∙◌, ◌<◌, List, [], Option, Result, Some, Ok, Err, Bool, ℕ, ap, refl, subst, sym}
use Rattle.std.specs.Prelude.{IsErrOf}
use Rattle.ode_language.specs.Texts.{HasText}
use Rattle.ode_engine.proofs.FaultLaws.{fault_disk, fault_silent, fault_undamaged}
use Rattle.ode_engine.proofs.ServeLaws.{AreQuiet, HoldsNow, behind_serves, quiet_by, quiet_serves, stopped_serves, told_by, told_none}
use Rattle.ode_engine.proofs.SessionLaws.{begun_session, closed_session, fell_well, more_session}
use Rattle.ode_engine.specs.Refusing.{Answers, KeepsChecked, LeavesChecked, back, turned_down}
use Rattle.ode_engine.specs.Serving.{IsSession, Serves}
use Rattle.ode_engine.specs.declared.commanding.State.{State}
use Rattle.ode_engine.specs.declared.commanding.State.TheVariants as state
use Rattle.ode_engine.specs.declared.engine.Done.{Done}
use Rattle.ode_engine.specs.declared.engine.Done.TheVariants as done
use Rattle.ode_engine.specs.declared.refusing.Turned.{Turned}
use Rattle.ode_engine.specs.declared.refusing.Turned.TheVariants as turned
use Rattle.ode_good_laws.specs.Well.{IsWell}
use Rattle.ode_host.specs.Causes.{RoseIf}
use Rattle.ode_host.specs.Host.{HostCalls, Looks, Stands}
use Rattle.ode_host.specs.View.{View}
use Rattle.ode_interpreter.specs.declared.stop.Stop.{Stop}
use Rattle.ode_interpreter.specs.declared.stop.Stop.TheVariants as stop
use Rattle.ode_keep.specs.Entries.{Entries}
use Rattle.ode_language.specs.Languages.{ode}
use Rattle.ode_machine.specs.Commands.{Step, carried, goes_on, settles}
use Rattle.ode_machine.specs.Refusals.{checked_in}
use Rattle.ode_machine.specs.Sessions.{Session, closed, opened}
use Rattle.ode_transact.specs.Contexts.{ContextRuns, EndsWhere, IsSound, Ctx}
use Rattle.ode_transact.specs.Errors.{fault_of}
use Rattle.ode_transact.specs.Resting.{IsAtRest}
use Rattle.ode_transact.specs.Settling.{Meaning}
use Rattle.ode_transact.specs.Working.{settled_by}
use Rattle.ode_transact.specs.declared.error.EngineError.{EngineError}
use Rattle.ode_transact.specs.declared.output.Output.{Output}
use Rattle.ode_transact.specs.declared.error.EngineError.TheVariants as error
use Rattle.ode_value.specs.Acts.{Outcome, Done as Reached, Aborted}
use Rattle.ode_value.specs.Answers.{Answer, ◌>>=◌}
use Rattle.ode_value.specs.Executing.{commands}
use Rattle.ode_value.specs.Language.{ListTx, ListWorld}
use Rattle.ode_value.specs.Limits.{number_limit}
use Rattle.ode_value.specs.Objects.{Histories, Starts}
use Rattle.ode_value.specs.Pasts.{lists}
use Rattle.ode_value.specs.Settling.{Settled, abort, transaction}
use Rattle.ode_value.specs.Transactions.{Script, begun}
use Rattle.ode_value.specs.declared.reason.Reason.{Reason}
use Rattle.ode_value.specs.declared.statement.Statement.TheVariants as statement
use Rattle.ode_value.specs.declared.statement.Stmt.{Stmt}

-- ---- what was checked

pub checked_as : (answer : Answer Stmt) (s found : Stmt) → answer ≡ Ok found → s ≡ found → answer ≡ Ok s
checked_as answer s found is same = subst (λ (q : Stmt). answer ≡ Ok q) (sym same) is

-- ---- what is told

-- a fault of a call that looks
pub fault_told : {R : Type 0} (F : Type 0) (why : Stop) (old new : View) → (F → why ≡ stop.DiskFault) → (why ≡ stop.DiskFault → F) → Looks old new → RoseIf F old.disk_faults new.disk_faults
    → HostCalls (IsErrOf {T = R} (Err (fault_of why)) error.DiskFault) (IsErrOf {T = R} (Err (fault_of why)) error.WriteFault) old new
fault_told F why old new to back looks rose = told_by F (fault_of why) old new (λ f. ap fault_of (to f)) (λ is. back (fault_disk why is)) (fault_silent why) looks rose

-- a check that went through
pub checked_quiet : (s : Stmt) (usable : Type 0) (old new : View) → LeavesChecked (Ok s) usable old new → AreQuiet old new
checked_quiet s usable old new leaves = quiet_by (◌≡◌ {A = Result Stmt Turned} (Ok s) (Err (turned.Stopped error.DiskFault))) old new (λ is. cc (is)) leaves.looks leaves.faults

-- one that didn't
pub turned_told : {K : Type 0} (turned' : Turned) (s : State K) (usable : Type 0) (old new : View) → LeavesChecked {R = Stmt} (Err turned') usable old new
    → HostCalls (IsErrOf (turned_down s turned') error.DiskFault) (IsErrOf (turned_down s turned') error.WriteFault) old new
turned_told (turned.Refused why) s usable old new leaves =
    told_none (s, done.Refused why) old new (quiet_by (◌≡◌ {A = Result Stmt Turned} (Err (turned.Refused why)) (Err (turned.Stopped error.DiskFault))) old new (λ is. cc (is)) leaves.looks leaves.faults)
turned_told (turned.Stopped e) s usable old new leaves =
    told_by (◌≡◌ {A = Result Stmt Turned} (Err (turned.Stopped e)) (Err (turned.Stopped error.DiskFault))) e old new (λ is. cc (is)) (λ is. ap (λ (d : EngineError). Err (turned.Stopped d)) is)
    (λ is. leaves.silent (ap (λ (d : EngineError). Err (turned.Stopped d)) is)) leaves.looks leaves.faults

module _ {H K : Type 0} (seen : H → View) (held : K → View → Entries → Type 0) (live : K → Bool) (means : Meaning)
    (stands : (keeper : K) (host : H) (entries : Entries) → held keeper (seen host) entries → (file : List ℕ) × Stands file (seen host) × means file entries)
    (text_stands : (host : H) (c o : List ℕ) → (seen host).left (seen host).moment c o → (seen host).text ≡ Some o) (start output : Output) where
  abbrev Served : Session → Answer Step → Result (State K × Done) EngineError → H → H → Type 0
  Served session answer result old new = Serves seen held live means ode session answer result old new start output

  abbrev Now : ListWorld → H → Type 0
  Now = HoldsNow seen held live ode

  abbrev Runs : ListWorld → Ctx K → H → ListTx → Type 0
  Runs w ctx host t = ContextRuns seen held live ode w ctx host t

  -- ---- a checked statement inside

  done_by : output ≡ start → (w : ListWorld) (t : ListTx) (read s : Stmt) (ctx : Ctx K) (old new : H) → IsSession ode (opened w t) → Now w old → Looks (seen old) (seen new) → HasText ode (statement.Simple read)
      → checked_in ode t.now.bones read ≡ Ok s → (p : Outcome Histories Starts (Unit {0})) → commands lists s t ≡ p → EndsWhere (Ok tt) (Runs w ctx new) p
      → Served (opened w t) (Ok (goes_on w p)) (Ok (state.Running ctx, done.Settled 0)) old new
  done_by same w t read s ctx old new session now looked text checked (Reached tt x) is ends =
      quiet_serves seen held live means ode stands text_stands start output same (opened w t) (Ok (opened w x, [])) (state.Running ctx) (done.Settled 0) old new now looked refl refl (more_session w t x session read s text checked is) (x, refl, ends.1)
  done_by same w t read s ctx old new session now looked text checked (Aborted reason x) is ends = absurd ends

  pub done_serves : output ≡ start → (w : ListWorld) (t : ListTx) (read s : Stmt) (ctx : Ctx K) (old new : H) → IsSession ode (opened w t) → Now w old → Looks (seen old) (seen new) → HasText ode (statement.Simple read)
      → checked_in ode t.now.bones read ≡ Ok s → EndsWhere (Ok tt) (Runs w ctx new) (commands lists s t)
      → Served (opened w t) (Ok (goes_on w (commands lists s t))) (Ok (state.Running ctx, done.Settled 0)) old new
  done_serves same w t read s ctx old new session now looked text checked ends = done_by same w t read s ctx old new session now looked text checked (commands lists s t) refl ends

  -- it is aborted
  fell_by : (w : ListWorld) (t : ListTx) (read s : Stmt) (why : Reason) (result : Result (State K × Done) EngineError) (P : ListTx → Type 0) (old mid new : H) → IsSession ode (opened w t) → Now w old
      → Looks (seen old) (seen mid) → HasText ode (statement.Simple read) → checked_in ode t.now.bones read ≡ Ok s
      → ((x : ListTx) → P x → IsWell ode (abort lists why x).0 → Served (opened w t) (Ok (settles (abort lists why x))) result mid new)
      → (p : Outcome Histories Starts (Unit {0})) → commands lists s t ≡ p → EndsWhere (Err (stop.Abort why)) P p → Served (opened w t) (Ok (goes_on w p)) result old new
  fell_by w t read s why result P old mid new session now looked text checked settled (Aborted reason x) is ends =
      let same : commands lists s t ≡ Aborted why x = is ∙ ap (λ (r : Reason). Aborted r x) (sym ends.0) in
      behind_serves seen held live means ode stands text_stands start output (opened w t) (Ok (settles (abort lists reason x))) result old mid new now looked
      (subst (λ (r : Reason). Served (opened w t) (Ok (settles (abort lists r x))) result mid new) ends.0 (settled x ends.1 (fell_well w session.well t session.came read s text checked why x same)))
  fell_by w t read s why result P old mid new session now looked text checked settled (Reached answer x) is ends = absurd ends

  pub fell_serves : (w : ListWorld) (t : ListTx) (read s : Stmt) (why : Reason) (result : Result (State K × Done) EngineError) (P : ListTx → Type 0) (old mid new : H) → IsSession ode (opened w t) → Now w old
      → Looks (seen old) (seen mid) → HasText ode (statement.Simple read) → checked_in ode t.now.bones read ≡ Ok s
      → ((x : ListTx) → P x → IsWell ode (abort lists why x).0 → Served (opened w t) (Ok (settles (abort lists why x))) result mid new)
      → EndsWhere (Err (stop.Abort why)) P (commands lists s t) → Served (opened w t) (Ok (goes_on w (commands lists s t))) result old new
  fell_serves w t read s why result P old mid new session now looked text checked settled ends =
      fell_by w t read s why result P old mid new session now looked text checked settled (commands lists s t) refl ends

  -- a fault of a call that looks
  pub fault_serves : (session : Session) (answer : Answer Step) (why : Stop) (old new : H) → Now session.world old → Looks (seen old) (seen new) → IsSound why → Served session answer (Err (fault_of why)) old new
  fault_serves session answer why old new now looks sound = stopped_serves seen held live means ode stands text_stands start output session answer (fault_of why) old new now looks (fault_undamaged why sound)

  -- ---- a statement is checked

  pub checked_inside_serves : (w : ListWorld) (t : ListTx) (read s : Stmt) (result : Result (State K × Done) EngineError) (old mid new : H) → Now w old → Looks (seen old) (seen mid)
      → checked_in ode t.now.bones read ≡ Ok s → Served (opened w t) (Ok (goes_on w (commands lists s t))) result mid new
      → Served (opened w t) (carried ode (opened w t) (statement.Simple read)) result old new
  checked_inside_serves w t read s result old mid new now looks is serves =
      behind_serves seen held live means ode stands text_stands start output (opened w t) (carried ode (opened w t) (statement.Simple read)) result old mid new now looks
      (subst (λ (a : Answer Stmt). Served (opened w t) (a >>= (λ c. Ok (goes_on w (commands lists c t)))) result mid new) (sym is) serves)

  pub turned_inside_serves : output ≡ start → (w : ListWorld) (t : ListTx) (read : Stmt) (turned' : Turned) (ctx : Ctx K) (old new : H) → IsSession ode (opened w t) → Now w old → Looks (seen old) (seen new)
      → KeepsChecked {R = Stmt} (Err turned') (Runs w ctx new t) → Answers {R = Stmt} (Err turned') (checked_in ode t.now.bones read)
      → Served (opened w t) (carried ode (opened w t) (statement.Simple read)) (turned_down (state.Running ctx) turned') old new
  turned_inside_serves same w t read (turned.Refused why) ctx old new session now looks keeps is =
      subst (λ (a : Answer Stmt). Served (opened w t) (a >>= (λ c. Ok (goes_on w (commands lists c t)))) (Ok (state.Running ctx, done.Refused why)) old new) (sym is)
      (quiet_serves seen held live means ode stands text_stands start output same (opened w t) (Err why) (state.Running ctx) (done.Refused why) old new now looks refl refl session (t, refl, keeps.stays))
  turned_inside_serves same w t read (turned.Stopped e) ctx old new session now looks keeps is =
      stopped_serves seen held live means ode stands text_stands start output (opened w t) (carried ode (opened w t) (statement.Simple read)) e old new now looks (keeps.sound e refl)

  -- ---- a transaction ended

  pub ended_serves : (session : Session) (s : Settled Histories Starts) (ending : Option Reason) (x : ListTx) (result : Result (State K × Done) EngineError) (old mid new : H) → Now session.world old
      → Looks (seen old) (seen mid) → s ≡ settled_by ending x → IsWell ode s.0 → (IsWell ode (settled_by ending x).0 → Served session (Ok (settles (settled_by ending x))) result mid new)
      → Served session (Ok (settles s)) result old new
  ended_serves session s ending x result old mid new now looked is well settled =
      behind_serves seen held live means ode stands text_stands start output session (Ok (settles s)) result old mid new now looked
      (subst (λ (q : Settled Histories Starts). Served session (Ok (settles q)) result mid new) (sym is) (settled (subst (λ (q : Settled Histories Starts). IsWell ode q.0) is well)))

  -- ---- outside a transaction

  -- the context of one that has begun goes back to the file
  back_at_rest : (w : ListWorld) (ctx : Ctx K) (host : H) (t : ListTx) → Runs w ctx host t → IsAtRest seen held live ode w (back ctx) host
  back_at_rest w ctx host t runs = record {
    entries = runs.entries;
    world = runs.world;
    usable = runs.context.state.usable;
    records = runs.context.state.records;
    classes = runs.context.classes;
    tables = runs.tables;
    fit = runs.fit;
    bytes = runs.context.state.bytes;
  }

  pub checked_outside_serves : (w : ListWorld) (read s : Stmt) (result : Result (State K × Done) EngineError) (old mid new : H) → Now w old → Looks (seen old) (seen mid)
      → checked_in ode w.bones read ≡ Ok s → Served (closed w) (Ok (settles (transaction lists Script (commands lists s) w))) result mid new
      → Served (closed w) (carried ode (closed w) (statement.Simple read)) result old new
  checked_outside_serves w read s result old mid new now looks is serves =
      behind_serves seen held live means ode stands text_stands start output (closed w) (carried ode (closed w) (statement.Simple read)) result old mid new now looks
      (subst (λ (a : Answer Stmt). Served (closed w) (a >>= (λ c. Ok (settles (transaction lists Script (commands lists c) w)))) result mid new) (sym is) serves)

  pub turned_outside_serves : output ≡ start → (w : ListWorld) (read : Stmt) (turned' : Turned) (ctx : Ctx K) (old new : H) → IsWell ode w → Now w old → Looks (seen old) (seen new)
      → KeepsChecked {R = Stmt} (Err turned') (Runs w ctx new (begun Script w)) → Answers {R = Stmt} (Err turned') (checked_in ode w.bones read)
      → Served (closed w) (carried ode (closed w) (statement.Simple read)) (turned_down (state.Rest (back ctx)) turned') old new
  turned_outside_serves same w read (turned.Refused why) ctx old new well now looks keeps is =
      subst (λ (a : Answer Stmt). Served (closed w) (a >>= (λ c. Ok (settles (transaction lists Script (commands lists c) w)))) (Ok (state.Rest (back ctx), done.Refused why)) old new) (sym is)
      (quiet_serves seen held live means ode stands text_stands start output same (closed w) (Err why) (state.Rest (back ctx)) (done.Refused why) old new now looks refl refl
      (closed_session w well) (refl, back_at_rest w ctx new (begun Script w) keeps.stays))
  turned_outside_serves same w read (turned.Stopped e) ctx old new well now looks keeps is =
      stopped_serves seen held live means ode stands text_stands start output (closed w) (carried ode (closed w) (statement.Simple read)) e old new now looks (keeps.sound e refl)

  pub begun_serves : output ≡ start → (w : ListWorld) (ctx : Ctx K) (old new : H) → IsWell ode w → w.bones.transaction < number_limit → Now w old → Looks (seen old) (seen new) → Runs w ctx new (begun Script w)
      → Served (closed w) (carried ode (closed w) statement.Begin) (Ok (state.Running ctx, done.Settled 0)) old new
  begun_serves same w ctx old new well left now looked runs =
      quiet_serves seen held live means ode stands text_stands start output same (closed w) (Ok (opened w (begun Script w), [])) (state.Running ctx) (done.Settled 0) old new now looked refl refl (begun_session w well left) (begun Script w, refl, runs)
