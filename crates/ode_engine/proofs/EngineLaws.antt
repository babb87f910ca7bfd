-- What an engine has, and what a call leaves there.
use Rattle.std.proofs.Common.{◌≡◌, ◌∙◌, ℕ, List, Bool, true, Option, Result, Some, None, Ok, Err, ap, subst, sym}
use Rattle.std.specs.Prelude.{IfErr, IfOk, IsErrOf, OnErr, OnOk}
use Rattle.ode_engine.specs.Refusing.{IfRefused, IsUndamaged, turned_down}
use Rattle.ode_engine.specs.Serving.{IsAnswer, IsLive, IsOneOf, IsSession, IsUsable, StandsBy, StandsFor, StandsIn, done_in, rest_in, running_in, state_in}
use Rattle.ode_engine.specs.declared.commanding.State.{State}
use Rattle.ode_engine.specs.declared.commanding.State.TheVariants as state
use Rattle.ode_engine.specs.declared.engine.Done.{Done}
use Rattle.ode_engine.specs.declared.engine.Engine.{Engine}
use Rattle.ode_engine.specs.declared.refusing.Turned.{Turned}
use Rattle.ode_engine.specs.declared.refusing.Turned.TheVariants as turned
use Rattle.ode_host.proofs.Calls.{host_calls_as}
use Rattle.ode_host.specs.Host.{HostCalls}
use Rattle.ode_host.specs.View.{View}
use Rattle.ode_keep.specs.Entries.{Entries}
use Rattle.ode_machine.specs.Commands.{Step}
use Rattle.ode_machine.specs.Sessions.{Session}
use Rattle.ode_opened.specs.declared.opened.Opened.{Opened}
use Rattle.ode_transact.specs.Contexts.{Ctx}
use Rattle.ode_transact.specs.Errors.{OnDamaged}
use Rattle.ode_transact.specs.Output.{counting}
use Rattle.ode_transact.specs.Resting.{IsAtRest}
use Rattle.ode_transact.specs.declared.error.EngineError.{EngineError}
use Rattle.ode_transact.specs.declared.output.Output.{Output}
use Rattle.ode_transact.specs.declared.error.EngineError.TheVariants as error
use Rattle.ode_value.specs.Answers.{Answer}
use Rattle.ode_value.specs.Language.{Language}

same_state : {K : Type 0} (a b : State K) → ◌≡◌ {A = _} (Some a) (Some b) → a ≡ b
same_state a b is = cc (is)

-- ---- what is taken out

pub taken_usable : {K : Type 0} (live : K → Bool) (rest : Option (Opened K)) (running : Option (Ctx K)) (s : State K) → state_in rest running ≡ Some s → IsOneOf live rest running → IsUsable live s
taken_usable live (Some o) None s is one = subst (IsUsable live) (same_state (state.Rest o) s is) one
taken_usable live None (Some ctx) s is one = subst (IsUsable live) (same_state (state.Running ctx) s is) one
taken_usable live (Some o) (Some ctx) s is one = absurd one
taken_usable live None None s is one = absurd one

pub none_taken : {K : Type 0} (live : K → Bool) (rest : Option (Opened K)) (running : Option (Ctx K)) → state_in rest running ≡ None → IsOneOf live rest running → ⊥
none_taken live (Some o) running is one = cc (is)
none_taken live None (Some ctx) is one = cc (is)
none_taken live None None is one = one

pub turned_usable : {K : Type 0} (live : K → Bool) (s : State K) (turned' : Turned) (P : Type 0) → (P → IsUsable live s) → IfRefused turned' P → IfOk (turned_down s turned') (λ r. IsUsable live r.0)
turned_usable live s (turned.Refused why) P on is = on is
turned_usable live s (turned.Stopped error) P on is = tt

module _ {H K : Type 0} (seen : H → View) (held : K → View → Entries → Type 0) (live : K → Bool) (l : Language) where
  pub taken_stands : (session : Session) (rest : Option (Opened K)) (running : Option (Ctx K)) (s : State K) (host : H) → state_in rest running ≡ Some s → StandsBy seen held live l session rest running host
      → StandsIn seen held live l session s host
  taken_stands session (Some o) None s host is has = subst (λ (q : State K). StandsIn seen held live l session q host) (same_state (state.Rest o) s is) has
  taken_stands session None (Some ctx) s host is has = subst (λ (q : State K). StandsIn seen held live l session q host) (same_state (state.Running ctx) s is) has
  taken_stands session (Some o) (Some ctx) s host is has = absurd has
  taken_stands session None None s host is has = absurd has

  -- with none open
  pub closed_rest : (session : Session) (rest : Option (Opened K)) (running : Option (Ctx K)) (o : Opened K) (host : H) → rest ≡ Some o → running ≡ None → StandsBy seen held live l session rest running host
      → IsAtRest seen held live l session.world o host
  closed_rest session rest running o host here closed has =
      let one : StandsBy seen held live l session (Some o) running host = subst (λ (r : Option (Opened K)). StandsBy seen held live l session r running host) here has in
      let both : StandsBy seen held live l session (Some o) None host = subst (λ (r : Option (Ctx K)). StandsBy seen held live l session (Some o) r host) closed one in
      both.1

  -- ---- what is put back

  pub put_stands : (session : Session) (s : State K) (rest : Option (Opened K)) (running : Option (Ctx K)) (host : H) → rest ≡ rest_in s → running ≡ running_in s → StandsIn seen held live l session s host
      → StandsBy seen held live l session rest running host
  put_stands session (state.Rest o) rest running host here there is =
      subst (λ (r : Option (Opened K)). StandsBy seen held live l session r running host) (sym here) (subst (λ (r : Option (Ctx K)). StandsBy seen held live l session (Some o) r host) (sym there) is)
  put_stands session (state.Running ctx) rest running host here there is =
      subst (λ (r : Option (Opened K)). StandsBy seen held live l session r running host) (sym here) (subst (λ (r : Option (Ctx K)). StandsBy seen held live l session None r host) (sym there) is)

  put_usable : (s : State K) (rest : Option (Opened K)) (running : Option (Ctx K)) → rest ≡ rest_in s → running ≡ running_in s → IsUsable live s → IsOneOf live rest running
  put_usable (state.Rest o) rest running here there is =
      subst (λ (r : Option (Opened K)). IsOneOf live r running) (sym here) (subst (λ (r : Option (Ctx K)). IsOneOf live (Some o) r) (sym there) is)
  put_usable (state.Running ctx) rest running here there is =
      subst (λ (r : Option (Opened K)). IsOneOf live r running) (sym here) (subst (λ (r : Option (Ctx K)). IsOneOf live None r) (sym there) is)

  -- ---- behind a step

  -- an engine has what the step leaves
  abbrev pub Has : Engine K → Bool → Result (State K × Done) EngineError → Type 0
  Has e was step = IfOk step (λ r. (e.rest ≡ rest_in r.0) × (e.running ≡ running_in r.0) × (e.live ≡ was))

  pub says_on : (step : Result (State K × Done) EngineError) (answer : Answer Step) → IfOk step (λ r. IsAnswer r.1 answer) → IfOk (done_in step) (λ d. IsAnswer d answer)
  says_on (Ok r) answer is = is
  says_on (Err e) answer is = tt

  pub ok_on : (step : Result (State K × Done) EngineError) (P : Type 0) → OnOk step P → OnOk (done_in step) P
  ok_on (Ok r) P is = is
  ok_on (Err e) P is = tt

  pub err_on : (step : Result (State K × Done) EngineError) (P : Type 0) → OnErr step P → OnErr (done_in step) P
  err_on (Ok r) P is = tt
  err_on (Err e) P is = is

  pub stands_on : (step : Result (State K × Done) EngineError) (session : Session) (e : Engine K) (was : Bool) (host : H) → Has e was step → OnOk step (IsSession l session)
      → IfOk step (λ r. StandsIn seen held live l session r.0 host) → OnOk (done_in step) (StandsFor seen held live l session e host)
  stands_on (Ok r) session e was host has goes_on is = record { goes_on = goes_on; has = put_stands session r.0 e.rest e.running host has.0 has.1 is }
  stands_on (Err error) session e was host has goes_on is = tt

  pub live_on : (step : Result (State K × Done) EngineError) (e : Engine K) (was : Bool) → was ≡ true → Has e was step → IfOk step (λ r. IsUsable live r.0) → OnOk (done_in step) (IsLive live e)
  live_on (Ok r) e was lived has is = record { lives = subst (λ (b : Bool). e.live ≡ b) lived has.2; one = put_usable r.0 e.rest e.running has.0 has.1 is }
  live_on (Err error) e was lived has is = tt

  same_err : (step : Result (State K × Done) EngineError) (e : EngineError) → done_in step ≡ Err e → step ≡ Err e
  same_err (Ok r) e is = absurd (cc (is))
  same_err (Err d) e is = let same : d ≡ e = cc (is) in ap Err same

  pub leaves_on : (step : Result (State K × Done) EngineError) (old new : View) → HostCalls (IsErrOf step error.DiskFault) (IsErrOf step error.WriteFault) old new
      → HostCalls (IsErrOf (done_in step) error.DiskFault) (IsErrOf (done_in step) error.WriteFault) old new
  leaves_on step old new calls =
      host_calls_as _ _ _ _ old new (λ is. ap done_in is) (same_err step error.DiskFault) (λ is. ap done_in is) (same_err step error.WriteFault) calls

  -- where it stands for a session no record is damaged
  pub undamaged_on : (step : Result (State K × Done) EngineError) (S : Session → Type 0) → ((session : Session) → S session → IfErr step IsUndamaged) → OnDamaged (done_in step) ((session : Session) → S session → ⊥)
  undamaged_on (Ok r) S sound = tt
  undamaged_on (Err error.Memory) S sound = tt
  undamaged_on (Err error.DiskFault) S sound = tt
  undamaged_on (Err error.WriteFault) S sound = tt
  undamaged_on (Err (error.Damaged key)) S sound = sound

-- what an engine has counted, which took over the count of a call's output
pub counts_on : {R : Type 0} (result : Result R EngineError) (start output behind : Output) (quiet : Bool) (text : List ℕ) → quiet ≡ start.quiet → behind ≡ record { quiet = quiet; counted = output.counted }
    → OnOk result (output ≡ counting start text) → OnOk result (behind ≡ counting start text)
counts_on (Err why) start output behind quiet text same is counts = tt
counts_on (Ok done) start output behind quiet text same is counts =
    is ∙ ap (λ (q : Bool). record { quiet = q; counted = output.counted }) same ∙ ap (λ (o : Output). record { quiet = start.quiet; counted = o.counted }) counts
