-- What sessions have, and what a call leaves there.
use Rattle.std.proofs.Common.{◌≡◌, List, [], Bool, false, true, Option, Result, Some, None, Ok, Err, ap, subst, sym}
use Rattle.std.specs.Prelude.{IfErr, IfOk, IsErrOf, OnErr, OnOk}
use Rattle.ode_schema.specs.Parts.{AreAligned, AreFit}
use Rattle.ode_engine.specs.Refusing.{IsUndamaged}
use Rattle.ode_host.proofs.Calls.{host_calls_as}
use Rattle.ode_host.specs.Host.{HostCalls, Printed}
use Rattle.ode_host.specs.View.{View}
use Rattle.ode_holders.specs.Opens.{opens_as}
use Rattle.ode_holders.specs.declared.opens.Open.{Open}
use Rattle.ode_interleaved_laws.specs.Meeting.{IsInterleaved}
use Rattle.ode_keep.specs.Entries.{Entries}
use Rattle.ode_machine.specs.Interleaving.{Interleaved}
use Rattle.ode_opened.specs.declared.opened.Opened.{Opened}
use Rattle.ode_steps.specs.Serving.{IsLive, IsResting, IsThere, StandsBy, StandsFor, StandsIn, closed_behind, said_in}
use Rattle.ode_steps.specs.declared.sessions.Sessions.{Sessions}
use Rattle.ode_transact.proofs.OutputLaws.{all_heard_loud}
use Rattle.ode_transact.specs.Errors.{OnDamaged}
use Rattle.ode_transact.specs.Items.{texts_of}
use Rattle.ode_transact.specs.Output.{all_heard}
use Rattle.ode_transact.specs.Resting.{IsAtRest, resting_parts}
use Rattle.ode_transact.specs.declared.error.EngineError.{EngineError}
use Rattle.ode_transact.specs.declared.error.EngineError.TheVariants as error
use Rattle.ode_value.specs.Draining.{world_after}
use Rattle.ode_value.specs.Language.{Language, Settlings}

-- ---- what is taken out

pub taken_rests : {K : Type 0} (live : K → Bool) (rest : Option (Opened K)) (o : Opened K) → rest ≡ Some o → IsThere live rest → IsResting live o
taken_rests live rest o is there = subst (IsThere live) is there

pub never_none : {K : Type 0} (live : K → Bool) (rest : Option (Opened K)) → rest ≡ None → IsThere live rest → ⊥
never_none live rest is there = subst (IsThere live) is there

module _ {H K : Type 0} (seen : H → View) (held : K → View → Entries → Type 0) (live : K → Bool) (l : Language) where
  pub taken_stands : (m : Interleaved) (rest : Option (Opened K)) (o : Opened K) (sessions : List Open) (host : H) → rest ≡ Some o → StandsBy seen held live l m rest sessions host
      → StandsIn seen held live l m o sessions host
  taken_stands m rest o sessions host is has = subst (λ (r : Option (Opened K)). StandsBy seen held live l m r sessions host) is has

  -- ---- behind a call

  module _ {T : Type 0} where
    -- sessions have what the call leaves
    abbrev pub Has : Sessions K → Bool → Result (Opened K × T) EngineError → Type 0
    Has s was step = IfOk step (λ r. (s.rest ≡ Some r.0) × (s.live ≡ was))

    pub says_on : (step : Result (Opened K × T) EngineError) (P : T → Type 0) → IfOk step (λ r. P r.1) → IfOk (said_in step) P
    says_on (Ok r) P is = is
    says_on (Err e) P is = tt

    pub ok_on : (step : Result (Opened K × T) EngineError) (P : Type 0) → OnOk step P → OnOk (said_in step) P
    ok_on (Ok r) P is = is
    ok_on (Err e) P is = tt

    pub err_on : (step : Result (Opened K × T) EngineError) (P : Type 0) → OnErr step P → OnErr (said_in step) P
    err_on (Ok r) P is = tt
    err_on (Err e) P is = is

    pub stands_on : (step : Result (Opened K × T) EngineError) (m : Interleaved) (s : Sessions K) (was : Bool) (sessions : List Open) (host : H) → Has s was step → s.sessions ≡ sessions
        → IfOk step (λ r. StandsIn seen held live l m r.0 sessions host) → OnOk (said_in step) (StandsFor seen held live l m s host)
    stands_on (Ok r) m s was sessions host has same is =
        subst (λ (o : Option (Opened K)). StandsBy seen held live l m o s.sessions host) (sym has.0) (subst (λ (os : List Open). StandsIn seen held live l m r.0 os host) (sym same) is)
    stands_on (Err e) m s was sessions host has same is = tt

    pub live_on : (step : Result (Opened K × T) EngineError) (s : Sessions K) (was : Bool) → was ≡ true → Has s was step → IfOk step (λ r. IsResting live r.0) → OnOk (said_in step) (IsLive live s)
    live_on (Ok r) s was lived has is =
        record { lives = subst (λ (b : Bool). s.live ≡ b) lived has.1; there = subst (IsThere live) (sym has.0) is }
    live_on (Err e) s was lived has is = tt

    same_err : (step : Result (Opened K × T) EngineError) (e : EngineError) → said_in step ≡ Err e → step ≡ Err e
    same_err (Ok r) e is = absurd (cc (is))
    same_err (Err d) e is = let same : d ≡ e = cc (is) in ap Err same

    pub leaves_on : (step : Result (Opened K × T) EngineError) (old new : View) → HostCalls (IsErrOf step error.DiskFault) (IsErrOf step error.WriteFault) old new
        → HostCalls (IsErrOf (said_in step) error.DiskFault) (IsErrOf (said_in step) error.WriteFault) old new
    leaves_on step old new calls =
        host_calls_as _ _ _ _ old new (λ is. ap said_in is) (same_err step error.DiskFault) (λ is. ap said_in is) (same_err step error.WriteFault) calls

    -- where they stand for sessions of the machine no record is damaged
    pub undamaged_on : (step : Result (Opened K × T) EngineError) (S : Interleaved → Type 0) → ((m : Interleaved) → S m → IfErr step IsUndamaged) → OnDamaged (said_in step) ((m : Interleaved) → S m → ⊥)
    undamaged_on (Ok r) S sound = tt
    undamaged_on (Err error.Memory) S sound = tt
    undamaged_on (Err error.DiskFault) S sound = tt
    undamaged_on (Err error.WriteFault) S sound = tt
    undamaged_on (Err (error.Damaged key)) S sound = sound

    -- what the call says of a damaged record
    pub damaged_on : (step : Result (Opened K × T) EngineError) (P Q : Type 0) → OnDamaged step P → (P → Q) → OnDamaged (said_in step) Q
    damaged_on (Ok r) P Q said on = tt
    damaged_on (Err error.Memory) P Q said on = tt
    damaged_on (Err error.DiskFault) P Q said on = tt
    damaged_on (Err error.WriteFault) P Q said on = tt
    damaged_on (Err (error.Damaged key)) P Q said on = on said

    -- ---- the drain, where no session is open

    -- what it settled, to an output that isn't quiet
    abbrev Drained : Interleaved → Settlings → Result (Opened K × T) EngineError → (T → Type 0) → H → H → Type 0
    Drained m settled step counts old new =
        IfOk step (λ r. IsAtRest seen held live l (world_after m.world settled) r.0 new × counts r.1) × OnOk step (Printed (texts_of (all_heard false settled)) (seen old) (seen new))

    pub drained_counts : (step : Result (Opened K × T) EngineError) (counts : T → Type 0) (m : Interleaved) (settled : Settlings) (old new : H) → Drained m settled step counts old new → IfOk (said_in step) counts
    drained_counts (Ok r) counts m settled old new done = done.0.1
    drained_counts (Err e) counts m settled old new done = tt

    pub drained_printed : (step : Result (Opened K × T) EngineError) (counts : T → Type 0) (m : Interleaved) (settled : Settlings) (old new : H) → Drained m settled step counts old new
        → OnOk (said_in step) (Printed (texts_of settled) (seen old) (seen new))
    drained_printed (Ok r) counts m settled old new done = subst (λ (heard : Settlings). Printed (texts_of heard) (seen old) (seen new)) (all_heard_loud settled) done.1
    drained_printed (Err e) counts m settled old new done = tt

    pub drained_stands : (step : Result (Opened K × T) EngineError) (counts : T → Type 0) (m : Interleaved) (settled : Settlings) (s : Sessions K) (was : Bool) (sessions : List Open) (old new : H)
        → IsInterleaved l (closed_behind m settled) → Has s was step → s.sessions ≡ sessions → sessions ≡ [] → Drained m settled step counts old new → OnOk (said_in step) (StandsFor seen held live l (closed_behind m settled) s new)
    drained_stands (Ok r) counts m settled s was sessions old new good has same none done =
        stands_on (Ok r) (closed_behind m settled) s was sessions new has same (record { goes_on = good; rests = done.0.0; same = ap opens_as none })
    drained_stands (Err e) counts m settled s was sessions old new good has same none done = tt

    -- the opened file may still be used
    pub drained_rests : (step : Result (Opened K × T) EngineError) (o : Opened K) → IsResting live o → IfOk step (λ r. live r.0.keeper ≡ true) → IfOk step (λ r. resting_parts r.0 ≡ resting_parts o)
        → IfOk step (λ r. IsResting live r.0)
    drained_rests (Ok r) o is usable parts = (usable, subst AreFit (sym parts) is.1, subst AreAligned (sym parts) is.2)
    drained_rests (Err e) o is usable parts = tt
