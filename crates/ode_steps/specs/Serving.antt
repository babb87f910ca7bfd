-- When sessions stand for those of the machine, and what their calls come to.
use Rattle.std.specs.Prelude.{◌≡◌, ℕ, zero, suc, List, [], ◌++◌, length, Bool, true, Option, Some, None, Result, Ok, Err, IfErr, IfOk, OnOk}
use Rattle.ode_schema.specs.Parts.{AreAligned, AreFit}
use Rattle.ode_engine.specs.Refusing.{IsUndamaged}
use Rattle.ode_engine.specs.declared.engine.Done.{Done}
use Rattle.ode_engine.specs.declared.engine.Done.TheVariants as done
use Rattle.ode_host.specs.Host.{LeavesOnly, Printed}
use Rattle.ode_host.specs.View.{View}
use Rattle.ode_interleaved_laws.specs.Meeting.{IsInterleaved}
use Rattle.ode_keep.specs.Entries.{Entries}
use Rattle.ode_machine.specs.Interleaving.{Busy, Ends, Goes, Interleaved, Refuses, Reply, Trial, settles_last, without}
use Rattle.ode_machine.specs.Interleaving as interleaved
use Rattle.ode_machine.specs.Moments.{IsAfterSome}
use Rattle.ode_machine.specs.Runs.{Item}
use Rattle.ode_opened.specs.declared.opened.Opened.{Opened}
use Rattle.ode_holders.specs.Opens.{opens_as}
use Rattle.ode_steps.specs.declared.answer.Answer.{Answer}
use Rattle.ode_steps.specs.declared.answer.Answer.TheVariants as answer
use Rattle.ode_holders.specs.declared.opens.Open.{Open}
use Rattle.ode_steps.specs.declared.sessions.Sessions.{Sessions}
use Rattle.ode_transact.specs.Items.{items_of, texts_of}
use Rattle.ode_transact.specs.Resting.{HoldsBy, IsAtRest, resting_parts}
use Rattle.ode_transact.specs.Settling.{Meaning}
use Rattle.ode_transact.specs.declared.error.EngineError.{EngineError}
use Rattle.ode_good_laws.specs.Well.{IsWell}
use Rattle.ode_value.specs.Draining.{world_after}
use Rattle.ode_value.specs.Language.{Language, Settlings}
use Rattle.ode_value.specs.Pasts.{lists}
use Rattle.ode_value.specs.Settling.{settle}

-- ---- the condition of a call

module _ {K : Type 0} (live : K → Bool) where
  -- the keeper of an opened file may be used, and its lists fit its classes
  abbrev pub IsResting : Opened K → Type 0
  IsResting o = (live o.keeper ≡ true) × AreFit (resting_parts o) × AreAligned (resting_parts o)

  abbrev pub IsThere : Option (Opened K) → Type 0
  IsThere None = ⊥
  IsThere (Some o) = IsResting o

  -- sessions may be called
  pub record IsLive (s : Sessions K) : Type 0 where
    pub lives : s.live ≡ true
    pub there : IsThere s.rest

-- what a call answers
abbrev pub said_in : {K T : Type 0} → Result (Opened K × T) EngineError → Result T EngineError
said_in (Ok r) = Ok r.1
said_in (Err error) = Err error

-- what a statement came to, as a step's answer
abbrev pub answer_in : Done → Answer
answer_in (done.Settled count) = answer.Settled count
answer_in (done.Refused why) = answer.Refused why

-- ---- replies

-- what is there behind a reply; a refusal leaves it as it is, and so does another session that holds what the step needs
abbrev pub after_reply : Interleaved → Reply → Interleaved
after_reply m (Goes now settled) = now
after_reply m _ = m

abbrev pub settlings : Reply → Settlings
settlings (Goes now settled) = settled
settlings _ = []

-- this, but where something settled
abbrev pub UnlessSettled : Answer → Type 0 → Type 0
UnlessSettled (answer.Settled count) P = Unit {0}
UnlessSettled a P = P

-- nothing settled, or as many transactions
abbrev pub counted : ℕ → Answer → Type 0
counted zero a = a ≡ answer.Accepted
counted (suc n) a = a ≡ answer.Settled (suc n)

abbrev pub IsReply : Answer → Reply → Type 0
IsReply a (Refuses why) = a ≡ answer.Refused why
IsReply a (Busy session what) = a ≡ answer.Busy session what
IsReply a (Goes now settled) = counted (length settled) a

-- no session is open behind these
abbrev pub closed_behind : Interleaved → Settlings → Interleaved
closed_behind m settled = record { world = world_after m.world settled; sessions = [] }

-- ---- what sessions stand for

module _ {H K : Type 0} (seen : H → View) (held : K → View → Entries → Type 0) (live : K → Bool) where
  -- the opened file holds the world, and the open sessions are these
  pub record StandsIn (l : Language) (m : Interleaved) (rest : Opened K) (sessions : List Open) (host : H) : Type 0 where
    pub goes_on : IsInterleaved l m
    pub rests : IsAtRest seen held live l m.world rest host
    pub same : opens_as sessions ≡ m.sessions

  abbrev pub StandsBy : Language → Interleaved → Option (Opened K) → List Open → H → Type 0
  StandsBy l m None sessions host = ⊥
  StandsBy l m (Some rest) sessions host = StandsIn l m rest sessions host

  abbrev pub StandsFor : Language → Interleaved → Sessions K → H → Type 0
  StandsFor l m s host = StandsBy l m s.rest s.sessions host

  -- What a call came to where the machine gives this reply: at `Ok` it says that reply, what is there stands for what is behind it, and the
  -- texts of what was settled are printed. A stop on the way leaves the world that some of them left, and a front of the text up to the
  -- next one, whatever comes behind. No record is damaged.
  pub record Serves (means : Meaning) (l : Language) (m : Interleaved) (reply : Reply) (result : Result (Opened K × Answer) EngineError) (sessions : List Open) (old new : H) : Type 0 where
    pub answers : IfOk result (λ r. IsReply r.1 reply)
    pub stands : IfOk result (λ r. StandsIn l (after_reply m reply) r.0 sessions new)
    pub printed : OnOk result (Printed (texts_of (settlings reply)) (seen old) (seen new))
    pub any_moment : (said : List ℕ) (more : List Item) → (seen old).text ≡ Some said
        → LeavesOnly (seen old) (seen new) (IsAfterSome (HoldsBy l means) (items_of (settlings reply) ++ more) m.world said)
    pub sound : IfErr result IsUndamaged

  -- The same of a call that settles these transactions, behind which no session is open.
  pub record Settles (means : Meaning) (l : Language) (m : Interleaved) (settled : Settlings) (result : Result (Opened K × ℕ) EngineError) (sessions : List Open) (old new : H) : Type 0 where
    pub counts : IfOk result (λ r. r.1 ≡ length settled)
    pub stands : IfOk result (λ r. StandsIn l (closed_behind m settled) r.0 sessions new)
    pub printed : OnOk result (Printed (texts_of settled) (seen old) (seen new))
    pub any_moment : (said : List ℕ) (more : List Item) → (seen old).text ≡ Some said
        → LeavesOnly (seen old) (seen new) (IsAfterSome (HoldsBy l means) (items_of settled ++ more) m.world said)
    pub sound : IfErr result IsUndamaged

  -- The same of the end of one session, which the machine finds.
  pub record EndsFound (means : Meaning) (l : Language) (m : Interleaved) (o : interleaved.Open) (result : Result (Opened K × ℕ) EngineError) (sessions : List Open) (old new : H) : Type 0 where
    pub counts : IfOk result (λ r. r.1 ≡ length (settles_last m o))
    pub stands : IfOk result (λ r. StandsIn l (without m o (settles_last m o)) r.0 sessions new)
    pub printed : OnOk result (Printed (texts_of (settles_last m o)) (seen old) (seen new))
    pub any_moment : (said : List ℕ) (more : List Item) → (seen old).text ≡ Some said
        → LeavesOnly (seen old) (seen new) (IsAfterSome (HoldsBy l means) (items_of (settles_last m o) ++ more) m.world said)
    pub sound : IfErr result IsUndamaged

  abbrev pub EndsOne : Meaning → Language → Interleaved → Option interleaved.Open → Result (Opened K × ℕ) EngineError → List Open → H → H → Type 0
  EndsOne means l m None result sessions old new = m.sessions ≡ []
  EndsOne means l m (Some o) result sessions old new = EndsFound means l m o result sessions old new

-- ---- ends

-- a trial that ends leaves a world that is well
abbrev pub EndsWell : Language → Trial → Type 0
EndsWell l (Ends outcome) = IsWell l (settle lists outcome).0
EndsWell l t = Unit {0}
