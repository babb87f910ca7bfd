-- A class declaration or a clock command, where no session is open: what it is answered is what the engine answers it.
use Rattle.std.proofs.Common.{◌≡◌, ◌∙◌, ◌+◌, ℕ, ℤ, Bool, true, false, cond, List, [], ◌∷◌, ◌++◌, length, Option, Some, None, Result, Ok, Err, ap, arith, refl, subst, sym}
use Rattle.std.specs.Prelude.{◌&&◌, is_some, nat_lt, not}
use Rattle.std.specs.Prelude as std
use Rattle.ode_schema.specs.Parts.{AreAligned, AreFit}
use Rattle.ode_engine.proofs.SessionLaws.{closed_session}
use Rattle.ode_engine.specs.Refusing.{IsUndamaged, back}
use Rattle.ode_engine.specs.Serving.{IsAnswer, IsLive, IsOneOf, StandsBy, StandsFor, answer_to, opened_in, session_after, settlings}
use Rattle.ode_engine.specs.declared.engine.Done.{Done}
use Rattle.ode_engine.specs.declared.engine.Done.TheVariants as done
use Rattle.ode_engine.specs.declared.engine.Engine.{Engine}
use Rattle.ode_good_laws.specs.Well.{IsWell}
use Rattle.ode_holders.specs.Opens.{opens_as}
use Rattle.ode_holders.specs.declared.opens.Open as code
use Rattle.ode_host.specs.Host.{LeavesOnly, Printed}
use Rattle.ode_host.specs.View.{View}
use Rattle.ode_interleaved_laws.specs.Meeting.{IsInterleaved}
use Rattle.ode_keep.specs.Entries.{Entries}
use Rattle.ode_language.specs.Languages.{ode}
use Rattle.ode_machine.specs.Commands.{Step, carried, does_class, does_clock}
use Rattle.ode_machine.specs.Interleaving.{Alone, Interleaved, Open, Reply, Turns, footprint_of, has_number, is_alone, replies, replies_alone, replies_to, tries}
use Rattle.ode_machine.specs.Moments.{IsAfterSome}
use Rattle.ode_machine.specs.Refusals.{declared_in, ticks_in}
use Rattle.ode_machine.specs.Runs.{Item}
use Rattle.ode_machine.specs.Sessions.{Session, closed}
use Rattle.ode_machine.specs.Works.{clock_run, then_rest, tick}
use Rattle.ode_opened.specs.declared.opened.Opened.{Opened}
use Rattle.ode_transact.specs.Contexts.{Ctx}
use Rattle.ode_steps.proofs.NumberLaws.{none_holder}
use Rattle.ode_steps.proofs.ReplyLaws.{free_reply}
use Rattle.ode_steps.specs.Serving.{IsResting, Serves, after_reply, answer_in, counted}
use Rattle.ode_steps.specs.Serving as steps
use Rattle.ode_steps.specs.declared.answer.Answer as answered
use Rattle.ode_steps.specs.declared.answer.Answer.TheVariants as answer
use Rattle.ode_timer.specs.Due.{behind}
use Rattle.ode_transact.specs.Items.{items_of, texts_of}
use Rattle.ode_transact.specs.Resting.{HoldsBy, IsAtRest, resting_parts}
use Rattle.ode_transact.specs.Settling.{Meaning}
use Rattle.ode_transact.specs.declared.error.EngineError.{EngineError}
use Rattle.ode_value.specs.Answers.{Answer, ◌>>=◌, ◌>>◌, refuses}
use Rattle.ode_value.specs.Denoting.{object_at}
use Rattle.ode_value.specs.Draining.{with_drain, world_after}
use Rattle.ode_value.specs.Language.{ListTx, ListWorld, Settlings}
use Rattle.ode_value.specs.Limits.{drain_limit, number_limit}
use Rattle.ode_value.specs.Pasts.{lists}
use Rattle.ode_value.specs.Transactions.{Script, begun}
use Rattle.ode_value.specs.Worlds.{Declared, Position}
use Rattle.ode_value.specs.declared.reason.Refusal.{Refusal}
use Rattle.ode_value.specs.declared.reason.Refusal.TheVariants as refusal
use Rattle.ode_value.specs.declared.statement.Statement.{Statement}
use Rattle.ode_value.specs.declared.statement.Statement.TheVariants as statement

-- ---- what it settles

abbrev IsSome : Settlings → Type 0
IsSome [] = ⊥
IsSome (s ∷ settled) = Unit {0}

clock_settles : (ps : List Position) (last : Position) (most : ℕ) (w : ListWorld) → IsSome (clock_run lists ps last most w)
clock_settles [] last most w = tt
clock_settles (p ∷ ps) last most w = by_there (is_some (object_at w.bones p.object)) (clock_settles ps last most w) where
  by_there : (b : Bool) → IsSome (clock_run lists ps last most w) → IsSome (cond b (then_rest lists (clock_run lists ps last) most w (with_drain lists most (tick lists p w))) (clock_run lists ps last most w))
  by_there true rest = tt
  by_there false rest = rest

-- something is settled, and no transaction is open behind it
record IsSettled (w : ListWorld) (step : Step) : Type 0 where
  rests : step.0 ≡ closed (world_after w step.1)
  some : IsSome step.1

step_is : {x y : Step} → ◌≡◌ {A = Answer Step} (Ok x) (Ok y) → x ≡ y
step_is is = cc

class_settled : (w : ListWorld) (a : Answer Declared) (step : Step) → (a >>= (λ c. Ok (does_class w c))) ≡ Ok step → IsSettled w step
class_settled w (Ok c) step is = subst (IsSettled w) (step_is is) (record { rests = refl; some = tt })
class_settled w (Err why) step is = absurd (cc)

clock_settled : (w : ListWorld) (a : Answer (ℤ × List Position)) (step : Step) → (a >>= (λ ticks. Ok (does_clock w ticks))) ≡ Ok step → IsSettled w step
clock_settled w (Ok ticks) step is = subst (IsSettled w) (step_is is) (record { rests = refl; some = clock_settles ticks.1 (behind ticks.0) drain_limit w })
clock_settled w (Err why) step is = absurd (cc)

alone_settled : (w : ListWorld) (s : Statement) → is_alone s ≡ true → (step : Step) → carried ode (closed w) s ≡ Ok step → IsSettled w step
alone_settled w (statement.Class d) lone step is = class_settled w (declared_in ode w.bones d) step is
alone_settled w (statement.Clock text) lone step is = clock_settled w (ticks_in ode w.bones text) step is
alone_settled w statement.Empty lone step is = absurd (cc)
alone_settled w statement.Begin lone step is = absurd (cc)
alone_settled w statement.Commit lone step is = absurd (cc)
alone_settled w statement.Abort lone step is = absurd (cc)
alone_settled w (statement.Simple t) lone step is = absurd (cc)

-- ---- what it is answered

-- by whether a number is left
abbrev by_number : Bool → Answer Step → Answer Step
by_number left next = refuses (not left) refusal.NumbersSpent >> next

answered_by : (w : ListWorld) (s : Statement) → is_alone s ≡ true → answer_to ode (closed w) s ≡ by_number (nat_lt w.bones.transaction number_limit) (carried ode (closed w) s)
answered_by w (statement.Class d) lone = by_left (nat_lt w.bones.transaction number_limit) where
  by_left : (b : Bool) → ((Ok tt >> refuses (true && not b) refusal.NumbersSpent) >> carried ode (closed w) (statement.Class d)) ≡ by_number b (carried ode (closed w) (statement.Class d))
  by_left true = refl
  by_left false = refl
answered_by w (statement.Clock text) lone = by_left (nat_lt w.bones.transaction number_limit) where
  by_left : (b : Bool) → ((Ok tt >> refuses (true && not b) refusal.NumbersSpent) >> carried ode (closed w) (statement.Clock text)) ≡ by_number b (carried ode (closed w) (statement.Clock text))
  by_left true = refl
  by_left false = refl
answered_by w statement.Empty lone = absurd (cc)
answered_by w statement.Begin lone = absurd (cc)
answered_by w statement.Commit lone = absurd (cc)
answered_by w statement.Abort lone = absurd (cc)
answered_by w (statement.Simple t) lone = absurd (cc)

tried_alone : (m : Interleaved) (s : Statement) → is_alone s ≡ true
    → tries ode m None s ≡ cond (not (has_number m)) (Turns refusal.NumbersSpent (begun Script m.world)) (Alone (carried ode (closed m.world) s))
tried_alone m (statement.Class d) lone = refl
tried_alone m (statement.Clock text) lone = refl
tried_alone m statement.Empty lone = absurd (cc)
tried_alone m statement.Begin lone = absurd (cc)
tried_alone m statement.Commit lone = absurd (cc)
tried_alone m statement.Abort lone = absurd (cc)
tried_alone m (statement.Simple t) lone = absurd (cc)

-- the machine's answer, which settles something or is a refusal
settled_answer : (w : ListWorld) (s : Statement) → is_alone s ≡ true → (step : Step) → answer_to ode (closed w) s ≡ Ok step → IsSettled w step
settled_answer w s lone step is = by_left (nat_lt w.bones.transaction number_limit) (sym (answered_by w s lone) ∙ is) where
  by_left : (b : Bool) → by_number b (carried ode (closed w) s) ≡ Ok step → IsSettled w step
  by_left true e = alone_settled w s lone step e
  by_left false e = absurd (cc)

pub alone_reply : (m : Interleaved) (n : ℕ) (s : Statement) → is_alone s ≡ true → m.sessions ≡ [] → replies_to m n true (tries ode m None s) ≡ replies_alone m.world (answer_to ode (closed m.world) s)
alone_reply m n s lone none =
    free_reply m n true (tries ode m None s) (none_holder m n true (footprint_of (tries ode m None s)) none) ∙ ap (replies m n) (tried_alone m s lone)
    ∙ by_left (has_number m) ∙ ap (λ (b : Bool). replies_alone m.world (by_number b (carried ode (closed m.world) s))) number ∙ sym (ap (replies_alone m.world) (answered_by m.world s lone))
  where
    none_more : (t : ℕ) → t + 0 ≡ t
    none_more t = omega arith

    number : has_number m ≡ nat_lt m.world.bones.transaction number_limit
    number =
        ap (λ (os : List Open). nat_lt (m.world.bones.transaction + length os) number_limit) none ∙ ap (λ (k : ℕ). nat_lt k number_limit) (none_more m.world.bones.transaction)

    by_left : (b : Bool) → replies m n (cond (not b) (Turns refusal.NumbersSpent (begun Script m.world)) (Alone (carried ode (closed m.world) s))) ≡ replies_alone m.world (by_number b (carried ode (closed m.world) s))
    by_left true = refl
    by_left false = refl

-- ---- the engine

module _ {H K : Type 0} (seen : H → View) (held : K → View → Entries → Type 0) (live : K → Bool) where
  -- over an opened file, with no transaction open
  pub start_stands : (w : ListWorld) (o : Opened K) (e : Engine K) (host : H) → e.rest ≡ Some o → e.running ≡ None → IsWell ode w → IsAtRest seen held live ode w o host → StandsFor seen held live ode (closed w) e host
  start_stands w o e host here shut well rests = record {
    goes_on = closed_session w well;
    has =
        subst (λ (r : Option (Opened K)). StandsBy seen held live ode (closed w) r e.running host) (sym here)
        (subst (λ (r : Option (Ctx K)). StandsBy seen held live ode (closed w) (Some o) r host) (sym shut) (refl, rests));
  }

  pub start_live : (o : Opened K) (e : Engine K) → e.rest ≡ Some o → e.running ≡ None → e.live ≡ true → live o.keeper ≡ true → AreFit (resting_parts o) → AreAligned (resting_parts o) → IsLive live e
  start_live o e here shut lives usable fit aligned = record {
    lives = lives;
    one =
        subst (λ (r : Option (Opened K)). IsOneOf live r e.running) (sym here)
        (subst (λ (r : Option (Ctx K)). IsOneOf live (Some o) r) (sym shut) (usable, fit, aligned));
  }

  -- ---- what it gives back

  pub there_is : (rest : Option (Opened K)) (running : Option (Ctx K)) → IsOneOf live rest running → std.IsSome (opened_in rest running)
  there_is (Some o) None one = refl
  there_is None (Some ctx) one = refl
  there_is (Some o) (Some ctx) one = absurd one
  there_is None None one = absurd one

  pub opened_usable : (rest : Option (Opened K)) (running : Option (Ctx K)) (o : Opened K) → opened_in rest running ≡ Some o → IsOneOf live rest running → IsResting live o
  opened_usable (Some p) None o is one = let same : p ≡ o = cc in subst (IsResting live) same one
  opened_usable None (Some ctx) o is one = let same : back ctx ≡ o = cc in subst (IsResting live) same one
  opened_usable (Some p) (Some ctx) o is one = absurd one
  opened_usable None None o is one = absurd one

  opened_rests : (w : ListWorld) (rest : Option (Opened K)) (running : Option (Ctx K)) (o : Opened K) (host : H) → opened_in rest running ≡ Some o → StandsBy seen held live ode (closed w) rest running host → IsAtRest seen held live ode w o host
  opened_rests w (Some p) None o host is has = let same : p ≡ o = cc in subst (λ (q : Opened K). IsAtRest seen held live ode w q host) same has.1
  opened_rests w None (Some ctx) o host is has = let clash : ◌≡◌ {A = Option ListTx} None (Some has.0) = has.1 in absurd (cc)
  opened_rests w (Some p) (Some ctx) o host is has = absurd has
  opened_rests w None None o host is has = absurd has

  rested : (w v : ListWorld) (session : Session) (e : Engine K) (o : Opened K) (host : H) → session ≡ closed v → opened_in e.rest e.running ≡ Some o → StandsFor seen held live ode session e host → IsAtRest seen held live ode v o host
  rested w v session e o host is given stands =
      opened_rests v e.rest e.running o host given (subst (λ (q : Session). StandsFor seen held live ode q e host) is stands).has

  -- ---- what it serves

  module _ (means : Meaning) (m : Interleaved) (n : ℕ) (s : Statement) (lone : is_alone s ≡ true) (none : m.sessions ≡ []) (sessions : List code.Open) (same : opens_as sessions ≡ m.sessions) (old new : H) where
    abbrev answer' : Answer Step
    answer' = answer_to ode (closed m.world) s

    abbrev Served : Reply → Result (Opened K × answered.Answer) EngineError → Type 0
    Served reply result = Serves seen held live means ode m reply result sessions old new

    -- what a stop leaves
    abbrev Moments : Answer Step → Type 0
    Moments a = (said : List ℕ) (more : List Item) → (seen old).text ≡ Some said → LeavesOnly (seen old) (seen new) (IsAfterSome (HoldsBy ode means) (items_of (settlings a) ++ more) m.world said)

    settled_by_reply : (a : Answer Step) → steps.settlings (replies_alone m.world a) ≡ settlings a
    settled_by_reply (Ok step) = refl
    settled_by_reply (Err why) = refl

    moments_so : (a : Answer Step) → Moments a → (said : List ℕ) (more : List Item) → (seen old).text ≡ Some said
        → LeavesOnly (seen old) (seen new) (IsAfterSome (HoldsBy ode means) (items_of (steps.settlings (replies_alone m.world a)) ++ more) m.world said)
    moments_so a run said more is =
        subst (λ (settled : Settlings). LeavesOnly (seen old) (seen new) (IsAfterSome (HoldsBy ode means) (items_of settled ++ more) m.world said)) (sym (settled_by_reply a)) (run said more is)

    pub alone_failed : (e : EngineError) → Moments answer' → IsUndamaged e → Served (replies_to m n true (tries ode m None s)) (Err e)
    alone_failed e run sound =
        subst (λ (reply : Reply). Served reply (Err e)) (sym (alone_reply m n s lone none))
        (record { answers = tt; stands = tt; printed = tt; any_moment = moments_so answer' run; sound = sound })

    counts_as : (settled : Settlings) (count : ℕ) → IsSome settled → count ≡ length settled → counted (length settled) (answer.Settled count)
    counts_as [] count some is = absurd some
    counts_as (first ∷ more) count some is = ap answer.Settled is

    -- it settled so many
    alone_settles : (count : ℕ) (e : Engine K) (o : Opened K) → opened_in e.rest e.running ≡ Some o → (a : Answer Step) → answer' ≡ a → IsAnswer (done.Settled count) a → StandsFor seen held live ode (session_after (closed m.world) a) e new
        → Printed (texts_of (settlings a)) (seen old) (seen new) → Moments a → IsInterleaved ode (after_reply m (replies_alone m.world a)) → Served (replies_alone m.world a) (Ok (o, answer.Settled count))
    alone_settles count e o given (Ok step) is says stands printed run goes_on =
        let it = settled_answer m.world s lone step is in
        record {
          answers = counts_as step.1 count it.some says;
          stands = record { goes_on = goes_on; rests = rested m.world (world_after m.world step.1) step.0 e o new it.rests given stands; same = same ∙ none };
          printed = printed;
          any_moment = run;
          sound = tt;
        }
    alone_settles count e o given (Err why) is says stands printed run goes_on = absurd says

    -- it is refused
    alone_turns : (why : Refusal) (e : Engine K) (o : Opened K) → opened_in e.rest e.running ≡ Some o → (a : Answer Step) → answer' ≡ a → IsAnswer (done.Refused why) a → StandsFor seen held live ode (session_after (closed m.world) a) e new
        → Printed (texts_of (settlings a)) (seen old) (seen new) → Moments a → IsInterleaved ode m → Served (replies_alone m.world a) (Ok (o, answer.Refused why))
    alone_turns why e o given (Err refused) is says stands printed run goes_on = record {
      answers = ap answer.Refused says;
      stands = record { goes_on = goes_on; rests = rested m.world m.world (closed m.world) e o new refl given stands; same = same };
      printed = printed;
      any_moment = run;
      sound = tt;
    }
    alone_turns why e o given (Ok step) is says stands printed run goes_on = absurd says

    -- one or the other
    pub alone_answers : (d : Done) (e : Engine K) (o : Opened K) → opened_in e.rest e.running ≡ Some o → IsAnswer d answer' → StandsFor seen held live ode (session_after (closed m.world) answer') e new
        → Printed (texts_of (settlings answer')) (seen old) (seen new) → Moments answer' → IsInterleaved ode m → IsInterleaved ode (after_reply m (replies_to m n true (tries ode m None s)))
        → Served (replies_to m n true (tries ode m None s)) (Ok (o, answer_in d))
    alone_answers d e o given says stands printed run good goes_on =
        let reply : replies_to m n true (tries ode m None s) ≡ replies_alone m.world answer' = alone_reply m n s lone none in
        subst (λ (r : Reply). Served r (Ok (o, answer_in d))) (sym reply) (by_done d says (subst (λ (r : Reply). IsInterleaved ode (after_reply m r)) reply goes_on))
      where
        by_done : (q : Done) → IsAnswer q answer' → IsInterleaved ode (after_reply m (replies_alone m.world answer')) → Served (replies_alone m.world answer') (Ok (o, answer_in q))
        by_done (done.Settled count) is on = alone_settles count e o given answer' refl is stands printed run on
        by_done (done.Refused why) is on = alone_turns why e o given answer' refl is stands printed run good
