-- What calls of an engine keep, from the calls that they are made of.
use Rattle.std.proofs.Common.{◌≡◌, ℕ, ℤ, List, [], ◌∷◌, Bool, Option, Result, Some, None, Ok, Err, ap, refl, subst, sym}
use Rattle.std.specs.List.{AllByRecursion}
use Rattle.std.specs.Prelude.{OnOk}
use Rattle.ode_change.specs.Changing.{Changes, Declares}
use Rattle.ode_clock.specs.Clocking.{Clocks, clock_settled}
use Rattle.ode_engine.proofs.ChangeLaws.{change_answer, change_settled}
use Rattle.ode_engine.proofs.ClassLaws.{class_answer, class_settled}
use Rattle.ode_engine.proofs.ClockLaws.{clock_answer}
use Rattle.ode_engine.specs.Refusing.{Answers, turned_down}
use Rattle.ode_engine.specs.Serving.{settlings}
use Rattle.ode_engine.specs.declared.refusing.Turned.{Turned}
use Rattle.ode_engine.specs.declared.refusing.Turned.TheVariants as turned
use Rattle.ode_good_laws.specs.Well.{IsWell}
use Rattle.ode_heap_laws.specs.Few.{HasFewParams}
use Rattle.ode_host.specs.Host.{Looks, Printed}
use Rattle.ode_host.specs.View.{View}
use Rattle.ode_interpreter.specs.declared.stop.Stop.TheVariants as stop
use Rattle.ode_keep.specs.Entries.{Entries}
use Rattle.ode_language.specs.Languages.{ode}
use Rattle.ode_machine.specs.Commands.{Step, goes_on, settles}
use Rattle.ode_opened.specs.declared.opened.Opened.{Opened}
use Rattle.ode_transact.specs.Contexts.{EndsWhere}
use Rattle.ode_transact.proofs.LogLaws.{disk_looks, logs_none}
use Rattle.ode_transact.specs.Logging.{DiskHas, HasGrown, Kept, Logs}
use Rattle.ode_transact.specs.Output.{heard}
use Rattle.ode_transact.specs.Resting.{IsAtRest}
use Rattle.ode_transact.specs.Settling.{Meaning}
use Rattle.ode_transact.specs.Working.{settled_by}
use Rattle.ode_transact.specs.declared.error.EngineError.{EngineError}
use Rattle.ode_value.specs.Acts.{Outcome, Done as Reached, Aborted}
use Rattle.ode_value.specs.Answers.{Answer, ◌>>=◌}
use Rattle.ode_value.specs.Language.{ListTx, ListWorld, Settlings}
use Rattle.ode_value.specs.Objects.{Histories, Starts}
use Rattle.ode_value.specs.Pasts.{lists}
use Rattle.ode_value.specs.Settling.{Settled, abort}
use Rattle.ode_value.specs.Worlds.{Declared, Position}
use Rattle.ode_value.specs.declared.change.Change.{Change}
use Rattle.ode_value.specs.declared.reason.Reason.{Reason}
use Rattle.ode_value.specs.declared.reason.Refusal.{Refusal}
use Rattle.ode_value.specs.declared.statement.Stmt.{Stmt}

abbrev LogOf : Type 0
LogOf = Option (List Kept)

-- a log grew in a call to which it was handed
pub grown_on : (first before behind last : LogOf) → before ≡ first → last ≡ behind → HasGrown before behind → HasGrown first last
grown_on first before behind last same is grown =
    subst (λ (log : LogOf). HasGrown first log) (sym is) (subst (λ (log : LogOf). HasGrown log behind) same grown)

module _ (means : Meaning) where
  -- what calls kept over this world
  abbrev Keeps : ListWorld → Entries → Settlings → LogOf → LogOf → View → Type 0
  Keeps w entries settled old new view = Logs means ode w entries settled old new view

  -- in a log that was handed to a call
  pub kept_on : {R : Type 0} (result : Result R EngineError) (w : ListWorld) (entries : Entries) (settled : Settlings) (first before behind last : LogOf) (view : View) → before ≡ first → last ≡ behind
      → OnOk result (Keeps w entries settled before behind view) → OnOk result (Keeps w entries settled first last view)
  kept_on (Ok done) w entries settled first before behind last view same is kept =
      subst (λ (log : LogOf). Keeps w entries settled first log view) (sym is) (subst (λ (log : LogOf). Keeps w entries settled log behind view) same kept)
  kept_on (Err why) w entries settled first before behind last view same is kept = tt

  -- ---- nothing is settled

  pub none_kept : {R : Type 0} (result : Result R EngineError) (w : ListWorld) (entries : Entries) (log : LogOf) (view : View) → DiskHas means entries view → OnOk result (Keeps w entries [] log log view)
  none_kept (Ok done) w entries log view disk = logs_none means ode w entries log view disk
  none_kept (Err why) w entries log view disk = tt

  same_kept : (w : ListWorld) (entries : Entries) (old new : LogOf) (before after : View) → new ≡ old → Looks before after → DiskHas means entries before → Keeps w entries [] old new after
  same_kept w entries old new before after is looks disk =
      subst (λ (log : LogOf). Keeps w entries [] old log after) (sym is) (logs_none means ode w entries old after (disk_looks means entries before after looks disk))

  -- a check turned a statement down
  pub turned_kept : {S : Type 0} (s : S) (turned' : Turned) (w : ListWorld) (a : Answer Stmt) (next : Stmt → Answer Step) (entries : Entries) (log : LogOf) (view : View) → Answers {R = Stmt} (Err turned') a → DiskHas means entries view
      → OnOk (turned_down s turned') (Keeps w entries (settlings (a >>= next)) log log view)
  turned_kept s (turned.Refused why) w a next entries log view is disk =
      subst (λ (b : Answer Stmt). Keeps w entries (settlings (b >>= next)) log log view) (sym is) (logs_none means ode w entries log view disk)
  turned_kept s (turned.Stopped error) w a next entries log view is disk = tt

  -- a statement of an open transaction was done
  pub done_kept : (w : ListWorld) (P : ListTx → Type 0) (p : Outcome Histories Starts (Unit {0})) → EndsWhere (Ok tt) P p → (entries : Entries) (log : LogOf) (view : View) → DiskHas means entries view
      → Keeps w entries (settlings (Ok (goes_on w p))) log log view
  done_kept w P (Reached tt x) ends entries log view disk = logs_none means ode w entries log view disk
  done_kept w P (Aborted reason x) ends entries log view disk = absurd ends

  -- ---- a transaction settles

  module _ {R : Type 0} (result : Result R EngineError) (w : ListWorld) (entries : Entries) (old new : LogOf) (view : View) where
    -- what a call kept of an answer
    abbrev pub KeepsOf : Answer Step → Type 0
    KeepsOf answer = OnOk result (Keeps w entries (settlings answer) old new view)

    -- a check let a statement through
    pub checked_kept : (a : Answer Stmt) (next : Stmt → Answer Step) (s : Stmt) → a ≡ Ok s → KeepsOf (next s) → KeepsOf (a >>= next)
    checked_kept a next s is kept = subst (λ (b : Answer Stmt). KeepsOf (b >>= next)) (sym is) kept

    -- it was aborted
    pub fell_kept : (why : Reason) (P : ListTx → Type 0) (p : Outcome Histories Starts (Unit {0})) → ((x : ListTx) → P x → p ≡ Aborted why x → KeepsOf (Ok (settles (abort lists why x))))
        → EndsWhere (Err (stop.Abort why)) P p → KeepsOf (Ok (goes_on w p))
    fell_kept why P (Aborted reason x) settled ends =
        subst (λ (r : Reason). KeepsOf (Ok (settles (abort lists r x)))) ends.0 (settled x ends.1 (ap (λ (r : Reason). Aborted r x) (sym ends.0)))
    fell_kept why P (Reached answer x) settled ends = absurd ends

    -- a transaction ended
    pub ended_kept : (s : Settled Histories Starts) (ending : Option Reason) (x : ListTx) → s ≡ settled_by ending x → IsWell ode s.0 → (IsWell ode (settled_by ending x).0 → KeepsOf (Ok (settles (settled_by ending x))))
        → KeepsOf (Ok (settles s))
    ended_kept s ending x is well settled =
        subst (λ (q : Settled Histories Starts). KeepsOf (Ok (settles q))) (sym is) (settled (subst (λ (q : Settled Histories Starts). IsWell ode q.0) is well))

  -- ---- the clock

  module _ (w : ListWorld) (entries : Entries) (old new : LogOf) (before after : View) where
    pub clocked_kept : (count : ℕ) (same : Type 0) (a : Answer (ℤ × List Position)) → Clocks a (Ok count) same (λ t n. Keeps w entries (clock_settled w t) old new after) → Keeps w entries (settlings (clock_answer w a)) old new after
    clocked_kept count same (Ok t) kept = kept
    clocked_kept count same (Err why) kept = absurd kept

    pub refused_clock_kept : (why : Refusal) (settled : ℤ × List Position → ℕ → Type 0) (a : Answer (ℤ × List Position)) → Clocks a (Err why) (new ≡ old) settled → Looks before after → DiskHas means entries before
        → Keeps w entries (settlings (clock_answer w a)) old new after
    refused_clock_kept why settled (Err said) is looks disk = same_kept w entries old new before after is.1 looks disk
    refused_clock_kept why settled (Ok t) is looks disk = absurd is

    -- ---- a class, or a change of one

    pub refused_class_kept : (why : Refusal) (declared : Declared → Type 0) (a : Answer Declared) → Declares a (Some why) (new ≡ old) declared → ((said : Refusal) → a ≡ Err said → Looks before after) → DiskHas means entries before
        → Keeps w entries (settlings (class_answer w a)) old new after
    refused_class_kept why declared (Err said) is looks disk = same_kept w entries old new before after is.1 (looks said refl) disk
    refused_class_kept why declared (Ok c) is looks disk = absurd is

    pub refused_change_kept : (change : Change) (why : Refusal) (changed : List Declared → Type 0) (a : Answer (List Declared)) → Changes a (Some why) (new ≡ old) changed → ((said : Refusal) → a ≡ Err said → Looks before after) → DiskHas means entries before
        → Keeps w entries (settlings (change_answer w change a)) old new after
    refused_change_kept change why changed (Err said) is looks disk = same_kept w entries old new before after is.1 (looks said refl) disk
    refused_change_kept change why changed (Ok classes) is looks disk = absurd is

  -- it is declared, or changed, to the log that it left, and the drain follows
  module _ {H K R : Type 0} (seen : H → View) (held : K → View → Entries → Type 0) (live : K → Bool) (result : Result R EngineError) (w : ListWorld) (entries : Entries) (old middle new : LogOf) (o : Opened K) (start mid end : H) (quiet : Bool)
      (unchanged same : Type 0) where
    -- its transaction
    abbrev pub Made : Settled Histories Starts → Type 0
    Made s = IsAtRest seen held live ode s.0 o mid × Printed (heard quiet s.1) (seen start) (seen mid)

    abbrev pub MadeKept : Settled Histories Starts → Type 0
    MadeKept s = Keeps w entries (s ∷ []) old middle (seen mid)

    -- and the drain behind it
    abbrev pub Drains : Settled Histories Starts → Type 0
    Drains s = IsWell ode s.0 → IsAtRest seen held live ode s.0 o mid → MadeKept s → OnOk result (Keeps w entries (settles s).1 old new (seen end))

    pub declared_kept : (a : Answer Declared) → Declares a None unchanged (λ c. AllByRecursion HasFewParams c.class.triggers → IsWell ode (class_settled w c).0 → Made (class_settled w c))
        → Declares a None same (λ c. AllByRecursion HasFewParams c.class.triggers → IsWell ode (class_settled w c).0 → MadeKept (class_settled w c))
        → ((c : Declared) → a ≡ Ok c → AllByRecursion HasFewParams c.class.triggers) → ((c : Declared) → a ≡ Ok c → IsWell ode (class_settled w c).0)
        → ((c : Declared) → Drains (class_settled w c)) → OnOk result (Keeps w entries (settlings (class_answer w a)) old new (seen end))
    declared_kept (Ok c) is kept few well drains =
        let made = is (few c refl) (well c refl) in drains c (well c refl) made.0 (kept (few c refl) (well c refl))
    declared_kept (Err why) is kept few well drains = absurd is

    pub changed_kept : (change : Change) (a : Answer (List Declared)) → Changes a None unchanged (λ classes. IsWell ode (change_settled w change classes).0 → Made (change_settled w change classes))
        → Changes a None same (λ classes. IsWell ode (change_settled w change classes).0 → MadeKept (change_settled w change classes))
        → ((classes : List Declared) → a ≡ Ok classes → IsWell ode (change_settled w change classes).0)
        → ((classes : List Declared) → Drains (change_settled w change classes)) → OnOk result (Keeps w entries (settlings (change_answer w change a)) old new (seen end))
    changed_kept change (Ok classes) is kept well drains =
        let made = is (well classes refl) in drains classes (well classes refl) made.0 (kept (well classes refl))
    changed_kept change (Err why) is kept well drains = absurd is
