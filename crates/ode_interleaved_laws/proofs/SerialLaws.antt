-- What a step settles is what whole transactions do, one after another.
use Rattle.std.proofs.Common.{◌≡◌, ℕ, List, [], ◌∷◌, ◌++◌, Bool, true, false, cond, Option, Some, None, Ok, Err, refl, sym, ap, ◌∙◌, subst}
use Rattle.std.proofs.lemmas.List.{append-nil}
use Rattle.std.specs.Prelude.{is_some, not}
use Rattle.ode_interleaved_laws.proofs.StepLaws.{open_found, run_done, view_is}
use Rattle.ode_interleaved_laws.specs.Meeting.{IsInterleaved, IsOpenOver}
use Rattle.ode_interleaved_laws.specs.Serial.{AbortsBy, Completes, Ending, Transaction, Whole, drains_of, outcome_of, runs_serially, serial_of, settled_alone, simple_whole, taken_of}
use Rattle.ode_language.specs.Languages.{ode}
use Rattle.ode_machine.specs.Commands.{Step, carried}
use Rattle.ode_machine.specs.Interleaving.{Alone, Ends, Goes, Holder, Interleaved, Open, Rests, Stays, Taken, Trial, Turns, behind, footprint_of, has_number, holder, in_place, is_alone, literal_objects, others_of, replies, replies_alone, replies_to, run_on, session_of, step, takes, trial_open, tries, tries_answer, tries_in, unless_held, view, with_open}
use Rattle.ode_machine.specs.Refusals.{checked_in, place_of}
use Rattle.ode_machine.specs.Sessions.{closed}
use Rattle.ode_value.specs.declared.reason.Reason.{Reason}
use Rattle.ode_value.specs.declared.reason.Reason.TheVariants.{Asked}
use Rattle.ode_value.specs.declared.reason.Refusal.TheVariants as refusal
use Rattle.ode_value.specs.declared.statement.Statement.{Statement}
use Rattle.ode_value.specs.declared.statement.Statement.TheVariants as statement
use Rattle.ode_value.specs.declared.statement.Stmt.{Stmt}
use Rattle.ode_value.specs.Acts.{Aborted, Done, Outcome, each, go_on, nothing}
use Rattle.ode_value.specs.Answers.{Answer}
use Rattle.ode_value.specs.Completing.{completes}
use Rattle.ode_value.specs.Draining.{drain, world_after}
use Rattle.ode_value.specs.Executing.{commands}
use Rattle.ode_value.specs.Language.{ListTx, ListWorld, Settlings}
use Rattle.ode_value.specs.Limits.{drain_limit}
use Rattle.ode_value.specs.Objects.{Histories, Starts}
use Rattle.ode_value.specs.Pasts.{lists}
use Rattle.ode_value.specs.Settling.{Settled, settle}
use Rattle.ode_value.specs.Transactions.{Script, begun, looking}

abbrev Work : Type 0
Work = Outcome Histories Starts (Unit {0})

-- ---- one transaction, and the drain behind it where no session is open

pub runs_one : (w : ListWorld) (taken : List Taken) (ending : Ending) (others : List Open) (p : Work) → outcome_of ending (run_on w taken) ≡ p
    → runs_serially ode w (Transaction taken ending ∷ drains_of others) ≡ behind others (settle lists p)
runs_one w taken ending [] p is =
    ap (λ (q : Work). settle lists q ∷ (drain lists drain_limit (settle lists q).0 ++ [])) is ∙ ap (λ rest. settle lists p ∷ rest) (append-nil (drain lists drain_limit (settle lists p).0))
runs_one w taken ending (o ∷ others) p is = ap (λ (q : Work). settle lists q ∷ []) is

-- one more statement behind these
one_behind : (x : ListTx) (taken : List Taken) (t : Taken) → each takes (taken ++ t ∷ []) x ≡ go_on (each takes taken x) (λ u. takes t)
one_behind x [] t = last (takes t x) where
  last : (p : Work) → go_on p (λ u. nothing) ≡ p
  last (Done u z) = refl
  last (Aborted reason z) = refl
one_behind x (s ∷ taken) t = first (takes s x) (λ z. one_behind z taken t) where
  first : (p : Work) → ((z : ListTx) → each takes (taken ++ t ∷ []) z ≡ go_on (each takes taken z) (λ u. takes t)) → go_on p (λ u. each takes (taken ++ t ∷ [])) ≡ go_on (go_on p (λ u. each takes taken)) (λ u. takes t)
  first (Done u z) rest = rest z
  first (Aborted reason z) rest = refl

module _ (m : Interleaved) (is : IsInterleaved ode m) (n : ℕ) where
  abbrev w : ListWorld
  w = m.world

  abbrev own : Option Open
  own = session_of n m.sessions

  abbrev others : List Open
  others = others_of n m.sessions

  -- a trial that settles does what these whole transactions do
  abbrev IsSerial : Trial → List Whole → Type 0
  IsSerial (Ends p) serial = runs_serially ode w serial ≡ behind others (settle lists p)
  IsSerial (Alone answer) serial = (s : Step) → answer ≡ Ok s → runs_serially ode w serial ≡ s.1
  IsSerial t serial = Unit {0}

  not_spent : (b : Bool) (t why : Trial) (serial : List Whole) → IsSerial t serial → IsSerial why serial → IsSerial (cond b why t) serial
  not_spent true t why serial one other = other
  not_spent false t why serial one other = one

  alone_serial : (s : Statement) (answer : Answer Step) → carried ode (closed w) s ≡ answer → (step : Step) → answer ≡ Ok step → (settled_alone answer ++ []) ≡ step.1
  alone_serial s (Ok t) e step is_step = let same : t ≡ step = cc in append-nil t.1 ∙ ap (λ (q : Step). q.1) same
  alone_serial s (Err why) e step is_step = absurd (cc)

  -- ---- a session that isn't open

  closed_simple : (s : Stmt) (a : Answer Stmt) → IsSerial (tries_answer ode None (literal_objects ode s) (looking (literal_objects ode s) (begun Script w)) a) (simple_whole None (literal_objects ode s) a (drains_of others))
  closed_simple s (Err why) = tt
  closed_simple s (Ok c) = runs_one w (t ∷ []) Completes others (go_on (takes t (begun Script w)) (λ u. completes lists)) (whole (takes t (begun Script w))) where
    t : Taken
    t = record { literals = literal_objects ode s; checked = c }

    whole : (p : Work) → go_on (go_on p (λ u. nothing)) (λ u. completes lists) ≡ go_on p (λ u. completes lists)
    whole (Done u z) = refl
    whole (Aborted reason z) = refl

  closed_serial : own ≡ None → (s : Statement) (u : Unit {0}) → place_of s false ≡ Ok u → IsSerial (tries ode m None s) (serial_of ode m n s)
  closed_serial none statement.Empty u placed = tt
  closed_serial none statement.Begin u placed = not_spent (not (has_number m)) (Stays [] (begun Script w)) (Turns refusal.NumbersSpent (begun Script w)) [] tt tt
  closed_serial none statement.Commit u placed = absurd (cc)
  closed_serial none statement.Abort u placed = absurd (cc)
  closed_serial none (statement.Class d) u placed =
      not_spent (not (has_number m)) (Alone (carried ode (closed w) (statement.Class d))) (Turns refusal.NumbersSpent (begun Script w)) (serial_of ode m n (statement.Class d))
      (alone_serial (statement.Class d) (carried ode (closed w) (statement.Class d)) refl) tt
  closed_serial none (statement.Clock text) u placed =
      not_spent (not (has_number m)) (Alone (carried ode (closed w) (statement.Clock text))) (Turns refusal.NumbersSpent (begun Script w)) (serial_of ode m n (statement.Clock text))
      (alone_serial (statement.Clock text) (carried ode (closed w) (statement.Clock text)) refl) tt
  closed_serial none (statement.Simple s) u placed =
      subst (λ (a : Option Open). IsSerial (tries ode m None (statement.Simple s)) (simple_whole a (literal_objects ode s) (checked_in ode (looking (literal_objects ode s) (view w a)).now.bones s) (drains_of others)))
      (sym none)
      (let x = looking (literal_objects ode s) (begun Script w) in
      not_spent (not (has_number m)) (tries_answer ode None (literal_objects ode s) x (checked_in ode x.now.bones s)) (Turns refusal.NumbersSpent x)
      (simple_whole None (literal_objects ode s) (checked_in ode x.now.bones s) (drains_of others)) (closed_simple s (checked_in ode x.now.bones s)) tt)

  -- ---- an open one

  module _ (o : Open) (e : own ≡ Some o) (over : IsOpenOver ode w o) where
    abbrev z : ListTx
    z = over.reached

    ran : run_on w o.taken ≡ Done tt z
    ran = run_done (begun Script w) o.taken z over.done

    completed : runs_serially ode w (Transaction o.taken Completes ∷ drains_of others) ≡ behind others (settle lists (completes lists z))
    completed = runs_one w o.taken Completes others (completes lists z) (ap (outcome_of Completes) ran)

    pub aborted_by : (reason : Reason) → runs_serially ode w (Transaction o.taken (AbortsBy reason) ∷ drains_of others) ≡ behind others (settle lists (Aborted reason z))
    aborted_by reason = runs_one w o.taken (AbortsBy reason) others (Aborted reason z) (ap (outcome_of (AbortsBy reason)) ran)

    inside : (t : Taken) (p : Work) → commands lists t.checked (looking t.literals z) ≡ p → IsSerial (trial_open (o.taken ++ t ∷ []) p) (Transaction (o.taken ++ t ∷ []) Completes ∷ drains_of others)
    inside t (Done u x) comes = tt
    inside t (Aborted reason x) comes =
        runs_one w (o.taken ++ t ∷ []) Completes others (Aborted reason x)
        (ap (outcome_of Completes) (one_behind (begun Script w) o.taken t ∙ ap (λ (p : Work). go_on p (λ u. takes t)) ran ∙ comes))

    open_simple : (s : Stmt) (a : Answer Stmt) → IsSerial (tries_answer ode (Some o) (literal_objects ode s) (looking (literal_objects ode s) z) a) (simple_whole (Some o) (literal_objects ode s) a (drains_of others))
    open_simple s (Err why) = tt
    open_simple s (Ok c) =
        let x = looking (literal_objects ode s) z in
        inside (record { literals = literal_objects ode s; checked = c }) (commands lists c x) refl

    -- by the open session of the number, and its view
    abbrev serial_with : Option Open → Statement → List Whole
    serial_with a statement.Commit = Transaction (taken_of a) Completes ∷ drains_of others
    serial_with a statement.Abort = Transaction (taken_of a) (AbortsBy Asked) ∷ drains_of others
    serial_with a (statement.Simple s) = simple_whole a (literal_objects ode s) (checked_in ode (looking (literal_objects ode s) (view w a)).now.bones s) (drains_of others)
    serial_with a s = []

    open_serial_on : view w (Some o) ≡ z → (s : Statement) (u : Unit {0}) → place_of s true ≡ Ok u → IsSerial (tries_in ode w (Some o) false (view w (Some o)) s) (serial_with (Some o) s)
    open_serial_on is_z statement.Empty u placed = tt
    open_serial_on is_z statement.Begin u placed = absurd (cc)
    open_serial_on is_z statement.Commit u placed = completed ∙ ap (λ (v : ListTx). behind others (settle lists (completes lists v))) (sym is_z)
    open_serial_on is_z statement.Abort u placed = aborted_by Asked ∙ ap (λ (v : ListTx). behind others (settle lists (Aborted Asked v))) (sym is_z)
    open_serial_on is_z (statement.Class d) u placed = absurd (cc)
    open_serial_on is_z (statement.Clock text) u placed = absurd (cc)
    open_serial_on is_z (statement.Simple s) u placed =
        subst (λ (v : ListTx). IsSerial (tries_answer ode (Some o) (literal_objects ode s) (looking (literal_objects ode s) v) (checked_in ode (looking (literal_objects ode s) v).now.bones s))
        (simple_whole (Some o) (literal_objects ode s) (checked_in ode (looking (literal_objects ode s) v).now.bones s) (drains_of others)))
        (sym is_z) (open_simple s (checked_in ode (looking (literal_objects ode s) z).now.bones s))

    serial_same : (s : Statement) (u : Unit {0}) → place_of s true ≡ Ok u → serial_with own s ≡ serial_of ode m n s
    serial_same statement.Empty u placed = refl
    serial_same statement.Begin u placed = absurd (cc)
    serial_same statement.Commit u placed = refl
    serial_same statement.Abort u placed = refl
    serial_same (statement.Class d) u placed = absurd (cc)
    serial_same (statement.Clock text) u placed = absurd (cc)
    serial_same (statement.Simple s) u placed = refl

    open_serial : (s : Statement) (u : Unit {0}) → place_of s true ≡ Ok u → IsSerial (tries ode m (Some o) s) (serial_of ode m n s)
    open_serial s u placed =
        subst (IsSerial (tries ode m (Some o) s)) (ap (λ (a : Option Open). serial_with a s) (sym e) ∙ serial_same s u placed)
        (open_serial_on (view_is m is o over) s u placed)

  serial_by : (a : Option Open) → own ≡ a → (s : Statement) (u : Unit {0}) → place_of s (is_some a) ≡ Ok u → IsSerial (tries ode m a s) (serial_of ode m n s)
  serial_by None e s u placed = closed_serial e s u placed
  serial_by (Some o) e s u placed = open_serial o e (open_found m is n o e) s u placed

  -- ---- what is settled then

  -- what was settled, and the world behind it
  abbrev pub Settles : List Whole → Interleaved → Settlings → Type 0
  Settles serial now settled = (settled ≡ runs_serially ode w serial) × (now.world ≡ world_after w settled)

  goes_same : (a b : Interleaved) (s t : Settlings) → Goes a s ≡ Goes b t → (a ≡ b) × (s ≡ t)
  goes_same a b s t e = (cc, cc)

  some_settled : {X : Type 0} (first : Settled Histories Starts) (settled : Settlings) → [] ≡ first ∷ settled → X
  some_settled first settled e = absurd (cc)

  alone_settles : (serial : List Whole) (answer : Answer Step) → IsSerial (Alone answer) serial → (now : Interleaved) (settled : Settlings) → replies_alone w answer ≡ Goes now settled → Settles serial now settled
  alone_settles serial (Err why) known now settled e = absurd (cc)
  alone_settles serial (Ok s) known now settled e =
      let same = goes_same (record { world = world_after w s.1; sessions = [] }) now s.1 settled e in
      (sym same.1 ∙ sym (known s refl), ap (λ (k : Interleaved). k.world) (sym same.0) ∙ ap (world_after w) same.1)

  replied_serial : (t : Trial) (serial : List Whole) → IsSerial t serial → (now : Interleaved) (first : Settled Histories Starts) (settled : Settlings) → replies m n t ≡ Goes now (first ∷ settled)
      → Settles serial now (first ∷ settled)
  replied_serial (Stays taken x) serial known now first settled e =
      some_settled first settled (goes_same (record { world = w; sessions = with_open (record { session = n; taken = taken; held = x.footprint }) others }) now [] (first ∷ settled) e).1
  replied_serial (Ends p) serial known now first settled e =
      let same = goes_same (record { world = world_after w (behind others (settle lists p)); sessions = others }) now (behind others (settle lists p)) (first ∷ settled) e in
      (sym same.1 ∙ sym known, ap (λ (k : Interleaved). k.world) (sym same.0) ∙ ap (world_after w) same.1)
  replied_serial (Turns why x) serial known now first settled e = absurd (cc)
  replied_serial (Alone answer) serial known now first settled e = alone_settles serial answer known now (first ∷ settled) e
  replied_serial Rests serial known now first settled e = some_settled first settled (goes_same m now [] (first ∷ settled) e).1

  pub is_serial : (s : Statement) (now : Interleaved) (first : Settled Histories Starts) (settled : Settlings) → step ode m n s ≡ Goes now (first ∷ settled) → Settles (serial_of ode m n s) now (first ∷ settled)
  is_serial s now first settled e = by_place (place_of s (is_some own)) refl e where
    t : Trial
    t = tries ode m own s

    by_holder : IsSerial t (serial_of ode m n s) → (h : Option Holder) → unless_held h (replies m n t) ≡ Goes now (first ∷ settled) → Settles (serial_of ode m n s) now (first ∷ settled)
    by_holder known None goes = replied_serial t (serial_of ode m n s) known now first settled goes
    by_holder known (Some h) goes = absurd (cc)

    by_place : (a : Answer (Unit {0})) → place_of s (is_some own) ≡ a → in_place a (replies_to m n (is_alone s) t) ≡ Goes now (first ∷ settled) → Settles (serial_of ode m n s) now (first ∷ settled)
    by_place (Ok u) placed goes = by_holder (serial_by own refl s u placed) (holder (is_alone s) (footprint_of t) others) goes
    by_place (Err why) placed goes = absurd (cc)

  -- ---- the world behind a step

  alone_goes : (answer : Answer Step) (now : Interleaved) (settled : Settlings) → replies_alone w answer ≡ Goes now settled → now.world ≡ world_after w settled
  alone_goes (Err why) now settled e = absurd (cc)
  alone_goes (Ok s) now settled e =
      let same = goes_same (record { world = world_after w s.1; sessions = [] }) now s.1 settled e in
      ap (λ (k : Interleaved). k.world) (sym same.0) ∙ ap (world_after w) same.1

  replied_goes : (t : Trial) (now : Interleaved) (settled : Settlings) → replies m n t ≡ Goes now settled → now.world ≡ world_after w settled
  replied_goes (Stays taken x) now settled e =
      let same = goes_same (record { world = w; sessions = with_open (record { session = n; taken = taken; held = x.footprint }) others }) now [] settled e in
      ap (λ (k : Interleaved). k.world) (sym same.0) ∙ ap (world_after w) same.1
  replied_goes (Ends p) now settled e =
      let same = goes_same (record { world = world_after w (behind others (settle lists p)); sessions = others }) now (behind others (settle lists p)) settled e in
      ap (λ (k : Interleaved). k.world) (sym same.0) ∙ ap (world_after w) same.1
  replied_goes (Turns why x) now settled e = absurd (cc)
  replied_goes (Alone answer) now settled e = alone_goes answer now settled e
  replied_goes Rests now settled e = let same = goes_same m now [] settled e in ap (λ (k : Interleaved). k.world) (sym same.0) ∙ ap (world_after w) same.1

  pub world_goes : (s : Statement) (now : Interleaved) (settled : Settlings) → step ode m n s ≡ Goes now settled → now.world ≡ world_after w settled
  world_goes s now settled e = by_place (place_of s (is_some own)) e where
    t : Trial
    t = tries ode m own s

    by_holder : (h : Option Holder) → unless_held h (replies m n t) ≡ Goes now settled → now.world ≡ world_after w settled
    by_holder None goes = replied_goes t now settled goes
    by_holder (Some h) goes = absurd (cc)

    by_place : (a : Answer (Unit {0})) → in_place a (replies_to m n (is_alone s) t) ≡ Goes now settled → now.world ≡ world_after w settled
    by_place (Ok u) goes = by_holder (holder (is_alone s) (footprint_of t) others) goes
    by_place (Err why) goes = absurd (cc)
