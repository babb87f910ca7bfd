-- What an engine stands for over a host, and what its calls come to as pieces.
use Rattle.std.proofs.Common.{◌≡◌, ◌∙◌, ℕ, List, ◌∷◌, ◌++◌, Bool, true, Option, Result, Some, None, Ok, Err, append-nil, length, ap, refl, subst, sym}
use Rattle.std.specs.Prelude.{IsTrue, OnOk}
use Rattle.ode_engine.specs.Serving.{IsAnswer, IsLive, IsOneOf, StandsBy, StandsFor, answer_to, settlings}
use Rattle.ode_engine.specs.declared.engine.Done.{Done}
use Rattle.ode_engine.specs.declared.engine.Done.TheVariants as done
use Rattle.ode_engine.specs.declared.engine.Engine.{Engine}
use Rattle.ode_good_laws.specs.Well.{IsWell}
use Rattle.ode_host.proofs.Moments.{joined, now_from, started}
use Rattle.ode_host.specs.Host.{CutPrint, LeavesCut, LeavesOnly, Printed, Prints, Stands}
use Rattle.ode_host.specs.View.{View}
use Rattle.ode_keep.specs.Entries.{Entries}
use Rattle.ode_language.specs.Answers.{Answers}
use Rattle.ode_language.specs.Languages.{as_piece, change_of, ode, piece_of, statement_of}
use Rattle.ode_language.specs.declared.reading.Piece.{Piece}
use Rattle.ode_language.specs.declared.reading.Piece.TheVariants as given
use Rattle.ode_language.specs.declared.reading.ReadStop.{ReadStop}
use Rattle.ode_language.specs.declared.reading.ReadStop.TheVariants as read
use Rattle.ode_machine.proofs.MomentLaws.{refusal_leaves}
use Rattle.ode_machine.specs.Commands.{Step, changes, command, finish, read_piece, states}
use Rattle.ode_machine.specs.Moments.{IsAfterSome}
use Rattle.ode_machine.specs.Runs.{Item, Refuses, answered, final, stretch_of, text_of}
use Rattle.ode_machine.specs.Sessions.{Session, closed}
use Rattle.ode_opened.specs.declared.opened.Opened.{Opened}
use Rattle.ode_transact.specs.Contexts.{Ctx}
use Rattle.ode_schema.specs.Parts.{AreAligned, AreFit}
use Rattle.ode_ends.proofs.CallLaws.{Told, damage_as, no_calls}
use Rattle.ode_trace.proofs.MachineLaws.{finish_ends}
use Rattle.ode_trace.proofs.TallyLaws.{piece_refused, piece_settled}
use Rattle.ode_trace.specs.Hearing.{heard_items}
use Rattle.ode_trace.specs.Unread.{unread}
use Rattle.ode_trace.specs.Running.{Carries, Commands}
use Rattle.ode_ends.specs.Endings.{EndsWith}
use Rattle.ode_trace.specs.Tallies.{settled_in, with_piece, with_refusal, with_settled}
use Rattle.ode_trace.specs.declared.tally.Tally.{Tally}
use Rattle.ode_transact.specs.Errors.{OnDamaged}
use Rattle.ode_transact.proofs.LogLaws.{logs_none}
use Rattle.ode_transact.proofs.OutputLaws.{counted_none}
use Rattle.ode_transact.specs.Items.{items_of}
use Rattle.ode_transact.specs.Logging.{DiskHas, Logs}
use Rattle.ode_transact.specs.Output.{heard}
use Rattle.ode_transact.specs.Resting.{HoldsBy, IsAtRest, resting_parts}
use Rattle.ode_transact.specs.Settling.{Meaning}
use Rattle.ode_transact.specs.declared.error.EngineError.{EngineError}
use Rattle.ode_transact.specs.declared.error.EngineError.TheVariants as error
use Rattle.ode_value.specs.Answers.{Answer, ◌>>=◌}
use Rattle.ode_value.specs.Language.{ListWorld}
use Rattle.ode_value.specs.Texts.{refused_line}
use Rattle.ode_value.specs.Worlds.{empty_world}
use Rattle.ode_value.specs.declared.change.Change.{Change}
use Rattle.ode_value.specs.declared.reason.Refusal.{Refusal}
use Rattle.ode_value.specs.declared.statement.Statement.{Statement}

-- a print leaves the file that stands, whatever was printed before
pub stands_printed : (piece file : List ℕ) (old new : View) → Prints piece old new → Stands file old → Stands file new
stands_printed piece file old new prints stands = record {
  tells = record { honest = subst IsTrue (sym prints.keeps.honest) stands.tells.honest; image = prints.image ∙ stands.tells.image };
  only = now_from (CutPrint piece) old new (λ c o. c ≡ file) prints.time stands.only (λ d e c o left cut. cut.0 ∙ stands.only d e left);
}

-- ---- what a piece is read as

-- as a statement
abbrev of_statement : Answer Statement → Answer Piece
of_statement a = a >>= (λ s. Ok (given.Statement s))

its_statement : (a : Answer Statement) (s : Statement) → of_statement a ≡ Ok (given.Statement s) → a ≡ Ok s
its_statement (Ok t) s is = cc (is)
its_statement (Err why) s is = absurd (cc (is))

no_change : (a : Answer Statement) (c : Change) → of_statement a ≡ Ok (given.Change c) → ⊥
no_change (Ok t) c is = cc (is)
no_change (Err why) c is = cc (is)

its_refusal : (a : Answer Statement) (why : Refusal) → of_statement a ≡ Err why → a ≡ Err why
its_refusal (Ok t) why is = absurd (cc (is))
its_refusal (Err other) why is = cc (is)

abbrev some_change : Change → Option (Answer Change)
some_change c = Some (Ok c)

-- by whether it is to be a change, which is `change_of` of it
module _ (session : Session) (text : List ℕ) where
  statement_read : (change : Option (Answer Change)) (s : Statement) → as_piece change (statement_of text) ≡ Ok (given.Statement s)
      → (statement_of text ≡ Ok s) × (read_piece ode session text change ≡ answer_to ode session s)
  statement_read None s is = let a = its_statement (statement_of text) s is in (a, ap (λ (r : Answer Statement). r >>= states ode session) a)
  statement_read (Some (Ok c)) s is = absurd (cc (is))
  statement_read (Some (Err why)) s is = absurd (cc (is))

  change_read : (change : Option (Answer Change)) (c : Change) → as_piece change (statement_of text) ≡ Ok (given.Change c)
      → (change ≡ Some (Ok c)) × (read_piece ode session text change ≡ changes ode session c)
  change_read None c is = absurd (no_change (statement_of text) c is)
  change_read (Some (Ok d)) c is = let same : d ≡ c = cc (is) in (ap (λ (x : Change). some_change x) same, ap (changes ode session) same)
  change_read (Some (Err why)) c is = absurd (cc (is))

  refused_read : (change : Option (Answer Change)) (why : Refusal) → as_piece change (statement_of text) ≡ Err why → read_piece ode session text change ≡ Err why
  refused_read None why is = ap (λ (r : Answer Statement). r >>= states ode session) (its_refusal (statement_of text) why is)
  refused_read (Some (Ok c)) why is = absurd (cc (is))
  refused_read (Some (Err other)) why is = let same : other ≡ why = cc (is) in ap Err same

pub has_statement : (text : List ℕ) (s : Statement) → piece_of text ≡ Ok (given.Statement s) → statement_of text ≡ Ok s
has_statement text s is = (statement_read (closed empty_world) text (change_of text) s is).0

pub has_change : (text : List ℕ) (c : Change) → piece_of text ≡ Ok (given.Change c) → change_of text ≡ Some (Ok c)
has_change text c is = (change_read (closed empty_world) text (change_of text) c is).0

-- and what it is answered then
pub command_said : (session : Session) (text : List ℕ) (s : Statement) → piece_of text ≡ Ok (given.Statement s) → command ode session text ≡ answer_to ode session s
command_said session text s is = (statement_read session text (change_of text) s is).1

pub command_changed : (session : Session) (text : List ℕ) (c : Change) → piece_of text ≡ Ok (given.Change c) → command ode session text ≡ changes ode session c
command_changed session text c is = (change_read session text (change_of text) c is).1

-- what is settled at the end of the input
pub settled_many : (answer : Done) (step : Step) → IsAnswer answer (Ok step) → settled_in answer ≡ length step.1
settled_many (done.Settled count) step is = is
settled_many (done.Refused why) step is = absurd is

-- it calls nothing where none is read
pub unread_told : (stop : ReadStop) (v : View) → Told {R = Done} (unread stop) v v
unread_told read.Memory v = no_calls _ _ v (λ is. cc (is)) (λ is. cc (is))
unread_told (read.Refused why) v = no_calls _ _ v (λ is. cc (is)) (λ is. cc (is))

module _ {H K : Type 0} (seen : H → View) (held : K → View → Entries → Type 0) (live : K → Bool) (means : Meaning)
    (stands : (keeper : K) (host : H) (entries : Entries) → held keeper (seen host) entries → (file : List ℕ) × Stands file (seen host) × means file entries)
    (stays : (keeper : K) (old new : H) (entries : Entries) → held keeper (seen old) entries → ((file : List ℕ) → Stands file (seen old) → Stands file (seen new)) → held keeper (seen new) entries) where
  abbrev For : Session → Engine K → H → Type 0
  For = StandsFor seen held live ode

  -- ---- what is held now

  held_by : (session : Session) (rest : Option (Opened K)) (running : Option (Ctx K)) (host : H) → IsWell ode session.world → StandsBy seen held live ode session rest running host
      → (file : List ℕ) × Stands file (seen host) × HoldsBy ode means file session.world
  held_by session (Some o) None host well is =
      let there = stands o.keeper host is.1.entries is.1.records in
      (there.0, there.1, record { entries = is.1.entries; are = there.2; world = is.1.world.world; ones = well.ones })
  held_by session None (Some ctx) host well is =
      let runs = is.2 in
      let there = stands ctx.heap host runs.entries runs.context.state.records in
      (there.0, there.1, record { entries = runs.entries; are = there.2; world = runs.world.world; ones = well.ones })
  held_by session (Some o) (Some ctx) host well is = absurd is
  held_by session None None host well is = absurd is

  pub now_holds : (session : Session) (e : Engine K) (host : H) → For session e host → (file : List ℕ) × Stands file (seen host) × HoldsBy ode means file session.world
  now_holds session e host is = held_by session e.rest e.running host is.goes_on.well is.has

  pub ends_now : (session : Session) (e : Engine K) (host : H) (text : List ℕ) → For session e host → (seen host).text ≡ Some text → EndsWith means (seen host) session.world text
  ends_now session e host text is said =
      let there = now_holds session e host is in
      record { image = there.0; stands = there.1; holds = there.2; printed = said }

  -- ---- it still stands for the session behind calls that leave the disk alone

  kept_by : (session : Session) (rest : Option (Opened K)) (running : Option (Ctx K)) (old new : H) → ((file : List ℕ) → Stands file (seen old) → Stands file (seen new))
      → StandsBy seen held live ode session rest running old → StandsBy seen held live ode session rest running new
  kept_by session (Some o) None old new same is = (
    is.0,
    record {
      entries = is.1.entries;
      world = is.1.world;
      usable = is.1.usable;
      records = stays o.keeper old new is.1.entries is.1.records same;
      classes = is.1.classes;
      tables = is.1.tables;
      fit = is.1.fit;
      bytes = is.1.bytes;
    },
  )
  kept_by session None (Some ctx) old new same is =
      let runs = is.2 in
      let state = runs.context.state in (
        is.0,
        is.1,
        record {
          entries = runs.entries;
          world = runs.world;
          context = record {
            state = record { usable = state.usable; records = stays ctx.heap old new runs.entries state.records same; known = state.known; budget = state.budget; bytes = state.bytes };
            classes = runs.context.classes;
          };
          tables = runs.tables;
          fit = runs.fit;
          runs = runs.runs;
          first = runs.first;
        },
      )
  kept_by session (Some o) (Some ctx) old new same is = absurd is
  kept_by session None None old new same is = absurd is

  pub still_stands : (session : Session) (e : Engine K) (old new : H) → ((file : List ℕ) → Stands file (seen old) → Stands file (seen new)) → For session e old → For session e new
  still_stands session e old new same is = record { goes_on = is.goes_on; has = kept_by session e.rest e.running old new same is.has }

  -- ---- at the start

  pub started_stands : (w : ListWorld) (o : Opened K) (e : Engine K) (host : H) → (e.rest ≡ Some o) × (e.running ≡ None) → IsWell ode w → IsAtRest seen held live ode w o host → For (closed w) e host
  started_stands w o e host has well rests = record {
    goes_on = record { well = well; came = tt };
    has = subst (λ (r : Option (Opened K)). StandsBy seen held live ode (closed w) r e.running host) (sym has.0)
        (subst (λ (r : Option (Ctx K)). StandsBy seen held live ode (closed w) (Some o) r host) (sym has.1) (refl, rests));
  }

  pub started_live : (o : Opened K) (e : Engine K) → e.live ≡ true → (e.rest ≡ Some o) × (e.running ≡ None) → live o.keeper ≡ true → AreFit (resting_parts o) → AreAligned (resting_parts o)
      → IsLive live e
  started_live o e lives has usable fit aligned = record {
    lives = lives;
    one = subst (λ (r : Option (Opened K)). IsOneOf live r e.running) (sym has.0) (subst (λ (r : Option (Ctx K)). IsOneOf live (Some o) r) (sym has.1) (usable, fit, aligned));
  }

  -- ---- a piece that gives no statement

  abbrev Came : Session → Answer Step → Engine K → Result Done EngineError → Engine K → H → H → Type 0
  Came = Commands seen held live means

  pub uncalled_commands : (session : Session) (answer : Answer Step) (e : Engine K) (host : H) → Came session answer e (Err error.Memory) e host host
  uncalled_commands session answer e host = record {
    answers = tt;
    stands = tt;
    printed = tt;
    counts = tt;
    any_moment = λ said more told. started (seen host) (IsAfterSome (HoldsBy ode means) (heard_items e.quiet (items_of (settlings answer)) ++ more) session.world said);
    sound = tt;
  }

  unread_by : (session : Session) (why : Refusal) (e : Engine K) (host : H) → For session e host → Came session (Err why) e (Ok (done.Refused why)) e host host
  unread_by session why e host is = record {
    answers = refl;
    stands = is;
    printed = λ text told. told ∙ ap Some (sym (append-nil text));
    counts = sym (counted_none e.counted);
    any_moment = λ said more told. started (seen host) (IsAfterSome (HoldsBy ode means) more session.world said);
    sound = tt;
  }

  pub unread_commands : (session : Session) (text : List ℕ) (why : Refusal) (e : Engine K) (host : H) → piece_of text ≡ Err why → For session e host
      → Came session (command ode session text) e (Ok (done.Refused why)) e host host
  unread_commands session text why e host is stands_for =
      subst (λ (a : Answer Step). Came session a e (Ok (done.Refused why)) e host host) (sym (refused_read session text (change_of text) why is)) (unread_by session why e host stands_for)

  pub unread_stops : (session : Session) (text : List ℕ) (stop : ReadStop) (e : Engine K) (host : H) → Answers {R = Piece} (piece_of text) (Err stop) → For session e host
      → Came session (command ode session text) e (unread stop) e host host
  unread_stops session text read.Memory e host is stands_for = uncalled_commands session (command ode session text) e host
  unread_stops session text (read.Refused why) e host is stands_for = unread_commands session text why e host is stands_for

  pub unread_logs : (session : Session) (text : List ℕ) (entries : Entries) (stop : ReadStop) (e : Engine K) (host : H) → Answers {R = Piece} (piece_of text) (Err stop) → DiskHas means entries (seen host)
      → OnOk (unread stop) (Logs means ode session.world entries (settlings (command ode session text)) e.log e.log (seen host))
  unread_logs session text entries read.Memory e host is disk = tt
  unread_logs session text entries (read.Refused why) e host is disk =
      subst (λ (a : Answer Step). Logs means ode session.world entries (settlings a) e.log e.log (seen host)) (sym (refused_read session text (change_of text) why is))
      (logs_none means ode session.world entries e.log (seen host) disk)

  -- one that gives a statement or a change, which the engine is given
  pub called_commands : (session : Session) (text : List ℕ) (s : Statement) (start : Engine K) (result : Result Done EngineError) (e : Engine K) (old new : H) → piece_of text ≡ Ok (given.Statement s)
      → Came session (answer_to ode session s) start result e old new → Came session (command ode session text) start result e old new
  called_commands session text s start result e old new is came =
      subst (λ (a : Answer Step). Came session a start result e old new) (sym (command_said session text s is)) came

  pub changed_commands : (session : Session) (text : List ℕ) (c : Change) (start : Engine K) (result : Result Done EngineError) (e : Engine K) (old new : H) → piece_of text ≡ Ok (given.Change c)
      → Came session (changes ode session c) start result e old new → Came session (command ode session text) start result e old new
  changed_commands session text c start result e old new is came =
      subst (λ (a : Answer Step). Came session a start result e old new) (sym (command_changed session text c is)) came

  -- ---- a piece that is carried out

  abbrev Carried : Session → ℕ → Answer Step → Engine K → Tally → Result (Unit {0}) EngineError → Engine K → Tally → H → H → Type 0
  Carried session line answer start was result e now old new = Carries seen held live means session (answered session line answer) start was result e now old new

  -- a stop on the way, whatever comes behind
  came_leaves : (session : Session) (line : ℕ) (answer : Answer Step) (start : Engine K) (result : Result Done EngineError) (e : Engine K) (old new : H) → Came session answer start result e old new
      → (said : List ℕ) (more : List Item) → (seen old).text ≡ Some said
      → LeavesOnly (seen old) (seen new) (IsAfterSome (HoldsBy ode means) (heard_items start.quiet (answered session line answer).1 ++ more) session.world said)
  came_leaves session line (Ok step) start result e old new came said more told = came.any_moment said more told
  came_leaves session line (Err refusal) start result e old new came said more told = came.any_moment said (Refuses (heard start.quiet (refused_line line refusal)) ∷ more) told

  pub stopped_carries : (session : Session) (line : ℕ) (answer : Answer Step) (e : EngineError) (start engine : Engine K) (was now : Tally) (old new : H) → Came session answer start (Err e) engine old new
      → Carried session line answer start was (Err e) engine now old new
  stopped_carries session line answer e start engine was now old new came = record {
    stands = tt;
    printed = tt;
    counts = tt;
    any_moment = came_leaves session line answer start (Err e) engine old new came;
    sound = damage_as Done (Unit {0}) e ⊥ came.sound;
  }

  pub settled_carries : (session : Session) (line : ℕ) (answer : Answer Step) (count : ℕ) (start engine : Engine K) (was mid now : Tally) (old new : H)
      → Came session answer start (Ok (done.Settled count)) engine old new → mid ≡ with_piece was → now ≡ with_settled count mid → Carried session line answer start was (Ok tt) engine now old new
  settled_carries session line (Err refusal) count start engine was mid now old new came first next = absurd came.answers
  settled_carries session line (Ok step) count start engine was mid now old new came first next = record {
    stands = came.stands;
    printed = came.printed;
    counts = piece_settled was mid now start.counted engine.counted count step.1 first next came.answers came.counts;
    any_moment = came.any_moment;
    sound = tt;
  }

  -- A refusal: it is counted and what is heard of its line is printed, or it isn't.
  module _ (session : Session) (line : ℕ) (why : Refusal) (start engine : Engine K) (was taken now : Tally) (old mid new : H) (came : Came session (Err why) start (Ok (done.Refused why)) engine old mid)
      (cut : (file text : List ℕ) → Stands file (seen mid) → (seen mid).text ≡ Some text → LeavesOnly (seen mid) (seen new) (LeavesCut file text (heard start.quiet (refused_line line why)))) where
    abbrev shown_line : List ℕ
    shown_line = heard start.quiet (refused_line line why)

    mid_text : (said : List ℕ) → (seen old).text ≡ Some said → (seen mid).text ≡ Some said
    mid_text said told = came.printed said told ∙ ap Some (append-nil said)

    refusal_moments : (said : List ℕ) (more : List Item) → (seen old).text ≡ Some said
        → LeavesOnly (seen old) (seen new) (IsAfterSome (HoldsBy ode means) (Refuses shown_line ∷ more) session.world said)
    refusal_moments said more told =
        let there = now_holds session engine mid came.stands in
        joined (seen old) (seen mid) (seen new) (IsAfterSome (HoldsBy ode means) (Refuses shown_line ∷ more) session.world said)
        (came.any_moment said (Refuses shown_line ∷ more) told)
        (refusal_leaves (HoldsBy ode means) shown_line more session.world there.0 said (seen mid) (seen new) there.2 (cut there.0 said there.1 (mid_text said told)))

    pub refusal_carries : (result : Result (Unit {0}) EngineError) → OnOk result (Printed shown_line (seen mid) (seen new)) → ((file : List ℕ) → Stands file (seen mid) → Stands file (seen new))
        → taken ≡ with_piece was → OnOk result (now ≡ with_refusal (refused_line line why) taken) → OnDamaged result ⊥ → Carried session line (Err why) start was result engine now old new
    refusal_carries (Ok said) printed same first counted sound = record {
      stands = still_stands session engine mid new same came.stands;
      printed = λ text told. printed text (mid_text text told) ∙ ap (λ (l : List ℕ). Some (text ++ l)) (sym (append-nil shown_line));
      counts = piece_refused was taken now start.counted engine.counted (refused_line line why) first counted (came.counts ∙ counted_none start.counted);
      any_moment = refusal_moments;
      sound = tt;
    }
    refusal_carries (Err e) printed same first counted sound = record { stands = tt; printed = tt; counts = tt; any_moment = refusal_moments; sound = sound }

  -- ---- the end of the input

  pub finished_ends : (session : Session) (text : List ℕ) (quiet : Bool) (e : Engine K) (host : H) → For (finish session).0 e host
      → (seen host).text ≡ Some (text ++ text_of (heard_items quiet (items_of (finish session).1)))
      → EndsWith means (seen host) (final session.world (stretch_of (finish session)).1) (text ++ text_of (heard_items quiet (stretch_of (finish session)).1))
  finished_ends session text quiet e host is told =
      subst (λ (u : ListWorld). EndsWith means (seen host) u (text ++ text_of (heard_items quiet (stretch_of (finish session)).1))) (finish_ends session)
      (ends_now (finish session).0 e host (text ++ text_of (heard_items quiet (stretch_of (finish session)).1)) is told)

  -- ---- a refusal, of any answer, by an engine that is as quiet as at the start

  refusal_of : (answer : Answer Step) (why : Refusal) → IsAnswer (done.Refused why) answer → answer ≡ Err why
  refusal_of (Ok step) why is = absurd is
  refusal_of (Err refusal) why is = ap Err (sym is)

  pub refused_carries : (session : Session) (line : ℕ) (answer : Answer Step) (why : Refusal) (start engine : Engine K) (was taken now : Tally) (old mid new : H) (result : Result (Unit {0}) EngineError)
      → Came session answer start (Ok (done.Refused why)) engine old mid → engine.quiet ≡ start.quiet
      → ((file text : List ℕ) → Stands file (seen mid) → (seen mid).text ≡ Some text → LeavesOnly (seen mid) (seen new) (LeavesCut file text (heard engine.quiet (refused_line line why))))
      → OnOk result (Printed (heard engine.quiet (refused_line line why)) (seen mid) (seen new)) → ((file : List ℕ) → Stands file (seen mid) → Stands file (seen new))
      → taken ≡ with_piece was → OnOk result (now ≡ with_refusal (refused_line line why) taken) → OnDamaged result ⊥ → Carried session line answer start was result engine now old new
  refused_carries session line answer why start engine was taken now old mid new result came volume cut printed same first counted sound =
      let is : answer ≡ Err why = refusal_of answer why came.answers in
      subst (λ (a : Answer Step). Carried session line a start was result engine now old new) (sym is)
      (refusal_carries session line why start engine was taken now old mid new
      (subst (λ (a : Answer Step). Came session a start (Ok (done.Refused why)) engine old mid) is came)
      (subst (λ (q : Bool). (file text : List ℕ) → Stands file (seen mid) → (seen mid).text ≡ Some text → LeavesOnly (seen mid) (seen new) (LeavesCut file text (heard q (refused_line line why)))) volume cut)
      result
      (subst (λ (q : Bool). OnOk result (Printed (heard q (refused_line line why)) (seen mid) (seen new))) volume printed)
      same first counted sound)
