-- How an engine goes on in a run that ships.
use Rattle.std.proofs.Common.{◌≡◌, ◌∙◌, ◌||◌, ℕ, List, [], ◌++◌, Bool, false, true, Option, Result, Ok, Err, Some, append-nil, append_assoc, ap, is_err, option_map, refl, subst, sym, unwrap_or}
use Rattle.std.specs.List.{AllByRecursion}
use Rattle.std.specs.Prelude.{OnOk}
use Rattle.ode_engine.specs.Serving.{IsAnswer, IsLive, StandsFor, session_after, settlings}
use Rattle.ode_engine.specs.declared.engine.Done.{Done}
use Rattle.ode_engine.specs.declared.engine.Done.TheVariants as done
use Rattle.ode_engine.specs.declared.engine.Engine.{Engine}
use Rattle.ode_host.proofs.Moments.{joined, weaker}
use Rattle.ode_host.specs.Host.{LeavesOnly, Printed, Stands}
use Rattle.ode_host.specs.View.{View}
use Rattle.ode_host.specs.declared.status.Status.{Status}
use Rattle.ode_keep.specs.Entries.{Entries}
use Rattle.ode_language.specs.Languages.{ode}
use Rattle.ode_machine.specs.Commands.{Step, after, command, finish}
use Rattle.ode_machine.specs.Moments.{IsAfterSome}
use Rattle.ode_machine.specs.Runs.{Item, answered, any_refused, ending_items, final, opening, piece_stretch, pieces_items, status_at, text_of, trace}
use Rattle.ode_machine.specs.Sessions.{Session, closed}
use Rattle.ode_opened.specs.declared.opened.Opened.{Opened}
use Rattle.ode_transact.specs.Contexts.{Ctx}
use Rattle.ode_run_laws.proofs.JoinLaws.{final_join}
use Rattle.ode_run_laws.specs.Settled.{settled_of}
use Rattle.ode_script.specs.Cutting.{End, Ended, Ending, LongScript, LongStatement, Pieces, Then, ending_of, pieces}
use Rattle.ode_script.specs.Left.{EndsBy}
use Rattle.ode_script.specs.declared.reader.ScriptError.{ScriptError}
use Rattle.ode_script.specs.declared.reader.ScriptError.TheVariants as script
use Rattle.ode_ship.specs.Frames.{FitsFrame}
use Rattle.ode_ends.proofs.CallLaws.{damage_as}
use Rattle.ode_trace.proofs.EngineLaws.{now_holds, still_stands}
use Rattle.ode_trace.proofs.MachineLaws.{opening_ends, piece_ends, pieces_ended, pieces_then}
use Rattle.ode_trace.proofs.ShippedLaws.{fit_join, moment_behind, none_refused, printing_leaves, quiet_leaves, quiet_text, refused_join, settled_items, settled_join, shipped_join, world_settled}
use Rattle.ode_trace.specs.Hearing.{heard_items}
use Rattle.ode_ends.specs.Endings.{LeavesNothing}
use Rattle.ode_trace.specs.Shipping.{HasShipped, IsShippedSoFar, LeavesFrames, ShippedAs, Ships, ShipsOn, is_refused, shipped}
use Rattle.ode_ends.specs.Statuses.{IsEnding, status_of_script}
use Rattle.ode_transact.proofs.LogLaws.{behind_append, kept_append}
use Rattle.ode_transact.specs.Errors.{OnDamaged}
use Rattle.ode_transact.specs.Items.{items_of}
use Rattle.ode_transact.specs.Logging.{AreKept, DiskHas, HasGrown, IsBounded, Kept, Logs, behind, logged}
use Rattle.ode_transact.specs.Resting.{HoldsBy}
use Rattle.ode_transact.specs.Settling.{Meaning}
use Rattle.ode_transact.specs.declared.error.EngineError.{EngineError}
use Rattle.ode_value.specs.Answers.{Answer}
use Rattle.ode_value.specs.Draining.{drain}
use Rattle.ode_value.specs.Language.{ListWorld, Settlings}
use Rattle.ode_value.specs.Limits.{drain_limit}
use Rattle.ode_value.specs.Pasts.{lists}

-- ---- the log of an engine

-- of an empty one all is news
news_in : (log old : Option (List Kept)) (news : List Kept) → old ≡ Some [] → log ≡ logged old news → log ≡ Some news
news_in log old news empty grown = grown ∙ ap (λ (o : Option (List Kept)). logged o news) empty

pub bounded_log : (old log : Option (List Kept)) → old ≡ Some [] → HasGrown old log → AllByRecursion IsBounded (unwrap_or log [])
bounded_log old log empty grown =
    subst (λ (o : Option (List Kept)). AllByRecursion IsBounded (unwrap_or o [])) (sym (news_in log old grown.news empty grown.grown)) grown.bounded

-- what was taken out leaves it empty
pub emptied_log : (old log log' : Option (List Kept)) → old ≡ Some [] → HasGrown old log → log' ≡ option_map (λ (_ : List Kept). []) log → log' ≡ Some []
emptied_log old log log' empty grown taken = taken ∙ ap (λ (o : Option (List Kept)). option_map (λ (_ : List Kept). []) o) (news_in log old grown.news empty grown.grown)

-- ---- what an answer says

or_false : (b : Bool) → (b || false) ≡ b
or_false false = refl
or_false true = refl

pub refused_is : (done' : Done) (answer : Answer Step) → IsAnswer done' answer → is_refused done' ≡ is_err answer
refused_is (done.Settled count) (Ok step) is = refl
refused_is (done.Refused why) (Err refusal) is = refl
refused_is (done.Settled count) (Err refusal) is = absurd is
refused_is (done.Refused why) (Ok step) is = absurd is

module _ (session : Session) (line : ℕ) where
  next_is : (answer : Answer Step) → (answered session line answer).0 ≡ session_after session answer
  next_is (Ok step) = refl
  next_is (Err refusal) = refl

  settled_is : (answer : Answer Step) → settled_of (answered session line answer).1 ≡ settlings answer
  settled_is (Ok step) = settled_items step.1
  settled_is (Err refusal) = refl

  turned_is : (answer : Answer Step) → any_refused (answered session line answer).1 ≡ is_err answer
  turned_is (Ok step) = none_refused step.1
  turned_is (Err refusal) = refl

  -- whatever comes behind them, what it settles comes before its line
  line_behind : (P : List Item → Type 0) (answer : Answer Step) (more : List Item) → ((rest : List Item) → P (items_of (settlings answer) ++ rest)) → P ((answered session line answer).1 ++ more)
  line_behind P (Ok step) more each = each more
  line_behind P (Err refusal) more each = each ((answered session line (Err refusal)).1 ++ more)

-- ---- a call

module _ {H K : Type 0} (seen : H → View) (held : K → View → Entries → Type 0) (live : K → Bool) (means : Meaning)
    (stands : (keeper : K) (host : H) (entries : Entries) → held keeper (seen host) entries → (file : List ℕ) × Stands file (seen host) × means file entries)
    (stays : (keeper : K) (old new : H) (entries : Entries) → held keeper (seen old) entries → ((file : List ℕ) → Stands file (seen old) → Stands file (seen new)) → held keeper (seen new) entries) where
  abbrev For : Session → Engine K → H → Type 0
  For = StandsFor seen held live ode

  abbrev Shipping : {R : Type 0} → Session → Session → Settlings → Entries → Result R EngineError → Engine K → H → H → Type 0
  Shipping = Ships seen held live means

  -- an engine with another log is as live, and stands for the same
  pub live_logged : (e : Engine K) (log : Option (List Kept)) → IsLive live e → IsLive live (record e { log = log })
  live_logged e log is = record { lives = is.lives; one = is.one }

  pub stands_logged : (session : Session) (e : Engine K) (log : Option (List Kept)) (host : H) → For session e host → For session (record e { log = log }) host
  stands_logged session e log host is = record { goes_on = is.goes_on; has = is.has }

  -- and has the same file or context
  pub logging_has : (start e : Engine K) (log : Option (List Kept)) (rest : Option (Opened K)) (running : Option (Ctx K)) → e ≡ record start { log = log } → (start.rest ≡ rest) × (start.running ≡ running) → (e.rest ≡ rest) × (e.running ≡ running)
  logging_has start e log rest running same has = (ap (λ (g : Engine K). g.rest) same ∙ has.0, ap (λ (g : Engine K). g.running) same ∙ has.1)

  -- the disk has the records that it has
  pub disk_of : (session : Session) (e : Engine K) (host : H) → For session e host → (entries : Entries) × DiskHas means entries (seen host)
  disk_of session e host is =
      let there = now_holds seen held live means stands stays session e host is in
      (there.2.entries, (there.0, there.1, there.2.are))

  -- an engine's call from this session on, of which the machine settles these
  module _ (session next : Session) (settled : Settlings) (entries : Entries) (quiet : Bool) (volume : quiet ≡ true) (old mid : H)
      (moments : (said : List ℕ) (more : List Item) → (seen old).text ≡ Some said
      → LeavesOnly (seen old) (seen mid) (IsAfterSome (HoldsBy ode means) (heard_items quiet (items_of settled) ++ heard_items quiet more) session.world said)) where
    quiet_moments : (said : List ℕ) (more : List Item) → (seen old).text ≡ Some said → LeavesOnly (seen old) (seen mid) (IsShippedSoFar means (items_of settled ++ more) session.world entries said)
    quiet_moments said more told = quiet_leaves means quiet settled more session.world entries said (seen old) (seen mid) volume (moments said more told)

    -- an error
    pub ships_none : (R S : Type 0) (error : EngineError) (e : Engine K) → OnDamaged {R = S} (Err error) ⊥ → Shipping {R = R} session next settled entries (Err error) e old mid
    ships_none R S error e sound = record { stands = tt; has = tt; any_moment = quiet_moments; sound = damage_as S R error ⊥ sound }

    -- what it kept is taken out of its log, and printed
    module _ (new : H) (start e shipping : Engine K) (ends : next.world ≡ final session.world (items_of settled)) (empty : start.log ≡ Some [])
        (said_none : Printed (text_of (heard_items quiet (items_of settled))) (seen old) (seen mid)) (came : For next e mid)
        (logs : Logs means ode session.world entries settled start.log e.log (seen mid)) (taken : shipping ≡ record e { log = option_map (λ (_ : List Kept). []) e.log })
        (cut : (file text : List ℕ) → Stands file (seen mid) → (seen mid).text ≡ Some text → LeavesOnly (seen mid) (seen new) (LeavesFrames file text (unwrap_or e.log [])))
        (still : (file : List ℕ) → Stands file (seen mid) → Stands file (seen new)) where
      mid_text : (said : List ℕ) → (seen old).text ≡ Some said → (seen mid).text ≡ Some said
      mid_text said told = quiet_text quiet settled (seen old) (seen mid) volume said_none said told ∙ ap Some (append-nil said)

      news_are : unwrap_or e.log [] ≡ logs.news
      news_are = ap (λ (o : Option (List Kept)). unwrap_or o []) (news_in e.log start.log logs.news empty logs.grown)

      printing : (said : List ℕ) (more : List Item) → (seen old).text ≡ Some said → LeavesOnly (seen mid) (seen new) (IsShippedSoFar means (items_of settled ++ more) session.world entries said)
      printing said more told =
          let there = now_holds seen held live means stands stays next e mid came in
          printing_leaves means settled logs.news more session.world entries there.0 said (seen mid) (seen new) logs.kept
          (subst (λ (v : ListWorld). HoldsBy ode means there.0 v) ends there.2)
          (subst (λ (kept : List Kept). LeavesOnly (seen mid) (seen new) (LeavesFrames there.0 said kept)) news_are (cut there.0 said there.1 (mid_text said told)))

      all_moments : (said : List ℕ) (more : List Item) → (seen old).text ≡ Some said → LeavesOnly (seen old) (seen new) (IsShippedSoFar means (items_of settled ++ more) session.world entries said)
      all_moments said more told =
          joined (seen old) (seen mid) (seen new) (IsShippedSoFar means (items_of settled ++ more) session.world entries said) (quiet_moments said more told) (printing said more told)

      pub ships_all : {R : Type 0} (result : Result R EngineError) → OnOk result (Printed (shipped (unwrap_or e.log [])) (seen mid) (seen new)) → OnOk result (AllByRecursion FitsFrame (unwrap_or e.log [])) → OnDamaged result ⊥ → Shipping session next settled entries result shipping old new
      ships_all (Ok x) printed fit sound = record {
        stands = subst (λ (g : Engine K). For next g new) (sym taken)
            (stands_logged next e (option_map (λ (_ : List Kept). []) e.log) new (still_stands seen held live means stands stays next e mid new still came));
        has = record {
          frames = logs.news;
          kept = logs.kept;
          fit = subst (λ (kept : List Kept). AllByRecursion FitsFrame kept) news_are fit;
          disk = (logs.disk.0, still logs.disk.0 logs.disk.1, logs.disk.2);
          printed = λ said told. printed said (mid_text said told) ∙ ap (λ (kept : List Kept). Some (said ++ shipped kept)) news_are;
        };
        any_moment = all_moments;
        sound = tt;
      }
      ships_all (Err error) printed fit sound = record { stands = tt; has = tt; any_moment = all_moments; sound = sound }

  -- ---- a run on its way

  module _ (whole : Pieces) (all : List Item) (w : ListWorld) (entries : Entries) (text : List ℕ) (ps : Pieces) (refused : Bool) (e : Engine K) (host : H)
      (runs : ShipsOn seen held live means whole all w entries text ps refused e host) where
    -- a stop in what is left is one of the whole
    further : (items : List Item) (start new : View) → all ≡ runs.before ++ items → LeavesOnly start (seen host) (IsShippedSoFar means all w entries text)
        → LeavesOnly (seen host) new (IsShippedSoFar means items runs.session.world (behind entries runs.frames) (text ++ shipped runs.frames)) → LeavesOnly start new (IsShippedSoFar means all w entries text)
    further items start new split first rest =
        joined start (seen host) new (IsShippedSoFar means all w entries text) first
        (subst (λ (l : List Item). LeavesOnly (seen host) new (IsShippedSoFar means l w entries text)) (sym split)
        (weaker (seen host) new (IsShippedSoFar means items (final w runs.before) (behind entries runs.frames) (text ++ shipped runs.frames)) (IsShippedSoFar means (runs.before ++ items) w entries text)
        (λ c o left. moment_behind means runs.before items w entries runs.frames text c o runs.kept runs.fit left)
        (subst (λ (v : ListWorld). LeavesOnly (seen host) new (IsShippedSoFar means items v (behind entries runs.frames) (text ++ shipped runs.frames))) runs.world rest)))

    -- more was shipped behind it
    kept_more : (items : List Item) (news : List Kept) → AreKept ode runs.session.world (behind entries runs.frames) (settled_of items) news → AreKept ode w entries (settled_of (runs.before ++ items)) (runs.frames ++ news)
    kept_more items news kept =
        subst (λ (l : Settlings). AreKept ode w entries l (runs.frames ++ news)) (sym (settled_join runs.before items))
        (kept_append means ode w entries (settled_of runs.before) (settled_of items) runs.frames news runs.kept
        (subst (λ (v : ListWorld). AreKept ode v (behind entries runs.frames) (settled_of items) news) (runs.world ∙ sym (world_settled w runs.before)) kept))

    disk_more : (news : List Kept) (new : View) → DiskHas means (behind (behind entries runs.frames) news) new → DiskHas means (behind entries (runs.frames ++ news)) new
    disk_more news new disk = subst (λ (m : Entries). DiskHas means m new) (sym (behind_append means ode entries runs.frames news)) disk

    text_more : (news : List Kept) (new : View) → Printed (shipped news) (seen host) new → new.text ≡ Some (text ++ shipped (runs.frames ++ news))
    text_more news new printed =
        printed (text ++ shipped runs.frames) runs.printed
        ∙ ap (λ (l : List ℕ). Some l) (append_assoc text (shipped runs.frames) (shipped news) ∙ ap (λ (l : List ℕ). text ++ l) (sym (shipped_join runs.frames news)))

    -- ---- a piece

    module _ (line : ℕ) (piece : List ℕ) (rest : Pieces) (is : ps ≡ Then line piece rest) where
      abbrev answer : Answer Step
      answer = command ode runs.session piece

      abbrev stretch : List Item
      stretch = (piece_stretch ode runs.session line piece).1

      abbrev after_piece : Session
      after_piece = (piece_stretch ode runs.session line piece).0

      all_items : all ≡ runs.before ++ (stretch ++ pieces_items ode rest after_piece)
      all_items = runs.split ∙ ap (λ (p : Pieces). runs.before ++ pieces_items ode p runs.session) is ∙ ap (λ (l : List Item). runs.before ++ l) (pieces_then ode line piece rest runs.session)

      -- it is carried out and shipped
      pub piece_ships : (turned : Bool) (e' : Engine K) (host' : H) → turned ≡ is_err answer
          → Shipping runs.session (session_after runs.session answer) (settlings answer) (behind entries runs.frames) (Ok turned) e' host host'
          → ShipsOn seen held live means whole all w entries text rest (refused || turned) e' host'
      piece_ships turned e' host' told ships = record {
        session = after_piece;
        stands = subst (λ (s : Session). For s e' host') (sym (next_is runs.session line answer)) ships.stands;
        before = runs.before ++ stretch;
        split = all_items ∙ sym (append_assoc runs.before stretch (pieces_items ode rest after_piece));
        ends = runs.ends ∙ ap ending_of is;
        world = piece_ends ode runs.session line piece ∙ ap (λ (v : ListWorld). final v stretch) runs.world ∙ sym (final_join w runs.before stretch);
        turned = ap (λ (b : Bool). b || turned) runs.turned ∙ ap (λ (b : Bool). any_refused runs.before || b) (told ∙ sym (turned_is runs.session line answer)) ∙ sym (refused_join runs.before stretch);
        frames = runs.frames ++ ships.has.frames;
        kept = kept_more stretch ships.has.frames
            (subst (λ (l : Settlings). AreKept ode runs.session.world (behind entries runs.frames) l ships.has.frames) (sym (settled_is runs.session line answer)) ships.has.kept);
        fit = fit_join runs.frames ships.has.frames runs.fit ships.has.fit;
        disk = disk_more ships.has.frames (seen host') ships.has.disk;
        printed = text_more ships.has.frames (seen host') ships.has.printed;
      }

      -- and a stop in it is one of the whole, whatever it answers
      pub piece_leaves : (result : Result Bool EngineError) (e' : Engine K) (host' : H) (start : View)
          → Shipping runs.session (session_after runs.session answer) (settlings answer) (behind entries runs.frames) result e' host host'
          → LeavesOnly start (seen host) (IsShippedSoFar means all w entries text) → LeavesOnly start (seen host') (IsShippedSoFar means all w entries text)
      piece_leaves result e' host' start ships first =
          further (stretch ++ pieces_items ode rest after_piece) start (seen host') all_items first
          (line_behind runs.session line (λ (l : List Item). LeavesOnly (seen host) (seen host') (IsShippedSoFar means l runs.session.world (behind entries runs.frames) (text ++ shipped runs.frames)))
          answer (pieces_items ode rest after_piece) (λ more. ships.any_moment (text ++ shipped runs.frames) more runs.printed))

    -- ---- the ending

    ended_items : (how : Ending) → ps ≡ Ended how → all ≡ runs.before ++ ending_items ode runs.session how
    ended_items how is = runs.split ∙ ap (λ (p : Pieces). runs.before ++ pieces_items ode p runs.session) is ∙ ap (λ (l : List Item). runs.before ++ l) (pieces_ended ode how runs.session)

    pub ended_leaves : (how : Ending) (start new : View) → ps ≡ Ended how → LeavesOnly start (seen host) (IsShippedSoFar means all w entries text)
        → LeavesOnly (seen host) new (IsShippedSoFar means (ending_items ode runs.session how) runs.session.world (behind entries runs.frames) (text ++ shipped runs.frames))
        → LeavesOnly start new (IsShippedSoFar means all w entries text)
    ended_leaves how start new is first rest = further (ending_items ode runs.session how) start new (ended_items how is) first rest

    ended_ships : (how : Ending) (left : Option (List ℕ)) (new : View) (result : Status) → ps ≡ Ended how → result ≡ status_at how refused → LeavesNothing result left
        → any_refused (ending_items ode runs.session how) ≡ false → HasShipped means runs.session.world (behind entries runs.frames) (settled_of (ending_items ode runs.session how)) (seen host) new
        → ShippedAs means all (ending_of whole) w entries text left new result
    ended_ships how left new result is stated nothing none has =
        let tail : List Item = ending_items ode runs.session how in
        let every : all ≡ runs.before ++ tail = ended_items how is in
        let kind : how ≡ ending_of whole = sym (runs.ends ∙ ap ending_of is) in
        let told : refused ≡ any_refused all =
        runs.turned ∙ sym (or_false (any_refused runs.before)) ∙ ap (λ (b : Bool). any_refused runs.before || b) (sym none) ∙ sym (refused_join runs.before tail) ∙ ap any_refused (sym every) in
        record {
          stated = stated ∙ ap (λ (k : Ending). status_at k refused) kind ∙ ap (status_at (ending_of whole)) told;
          frames = runs.frames ++ has.frames;
          kept = subst (λ (l : List Item). AreKept ode w entries (settled_of l) (runs.frames ++ has.frames)) (sym every) (kept_more tail has.frames has.kept);
          fit = fit_join runs.frames has.frames runs.fit has.fit;
          printed = text_more has.frames new has.printed;
          disk = disk_more has.frames new has.disk;
          nothing = nothing;
        }

    -- at the end of the input
    pub end_ships : (left : Option (List ℕ)) (new : View) (result : Status) → ps ≡ Ended End → result ≡ status_at End refused → LeavesNothing result left
        → HasShipped means runs.session.world (behind entries runs.frames) (finish runs.session).1 (seen host) new → ShippedAs means all (ending_of whole) w entries text left new result
    end_ships left new result is stated nothing has =
        ended_ships End left new result is stated nothing (none_refused (finish runs.session).1)
        (subst (λ (l : Settlings). HasShipped means runs.session.world (behind entries runs.frames) l (seen host) new) (sym (settled_items (finish runs.session).1)) has)

    -- by an error that is the script's own ending
    stopped_ships : (how : Ending) (left : Option (List ℕ)) (result : Status) → ps ≡ Ended how → result ≡ status_at how refused → LeavesNothing result left → ending_items ode runs.session how ≡ []
        → ShippedAs means all (ending_of whole) w entries text left (seen host) result
    stopped_ships how left result is stated nothing none =
        ended_ships how left (seen host) result is stated nothing (ap any_refused none)
        (subst (λ (l : List Item). HasShipped means runs.session.world (behind entries runs.frames) (settled_of l) (seen host) (seen host)) (sym none)
        (record { frames = []; kept = tt; fit = tt; disk = runs.disk; printed = λ said told. told ∙ ap Some (sym (append-nil said)) }))

    pub error_ships : (left : Option (List ℕ)) (result : Status) (error : ScriptError) → EndsBy ps error → result ≡ status_of_script error → IsEnding result
        → ShippedAs means all (ending_of whole) w entries text left (seen host) result
    error_ships left result script.Memory is stated is_end = absurd (subst IsEnding stated is_end)
    error_ships left result script.ReadFault is stated is_end = absurd (subst IsEnding stated is_end)
    error_ships left result script.LongStatement is stated is_end =
        stopped_ships LongStatement left result is stated (subst (λ (s : Status). LeavesNothing s left) (sym stated) tt) refl
    error_ships left result script.LongScript is stated is_end =
        stopped_ships LongScript left result is stated (subst (λ (s : Status). LeavesNothing s left) (sym stated) tt) refl

  -- ---- the opening

  -- the queue's entries have run and were shipped
  pub opened_ships : (w : ListWorld) (entries : Entries) (script text : List ℕ) (e : Engine K) (old new : H) → (seen old).text ≡ Some text
      → Shipping {R = Unit {0}} (closed w) (after w (drain lists drain_limit w)).0 (drain lists drain_limit w) entries (Ok tt) e old new
      → ShipsOn seen held live means (pieces script) (trace ode w script) w entries text (pieces script) false e new
  opened_ships w entries script text e old new told ships = record {
    session = (opening ode w).0;
    stands = ships.stands;
    before = (opening ode w).1;
    split = refl;
    ends = refl;
    world = opening_ends ode w;
    turned = sym (none_refused (drain lists drain_limit w));
    frames = ships.has.frames;
    kept = subst (λ (l : Settlings). AreKept ode w entries l ships.has.frames) (sym (settled_items (drain lists drain_limit w))) ships.has.kept;
    fit = ships.has.fit;
    disk = ships.has.disk;
    printed = ships.has.printed text told;
  }
