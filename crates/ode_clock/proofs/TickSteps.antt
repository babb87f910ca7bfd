-- A clock command on its way, over a file at rest.
use Rattle.std.proofs.Common.{◌≡◌, ◌≤◌, ◌<◌, ◌+◌, ◌-◌, ◌++◌, ◌∙◌, ◌^◌, ℕ, suc, List, [], ◌∷◌, length, Bool, true, false, cond, drop, get_or, Option, Some, None, append-nil, append_assoc, drop-cons, ap, arith, refl, subst, sym}
use Rattle.std.proofs.lemmas.Grind.{flat_map-append}
use Rattle.std.proofs.lemmas.List.{length-append, map-append}
use Rattle.std.specs.List.{AllByRecursion}
use Rattle.std.specs.Option.{IfSome}
use Rattle.std.specs.Prelude.{is_some}
use Rattle.ode_clock.proofs.TickLaws.{after_both, ticked_on, ticks_start}
use Rattle.ode_clock.specs.Clocking.{settled_with, tick_settled}
use Rattle.ode_clock.specs.Ticked.{IsTicked}
use Rattle.ode_good_laws.proofs.ClockRuns.{Has, tick_has}
use Rattle.ode_good_laws.specs.Well.{IsWell}
use Rattle.ode_good_runs.proofs.GoodRuns.{clock_limits}
use Rattle.ode_host.proofs.Moments.{started}
use Rattle.ode_host.specs.Host.{LeavesOnly, Looks, Printed, Stands}
use Rattle.ode_host.specs.View.{View}
use Rattle.ode_keep.specs.Entries.{Entries}
use Rattle.ode_language_laws.proofs.LanguageRuns.{reads_well, sound_rules}
use Rattle.ode_language.specs.Languages.{ode}
use Rattle.ode_machine.proofs.MomentLaws.{runs_on}
use Rattle.ode_machine.specs.Moments.{Holding, IsAfterSome}
use Rattle.ode_machine.specs.Runs.{Item, final, item_of, text_of}
use Rattle.ode_machine.specs.Works.{clock_run, move, tick, ticks}
use Rattle.ode_opened.specs.declared.opened.Opened.{Opened}
use Rattle.ode_overlay.specs.declared.origin.Origin.{Origin}
use Rattle.ode_overlay.specs.declared.origin.Origin.TheVariants as from
use Rattle.ode_overlay_laws.specs.Standing.{origin_as}
use Rattle.ode_transact.proofs.DrainLaws.{drained_no_more}
use Rattle.ode_transact.proofs.DrainSteps.{drain_left, drain_starts}
use Rattle.ode_transact.proofs.JoinLaws.{final_is, text_is}
use Rattle.ode_transact.proofs.LogLaws.{logs_none}
use Rattle.ode_transact.proofs.OutputLaws.{all_heard_append, counting_append, counting_none, world_heard}
use Rattle.ode_transact.specs.Items.{items_of, texts_of}
use Rattle.ode_transact.specs.Logging.{DiskHas, Kept, Logs}
use Rattle.ode_transact.specs.Output.{all_heard, counting}
use Rattle.ode_transact.specs.Resting.{HoldsBy, IsAtRest}
use Rattle.ode_transact.specs.Settling.{Meaning}
use Rattle.ode_transact.specs.Working.{IsFromFront}
use Rattle.ode_transact.specs.declared.output.Output.{Output}
use Rattle.ode_value.specs.Denoting.{object_at}
use Rattle.ode_value.specs.Draining.{with_drain, world_after}
use Rattle.ode_value.specs.GoodWorlds.{IsPosition}
use Rattle.ode_value.specs.Language.{Language, ListWorld, Settlings}
use Rattle.ode_value.specs.Limits.{drain_limit, due_limit, transaction_limit}
use Rattle.ode_value.specs.Pasts.{lists}
use Rattle.ode_value.specs.Settling.{transaction}
use Rattle.ode_value.specs.Worlds.{Position}

-- ---- transactions that settled in turn, and more behind them

items_both : (settled more : Settlings) (items : List Item) → items_of settled ++ (items_of more ++ items) ≡ items_of (settled ++ more) ++ items
items_both settled more items = sym (append_assoc (items_of settled) (items_of more) items) ∙ ap (λ (all : List Item). all ++ items) (sym (map-append item_of settled more))

printed_both : (settled more : Settlings) (old mid new : View) → Printed (texts_of settled) old mid → Printed (texts_of more) mid new → Printed (texts_of (settled ++ more)) old new
printed_both settled more old mid new first second text is =
    second (text ++ texts_of settled) (first text is)
    ∙ ap (λ (out : List ℕ). Some out) (append_assoc text (texts_of settled) (texts_of more) ∙ ap (λ (rest : List ℕ). text ++ rest) (sym (flat_map-append (λ s. s.1) settled more)))

-- What a stop leaves of some, and then of more from the world that they left, it leaves of all of them.
moments_both : (holds : Holding) (settled more : Settlings) (items : List Item) (w now : ListWorld) (said : List ℕ) (old mid new : View) → world_after w settled ≡ now
    → ((items : List Item) → LeavesOnly old mid (IsAfterSome holds (items_of settled ++ items) w said)) → LeavesOnly mid new (IsAfterSome holds (items_of more ++ items) now (said ++ texts_of settled))
    → LeavesOnly old new (IsAfterSome holds (items_of (settled ++ more) ++ items) w said)
moments_both holds settled more items w now said old mid new is first second =
    let here : LeavesOnly mid new (IsAfterSome holds (items_of more ++ items) (final w (items_of settled)) (said ++ texts_of settled)) =
    subst (λ (v : ListWorld). LeavesOnly mid new (IsAfterSome holds (items_of more ++ items) v (said ++ texts_of settled))) (sym (final_is w settled ∙ is)) second in
    let told : LeavesOnly mid new (IsAfterSome holds (items_of more ++ items) (final w (items_of settled)) (said ++ text_of (items_of settled))) =
    subst (λ (t : List ℕ). LeavesOnly mid new (IsAfterSome holds (items_of more ++ items) (final w (items_of settled)) (said ++ t))) (sym (text_is settled)) here in
    subst (λ (all : List Item). LeavesOnly old new (IsAfterSome holds all w said)) (items_both settled more items)
    (runs_on holds (items_of settled) (items_of more ++ items) w said old mid new (first (items_of more ++ items)) told)

-- ---- numbers

first_room : (n : ℕ) → n ≤ due_limit → 0 + drain_limit + n ≤ drain_limit + due_limit
first_room n few = omega (arith, few)

tick_room : (many left n : ℕ) (ran : Option ℕ) → IfSome ran (λ k. k ≤ left) → many + left + suc n ≤ drain_limit + due_limit → many + settled_with ran + (left - (settled_with ran - 1)) + n ≤ drain_limit + due_limit
tick_room many left n None few room = omega (arith, room)
tick_room many left n (Some ran) few room = omega (arith, few, room)

fewer : (n : ℕ) → suc n ≤ due_limit → n ≤ due_limit
fewer n few = omega (arith, few)

tick_number : (t n : ℕ) → t + suc n < transaction_limit → t < transaction_limit
tick_number t n room = omega (arith, room)

-- what settled has room in its type
tick_fits : (many left n : ℕ) (ran : Option ℕ) → IfSome ran (λ k. k ≤ left) → many + left + suc n ≤ drain_limit + due_limit → many + settled_with ran < 2 ^ 32
unfolding drain_limit due_limit
tick_fits many left n None few room = omega (arith, room)
tick_fits many left n (Some ran) few room = omega (arith, few, room)

count_fits : (many left n ran : ℕ) → ran ≤ left → many + left + n ≤ drain_limit + due_limit → many + ran + 1 < 2 ^ 32
unfolding drain_limit due_limit
count_fits many left n ran few room = omega (arith, few, room)

module _ {H K : Type 0} (seen : H → View) (held : K → View → Entries → Type 0) (live : K → Bool) (means : Meaning) where
  -- Of all these positions these are left, and so many entries may still run: the file holds the world that so many settled transactions
  -- left, what is heard of their texts is printed, these are counted, and no stop so far left anything else.
  pub record HasTicked (l : Language) (w : ListWorld) (all due : List Position) (last : Position) (o : Opened K) (before after : H) (start output : Output) (left many : ℕ) : Type 0 where
    pub now : ListWorld
    pub settled : Settlings
    pub has : Has l (length due) now
    pub fit : AllByRecursion IsPosition due
    pub few : length due ≤ due_limit
    pub rest : IsAtRest seen held live l now o after
    pub is : IsTicked all due last drain_limit left w now settled
    pub count : many ≡ length settled
    pub room : many + left + length due ≤ drain_limit + due_limit
    pub printed : Printed (texts_of (all_heard start.quiet settled)) (seen before) (seen after)
    pub counts : output ≡ counting start (texts_of settled)
    pub moments : (said : List ℕ) (more : List Item) → (seen before).text ≡ Some said → LeavesOnly (seen before) (seen after) (IsAfterSome (HoldsBy l means) (items_of (all_heard start.quiet settled) ++ more) w said)

  -- with what was kept of them
  pub record HasLogged (l : Language) (w : ListWorld) (all due : List Position) (last : Position) (o : Opened K) (before after : H) (start output : Output) (left many : ℕ) (entries : Entries) (old new : Option (List Kept)) : Type 0 where
    pub so : HasTicked l w all due last o before after start output left many
    pub logs : Logs means l w entries so.settled old new (seen after)

  -- none yet
  ticks_begin : (l : Language) (w : ListWorld) (all : List Position) (last : Position) (o : Opened K) (host : H) (output : Output) → Has l (length all) w → AllByRecursion IsPosition all → length all ≤ due_limit
      → IsAtRest seen held live l w o host → HasTicked l w all all last o host host output output drain_limit 0
  ticks_begin l w all last o host output has fit few rest = record {
    now = w;
    settled = [];
    has = has;
    fit = fit;
    few = few;
    rest = rest;
    is = ticks_start all last drain_limit w;
    count = refl;
    room = first_room (length all) few;
    printed = λ text said. said ∙ ap (λ (t : List ℕ). Some t) (sym (append-nil text));
    counts = counting_none output;
    moments = λ said more printed. started (seen host) (IsAfterSome (HoldsBy l means) more w said);
  }

  pub logs_begin : (l : Language) (w : ListWorld) (all : List Position) (last : Position) (o : Opened K) (host : H) (output : Output) → Has l (length all) w → AllByRecursion IsPosition all → length all ≤ due_limit
      → IsAtRest seen held live l w o host → (entries : Entries) (log : Option (List Kept)) → DiskHas means entries (seen host) → HasLogged l w all all last o host host output output drain_limit 0 entries log log
  unfolding ticks_begin
  logs_begin l w all last o host output has fit few rest entries log disk = record { so = ticks_begin l w all last o host output has fit few rest; logs = logs_none means l w entries log (seen host) disk }

  -- the next of them is at a place, or none is left
  next_due : (all : List Position) (at : ℕ) (p : Position) → at < length all → p ≡ get_or all at p → drop at all ≡ p ∷ drop (at + 1) all
  next_due all at p less here =
      let next : suc at ≡ at + 1 = omega arith in
      drop-cons all at p less ∙ ap (λ (q : Position). q ∷ drop (suc at) all) (sym here) ∙ ap (λ (n : ℕ). p ∷ drop n all) next

  pub next_log : (l : Language) (w : ListWorld) (all : List Position) (at : ℕ) (p : Position) (last : Position) (o : Opened K) (before after : H) (start output : Output) (left many : ℕ) (entries : Entries) (old new : Option (List Kept))
      → at < length all → p ≡ get_or all at p → HasLogged l w all (drop at all) last o before after start output left many entries old new
      → HasLogged l w all (p ∷ drop (at + 1) all) last o before after start output left many entries old new
  next_log l w all at p last o before after start output left many entries old new less here was =
      subst (λ (due : List Position). HasLogged l w all due last o before after start output left many entries old new) (next_due all at p less here) was

  pub no_log : (l : Language) (w : ListWorld) (all : List Position) (at : ℕ) (last : Position) (o : Opened K) (before after : H) (start output : Output) (left many : ℕ) (entries : Entries) (old new : Option (List Kept)) → drop at all ≡ []
      → HasLogged l w all (drop at all) last o before after start output left many entries old new → HasLogged l w all [] last o before after start output left many entries old new
  no_log l w all at last o before after start output left many entries old new none was =
      subst (λ (due : List Position). HasLogged l w all due last o before after start output left many entries old new) none was

  -- what a stop leaves of transactions that settle over a file at rest
  abbrev pub StopsIn : Language → Settlings → ListWorld → (before after : View) → Type 0
  StopsIn l settled w before after = (said : List ℕ) (more : List Item) → before.text ≡ Some said → LeavesOnly before after (IsAfterSome (HoldsBy l means) (items_of settled ++ more) w said)

  -- all of them, as some and the rest
  stops_whole : (l : Language) (w : ListWorld) (all settled rest : Settlings) (said : List ℕ) (more : List Item) (old new : View) → all ≡ settled ++ rest
      → LeavesOnly old new (IsAfterSome (HoldsBy l means) (items_of settled ++ (items_of rest ++ more)) w said) → LeavesOnly old new (IsAfterSome (HoldsBy l means) (items_of all ++ more) w said)
  stops_whole l w all settled rest said more old new is run =
      subst (λ (items : List Item). LeavesOnly old new (IsAfterSome (HoldsBy l means) items w said)) (items_both settled rest more ∙ ap (λ (s : Settlings). items_of s ++ more) (sym is)) run

  -- what settles behind them
  module _ (l : Language) (w : ListWorld) (all due : List Position) (last : Position) (o : Opened K) (before after : H) (start output : Output) (left many : ℕ)
      (so : HasTicked l w all due last o before after start output left many) (next : Settlings) where
    -- what is heard of those so far
    abbrev heard_so : Settlings
    heard_so = all_heard start.quiet so.settled

    -- the output is as quiet as it was
    as_quiet : output.quiet ≡ start.quiet
    as_quiet = ap (λ (o : Output). o.quiet) so.counts

    heard_both : all_heard start.quiet (so.settled ++ next) ≡ heard_so ++ all_heard start.quiet next
    heard_both = all_heard_append start.quiet so.settled next

    -- what a stop leaves of it
    next_stops : (new : View) → StopsIn l (all_heard output.quiet next) so.now (seen after) new → StopsIn l (all_heard start.quiet (so.settled ++ next)) w (seen before) new
    next_stops new run said more printed =
        let text : List ℕ = said ++ texts_of heard_so in
        let here : LeavesOnly (seen after) new (IsAfterSome (HoldsBy l means) (items_of (all_heard start.quiet next) ++ more) so.now text) =
        subst (λ (quiet : Bool). LeavesOnly (seen after) new (IsAfterSome (HoldsBy l means) (items_of (all_heard quiet next) ++ more) so.now text)) as_quiet (run text more (so.printed said printed)) in
        subst (λ (s : Settlings). LeavesOnly (seen before) new (IsAfterSome (HoldsBy l means) (items_of s ++ more) w said)) (sym heard_both)
        (moments_both (HoldsBy l means) heard_so (all_heard start.quiet next) more w so.now said (seen before) (seen after) new (world_heard start.quiet w so.settled ∙ so.is.world)
        (λ items. so.moments said items printed) here)

    -- what is heard and counted of it
    next_printed : (new : View) → Printed (texts_of (all_heard output.quiet next)) (seen after) new → Printed (texts_of (all_heard start.quiet (so.settled ++ next))) (seen before) new
    next_printed new printed =
        subst (λ (s : Settlings). Printed (texts_of s) (seen before) new) (sym heard_both)
        (printed_both heard_so (all_heard start.quiet next) (seen before) (seen after) new so.printed
        (subst (λ (quiet : Bool). Printed (texts_of (all_heard quiet next)) (seen after) new) as_quiet printed))

    next_counts : (behind : Output) → behind ≡ counting output (texts_of next) → behind ≡ counting start (texts_of (so.settled ++ next))
    next_counts behind counts =
        counts ∙ ap (λ (o : Output). counting o (texts_of next)) so.counts ∙ counting_append start (texts_of so.settled) (texts_of next)
        ∙ ap (λ (text : List ℕ). counting start text) (sym (flat_map-append (λ s. s.1) so.settled next))

  -- a tick
  module _ (l : Language) (w : ListWorld) (all : List Position) (p : Position) (ps : List Position) (last : Position) (o : Opened K) (before after : H) (start output : Output) (left many : ℕ)
      (so : HasTicked l w all (p ∷ ps) last o before after start output left many) where
    abbrev pub ticked : Settlings
    ticked = tick_settled p left so.now

    on : IsTicked all ps last drain_limit (left - (length ticked - 1)) w (world_after so.now ticked) (so.settled ++ ticked)
    on = ticked_on p ps last left so.now all drain_limit w so.settled so.is

    -- its number
    pub tick_left : so.now.bones.transaction < transaction_limit
    tick_left = tick_number so.now.bones.transaction (length ps) so.has.1

    -- what a stop leaves of it
    tick_leaves : (new : View) → StopsIn l (all_heard output.quiet ticked) so.now (seen after) new → StopsIn l (all_heard start.quiet (so.settled ++ ticked)) w (seen before) new
    tick_leaves new run = next_stops l w all (p ∷ ps) last o before after start output left many so ticked new run

    pub tick_stops : (new : View) → StopsIn l (all_heard output.quiet ticked) so.now (seen after) new → StopsIn l (all_heard start.quiet (clock_run lists all last drain_limit w)) w (seen before) new
    tick_stops new run said more printed =
        let rest : Settlings = clock_run lists ps last (left - (length ticked - 1)) (world_after so.now ticked) in
        stops_whole l w (all_heard start.quiet (clock_run lists all last drain_limit w)) (all_heard start.quiet (so.settled ++ ticked)) (all_heard start.quiet rest) said more (seen before) new
        (ap (λ (s : Settlings). all_heard start.quiet s) on.whole ∙ all_heard_append start.quiet (so.settled ++ ticked) rest)
        (tick_leaves new run said (items_of (all_heard start.quiet rest) ++ more) printed)

    pub tick_counts : (ran : Option ℕ) → IfSome ran (λ n. n ≤ left) → many + settled_with ran < 2 ^ 32
    tick_counts ran most = tick_fits many left (length ps) ran most so.room

    -- and is done
    tick_goes : (q : Opened K) (end : H) (behind : Output) (ran : Option ℕ) → IfSome ran (λ n. n ≤ left) → IsAtRest seen held live l (world_after so.now ticked) q end × (settled_with ran ≡ length ticked)
        → Printed (texts_of (all_heard output.quiet ticked)) (seen after) (seen end) → behind ≡ counting output (texts_of ticked) → StopsIn l (all_heard output.quiet ticked) so.now (seen after) (seen end)
        → HasTicked l w all ps last q before end start behind (left - (settled_with ran - 1)) (many + settled_with ran)
    tick_goes q end behind ran most done printed counts run = record {
      now = world_after so.now ticked;
      settled = so.settled ++ ticked;
      has = tick_has l p (length ps) so.fit.0 (clock_limits ode sound_rules reads_well (length ps) (fewer (length ps) so.few)) left so.now so.has;
      fit = so.fit.1;
      few = fewer (length ps) so.few;
      rest = done.0;
      is = subst (λ (n : ℕ). IsTicked all ps last drain_limit (left - (n - 1)) w (world_after so.now ticked) (so.settled ++ ticked)) (sym done.1) on;
      count = ap (λ (n : ℕ). n + settled_with ran) so.count ∙ ap (λ (n : ℕ). length so.settled + n) done.1 ∙ sym (length-append so.settled ticked);
      room = tick_room many left (length ps) ran most so.room;
      printed = next_printed l w all (p ∷ ps) last o before after start output left many so ticked (seen end) printed;
      counts = next_counts l w all (p ∷ ps) last o before after start output left many so ticked behind counts;
      moments = tick_leaves (seen end) run;
    }

    -- and what was kept of it
    pub log_goes : (q : Opened K) (end : H) (behind : Output) (ran : Option ℕ) → IfSome ran (λ n. n ≤ left) → IsAtRest seen held live l (world_after so.now ticked) q end × (settled_with ran ≡ length ticked)
        → Printed (texts_of (all_heard output.quiet ticked)) (seen after) (seen end) → behind ≡ counting output (texts_of ticked) → StopsIn l (all_heard output.quiet ticked) so.now (seen after) (seen end)
        → (entries : Entries) (old new : Option (List Kept)) → Logs means l w entries (so.settled ++ ticked) old new (seen end)
        → HasLogged l w all ps last q before end start behind (left - (settled_with ran - 1)) (many + settled_with ran) entries old new
    unfolding tick_goes
    log_goes q end behind ran most done printed counts run entries old new logs = record { so = tick_goes q end behind ran most done printed counts run; logs = logs }

  -- the move behind all of them
  module _ (l : Language) (w : ListWorld) (all : List Position) (last : Position) (o : Opened K) (before after : H) (start output : Output) (left many : ℕ) (so : HasTicked l w all [] last o before after start output left many) where
    abbrev pub ending : Settlings
    ending = with_drain lists left (move lists last so.now)

    -- its number
    pub move_left : so.now.bones.transaction < transaction_limit
    move_left = let room = so.has.1 in omega (arith, room)

    -- what a stop leaves of it
    pub move_stops : (new : View) → StopsIn l (all_heard output.quiet ending) so.now (seen after) new → StopsIn l (all_heard start.quiet (clock_run lists all last drain_limit w)) w (seen before) new
    move_stops new run said more printed =
        subst (λ (s : Settlings). LeavesOnly (seen before) new (IsAfterSome (HoldsBy l means) (items_of (all_heard start.quiet s) ++ more) w said)) (sym so.is.whole)
        (next_stops l w all [] last o before after start output left many so ending new run said more printed)

    -- and is done
    pub move_goes : (q : Opened K) (end : H) (ran : ℕ) → ran ≤ left → IsAtRest seen held live l (world_after so.now ending) q end × (ran + 1 ≡ length ending) → Printed (texts_of (all_heard output.quiet ending)) (seen after) (seen end)
        → (IsAtRest seen held live l (world_after w (clock_run lists all last drain_limit w)) q end × (many + ran + 1 ≡ length (clock_run lists all last drain_limit w)))
        × Printed (texts_of (all_heard start.quiet (clock_run lists all last drain_limit w))) (seen before) (seen end)
    move_goes q end ran most done printed =
        subst (λ (s : Settlings). (IsAtRest seen held live l (world_after w s) q end × (many + ran + 1 ≡ length s)) × Printed (texts_of (all_heard start.quiet s)) (seen before) (seen end)) (sym so.is.whole) (
          (
            subst (λ (v : ListWorld). IsAtRest seen held live l v q end) (sym (after_both w so.settled ending ∙ ap (λ (v : ListWorld). world_after v ending) so.is.world)) done.0,
            count,
          ),
          next_printed l w all [] last o before after start output left many so ending (seen end) printed,
        )
      where
        count : many + ran + 1 ≡ length (so.settled ++ ending)
        count = let all = length-append so.settled ending in let first = so.count in let second = done.1 in omega (arith, all, first, second)

    -- and all of it is counted
    pub move_counts : (behind : Output) → behind ≡ counting output (texts_of ending) → behind ≡ counting start (texts_of (clock_run lists all last drain_limit w))
    move_counts behind counts =
        subst (λ (s : Settlings). behind ≡ counting start (texts_of s)) (sym so.is.whole) (next_counts l w all [] last o before after start output left many so ending behind counts)

    -- and kept
    pub move_logs : (entries : Entries) (old new : Option (List Kept)) (view : View) → Logs means l w entries (so.settled ++ ending) old new view → Logs means l w entries (clock_run lists all last drain_limit w) old new view
    move_logs entries old new view logs = subst (λ (s : Settlings). Logs means l w entries s old new view) (sym so.is.whole) logs

    pub move_fits : (ran : ℕ) → ran ≤ left → many + ran + 1 < 2 ^ 32
    move_fits ran most = count_fits many left 0 ran most so.room

  -- a stop before anything settled
  module _ (stands : (k : K) (h : H) (entries : Entries) → held k (seen h) entries → (file : List ℕ) × Stands file (seen h) × means file entries)
      (text_stands : (h : H) (c o : List ℕ) → (seen h).left (seen h).moment c o → (seen h).text ≡ Some o) where
    pub look_stops : (l : Language) (w : ListWorld) (o : Opened K) (before after : H) → IsWell l w → IsAtRest seen held live l w o before → Looks (seen before) (seen after) → (settled : Settlings)
        → StopsIn l settled w (seen before) (seen after)
    look_stops l w o before after well rest looks settled said more printed =
        subst (λ (none : Settlings). LeavesOnly (seen before) (seen after) (IsAfterSome (HoldsBy l means) (items_of (all_heard none_yet.quiet none) ++ (items_of settled ++ more)) w said)) (drained_no_more w)
        (drain_left seen held live means stands text_stands l w o before before none_yet none_yet 0 0 (drain_starts seen held live means l w o before none_yet 0 well rest) after looks said (items_of settled ++ more) printed)
      where
        -- of nothing nothing is heard, whatever the output
        none_yet : Output
        none_yet = record { quiet = false; counted = 0 }

-- the texts of none
pub none_printed : (old new : View) → Looks old new → Printed [] old new
none_printed old new looks text said = looks.text ∙ said ∙ ap (λ (t : List ℕ). Some t) (sym (append-nil text))

-- ---- a tick

module _ (p : Position) (most : ℕ) (w : ListWorld) (there : Bool) (is : there ≡ is_some (object_at w.bones p.object)) where
  -- where its object isn't there it settles nothing
  pub settled_gone : there ≡ false → tick_settled p most w ≡ []
  settled_gone none = ap (λ (b : Bool). cond b (with_drain lists most (tick lists p w)) []) (sym is ∙ none)

  -- else the tick and its drain
  pub settled_there : (o : Origin) → o ≡ from.Tick p.instant p.object p.place → there ≡ true → tick_settled p most w ≡ with_drain lists most (transaction lists (origin_as o) (ticks lists p) w)
  settled_there o same some =
      ap (λ (b : Bool). cond b (with_drain lists most (tick lists p w)) []) (sym is ∙ some)
      ∙ sym (ap (λ (o : Origin). with_drain lists most (transaction lists (origin_as o) (ticks lists p) w)) same)

-- which is from the front, and leaves what the tick does
pub tick_front : (o : Origin) (p : Position) (w : ListWorld) → o ≡ from.Tick p.instant p.object p.place → IsFromFront o w
tick_front o p w is = subst (λ (o : Origin). IsFromFront o w) (sym is) tt

pub tick_behind : (l : Language) (o : Origin) (p : Position) (w : ListWorld) → o ≡ from.Tick p.instant p.object p.place → IsWell l (tick lists p w).0 → IsWell l (transaction lists (origin_as o) (ticks lists p) w).0
tick_behind l o p w is well = subst (λ (o : Origin). IsWell l (transaction lists (origin_as o) (ticks lists p) w).0) (sym is) well
