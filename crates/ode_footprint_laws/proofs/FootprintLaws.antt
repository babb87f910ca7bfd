-- What a transaction comes to depends on what it looks at, draws and queues alone; it leaves all else as it was.
use Rattle.std.proofs.Common.{ℕ, Bool, true, false, List, refl, sym, subst}
use Rattle.std.specs.Prelude.{nat_le}
use Rattle.ode_footprint_laws.proofs.AgreeLaws.{agree_self, agreeing}
use Rattle.ode_footprint_laws.proofs.Among.{Within}
use Rattle.ode_footprint_laws.proofs.Depends.{Anything, Depends, Ends, looked_in, map_in}
use Rattle.ode_footprint_laws.proofs.DependsEnding.{completes_in, first_runs_in, goes_round_in, last_in, tests_all_in}
use Rattle.ode_footprint_laws.proofs.DependsStatements.{commands_in, execute_in, outermost_in}
use Rattle.ode_footprint_laws.proofs.DrawnLaws.{drawn}
use Rattle.ode_footprint_laws.proofs.Grows.{ListAct, grown_self, tested}
use Rattle.ode_footprint_laws.proofs.KeptLaws.{agree_aborted, agree_committed}
use Rattle.ode_footprint_laws.proofs.Meets.{Steady}
use Rattle.ode_footprint_laws.proofs.StayLaws.{StaysCollected, resting, resting_self, still}
use Rattle.ode_footprint_laws.proofs.TouchLaws.{touched}
use Rattle.ode_footprint_laws.specs.Agreeing.{Agree, EndAgreeing, reached_footprint}
use Rattle.ode_footprint_laws.specs.Fresh.{AreDrawn}
use Rattle.ode_footprint_laws.specs.Growing.{Grown}
use Rattle.ode_footprint_laws.specs.Staying.{StaysBut}
use Rattle.ode_laws.specs.Numbered.{AreNumbered}
use Rattle.ode_value.specs.declared.event.Kind.{Kind}
use Rattle.ode_value.specs.declared.reason.Reason.TheVariants.{Space}
use Rattle.ode_value.specs.declared.statement.Stmt.{Stmt}
use Rattle.ode_value.specs.Acts.{Outcome, Done, Aborted, go_on, ◌>>◌, each, looks, reached}
use Rattle.ode_value.specs.Completing.{completes, goes_round, rounds, tests_all, weighs}
use Rattle.ode_value.specs.Evaluation.{Frame}
use Rattle.ode_value.specs.Executing.{commands, execute, first_actions, outermost}
use Rattle.ode_value.specs.Firings.{Place, both_lists, whole_list}
use Rattle.ode_value.specs.Footprints.{Footprint}
use Rattle.ode_value.specs.Keeping.{kept_bones}
use Rattle.ode_value.specs.Language.{ListTx}
use Rattle.ode_value.specs.Limits.{weight_limit}
use Rattle.ode_value.specs.Objects.{Histories, Starts}
use Rattle.ode_value.specs.Pasts.{lists}
use Rattle.ode_value.specs.Posting.{runs}
use Rattle.ode_value.specs.Settling.{aborted, committed, posted, posts_last}
use Rattle.ode_value.specs.Transactions.{Firing}
use Rattle.ode_value.specs.Weights.{weight}

-- ---- what acts alike give, with the footprint that is reached

drawn_ends : {X : Type 0} (f : Footprint) (p q : Outcome Histories Starts X) → Ends (drawn f).meets Anything p q → EndAgreeing f p q
drawn_ends f (Done r y) (Done t x) ends = (ends.0, ends.2.0)
drawn_ends f (Aborted r y) (Aborted t x) ends = (ends.0, ends.1.0)
drawn_ends f (Done r y) (Aborted t x) ends = absurd ends
drawn_ends f (Aborted r y) (Done t x) ends = absurd ends

agreeing_ends : {X : Type 0} (f : Footprint) (p q : Outcome Histories Starts X) → Ends (agreeing f) Anything p q → EndAgreeing f p q
agreeing_ends f (Done r y) (Done t x) ends = (ends.0, ends.2)
agreeing_ends f (Aborted r y) (Aborted t x) ends = ends
agreeing_ends f (Done r y) (Aborted t x) ends = absurd ends
agreeing_ends f (Aborted r y) (Done t x) ends = absurd ends

depends_drawn : {X : Type 0} (a : ListAct X) (y x : ListTx) → Depends (drawn (reached_footprint (a x))).meets (Unit {0}) Anything a → AreDrawn y → AreDrawn x → Agree (reached_footprint (a x)) y x → EndAgreeing (reached_footprint (a x)) (a y) (a x)
depends_drawn a y x depends drawn_y drawn_x agree = drawn_ends (reached_footprint (a x)) (a y) (a x) (depends.alike tt y x (agree, drawn_y, drawn_x) (grown_self (reached_footprint (a x))))

stays_drawn : {X : Type 0} (a : ListAct X) (x : ListTx) → Depends (drawn (reached_footprint (a x))).meets (Unit {0}) Anything a → AreDrawn x → AreDrawn (reached (a x))
stays_drawn {X} a x depends drawn_x = by_end (a x) (depends.alike tt x x (agree_self (reached_footprint (a x)) x, drawn_x, drawn_x) (grown_self (reached_footprint (a x)))) where
  by_end : (p : Outcome Histories Starts X) → Ends (drawn (reached_footprint (a x))).meets Anything p p → AreDrawn (reached p)
  by_end (Done r z) ends = ends.2.2
  by_end (Aborted r z) ends = ends.1.2

-- one transaction alone
rests : {X : Type 0} (a : ListAct X) (x : ListTx) → Depends (resting (reached_footprint (a x)) x) (Unit {0}) Anything a
    → StaysBut (reached_footprint (a x)) x.now (reached (a x)).now × StaysCollected (reached_footprint (a x)) x (reached (a x))
rests {X} a x depends = by_end (a x) (depends.alike tt x x (resting_self (reached_footprint (a x)) x) (grown_self (reached_footprint (a x)))) where
  by_end : (p : Outcome Histories Starts X) → Ends (resting (reached_footprint (a x)) x) Anything p p → StaysBut (reached_footprint (a x)) x.now (reached p).now × StaysCollected (reached_footprint (a x)) x (reached p)
  by_end (Done r z) ends = (ends.2.1, ends.2.2)
  by_end (Aborted r z) ends = (ends.1.1, ends.1.2)

-- ---- statements, firings and rounds

executes_in : {f : Footprint} (s : Steady f) (t : Stmt) (frame : Frame) → Depends s.meets (Unit {0}) Anything (execute lists (outermost lists) t frame)
executes_in s t frame = execute_in s (outermost lists) (outermost_in s) t frame

pub statement_depends : (t : Stmt) (frame : Frame) (y x : ListTx) → AreDrawn y → AreDrawn x → Agree (reached_footprint (execute lists (outermost lists) t frame x)) y x
    → EndAgreeing (reached_footprint (execute lists (outermost lists) t frame x)) (execute lists (outermost lists) t frame y) (execute lists (outermost lists) t frame x)
statement_depends t frame y x = depends_drawn (execute lists (outermost lists) t frame) y x (executes_in (drawn (reached_footprint (execute lists (outermost lists) t frame x))) t frame)

pub command_depends : (t : Stmt) (y x : ListTx) → AreDrawn y → AreDrawn x → Agree (reached_footprint (commands lists t x)) y x → EndAgreeing (reached_footprint (commands lists t x)) (commands lists t y) (commands lists t x)
command_depends t y x = depends_drawn (commands lists t) y x (commands_in (drawn (reached_footprint (commands lists t x))) t)

pub firing_depends : (g : Firing) (y x : ListTx) → AreDrawn y → AreDrawn x → Agree (reached_footprint (runs (first_actions lists) g x)) y x
    → EndAgreeing (reached_footprint (runs (first_actions lists) g x)) (runs (first_actions lists) g y) (runs (first_actions lists) g x)
firing_depends g y x = depends_drawn (runs (first_actions lists) g) y x (first_runs_in (drawn (reached_footprint (runs (first_actions lists) g x))) g)

pub rounds_depend : (most at ran : ℕ) (y x : ListTx) → AreDrawn y → AreDrawn x → Agree (reached_footprint (goes_round lists most at ran x)) y x
    → EndAgreeing (reached_footprint (goes_round lists most at ran x)) (goes_round lists most at ran y) (goes_round lists most at ran x)
rounds_depend most at ran y x = depends_drawn (goes_round lists most at ran) y x (goes_round_in (drawn (reached_footprint (goes_round lists most at ran x))) most at ran)

-- ---- looks and the tests of constraints, which draw nothing

depends_plain : {X : Type 0} (a : ListAct X) (y x : ListTx) → Depends (agreeing (reached_footprint (a x))) (Unit {0}) Anything a → Agree (reached_footprint (a x)) y x → EndAgreeing (reached_footprint (a x)) (a y) (a x)
depends_plain a y x depends agree = agreeing_ends (reached_footprint (a x)) (a y) (a x) (depends.alike tt y x agree (grown_self (reached_footprint (a x))))

pub look_depends : (ids : List ℕ) (y x : ListTx) → Agree (reached_footprint (looks ids x)) y x → EndAgreeing (reached_footprint (looks ids x)) (looks ids y) (looks ids x)
look_depends ids y x = depends_plain (looks ids) y x (map_in (agreeing (reached_footprint (looks ids x))) (looked_in (agreeing (reached_footprint (looks ids x))) ids) (λ k. k) (λ u k known. tt))

pub tests_depend : (y x : ListTx) → Agree (reached_footprint (tests_all x)) y x → EndAgreeing (reached_footprint (tests_all x)) (tests_all y) (tests_all x)
tests_depend y x = depends_plain tests_all y x (tests_all_in (agreeing (reached_footprint (tests_all x))))

-- ---- settling

posted_alike : (place : Place Histories Starts) (kind : Kind) (y x : ListTx) → Agree (posted lists place kind x).footprint y x → Agree (posted lists place kind x).footprint (posted lists place kind y) (posted lists place kind x)
unfolding posted
posted_alike place kind y x agree =
    subst (λ ids. Agree f (reached (each (posts_last lists place kind) ids y)) (reached (each (posts_last lists place kind) x.touched x))) (sym agree.touched)
    (by_end (each (posts_last lists place kind) x.touched y) (each (posts_last lists place kind) x.touched x) ((last_in (agreeing f) place kind x.touched).alike tt y x agree (grown_self f)))
  where
    f : Footprint
    f = reached_footprint (each (posts_last lists place kind) x.touched x)

    by_end : (p q : Outcome Histories Starts (Unit {0})) → Ends (agreeing f) Anything p q → Agree f (reached p) (reached q)
    by_end (Done r v) (Done t w) ends = ends.2
    by_end (Aborted r v) (Aborted t w) ends = ends.1
    by_end (Done r v) (Aborted t w) ends = absurd ends
    by_end (Aborted r v) (Done t w) ends = absurd ends

pub commit_depends : (kind : Kind) (y x : ListTx) → AreNumbered y.now.bones → AreNumbered x.now.bones → Agree (posted lists (both_lists lists) kind (committed lists x)).footprint y x
    → Agree (posted lists (both_lists lists) kind (committed lists x)).footprint (posted lists (both_lists lists) kind (committed lists y)) (posted lists (both_lists lists) kind (committed lists x))
commit_depends kind y x numbered_y numbered_x agree =
    posted_alike (both_lists lists) kind (committed lists y) (committed lists x) (agree_committed (posted lists (both_lists lists) kind (committed lists x)).footprint y x numbered_y numbered_x agree)

pub abort_depends : (kind : Kind) (y x : ListTx) → Agree (posted lists (whole_list lists) kind (aborted lists x)).footprint y x
    → Agree (posted lists (whole_list lists) kind (aborted lists x)).footprint (posted lists (whole_list lists) kind (aborted lists y)) (posted lists (whole_list lists) kind (aborted lists x))
abort_depends kind y x agree =
    posted_alike (whole_list lists) kind (aborted lists y) (aborted lists x) (agree_aborted (posted lists (whole_list lists) kind (aborted lists x)).footprint y x agree)

-- ---- drawn numbers stay so

pub statement_drawn : (t : Stmt) (x : ListTx) → AreDrawn x → AreDrawn (reached (commands lists t x))
statement_drawn t x = stays_drawn (commands lists t) x (commands_in (drawn (reached_footprint (commands lists t x))) t)

rounds_drawn : (most at ran : ℕ) (x : ListTx) → AreDrawn x → AreDrawn (reached (goes_round lists most at ran x))
rounds_drawn most at ran x = stays_drawn (goes_round lists most at ran) x (goes_round_in (drawn (reached_footprint (goes_round lists most at ran x))) most at ran)

weighs_drawn : (x : ListTx) → AreDrawn x → AreDrawn (reached (weighs x))
unfolding weighs
weighs_drawn x d = by_test (nat_le (weight (kept_bones x.now.bones)) weight_limit) where
  by_test : (b : Bool) → AreDrawn (reached (tested b Space x))
  by_test true = d
  by_test false = d

drawn_on : {X Y : Type 0} (p : Outcome Histories Starts X) (h : X → ListAct Y) → AreDrawn (reached p) → ((r : X) (z : ListTx) → AreDrawn z → AreDrawn (reached (h r z))) → AreDrawn (reached (go_on p h))
drawn_on (Done r z) h d rest = rest r z d
drawn_on (Aborted r z) h d rest = d

pub completion_drawn : (x : ListTx) → AreDrawn x → AreDrawn (reached (completes lists x))
unfolding completes
completion_drawn x d =
    drawn_on (goes_round lists (rounds x) 0 0 x) (λ _. tests_all >> weighs) (rounds_drawn (rounds x) 0 0 x d) (λ r z dz.
    drawn_on (tests_all z) (λ _. weighs) (stays_drawn tests_all z (tests_all_in (drawn (reached_footprint (tests_all z))).meets) dz) (λ r w dw. weighs_drawn w dw))

-- ---- what stays

completes_alone : (f : Footprint) (old : ListTx) → Depends (resting f old) (Unit {0}) Anything (completes lists)
completes_alone f old = completes_in (still f old) (λ y x r. r.0)

pub statement_stays : (t : Stmt) (frame : Frame) (x : ListTx) → StaysBut (reached_footprint (execute lists (outermost lists) t frame x)) x.now (reached (execute lists (outermost lists) t frame x)).now
statement_stays t frame x = (rests (execute lists (outermost lists) t frame) x (executes_in (still (reached_footprint (execute lists (outermost lists) t frame x)) x) t frame)).0

pub command_stays : (t : Stmt) (x : ListTx) → StaysBut (reached_footprint (commands lists t x)) x.now (reached (commands lists t x)).now
command_stays t x = (rests (commands lists t) x (commands_in (still (reached_footprint (commands lists t x)) x) t)).0

pub command_collects : (t : Stmt) (x : ListTx) → StaysCollected (reached_footprint (commands lists t x)) x (reached (commands lists t x))
command_collects t x = (rests (commands lists t) x (commands_in (still (reached_footprint (commands lists t x)) x) t)).1

pub firing_stays : (g : Firing) (x : ListTx) → StaysBut (reached_footprint (runs (first_actions lists) g x)) x.now (reached (runs (first_actions lists) g x)).now
firing_stays g x = (rests (runs (first_actions lists) g) x (first_runs_in (still (reached_footprint (runs (first_actions lists) g x)) x) g)).0

pub completion_stays : (x : ListTx) → StaysBut (reached_footprint (completes lists x)) x.now (reached (completes lists x)).now
completion_stays x = (rests (completes lists) x (completes_alone (reached_footprint (completes lists x)) x)).0

pub completion_collects : (x : ListTx) → StaysCollected (reached_footprint (completes lists x)) x (reached (completes lists x))
completion_collects x = (rests (completes lists) x (completes_alone (reached_footprint (completes lists x)) x)).1

pub posted_stays : (place : Place Histories Starts) (kind : Kind) (x : ListTx) → StaysBut (posted lists place kind x).footprint x.now (posted lists place kind x).now
unfolding posted
posted_stays place kind x = (rests (each (posts_last lists place kind) x.touched) x (last_in (resting (reached_footprint (each (posts_last lists place kind) x.touched x)) x) place kind x.touched)).0

pub posted_collects : (place : Place Histories Starts) (kind : Kind) (x : ListTx) → StaysCollected (posted lists place kind x).footprint x (posted lists place kind x)
unfolding posted
posted_collects place kind x = (rests (each (posts_last lists place kind) x.touched) x (last_in (resting (reached_footprint (each (posts_last lists place kind) x.touched x)) x) place kind x.touched)).1

-- ---- nothing is taken off a footprint

pub statements_grow : (t : Stmt) (x : ListTx) → Grown x.footprint (reached_footprint (commands lists t x))
statements_grow t x = (commands_in (still x.footprint x) t).grows x

pub completion_grows : (x : ListTx) → Grown x.footprint (reached_footprint (completes lists x))
completion_grows x = (completes_alone x.footprint x).grows x

pub posted_grows : (place : Place Histories Starts) (kind : Kind) (x : ListTx) → Grown x.footprint (posted lists place kind x).footprint
unfolding posted
posted_grows place kind x = (last_in (resting x.footprint x) place kind x.touched).grows x

-- ---- touched objects are looked at

looks_on : {X : Type 0} (a : ListAct X) (x : ListTx) → Depends (touched (reached_footprint (a x))).meets (Unit {0}) Anything a → Within x.touched x.footprint.looked → Within (reached (a x)).touched (reached_footprint (a x)).looked
looks_on {X} a x depends within =
    by_end (a x) (depends.alike tt x x (refl, λ id is. (depends.grows x).looked id (within id is)) (grown_self (reached_footprint (a x))))
  where
    by_end : (p : Outcome Histories Starts X) → Ends (touched (reached_footprint (a x))).meets Anything p p → Within (reached p).touched (reached_footprint (a x)).looked
    by_end (Done r z) ends = ends.2.1
    by_end (Aborted r z) ends = ends.1.1

pub command_touches : (t : Stmt) (x : ListTx) → Within x.touched x.footprint.looked → Within (reached (commands lists t x)).touched (reached_footprint (commands lists t x)).looked
command_touches t x = looks_on (commands lists t) x (commands_in (touched (reached_footprint (commands lists t x))) t)

pub completion_touches : (x : ListTx) → Within x.touched x.footprint.looked → Within (reached (completes lists x)).touched (reached_footprint (completes lists x)).looked
completion_touches x = looks_on (completes lists) x (completes_in (touched (reached_footprint (completes lists x))) (λ y z r. r.0))
