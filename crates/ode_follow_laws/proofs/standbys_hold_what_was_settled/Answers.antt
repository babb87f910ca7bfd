use Rattle.std.proofs.Common.{List, length, sym, subst, take}
use Rattle.ode_follow_laws.proofs.Settled.{some_count_up, world_is, worlds_are}
use Rattle.ode_follow_laws.proofs.standbys_hold_what_was_settled.Goals as goal
use Rattle.ode_keep.specs.Entries.{Entries}
use Rattle.ode_keep.specs.declared.limits.TheConstants.{MAX_PAGED_BYTES}
use Rattle.ode_language.specs.Languages.{ode}
use Rattle.ode_machine.specs.Runs.{trace}
use Rattle.ode_number_laws.specs.Counting.{CountUp}
use Rattle.ode_standby.specs.Primary.{after_first, reach}
use Rattle.ode_run_laws.specs.Settled.{settled_of}
use Rattle.ode_transact.specs.Logging.{AreOf}
use Rattle.ode_value.specs.Draining.{world_after}
use Rattle.ode_value.specs.Language.{ListWorld}

pub returns-clause-shipped : goal.returns-clause-shipped
returns-clause-shipped g c = λ w entries script text ending left status before run.
    c.kept_transactions_are_shipped.ensures w entries (settled_of (trace ode w script)) run.frames before run.kept
    (subst (λ (ws : List ListWorld). CountUp w.bones.transaction ws) (worlds_are (trace ode w script)) (c.runs_count_up.ensures ode w script)) run.fit

pub returns-clause-partly : goal.returns-clause-partly
returns-clause-partly g c = λ w entries script text image out before run.
    c.kept_transactions_are_shipped.ensures w entries (take (length run.frames) (settled_of (trace ode w script))) run.frames before run.kept
    (some_count_up w.bones.transaction (length run.frames) (settled_of (trace ode w script))
    (subst (λ (ws : List ListWorld). CountUp w.bones.transaction ws) (worlds_are (trace ode w script)) (c.runs_count_up.ensures ode w script))) run.fit

pub returns-clause-goes_on : goal.returns-clause-goes_on
returns-clause-goes_on g c = λ w entries script text ending left status before run j places bytes here there error behind on front stopped.
    c.standbys_follow_their_primaries.ensures.goes_on MAX_PAGED_BYTES j entries run.frames places bytes here there error
    (returns-clause-shipped g c w entries script text ending left status before run) behind on front stopped

pub returns-clause-follows : goal.returns-clause-follows
returns-clause-follows g c = λ w entries script text ending left status before run j places bytes rest here there behind on front taken.
    let came = c.standbys_follow_their_primaries.ensures.takes MAX_PAGED_BYTES j entries run.frames places bytes rest here there
    (returns-clause-shipped g c w entries script text ending left status before run) behind on front taken in
    let k = reach j came.whole in
    let held = c.shipped_records_hold_their_worlds.ensures.holds w entries (settled_of (trace ode w script)) run.frames k before run.kept came.behind.within in
    record {
      came = came;
      holds = subst (λ (v : ListWorld). AreOf ode there.entries v) (world_is k w (trace ode w script)) (subst (λ (m : Entries). AreOf ode m (world_after w (take k (settled_of (trace ode w script))))) (sym came.behind.records) held);
    }

pub returns-clause-stops : goal.returns-clause-stops
returns-clause-stops g c = λ w entries script text ending left status before run j places bytes here image out behind on front leaves.
    let some = c.stops_leave_records_of_the_primary.ensures MAX_PAGED_BYTES j entries run.frames places bytes here image out
    (returns-clause-shipped g c w entries script text ending left status before run) behind on front leaves in
    let held = subst (λ (v : ListWorld). AreOf ode (after_first some.k entries run.frames) v) (world_is some.k w (trace ode w script))
    (c.shipped_records_hold_their_worlds.ensures.holds w entries (settled_of (trace ode w script)) run.frames some.k before run.kept some.within) in
    record { k = some.k; from = some.from; within = some.within; held = record { entries = after_first some.k entries run.frames; are = some.whole; world = held.0; ones = held.1 } }
