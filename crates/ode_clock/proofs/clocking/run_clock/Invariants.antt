use Rattle.std.proofs.Common.{◌≡◌, ◌<◌, ◌≤◌, IsTrue, drop, length}
use Rattle.std.specs.List.{AllByRecursion}
use Rattle.ode_clock.proofs.TickSteps.{HasLogged}
use Rattle.ode_clock.proofs.clocking.run_clock.Given as goal
use Rattle.ode_good_laws.specs.Well.{IsWell}
use Rattle.ode_host.specs.Host.{HostCalls}
use Rattle.ode_keep.specs.Entries.{Entries}
use Rattle.ode_language.specs.Languages.{ode}
use Rattle.ode_transact.specs.Logging.{DiskHas, HasGrown}
use Rattle.ode_transact.specs.Resting.{IsAtRest, resting_parts}
use Rattle.ode_value.specs.GoodWorlds.{IsPosition}
use Rattle.ode_value.specs.Language.{ListWorld}
use Rattle.ode_value.specs.Limits.{due_limit, number_limit}
use Rattle.ode_value.specs.Worlds.{Position}

-- So many positions are done: the file holds the world that they left, what is heard of their texts is printed, these are counted and kept,
-- and no stop so far left anything else. Whatever the records are, no call of the host failed so far.
abbrev pub invariant-ticks : goal.invariant-ticks
invariant-ticks g l = record {
  logged : (w : ListWorld) (last : Position) → IsWell ode w → AllByRecursion IsPosition l.fn.due → length l.fn.due ≤ due_limit → w.bones.transaction < number_limit → IsAtRest g.H.Host.view g.K.Keep.holds g.K.Keep.live ode w l.fn.rest l.fn.host
      → (entries : Entries) → DiskHas g.K.Keep.means entries (g.H.Host.view l.fn.host)
      → HasLogged g.H.Host.view g.K.Keep.holds g.K.Keep.live g.K.Keep.means ode w l.fn.due (drop l.at-index l.fn.due) last l.rest l.fn.host l.host l.fn.output l.output l.left l.settled entries l.fn.log l.log;
  grown : HasGrown l.fn.log l.log;
  usable : IsTrue (g.K.Keep.live l.rest.keeper);
  parts : resting_parts l.rest ≡ resting_parts l.fn.rest;
  calls : HostCalls ⊥ ⊥ (g.H.Host.view l.fn.host) (g.H.Host.view l.host);
}
