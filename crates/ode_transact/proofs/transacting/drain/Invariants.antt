use Rattle.std.proofs.Common.{◌≡◌, ◌-◌, ◌≤◌, IsTrue}
use Rattle.ode_transact.proofs.DrainSteps.{HasLogged}
use Rattle.ode_transact.proofs.transacting.drain.Given as goal
use Rattle.ode_transact.specs.Logging.{DiskHas, HasGrown}
use Rattle.ode_transact.specs.Resting.{IsAtRest, resting_parts}
use Rattle.ode_good_laws.specs.Well.{IsWell}
use Rattle.ode_host.specs.Host.{HostCalls}
use Rattle.ode_keep.specs.Entries.{Entries}
use Rattle.ode_value.specs.Language.{Language, ListWorld}

-- So many entries ran: the file holds the world that they left, what is heard of their texts is printed, these are counted and kept, and no
-- stop so far left anything else. Whatever the records are, no call of the host failed so far.
abbrev pub invariant-entries : goal.invariant-entries
invariant-entries g l = record {
  logged : (lang : Language) (w : ListWorld) → IsWell lang w → IsAtRest g.H.Host.view g.K.Keep.holds g.K.Keep.live lang w l.fn.rest l.fn.host → (entries : Entries) → DiskHas g.K.Keep.means entries (g.H.Host.view l.fn.host)
      → HasLogged g.H.Host.view g.K.Keep.holds g.K.Keep.live g.K.Keep.means lang w l.rest l.fn.host l.host l.fn.output l.output l.fn.most l.ran entries l.fn.log l.log;
  grown : HasGrown l.fn.log l.log;
  few : l.ran ≤ l.fn.most;
  usable : IsTrue (g.K.Keep.live l.rest.keeper);
  parts : resting_parts l.rest ≡ resting_parts l.fn.rest;
  calls : HostCalls ⊥ ⊥ (g.H.Host.view l.fn.host) (g.H.Host.view l.host);
}

abbrev pub decreases-entries : goal.decreases-entries
decreases-entries g l = l.fn.most - l.ran
