use Rattle.std.proofs.Common.{◌≡◌, ◌-◌, ◌*◌, ◌≤◌}
use Rattle.ode_host.specs.Host.{Looks}
use Rattle.ode_paging.specs.Pageful.{AreRead}
use Rattle.ode_paging.specs.declared.pages.TheConstants.{PAGE_SIZE}
use Rattle.ode_paging.proofs.reading.read_pages.Given as goal

abbrev pub invariant-pages : goal.invariant-pages
invariant-pages g l = record {
  looks : Looks (g.H.Host.view l.initial.host) (g.H.Host.view l.host);
  faults : (g.H.Host.view l.host).disk_faults ≡ (g.H.Host.view l.initial.host).disk_faults;
  within : l.page ≤ l.count;
  read : AreRead (g.H.Host.view l.initial.host) l.header l.images l.page l.index l.sums;
  bytes : l.sums.bytes ≤ PAGE_SIZE * l.page;
  queued : l.sums.queued ≤ PAGE_SIZE * l.page;
}

abbrev pub decreases-pages : goal.decreases-pages
decreases-pages g l = l.count - l.page
