use Rattle.std.proofs.Common.{◌≡◌, ◌+◌, length}
use Rattle.ode_value.specs.Keys.{entry_kind}
use Rattle.ode_keep.specs.Entries.{count_of_kind, record_bytes}
use Rattle.ode_pages.specs.Pages.{FitsPage}
use Rattle.ode_paging.specs.declared.pages.TheConstants.{PAGE_SIZE}
use Rattle.ode_paging.proofs.sums.Sums.add.Given as goal

abbrev pub invariant-entries : goal.invariant-entries
invariant-entries l = record {
  bytes : l.self.bytes + record_bytes l.entries ≡ l.fn.self.bytes + record_bytes l.page;
  queued : l.self.queued + count_of_kind entry_kind l.entries ≡ l.fn.self.queued + count_of_kind entry_kind l.page;
  fits : FitsPage PAGE_SIZE l.page;
}

abbrev pub decreases-entries : goal.decreases-entries
decreases-entries l = length l.entries
