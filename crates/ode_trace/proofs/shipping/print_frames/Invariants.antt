use Rattle.std.proofs.Common.{drop}
use Rattle.ode_host.specs.Host.{HostCalls}
use Rattle.ode_trace.proofs.ShippedLaws.{ArePrinting}
use Rattle.ode_trace.proofs.shipping.print_frames.Given as goal

abbrev pub invariant-loop-number : goal.invariant-loop-number
invariant-loop-number g l = record {
  so_far : ArePrinting l.kept (drop l.number-index l.kept) (g.H.Host.view l.fn.host) (g.H.Host.view l.host);
  leaves : HostCalls ⊥ ⊥ (g.H.Host.view l.fn.host) (g.H.Host.view l.host);
}
