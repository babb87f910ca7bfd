use Rattle.std.proofs.Common.{arith}
use Rattle.ode_keep.specs.Entries.{value_under}
use Rattle.ode_keep.proofs.Growing.{changed_grows}
use Rattle.ode_paging.proofs.Planned.{entry_changes}
use Rattle.ode_paging.proofs.planning.Counts.after.Goals as goal

pub returns : goal.returns
returns c = λ entries value rising taken put is. record {
  bytes = omega (arith, c.in_ok-exchanged.ensures, changed_grows entries c.args.key value rising, taken, put, is.bytes);
  queued = omega (
    arith,
    c.in_ok-exchanged-2.ensures,
    entry_changes entries c.args.key value rising,
    c.one_queued-put.ensures value put,
    c.one_queued-taken.ensures (value_under entries c.args.key) taken,
    is.queued,
  );
}
