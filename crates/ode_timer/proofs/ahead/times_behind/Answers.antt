use Rattle.std.proofs.Common.{arith, sym}
use Rattle.std.specs.Int.{int_gap}
use Rattle.ode_timer.proofs.Divisors.{never_other, times_never}
use Rattle.ode_timer.proofs.ahead.times_behind.Goals as goal

pub returns-in_default : goal.returns-in_default
returns-in_default c = record {
  value = sym (times_never c.args.kind.now c.args.after (never_other c.args.kind.now c.in_default.not-TimeEvery c.in_default.not-TimeAt) (int_gap c.args.after c.args.last));
  small = omega arith;
}
