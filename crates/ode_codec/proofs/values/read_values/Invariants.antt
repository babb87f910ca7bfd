use Rattle.std.proofs.Common.{◌≡◌, ◌-◌}
use Rattle.ode_codec.specs.Values.{values_in}
use Rattle.ode_codec.proofs.Loop.{with_front}
use Rattle.ode_codec.proofs.values.read_values.Given as goal

abbrev pub invariant-loop : goal.invariant-loop
invariant-loop l = with_front l.values (values_in (l.count - l.counter) l.rest) ≡ values_in l.count l.bytes
