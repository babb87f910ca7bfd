use Rattle.std.proofs.Common.{◌≡◌, ◌-◌}
use Rattle.ode_codec.specs.Formats.{behind}
use Rattle.ode_codec.specs.Values.{values_in}
use Rattle.ode_codec.proofs.skipping.skip_values.Given as goal

abbrev pub invariant-loop : goal.invariant-loop
invariant-loop l = behind (values_in (l.count - l.counter) l.rest) ≡ behind (values_in l.count l.bytes)
