use Rattle.std.proofs.Common.{◌≡◌, drop}
use Rattle.ode_types.specs.Checks.{through}
use Rattle.ode_evolve.specs.Evolving.{knows_field}
use Rattle.ode_evolve.proofs.changing.needs_fields.Given as goal

abbrev pub invariant-loop-field : goal.invariant-loop-field
invariant-loop-field l = through (knows_field l.seen) tt l.fields ≡ through (knows_field l.seen) tt (drop l.field-index l.fields)
