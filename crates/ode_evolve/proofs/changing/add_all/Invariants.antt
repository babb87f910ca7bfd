use Rattle.std.proofs.Common.{◌≡◌, ◌++◌, drop}
use Rattle.ode_evolve.specs.Evolving.{born}
use Rattle.ode_evolve.proofs.changing.add_all.Given as goal

abbrev pub invariant-loop-field : goal.invariant-loop-field
invariant-loop-field l = l.initial.all ++ born l.class l.initial.all l.fields ≡ l.all ++ born l.class l.all (drop l.field-index l.fields)
