use Rattle.std.proofs.Common.{◌≡◌, drop}
use Rattle.ode_types.specs.Checks.{through}
use Rattle.ode_evolve.specs.Evolving.{declares_next}
use Rattle.ode_evolve.proofs.changing.declare_all.Given as goal

abbrev pub invariant-loop-decl : goal.invariant-loop-decl
invariant-loop-decl l = through (declares_next l.added) l.initial.known l.decls ≡ through (declares_next l.added) l.known (drop l.decl-index l.decls)
