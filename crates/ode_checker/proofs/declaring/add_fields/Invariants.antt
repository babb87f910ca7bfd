use Rattle.std.proofs.Common.{◌≡◌, drop}
use Rattle.ode_types.specs.Checks.{through}
use Rattle.ode_types.specs.Declaring.{adds}
use Rattle.ode_checker.proofs.declaring.add_fields.Given as goal

abbrev pub invariant-loop-field : goal.invariant-loop-field
invariant-loop-field l = through (adds l.known l.decl) l.initial.draft l.added ≡ through (adds l.known l.decl) l.draft (drop l.field-index l.added)
