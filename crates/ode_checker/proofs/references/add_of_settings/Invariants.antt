use Rattle.std.proofs.Common.{◌≡◌, ◌++◌, take}
use Rattle.ode_types.specs.Literals.{setting_refs}
use Rattle.ode_checker.proofs.references.add_of_settings.Given as goal

abbrev pub invariant-loop-field : goal.invariant-loop-field
invariant-loop-field l = l.refs ≡ l.initial.refs ++ setting_refs (take l.field-index l.fields)
