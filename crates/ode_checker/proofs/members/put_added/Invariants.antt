use Rattle.std.proofs.Common.{◌≡◌, drop, fold}
use Rattle.ode_types.specs.Declaring.{with_added}
use Rattle.ode_checker.proofs.members.put_added.Given as goal

abbrev pub invariant-loop-field : goal.invariant-loop-field
invariant-loop-field l = fold with_added l.initial.class l.added ≡ fold with_added l.class (drop l.field-index l.added)
