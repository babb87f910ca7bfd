use Rattle.std.proofs.Common.{◌≡◌, length}
use Rattle.ode_value.specs.Evaluation.{set_at}
use Rattle.ode_interpreter.proofs.scene.set_at.Given as goal

abbrev pub invariant-missing : goal.invariant-missing
invariant-missing l = record {
  same : l.v ≡ l.initial.v;
  length : length l.locals ≡ l.counter;
  rest : set_at l.place l.v l.locals ≡ set_at l.place l.v l.initial.locals;
}
