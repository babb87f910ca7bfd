use Rattle.std.proofs.Common.{◌≡◌, ◌++◌}
use Rattle.ode_compile.proofs.putting.put_behind.Given as goal

-- those so far
abbrev pub invariant-own : goal.invariant-own
invariant-own g l = l.list ≡ l.fn.list ++ l.yielded
