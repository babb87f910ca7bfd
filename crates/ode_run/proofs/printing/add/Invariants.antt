use Rattle.std.proofs.Common.{◌≡◌, ◌++◌, drop}
use Rattle.ode_run.proofs.printing.add.Given as goal

-- the bytes so far and those that are left are all
abbrev pub invariant-loop-byte : goal.invariant-loop-byte
invariant-loop-byte l = l.text ++ drop l.byte-index l.line ≡ l.fn.text ++ l.line
