use Rattle.std.proofs.Common.{◌≡◌, map}
use Rattle.ode_value.specs.Symbols.{masked_kind}
use Rattle.ode_symbols.proofs.rows.rows_for.Given as goal

-- a row for each kind so far
abbrev pub invariant-loop-kind : goal.invariant-loop-kind
invariant-loop-kind l = l.rows ≡ map (masked_kind l.leaves) l.yielded
