use Rattle.std.proofs.Common.{◌≡◌, false, take}
use Rattle.std.specs.List.{list_any}
use Rattle.ode_value.specs.Same.{same_kind}
use Rattle.ode_symbols.proofs.rows.has_kind.Given as goal

-- none of those before is the same
abbrev pub invariant-loop-k : goal.invariant-loop-k
invariant-loop-k l = list_any (λ y. same_kind y l.kind) (take l.k-index l.kinds) ≡ false
