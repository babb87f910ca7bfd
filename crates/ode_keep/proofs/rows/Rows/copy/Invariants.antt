use Rattle.std.proofs.Common.{◌≡◌, length, take}
use Rattle.ode_keep.specs.Spans.{span, spanned}
use Rattle.ode_keep.proofs.rows.Rows.copy.Given as goal

abbrev pub invariant-loop-key : goal.invariant-loop-key
invariant-loop-key l = (spanned l.keys.items l.bytes.items ≡ take l.key-index l.rows) × (span l.keys.items ≡ length l.bytes.items)
