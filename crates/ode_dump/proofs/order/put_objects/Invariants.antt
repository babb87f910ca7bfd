use Rattle.std.proofs.Common.{◌≡◌, ◌++◌, drop}
use Rattle.std.specs.List.{flat_map}
use Rattle.ode_keep.specs.Entries.{HasRisingKeys}
use Rattle.ode_value.specs.Keys.{object_kind}
use Rattle.ode_dump.specs.Order.{of_kind, with_parts}
use Rattle.ode_dump.proofs.order.put_objects.Given as goal

abbrev pub invariant-loop-line : goal.invariant-loop-line
invariant-loop-line l = HasRisingKeys l.lines
    → l.text.items ++ flat_map (with_parts l.lines) (of_kind object_kind (drop l.line-index l.lines)) ≡ l.fn.text.items ++ flat_map (with_parts l.lines) (of_kind object_kind l.lines)
