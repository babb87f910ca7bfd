use Rattle.std.proofs.Common.{◌≡◌, ◌++◌, drop}
use Rattle.std.specs.List.{flat_map}
use Rattle.ode_keep.specs.Entries.{HasRisingKeys}
use Rattle.ode_value.specs.Keys.{class_head_kind}
use Rattle.ode_dump.specs.Order.{of_kind, with_tables}
use Rattle.ode_dump.proofs.order.put_classes.Given as goal

abbrev pub invariant-loop-line : goal.invariant-loop-line
invariant-loop-line l = HasRisingKeys l.lines
    → l.text.items ++ flat_map (with_tables l.lines) (of_kind class_head_kind (drop l.line-index l.lines)) ≡ l.fn.text.items ++ flat_map (with_tables l.lines) (of_kind class_head_kind l.lines)
