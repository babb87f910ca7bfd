use Rattle.std.proofs.Common.{◌≡◌, ◌++◌, take}
use Rattle.std.specs.List.{flat_map}
use Rattle.ode_codec.specs.StoredRows.{u16}
use Rattle.ode_class_records.proofs.tables.put_states.Given as goal

abbrev pub invariant-loop-state : goal.invariant-loop-state
invariant-loop-state l = l.out.items ≡ l.initial.out.items ++ flat_map u16 (take l.state-index l.states)
