use Rattle.std.proofs.Common.{◌≡◌, ◌++◌, map, take}
use Rattle.ode_codec.specs.StoredRows.{bit}
use Rattle.ode_class_records.proofs.tables.put_bits.Given as goal

abbrev pub invariant-loop-b : goal.invariant-loop-b
invariant-loop-b l = l.out.items ≡ l.initial.out.items ++ map bit (take l.b-index l.bits)
