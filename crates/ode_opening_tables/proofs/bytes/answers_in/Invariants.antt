use Rattle.std.proofs.Common.{◌≡◌, map, take}
use Rattle.ode_codec.specs.StoredRows.{bit}
use Rattle.ode_opening_tables.proofs.bytes.answers_in.Given as goal

abbrev pub invariant-loop-byte : goal.invariant-loop-byte
invariant-loop-byte l = map bit l.yes ≡ take l.byte-index l.bytes
