use Rattle.std.proofs.Common.{◌≡◌, map}
use Rattle.std.specs.List.{range_with_len}
use Rattle.ode_codec.specs.StoredRows.{piece_of}
use Rattle.ode_class_records.specs.ClassRows.{piece_row}
use Rattle.ode_class_records.specs.Puts.{with_rows}
use Rattle.ode_class_records.proofs.pieces.put_pieces.Given as goal

abbrev pub invariant-loop-place : goal.invariant-loop-place
invariant-loop-place l = l.batch ≡ with_rows (map (λ n. piece_row l.class l.of (piece_of l.bytes n)) (range_with_len 0 l.place)) l.initial.batch
