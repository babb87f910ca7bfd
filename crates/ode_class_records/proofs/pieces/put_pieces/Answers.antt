use Rattle.std.proofs.Common.{◌≡◌, ℕ, List, [], ◌∷◌, length, map, ap, sym, ◌∙◌, arith}
use Rattle.std.specs.List.{range_with_len}
use Rattle.std.proofs.lemmas.List.FromFn.{map-range_with_len_more}
use Rattle.std.proofs.lemmas.Simd.{map-map}
use Rattle.ode_codec.specs.Spelling.{spelled}
use Rattle.ode_codec.specs.StoredRows.{piece_of}
use Rattle.ode_value.specs.Lengths.{piece_count}
use Rattle.ode_value.specs.Records.{Row}
use Rattle.ode_class_records.specs.ClassRows.{piece_row}
use Rattle.ode_class_records.specs.Puts.{with_rows}
use Rattle.ode_class_records.proofs.PutLaws.{row_more}
use Rattle.ode_class_records.proofs.pieces.put_pieces.Goals as goal

pub loop-place-preserved : goal.loop-place-preserved
loop-place-preserved c =
    let place = c.loop-place.place in
    let row : ℕ → Row = λ n. piece_row c.args.class c.args.of (piece_of c.args.bytes.now n) in
    let one : spelled c.piece_record.result ≡ row place =
    c.piece_record.ensures.spelled ∙ ap (λ (bytes : List ℕ). piece_row c.args.class c.args.of (place, bytes)) (c.in_ok-one.ensures ∙ c.piece.ensures.bytes) in
    row_more (map row (range_with_len 0 place)) (row place) c.args.batch.now c.loop-place.batch c.put.new.batch c.loop-place.invariant
    (c.in_ok-put.ensures ∙ ap (λ (r : Row). with_rows (r ∷ []) c.loop-place.batch) one)
    ∙ ap (λ (rs : List Row). with_rows rs c.args.batch.now) (sym (map-range_with_len_more row 0 place place (omega arith)))

pub returns : goal.returns
returns c =
    let row : ℕ → Row = λ n. piece_row c.args.class c.args.of (piece_of c.args.bytes.now n) in
    let count = piece_count (length c.args.bytes.now) in
    let last : c.loop-place.place ≡ c.piece_count-place-end.result = omega arith in
    c.loop-place.invariant
    ∙ ap (λ n. with_rows (map row (range_with_len 0 n)) c.args.batch.now) (last ∙ c.piece_count-place-end.ensures)
    ∙ ap (λ (rs : List Row). with_rows rs c.args.batch.now) (sym (map-map (piece_row c.args.class c.args.of) (piece_of c.args.bytes.now) (range_with_len 0 count)))
