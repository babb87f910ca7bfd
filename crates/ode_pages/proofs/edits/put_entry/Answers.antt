use Rattle.std.proofs.Common.{◌≡◌, ◌<◌, ◌^◌, ℕ, ◌+◌, ◌-◌, List, ◌++◌, length, take, drop, ap, ◌∙◌, arith}
use Rattle.std.specs.Int.{w16, to_be_bytes}
use Rattle.ode_value.specs.Records.{key_bytes}
use Rattle.ode_pages.proofs.Paging.{put}
use Rattle.ode_pages.proofs.edits.put_entry.Goals as goal

pub returns : goal.returns
returns c entries page place enough many =
    let old = c.args.bytes.now in
    let one = c.take_out.new.bytes in
    let two = c.put_in.new.bytes in
    let three = c.put_in-2.new.bytes in
    let at = c.args.place.start in
    let v = c.args.value.now in
    let head = key_bytes c.args.key ++ to_be_bytes w16 (length v) in
    let short : length v < 2 ^ 16 = omega (arith, c.requires.room, c.requires.small) in
    let long : length one ≡ length old = c.take_out.auto.bytes in
    let longer : length two ≡ length old = c.put_in.auto.bytes ∙ long in
    let first : two ≡ take at one ++ (v ++ take (length old - (at + length v)) (drop at one)) =
    c.put_in.ensures ∙ ap (λ (n : ℕ). take at one ++ (v ++ take (n - (at + length v)) (drop at one))) long in
    let second : three ≡ take at two ++ (head ++ take (length old - (at + length head)) (drop at two)) =
    c.put_in-2.ensures ∙ ap (λ (n : ℕ). take at two ++ (c.row_head.result ++ take (n - (at + length c.row_head.result)) (drop at two))) longer
    ∙ ap (λ (l : List ℕ). take at two ++ (l ++ take (length old - (at + length l)) (drop at two))) c.row_head.ensures.spelled in
    put (length old) entries c.args.key c.args.place old page place v c.requires.small c.row_head.ensures.fits short enough
    c.args.count one two three c.put_over.new.to c.take_out.ensures first second (rw c.to_be_bytes.ensures at c.put_over.ensures) many
