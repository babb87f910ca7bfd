use Rattle.std.proofs.Common.{◌≡◌, ◌++◌, ◌∙◌, List, ℕ, ap, append_assoc, length, arith}
use Rattle.std.specs.Int.{w16, to_be_bytes}
use Rattle.ode_value.specs.Records.{key_bytes}
use Rattle.ode_keep.proofs.spelling.put_row.Goals as goal

pub returns : goal.returns
returns c short =
    let v = c.args.value.now in
    let key = c.args.key in
    let to = c.args.to.now.items in
    let same : c.min-length.result ≡ length v = omega (arith, c.min-length.ensures, c.from.ensures) in
    c.in_ok-extend_from_slice-2.ensures.items
    ∙ ap (λ (l : List ℕ). l ++ v)
    (c.in_ok-extend_from_slice.ensures.items
    ∙ ap (λ (l : List ℕ). to ++ l) (c.row_head.ensures.spelled ∙ ap (λ (n : ℕ). key_bytes key ++ to_be_bytes w16 n) same))
    ∙ append_assoc to (key_bytes key ++ to_be_bytes w16 (length v)) v
