use Rattle.std.proofs.Common.{◌*◌, drop, take, ap, ◌∙◌}
use Rattle.std.proofs.lemmas.List.{take_min}
use Rattle.ode_value.specs.Limits.{value_limit}
use Rattle.ode_class_records.proofs.pieces.piece.Goals as goal

pub returns-clause-bytes : goal.returns-clause-bytes
unfolding value_limit
returns-clause-bytes c =
    let rest = c.split_at.result.1.now in
    c.split_at-2.ensures.front ∙ ap (λ n. take n rest) c.min.ensures ∙ take_min value_limit rest
    ∙ ap (take value_limit) (c.split_at.ensures.back ∙ ap (λ n. drop (n * value_limit) c.args.bytes.now) c.from.ensures)
