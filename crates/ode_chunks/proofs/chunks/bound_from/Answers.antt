use Rattle.std.proofs.Common.{sym, ◌∙◌}
use Rattle.ode_chunks.proofs.Chunking.{first_from, none_from}
use Rattle.ode_chunks.proofs.Cutting.{range_from}
use Rattle.ode_chunks.proofs.chunks.bound_from.Goals as goal

pub returns-in_err-bound-clause-none : goal.returns-in_err-bound-clause-none
returns-in_err-bound-clause-none c =
    let tree = c.args.tree.now.entries in
    rw c.from_residual.ensures (none_from c.args.key tree (sym (range_from c.args.key tree) ∙ sym (c.range.ensures.between tt) ∙ c.in_err-bound.ensures.steps.0))

pub returns-clause-found : goal.returns-clause-found
returns-clause-found c =
    let tree = c.args.tree.now.entries in
    first_from c.args.key tree c.next.new.self c.in_ok-bound.bound.now c.in_ok-bound.field-0-1.now
    (sym (range_from c.args.key tree) ∙ sym (c.range.ensures.between tt) ∙ c.in_ok-bound.ensures.steps)
