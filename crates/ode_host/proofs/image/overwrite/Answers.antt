use Rattle.std.proofs.Common.{◌∙◌, ◌+◌, ◌++◌, List, ℕ, length, take, drop, ap, arith}
use Rattle.ode_host.proofs.Zeros.{over_longer, put_back}
use Rattle.ode_host.proofs.image.overwrite.Goals as goal

pub returns-clause-ok : goal.returns-clause-ok
returns-clause-ok c =
    let n = length c.args.from.now in
    let items = c.lengthen.new.image.items in
    let read = c.deref_mut.ensures.value ∙ c.in_ok-lengthen.ensures.ok in
    put_back c.put_over.new.to items c.lengthen.new.image.len (omega (arith, c.lengthen.new.image.ok.0, ap length c.deref_mut.ensures.value)) (omega (arith, c.lengthen.new.image.ok.0))
    ∙ c.put_over.ensures
    ∙ ap (λ (l : List ℕ). take c.args.at l ++ c.args.from.now ++ drop (c.args.at + n) l) read
    ∙ over_longer c.args.image.now.items c.args.from.now c.args.at
