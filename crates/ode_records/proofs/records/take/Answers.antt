use Rattle.std.proofs.Common.{◌<◌, ◌≤◌, None, arith, length, sym, ◌∙◌}
use Rattle.ode_records.proofs.Kinding.{all_changed, kinds_changed, none_taken, none_there, value_there}
use Rattle.ode_records.proofs.records.take.Goals as goal

pub returns-then-len-kind-clause-rest : goal.returns-then-len-kind-clause-rest
returns-then-len-kind-clause-rest c =
    let less : length c.args.kinds.now.items ≤ c.args.key.kind = omega arith in
    sym (none_taken c.args.key c.args.kinds.now.items less c.requires)

pub returns-then-len-kind-clause-old : goal.returns-then-len-kind-clause-old
returns-then-len-kind-clause-old c =
    let less : length c.args.kinds.now.items ≤ c.args.key.kind = omega arith in
    sym (none_there c.args.key c.args.kinds.now.items less c.requires)

pub returns-clause-rest : goal.returns-clause-rest
returns-clause-rest c =
    let less : c.args.key.kind < length c.args.kinds.now.items = omega arith in
    all_changed c.args.key c.args.kinds.now.items c.index_mut.result.now c.remove.new.self None less c.requires c.index_mut.ensures.value c.remove.ensures.rest

pub returns-clause-old : goal.returns-clause-old
returns-clause-old c =
    let less : c.args.key.kind < length c.args.kinds.now.items = omega arith in
    c.remove.ensures.old ∙ sym (value_there c.args.key c.args.kinds.now.items c.index_mut.result.now c.remove.new.self None less c.requires c.index_mut.ensures.value)

pub returns-clause-kinds : goal.returns-clause-kinds
returns-clause-kinds c =
    let less : c.args.key.kind < length c.args.kinds.now.items = omega arith in
    kinds_changed c.args.key c.args.kinds.now.items c.index_mut.result.now c.remove.new.self None less c.requires c.index_mut.ensures.value c.remove.ensures.rest
