use Rattle.std.proofs.Common.{◌≡◌, List, ℕ, Option, Some, None, subst, sym}
use Rattle.std.specs.Prelude.{IfOk, OnErr}
use Rattle.ode_records.proofs.Kinding.{all_put, all_same, kinds_put, value_there}
use Rattle.ode_records.proofs.records.put.Goals as goal

pub returns-clause-put : goal.returns-clause-put
returns-clause-put c =
    all_put c.args.key c.args.kinds.now.items c.index_mut.result.now c.insert.new.self (Some c.args.value) c.requires.room c.requires.kinds c.index_mut.ensures.value
    c.insert.result c.insert.ensures.put c.insert.ensures.same

pub returns-clause-same : goal.returns-clause-same
returns-clause-same c =
    all_same c.args.key c.args.kinds.now.items c.index_mut.result.now c.insert.new.self (Some c.args.value) c.requires.room c.requires.kinds c.index_mut.ensures.value
    c.insert.result c.insert.ensures.put c.insert.ensures.same

pub returns-clause-kinds : goal.returns-clause-kinds
returns-clause-kinds c =
    kinds_put c.args.key c.args.kinds.now.items c.index_mut.result.now c.insert.new.self (Some c.args.value) c.requires.room c.requires.kinds c.index_mut.ensures.value
    c.insert.result c.insert.ensures.put c.insert.ensures.same

pub returns-clause-old : goal.returns-clause-old
returns-clause-old c =
    subst (λ (o : Option (List ℕ)). IfOk c.insert.result (λ old. old ≡ o))
    (sym (value_there c.args.key c.args.kinds.now.items c.index_mut.result.now c.insert.new.self (Some c.args.value) c.requires.room c.requires.kinds c.index_mut.ensures.value))
    c.insert.ensures.old

pub returns-clause-absent : goal.returns-clause-absent
returns-clause-absent c =
    subst (λ (o : Option (List ℕ)). OnErr c.insert.result (o ≡ None))
    (sym (value_there c.args.key c.args.kinds.now.items c.index_mut.result.now c.insert.new.self (Some c.args.value) c.requires.room c.requires.kinds c.index_mut.ensures.value))
    c.insert.ensures.absent
