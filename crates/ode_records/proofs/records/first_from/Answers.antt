use Rattle.std.proofs.Common.{List, ap, sym, ◌∙◌}
use Rattle.std.proofs.lemmas.List.{drop_all}
use Rattle.ode_keep.specs.Entries.{Entries, entries_from}
use Rattle.ode_records.specs.Kinds.{all_of}
use Rattle.ode_records.proofs.Firsts.{first_here, from_kind, none_here}
use Rattle.ode_records.proofs.records.first_from.Goals as goal

pub kinds-init : goal.kinds-init
kinds-init c = from_kind c.args.key c.args.kinds.now c.requires

pub kinds-preserved : goal.kinds-preserved
kinds-preserved c =
    none_here c.args.key c.args.kinds.now c.kinds.kind c.index-kinds-kind.result c.index-kinds-kind.is c.kinds-test.true c.kinds.invariant
    c.rows_from-rows.result.now (sym c.if-not-is_empty.false ∙ c.is_empty.ensures) c.rows_from-rows.ensures.first

pub returns-then-not-is_empty : goal.returns-then-not-is_empty
returns-then-not-is_empty c =
    first_here c.args.key c.args.kinds.now c.kinds.kind c.index-kinds-kind.result c.index-kinds-kind.is c.kinds-test.true c.kinds.invariant
    c.rows_from-rows.result.now (sym c.if-not-is_empty.true ∙ c.is_empty.ensures) c.rows_from-rows.ensures.first

pub returns : goal.returns
returns c =
    sym c.kinds.invariant ∙ ap (λ (l : List Entries). entries_from (all_of l) c.args.key) (drop_all c.kinds.kind c.args.kinds.now c.kinds-test.false)
