use Rattle.std.proofs.Common.{◌+◌, List, Bool, take, subst, sym, arith}
use Rattle.std.specs.List.{AllZip}
use Rattle.std.proofs.lemmas.List.{take_all}
use Rattle.ode_value.specs.Tables.{Table}
use Rattle.ode_opening_objects.proofs.StateLaws.{IsNoted, noted_more, noted_tells}
use Rattle.ode_opening_objects.proofs.states.reached_of.Goals as goal

pub loop-table-preserved : goal.loop-table-preserved
loop-table-preserved c =
    let i = c.loop-table.table-index in
    let tables = c.args.tables.now in
    subst (λ (seen : List (List Bool)). AllZip IsNoted seen (take (i + 1) tables)) (sym c.in_ok-push.ensures.ok)
    (noted_more c.loop-table.seen tables i c.in_ok-flags.flags c.table-item.result c.loop-table-test.true c.loop-table.invariant
    (subst (λ (t : Table). IsNoted c.in_ok-flags.flags t) c.table-item.is c.in_ok-flags.ensures))

pub returns : goal.returns
returns c =
    noted_tells c.loop-table.seen c.args.tables.now
    (subst (AllZip IsNoted c.loop-table.seen) (take_all c.loop-table.table-index c.args.tables.now (omega arith)) c.loop-table.invariant)
