use Rattle.std.proofs.Common.{◌≡◌, ◌+◌, List, [], ◌∷◌, ◌++◌, ap, sym, ◌∙◌, subst, take}
use Rattle.std.proofs.lemmas.List.{take_more}
use Rattle.ode_value.specs.Tables.{Table}
use Rattle.ode_compile.specs.Compiling.{AreLeastOf}
use Rattle.ode_compile.proofs.LeastLaws.{least_more}
use Rattle.ode_compile.proofs.shrinking.shrink_all.Goals as goal

pub loop-table-preserved : goal.loop-table-preserved
loop-table-preserved c =
    let tables = c.args.tables.now in
    let i = c.loop-table.table-index in
    let t = c.table-item.result in
    let taken : take (i + 1) tables ≡ take i tables ++ t ∷ [] = take_more tables i t c.loop-table-test.true ∙ ap (λ (u : Table). take i tables ++ u ∷ []) (sym c.table-item.is) in
    subst (λ (ts : List Table). AreLeastOf ts c.push.new.self) (sym taken)
    (subst (λ (least : List Table). AreLeastOf (take i tables ++ t ∷ []) least) (sym c.in_ok-push.ensures.ok)
    (least_more (take i tables) c.loop-table.least t c.in_ok-small.small c.loop-table.invariant c.in_ok-small.ensures))
