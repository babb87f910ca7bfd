use Rattle.std.proofs.Common.{◌≡◌, ◌+◌, [], ◌∷◌, ◌++◌, drop, take, ap, sym, ◌∙◌, subst}
use Rattle.std.specs.List.{AllByRecursion}
use Rattle.std.proofs.lemmas.List.{drop_more, take_more}
use Rattle.ode_value.specs.Tables.{Table}
use Rattle.ode_class_records.specs.ClassRows.{IsSized}
use Rattle.ode_class_records.proofs.PieceLaws.{one_more}
use Rattle.ode_class_records.proofs.PutLaws.{tables_next}
use Rattle.ode_class_records.proofs.tables.put_tables.Goals as goal

pub loop-place-preserved : goal.loop-place-preserved
loop-place-preserved c =
    let ts = c.args.tables.now in
    let i = c.loop-place.place in
    let t = c.index-tables-place.result in
    let inside = c.loop-place-test.true in
    let split : drop i ts ≡ t ∷ drop (i + 1) ts = drop_more ts i t inside ∙ ap (λ (u : Table). u ∷ drop (i + 1) ts) (sym c.index-tables-place.is) in
    let taken : take (i + 1) ts ≡ take i ts ++ t ∷ [] = take_more ts i t inside ∙ ap (λ (u : Table). take i ts ++ u ∷ []) (sym c.index-tables-place.is) in
    record {
      rows = tables_next c.args.class i t (drop i ts) (drop (i + 1) ts) c.loop-place.batch c.put_table.new.batch split c.in_ok-put_table.ensures.rows ∙ c.loop-place.invariant.rows;
      sized = subst (AllByRecursion IsSized) (sym taken) (one_more IsSized (take i ts) t c.loop-place.invariant.sized c.in_ok-put_table.ensures.sized);
    }
