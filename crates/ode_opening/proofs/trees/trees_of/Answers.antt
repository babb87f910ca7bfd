use Rattle.std.proofs.Common.{◌≡◌, ◌+◌, ◌∷◌, [], List, drop, ap, sym, ◌∙◌}
use Rattle.std.proofs.lemmas.List.{drop_more}
use Rattle.std.proofs.lemmas.Result.{err_from_is_err_and}
use Rattle.ode_language.specs.Languages.{ode}
use Rattle.ode_opening.specs.Trees.{tree_next, trees_of}
use Rattle.ode_passes.specs.Complete.{class_count}
use Rattle.ode_passes.specs.Records.{Found}
use Rattle.ode_passes.specs.Rules.{through}
use Rattle.ode_value.specs.declared.statement.ClassDecl.{ClassDecl}
use Rattle.ode_opening.proofs.Grown.{grows_no_more, grows_on}
use Rattle.ode_opening.proofs.trees.trees_of.Goals as goal

pub returns-in_err-at-clause-meant : goal.returns-in_err-at-clause-meant
unfolding trees_of
returns-in_err-at-clause-meant c =
    let records = c.args.records.now in
    let i = c.loop-found.found-index in
    let item = c.found-item.result in
    let start : List ClassDecl × Found = (c.loop-found.trees, drop c.loop-found.at records) in
    let all = through (tree_next ode) ([], drop (class_count records) records) records in
    let split : drop i records ≡ item ∷ drop (i + 1) records =
    drop_more records i item c.loop-found-test.true ∙ ap (λ f. f ∷ drop (i + 1) records) (sym c.found-item.is) in
    let p = err_from_is_err_and c.from_residual.result c.from_residual.ensures.1 in
    rw (p.1, p.2)
    (grows_no_more (tree_next ode) records start c.next_tree.new.trees item (drop (i + 1) records) all c.in_err-at.field-0.0 c.in_err-at.ensures.meant
    (ap (λ (fs : Found). through (tree_next ode) start fs) (sym split) ∙ c.loop-found.invariant))

pub loop-found-preserved : goal.loop-found-preserved
loop-found-preserved c =
    let records = c.args.records.now in
    let i = c.loop-found.found-index in
    let item = c.found-item.result in
    let start : List ClassDecl × Found = (c.loop-found.trees, drop c.loop-found.at records) in
    let all = through (tree_next ode) ([], drop (class_count records) records) records in
    let split : drop i records ≡ item ∷ drop (i + 1) records =
    drop_more records i item c.loop-found-test.true ∙ ap (λ f. f ∷ drop (i + 1) records) (sym c.found-item.is) in
    grows_on (tree_next ode) records start c.next_tree.new.trees c.in_ok-at.at item (drop (i + 1) records) all c.in_ok-at.ensures.meant
    (ap (λ (fs : Found). through (tree_next ode) start fs) (sym split) ∙ c.loop-found.invariant)
