use Rattle.std.proofs.Common.{◌≡◌, Bool, List, length, map, ap, sym, ◌∙◌, subst, Some, None}
use Rattle.std.specs.Prelude.{All}
use Rattle.std.specs.List.{range_with_len}
use Rattle.ode_value.specs.TreeCount.{symbol_marks}
use Rattle.ode_value.specs.Symbols.{mark_among, size_of}
use Rattle.ode_trees.specs.Found.{IsAnswer, IsReached}
use Rattle.ode_trees.specs.ListMachines.{condition_count}
use Rattle.ode_table.specs.Built.{IsBuilt}
use Rattle.ode_table.proofs.BuiltLaws.{marks_in, lists-length, lists-in, lists-of, marks_in-length, size-of, over-own, built-means}
use Rattle.ode_table.proofs.RunLaws.{whole, built}
use Rattle.ode_table.proofs.building.build.Goals as goal

pub reach-requires-clause-whole : goal.reach-requires-clause-whole
reach-requires-clause-whole c =
    subst (λ lists. All (λ (list : List Bool). length list ≡ condition_count c.args.e.now) lists) (sym (c.as_slice.ensures ∙ c.in_ok-marks.ensures))
    (lists-length c.args.e.now (mark_among c.args.a.now) (range_with_len 0 (size_of c.args.a.now)))

pub table_of-requires-clause-fits : goal.table_of-requires-clause-fits
table_of-requires-clause-fits c =
    let e = c.args.e.now in
    let a = c.args.a.now in
    let lists = c.as_slice.ensures ∙ c.in_ok-marks.ensures ∙ lists-in e a in
    let reached : IsReached e (marks_in a) c.in-Some.reached = subst (λ o. IsAnswer e (marks_in a) o) c.in-Some.is (c.in_ok-reached.ensures.answer (marks_in a) lists) in
    whole e (marks_in a) c.in-Some.reached c.size.result (c.size.ensures.value ∙ marks_in-length a) reached

pub returns-in-Some-clause-built : goal.returns-in-Some-clause-built
returns-in-Some-clause-built c = λ of over.
    let e = c.args.e.now in
    let a = c.args.a.now in
    let lists = c.as_slice.ensures ∙ c.in_ok-marks.ensures ∙ lists-of e of a over in
    let reached : IsReached e (symbol_marks of) c.in-Some.reached = subst (λ o. IsAnswer e (symbol_marks of) o) c.in-Some.is (c.in_ok-reached.ensures.answer (symbol_marks of) lists) in
    subst (IsBuilt e of) (sym c.in_ok-table_of-in-Some.ensures) (built e of c.in-Some.reached c.size.result (c.size.ensures.value ∙ size-of e of a over) reached)

pub returns-in-Some-clause-means : goal.returns-in-Some-clause-means
returns-in-Some-clause-means c = λ own.
    built-means c.args.e.now c.in_ok-table_of-in-Some.field-0 (returns-in-Some-clause-built c c.args.e.now (over-own c.args.e.now c.args.a.now own))

pub returns-in-Some-clause-count : goal.returns-in-Some-clause-count
returns-in-Some-clause-count c = λ own.
    let is : IsBuilt c.args.e.now c.args.e.now c.in_ok-table_of-in-Some.field-0 = returns-in-Some-clause-built c c.args.e.now (over-own c.args.e.now c.args.a.now own) in
    is.states

pub returns-clause-refused : goal.returns-clause-refused
returns-clause-refused c = λ of over.
    let e = c.args.e.now in
    let a = c.args.a.now in
    let lists = c.as_slice.ensures ∙ c.in_ok-marks.ensures ∙ lists-of e of a over in
    subst (λ o. IsAnswer e (symbol_marks of) o) c.in-None.is (c.in_ok-reached.ensures.answer (symbol_marks of) lists)
