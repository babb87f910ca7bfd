use Rattle.std.proofs.Common.{◌≡◌, ◌+◌, ◌++◌, ◌∷◌, [], List, Some, drop, take, sym, ap, ◌∙◌, arith}
use Rattle.std.specs.Prelude.{slice_get}
use Rattle.std.proofs.lemmas.List.{drop_all, drop_more, take_more}
use Rattle.std.proofs.lemmas.Option.{slice_get-get_or}
use Rattle.std.proofs.lemmas.Result.{err_from_is_err_and}
use Rattle.ode_passes.specs.Records.{Found}
use Rattle.ode_value.specs.declared.change.Added.{Added}
use Rattle.ode_opening.specs.Births.{listed}
use Rattle.ode_opening.proofs.Listing.{lists_all, lists_no_more, lists_on, none_listed, with_listed}
use Rattle.ode_opening.proofs.births.list_added.Goals as goal

pub loop-place-init : goal.loop-place-init
loop-place-init c =
    let m = listed c.args.heads.now c.args.count [] c.args.records.now in
    ap (λ (xs : List Added). with_listed xs m) c.new-list.ensures ∙ none_listed m

pub returns-in_err-added-clause-meant : goal.returns-in_err-added-clause-meant
returns-in_err-added-clause-meant c =
    let records = c.args.records.now in
    let i = c.loop-place.place in
    let item = c.index-records-place.result in
    let all = listed c.args.heads.now c.args.count [] records in
    let split : drop i records ≡ item ∷ drop (i + 1) records =
    drop_more records i item c.loop-place-test.true ∙ ap (λ f. f ∷ drop (i + 1) records) (sym c.index-records-place.is) in
    let there : slice_get records i ≡ Some item = slice_get-get_or records i item c.loop-place-test.true ∙ ap (λ f. Some f) (sym c.index-records-place.is) in
    let so_far = ap (λ (fs : Found). with_listed c.loop-place.list (listed c.args.heads.now c.args.count (take i records) fs)) (sym split) ∙ c.loop-place.invariant in
    let p = err_from_is_err_and c.from_residual.result c.from_residual.ensures.1 in
    rw (p.1, p.2)
    (lists_no_more c.args.heads.now c.args.count (take i records) item (drop (i + 1) records) c.loop-place.list all so_far c.in_err-added.field-0.0
    (c.in_err-added.ensures.meant records c.requires there))

pub loop-place-preserved : goal.loop-place-preserved
loop-place-preserved c =
    let records = c.args.records.now in
    let i = c.loop-place.place in
    let item = c.index-records-place.result in
    let all = listed c.args.heads.now c.args.count [] records in
    let split : drop i records ≡ item ∷ drop (i + 1) records =
    drop_more records i item c.loop-place-test.true ∙ ap (λ f. f ∷ drop (i + 1) records) (sym c.index-records-place.is) in
    let taken : take (i + 1) records ≡ take i records ++ item ∷ [] =
    take_more records i item c.loop-place-test.true ∙ ap (λ f. take i records ++ f ∷ []) (sym c.index-records-place.is) in
    let there : slice_get records i ≡ Some item = slice_get-get_or records i item c.loop-place-test.true ∙ ap (λ f. Some f) (sym c.index-records-place.is) in
    let so_far = ap (λ (fs : Found). with_listed c.loop-place.list (listed c.args.heads.now c.args.count (take i records) fs)) (sym split) ∙ c.loop-place.invariant in
    let on = lists_on c.args.heads.now c.args.count (take i records) item (drop (i + 1) records) c.loop-place.list all so_far c.in_ok-added.added
    (c.in_ok-added.ensures.meant records c.requires there) in
    ap (λ (xs : List Added). with_listed xs (listed c.args.heads.now c.args.count (take (i + 1) records) (drop (i + 1) records))) c.in_ok-push.ensures.ok
    ∙ ap (λ (fs : Found). with_listed (c.loop-place.list ++ c.in_ok-added.added ∷ []) (listed c.args.heads.now c.args.count fs (drop (i + 1) records))) taken
    ∙ on

pub returns-clause-meant : goal.returns-clause-meant
returns-clause-meant c =
    let records = c.args.records.now in
    let i = c.loop-place.place in
    let done : drop i records ≡ [] = drop_all i records (omega arith) in
    lists_all c.args.heads.now c.args.count (take i records) c.loop-place.list (listed c.args.heads.now c.args.count [] records)
    (ap (λ (fs : Found). with_listed c.loop-place.list (listed c.args.heads.now c.args.count (take i records) fs)) (sym done) ∙ c.loop-place.invariant)
