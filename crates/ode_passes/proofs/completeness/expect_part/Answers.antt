use Rattle.std.proofs.Common.{◌≡◌, ◌+◌, ◌∷◌, drop, ap, sym, ◌∙◌}
use Rattle.std.proofs.lemmas.List.{drop_more}
use Rattle.std.proofs.lemmas.Result.{err_from_is_err_and}
use Rattle.ode_passes.specs.Complete.{keys_of, next_are}
use Rattle.ode_passes.specs.Records.{Found}
use Rattle.ode_passes.proofs.Completing.{part_goes, part_stops}
use Rattle.ode_passes.proofs.completeness.expect_part.Goals as goal

pub returns-in_err-at : goal.returns-in_err-at
returns-in_err-at c =
    let records = c.args.records.now in
    let i = c.loop-found.found-index in
    let item = c.found-item.result in
    let split : drop i records ≡ item ∷ drop (i + 1) records =
    drop_more records i item c.loop-found-test.true ∙ ap (λ f. f ∷ drop (i + 1) records) (sym c.found-item.is) in
    let p = err_from_is_err_and c.from_residual.result c.from_residual.ensures.1 in
    rw (p.1, p.2) (part_stops c.args.part item (drop (i + 1) records) (drop c.loop-found.at records) (next_are (keys_of c.args.part records) (drop c.args.at records))
    c.in_err-at.field-0.0 c.in_err-at.ensures (ap (λ (fs : Found). next_are (keys_of c.args.part fs) (drop c.loop-found.at records)) (sym split) ∙ c.loop-found.invariant))

pub loop-found-preserved : goal.loop-found-preserved
loop-found-preserved c =
    let records = c.args.records.now in
    let i = c.loop-found.found-index in
    let item = c.found-item.result in
    let split : drop i records ≡ item ∷ drop (i + 1) records =
    drop_more records i item c.loop-found-test.true ∙ ap (λ f. f ∷ drop (i + 1) records) (sym c.found-item.is) in
    part_goes c.args.part item (drop (i + 1) records) (drop c.loop-found.at records) (drop c.in_ok-at.at records) (next_are (keys_of c.args.part records) (drop c.args.at records))
    c.in_ok-at.ensures (ap (λ (fs : Found). next_are (keys_of c.args.part fs) (drop c.loop-found.at records)) (sym split) ∙ c.loop-found.invariant)
