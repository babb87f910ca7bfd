use Rattle.std.proofs.Common.{◌≡◌, ◌+◌, ◌∷◌, [], List, drop, length, ap, sym, ◌∙◌}
use Rattle.std.proofs.lemmas.List.{drop_more}
use Rattle.std.proofs.lemmas.Result.{err_from_is_err_and}
use Rattle.ode_language.specs.Languages.{ode}
use Rattle.ode_opening.specs.Declaring.{declared_in, declares_next}
use Rattle.ode_passes.specs.Complete.{class_count}
use Rattle.ode_passes.specs.Records.{Found}
use Rattle.ode_passes.specs.Rules.{through}
use Rattle.ode_value.specs.declared.change.Added.{Added}
use Rattle.ode_value.specs.declared.class.Class.{Class}
use Rattle.ode_opening.proofs.Declared.{declares_no_more, declares_on}
use Rattle.ode_opening.proofs.declaring.declare_all.Goals as goal

pub returns-in_err-at-clause-meant : goal.returns-in_err-at-clause-meant
unfolding declared_in
returns-in_err-at-clause-meant c =
    let records = c.args.records.now in
    let i = c.loop-found.found-index in
    let item = c.found-item.result in
    let rest = c.loop-found.rest.now in
    let start : List Class × Found = (c.loop-found.accepted.classes, drop c.loop-found.at records) in
    let all = through (declares_next ode) (([], drop (class_count records) records), c.args.added.now) records in
    let split : drop i records ≡ item ∷ drop (i + 1) records =
    drop_more records i item c.loop-found-test.true ∙ ap (λ f. f ∷ drop (i + 1) records) (sym c.found-item.is) in
    let p = err_from_is_err_and c.from_residual.result c.from_residual.ensures.1 in
    rw (p.1, p.2)
    (declares_no_more records start rest c.own_fields-own.result.0.now c.declare_next.new.accepted.classes item (drop (i + 1) records) all c.own_fields-own.ensures.own
    (ap (λ (fs : Found). through (declares_next ode) (start, rest) fs) (sym split) ∙ c.loop-found.invariant.0) c.in_err-at.field-0.0 c.in_err-at.ensures.meant)

pub loop-found-preserved : goal.loop-found-preserved
loop-found-preserved c =
    let records = c.args.records.now in
    let i = c.loop-found.found-index in
    let item = c.found-item.result in
    let rest = c.loop-found.rest.now in
    let own = c.own_fields-own.result.0.now in
    let start : List Class × Found = (c.loop-found.accepted.classes, drop c.loop-found.at records) in
    let all = through (declares_next ode) (([], drop (class_count records) records), c.args.added.now) records in
    let split : drop i records ≡ item ∷ drop (i + 1) records =
    drop_more records i item c.loop-found-test.true ∙ ap (λ f. f ∷ drop (i + 1) records) (sym c.found-item.is) in
    let behind : c.own_fields-own.result.1.now ≡ drop (length own) rest =
    c.own_fields-own.ensures.behind ∙ ap (λ (mine : List Added). drop (length mine) rest) (sym c.own_fields-own.ensures.own) in (
      declares_on records start rest own c.declare_next.new.accepted.classes item (drop (i + 1) records) all c.own_fields-own.ensures.own
          (ap (λ (fs : Found). through (declares_next ode) (start, rest) fs) (sym split) ∙ c.loop-found.invariant.0) c.in_ok-at.at c.own_fields-own.result.1.now behind c.in_ok-at.ensures.meant,
      c.in_ok-at.ensures.built c.loop-found.invariant.1,
    )
