use Rattle.std.proofs.Common.{◌≡◌, ◌<◌, ◌∙◌, List, ap, drop, get_or, length, subst}
use Rattle.std.proofs.lemmas.Bool.{OnFalse_at, OnTrue_at}
use Rattle.std.proofs.lemmas.Result.{on_ok_weaker}
use Rattle.std.specs.List.{insert}
use Rattle.ode_keep.specs.Batches.{changes_of}
use Rattle.ode_keep.specs.Placing.{IsFree, IsPlace}
use Rattle.ode_keep.specs.declared.batch.Change.{Change}
use Rattle.ode_keep.proofs.Placing.{come_in, come_over}
use Rattle.ode_keep.proofs.batch.set_change.Goals as goal

pub returns-then-stands_at-clause-ok : goal.returns-then-stands_at-clause-ok
returns-then-stands_at-clause-ok c =
    let d : Change = record { key = c.args.key; value = c.args.value } in
    let at = c.place-at.result in
    let same : c.as_slice-slice.result.now ≡ c.args.changes.now = c.as_slice-slice.ensures in
    ap changes_of c.set.ensures
    ∙ come_over c.args.changes.now c.args.key c.args.value at d
    (subst (λ (l : List Change). IsPlace (changes_of l) c.args.key at) same c.place-at.ensures.place)
    (subst (λ (l : List Change). at < length l) same (OnTrue_at c.if-stands_at.true c.stands_at.ensures.there))
    (subst (λ (l : List Change). (get_or l at d).key ≡ c.args.key) same (OnTrue_at c.if-stands_at.true c.stands_at.ensures.same d))

pub returns-clause-ok : goal.returns-clause-ok
returns-clause-ok c =
    let at = c.place-at.result in
    let same : c.as_slice-slice.result.now ≡ c.args.changes.now = c.as_slice-slice.ensures in
    on_ok_weaker c.insert.result
    (λ (is : c.insert.new.self ≡ insert c.args.changes.now at (record { key = c.args.key; value = c.args.value })).
    ap changes_of is
    ∙ come_in c.args.changes.now c.args.key c.args.value at
    (subst (λ (l : List Change). IsPlace (changes_of l) c.args.key at) same c.place-at.ensures.place)
    (subst (λ (l : List Change). IsFree (drop at (changes_of l)) c.args.key) same (OnFalse_at c.if-stands_at.false c.stands_at.ensures.free)))
    c.insert.ensures.ok
