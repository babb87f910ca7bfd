use Rattle.std.proofs.Common.{List, ap, sym, ◌∙◌, arith, get_or, length}
use Rattle.std.specs.Prelude.{slice_get}
use Rattle.std.proofs.lemmas.Option.{slice_get-get_or}
use Rattle.ode_value.specs.declared.member.TriggerDecl.{TriggerDecl}
use Rattle.ode_schema.proofs.OwnTriggers.{named_here, named_next, named_nowhere}
use Rattle.ode_schema.proofs.triggers.own_named.Goals as goal

pub returns-then-same : goal.returns-then-same
returns-then-same c =
    let place = c.loop-place.place in
    let t = get_or c.as_slice-triggers.result.now place c.index-triggers-place.result in
    let read = slice_get-get_or c.as_slice-triggers.result.now place c.index-triggers-place.result c.loop-place-test.true in
    let at = sym (ap (λ (l : List TriggerDecl). slice_get l place) c.as_slice-triggers.ensures) ∙ read in
    named_here c.args.class.now place t at c.args.name.now _ (sym c.same.ensures.test ∙ c.if-same.true) c.loop-place.invariant

pub loop-place-preserved : goal.loop-place-preserved
loop-place-preserved c =
    let place = c.loop-place.place in
    let t = get_or c.as_slice-triggers.result.now place c.index-triggers-place.result in
    let read = slice_get-get_or c.as_slice-triggers.result.now place c.index-triggers-place.result c.loop-place-test.true in
    let at = sym (ap (λ (l : List TriggerDecl). slice_get l place) c.as_slice-triggers.ensures) ∙ read in
    named_next c.args.class.now place t at c.args.name.now _ (sym c.same.ensures.test ∙ c.if-same.false) c.loop-place.invariant

pub returns : goal.returns
returns c =
    let many = ap (λ (l : List TriggerDecl). length l) c.as_slice-triggers.ensures in
    named_nowhere c.args.class.now c.loop-place.place (omega (arith, many, c.loop-place-test.false)) c.args.name.now _ c.loop-place.invariant
