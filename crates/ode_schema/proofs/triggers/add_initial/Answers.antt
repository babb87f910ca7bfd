use Rattle.std.proofs.Common.{List, ap, sym, ◌∙◌, arith, get_or, length}
use Rattle.std.specs.Prelude.{slice_get}
use Rattle.std.proofs.lemmas.Option.{slice_get-get_or}
use Rattle.ode_value.specs.declared.member.TriggerDecl.{TriggerDecl}
use Rattle.ode_schema.proofs.OwnTriggers.{initial_done, initial_in, initial_out}
use Rattle.ode_schema.proofs.triggers.add_initial.Goals as goal
use Rattle.ode_schema.proofs.triggers.add_initial.Goals.{then-triggers-place+in_ok-push, else-triggers-place}

pub loop-place-preserved : goal.loop-place-preserved
loop-place-preserved c =
    let place = c.loop-place.place in
    let t = get_or c.as_slice-triggers.result.now place c.index-triggers-place.result in
    let read = slice_get-get_or c.as_slice-triggers.result.now place c.index-triggers-place.result c.loop-place-test.true in
    let at = sym (ap (λ (l : List TriggerDecl). slice_get l place) c.as_slice-triggers.ensures) ∙ read in
    elim c.if-triggers-place.branch [
      | then-triggers-place+in_ok-push w ↦ initial_in c.args.class.now place t at c.loop-place.found c.if-triggers-place.found _ w.if-triggers-place.true (w.found-is ∙ w.in_ok-push.ensures.ok) c.loop-place.invariant
      | else-triggers-place w ↦ initial_out c.args.class.now place t at c.loop-place.found c.if-triggers-place.found _ w.if-triggers-place.false w.found-is c.loop-place.invariant
    ]

pub returns : goal.returns
returns c =
    let many = ap (λ (l : List TriggerDecl). length l) c.as_slice-triggers.ensures in
    initial_done c.args.class.now c.loop-place.place (omega (arith, many, c.loop-place-test.false)) c.loop-place.found _ c.loop-place.invariant
