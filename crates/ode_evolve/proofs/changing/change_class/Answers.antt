use Rattle.std.proofs.Common.{◌≡◌, Some, Err, List, sym, ap, ◌∙◌, subst}
use Rattle.std.proofs.lemmas.Result.{err_from_is_err_and}
use Rattle.ode_value.specs.declared.class.Class.{Class}
use Rattle.ode_types.specs.Answers.{Answers}
use Rattle.ode_types.specs.Checks.{through}
use Rattle.ode_types.proofs.TypingLaws.{stops_left}
use Rattle.ode_evolve.specs.Evolving.{declares_next, place_named}
use Rattle.ode_evolve.proofs.ChangeLaws.{classes_next, fields_stop}
use Rattle.ode_evolve.proofs.changing.change_class.Goals as goal

pub returns-in_err-needs_fields : goal.returns-in_err-needs_fields
returns-in_err-needs_fields c =
    let decls = c.args.decls.now in
    let change = c.args.change.now in
    let found : place_named decls change.class ≡ Some c.in-Some.place = sym (c.in-Some.ensures ∙ ap (λ ds. place_named ds change.class) c.as_slice-written.ensures) in
    let p = err_from_is_err_and c.from_residual-in_err-needs_fields.result c.from_residual-in_err-needs_fields.ensures.1 in
    rw (p.1, p.2) (fields_stop decls c.args.added.now change c.in-Some.place found c.as_slice-written.result.now c.up_to.result.now c.as_slice.result.now c.as_slice-written.ensures
    c.up_to.ensures c.as_slice.ensures c.in_err-needs_fields.field-0.0 c.in_err-needs_fields.ensures)

pub returns-in_err-declare_all : goal.returns-in_err-declare_all
returns-in_err-declare_all c =
    let decls = c.args.decls.now in
    let change = c.args.change.now in
    let found : place_named decls change.class ≡ Some c.in-Some.place = sym (c.in-Some.ensures ∙ ap (λ ds. place_named ds change.class) c.as_slice-written.ensures) in
    let same = classes_next decls c.args.added.now change c.in-Some.place found c.as_slice-written.result.now c.up_to.result.now c.as_slice.result.now c.as_slice-written.ensures
    c.up_to.ensures c.as_slice.ensures c.in_ok-needs_fields.ensures c.new-classes.result c.as_slice-2.result.now c.in_ok-all.all c.in_ok-number.number c.new-classes.ensures
    c.as_slice-2.ensures c.in_ok-all.ensures c.in_ok-number.ensures in
    let stop = c.in_err-declare_all.field-0.0 in
    let p = err_from_is_err_and c.from_residual-in_err-declare_all.result c.from_residual-in_err-declare_all.ensures.1 in
    rw (p.1, p.2) (subst (λ m. Answers {T = List Class} m (Err stop)) same
    (stops_left (through (declares_next c.as_slice-2.result.now) c.new-classes.result c.as_slice-written.result.now) c.declare_all.new.known stop c.in_err-declare_all.ensures))

pub returns : goal.returns
returns c =
    let decls = c.args.decls.now in
    let change = c.args.change.now in
    let found : place_named decls change.class ≡ Some c.in-Some.place = sym (c.in-Some.ensures ∙ ap (λ ds. place_named ds change.class) c.as_slice-written.ensures) in
    let same = classes_next decls c.args.added.now change c.in-Some.place found c.as_slice-written.result.now c.up_to.result.now c.as_slice.result.now c.as_slice-written.ensures
    c.up_to.ensures c.as_slice.ensures c.in_ok-needs_fields.ensures c.new-classes.result c.as_slice-2.result.now c.in_ok-all.all c.in_ok-number.number c.new-classes.ensures
    c.as_slice-2.ensures c.in_ok-all.ensures c.in_ok-number.ensures in
    sym same ∙ c.in_ok-declare_all.ensures
