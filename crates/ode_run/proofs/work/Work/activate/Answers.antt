use Rattle.std.proofs.Common.{rules, sym, ◌∙◌, subst}
use Rattle.ode_interpreter.specs.Seen.{Ends}
use Rattle.ode_laws.specs.Alike.{NumberTx}
use Rattle.ode_run.proofs.MakeLaws.{not_classed, of_class, same_tx}
use Rattle.ode_run.proofs.work.Work.activate.Goals as goal
use Rattle.ode_run.specs.Knowing.{tx}
use Rattle.ode_value.specs.Pasts.{numbers}
use Rattle.ode_value.specs.Statements.{switches_on_named}

pub returns-clause-acts : goal.returns-clause-acts
returns-clause-acts g c = λ all k tables fits same holds.
    let is = c.in_ok-class.ensures.acts all k (c.classes.ensures ∙ same) holds in
    subst (λ (y : NumberTx). Ends c.activate_of.result (tx all k c.activate_of.new.self) (switches_on_named (numbers tables) c.args.of c.args.name.now c.args.args y)) (sym (same_tx _ _ c.args.of.object c.in_ok-class.class is))
    (c.activate_of.ensures.acts all k tables fits same (c.in_ok-class.ensures.kept k (c.classes.ensures ∙ same) holds) (of_class _ _ c.args.of.object c.in_ok-class.class is))

pub returns-clause-kept : goal.returns-clause-kept
returns-clause-kept g c = λ k same holds.
    let all = k.first.bones.classes in
    let is = c.in_ok-class.ensures.acts all k (c.classes.ensures ∙ same) holds in
    c.activate_of.ensures.kept all k (sym same) same (c.in_ok-class.ensures.kept k (c.classes.ensures ∙ same) holds) (of_class _ _ c.args.of.object c.in_ok-class.class is)

pub returns-in_err-class-clause-acts : goal.returns-in_err-class-clause-acts
returns-in_err-class-clause-acts g c = λ all k tables fits same holds.
    not_classed tables c.args.of c.args.name.now c.args.args (tx all k c.args.self.now) (tx all k c.class_of.new.self) c.class_of.result c.from_residual.result c.in_err-class.field-0.0
    (c.class_of.ensures.acts all k (c.classes.ensures ∙ same) holds) (search rules) (search rules)

pub returns-clause-lent : goal.returns-clause-lent
returns-clause-lent g c = λ k lent. c.activate_of.ensures.lent k (c.class_of.ensures.lent k lent)
