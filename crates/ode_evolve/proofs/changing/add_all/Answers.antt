use Rattle.std.proofs.Common.{◌++◌, ◌+◌, ap, ◌∙◌, arith}
use Rattle.ode_evolve.specs.Evolving.{born}
use Rattle.ode_evolve.proofs.Births.{born_all, born_next}
use Rattle.ode_evolve.proofs.changing.add_all.Goals as goal

pub loop-field-preserved : goal.loop-field-preserved
loop-field-preserved c =
    born_next c.args.class (c.args.all.now ++ born c.args.class c.args.all.now c.args.fields.now) c.loop-field.all c.push.new.self c.args.fields.now c.loop-field.field-index
    c.in_ok-birth.birth c.field-item.result c.in_ok-made.made c.loop-field-test.true c.field-item.is c.loop-field.invariant (c.in_ok-birth.ensures ∙ ap (λ n. n + 1) c.len.ensures) c.in_ok-made.ensures
    c.in_ok-push.ensures.ok

pub returns : goal.returns
returns c =
    born_all c.args.class (c.args.all.now ++ born c.args.class c.args.all.now c.args.fields.now) c.loop-field.all c.args.fields.now c.loop-field.field-index (omega arith)
    c.loop-field.invariant
