use Rattle.std.proofs.Common.{sym}
use Rattle.ode_schema.proofs.OwnTriggers.{named_along}
use Rattle.ode_schema.proofs.triggers.named_of.Goals as goal

pub returns-in-Some-own_named : goal.returns-in-Some-own_named
returns-in-Some-own_named c =
    sym (named_along c.args.name.now c.in-Some.class.now c.next.new.self c.loop-class.family _ _ c.loop-class.invariant c.in-Some.ensures.next c.in-Some-own_named.ensures)

pub loop-class-preserved : goal.loop-class-preserved
loop-class-preserved c =
    named_along c.args.name.now c.in-Some.class.now c.next.new.self c.loop-class.family _ _ c.loop-class.invariant c.in-Some.ensures.next c.in_default-own_named.ensures
