-- The machine of an expression by a known form of it, as clauses name it.
use Rattle.std.proofs.Common.{◌≡◌}
use Rattle.ode_value.specs.declared.event.EventExpr.{EventExpr, fold_out-EventExpr, map-EventExpr, out-EventExpr, the_lemmas}
use Rattle.ode_value.specs.declared.event.EventExpr.TheOpen.{EventExpr-F}
use Rattle.ode_value.specs.Trees.{TreeMachine, machine_of, machine}
use Rattle.ode_value.proofs.PointLaws.{fold-at}

pub machine-at : (e : EventExpr) (level : EventExpr-F EventExpr) → out-EventExpr e ≡ level → machine e ≡ machine_of (map-EventExpr EventExpr TreeMachine machine level)
unfolding machine
machine-at e level is = fold-at machine_of e level is

-- by one level of the expression
pub machine_out : (e : EventExpr) → machine e ≡ machine_of (map-EventExpr EventExpr TreeMachine machine (out-EventExpr e))
unfolding machine
machine_out e = fold_out-EventExpr TreeMachine machine_of e

pub ruleset machines = (the_lemmas, machine_out)
