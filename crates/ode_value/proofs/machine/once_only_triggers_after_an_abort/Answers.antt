use Rattle.std.proofs.Common.{refl}
use Rattle.std.specs.Prelude.{None}
use Rattle.ode_value.specs.declared.event.EventExpr.TheVariants as v
use Rattle.ode_value.specs.Limits.{cascade_limit}
use Rattle.ode_value.specs.MachineExamples.{before_m}
use Rattle.ode_value.specs.Posting.{posts, treats}
use Rattle.ode_value.specs.Settling.{posted, transaction}
use Rattle.ode_value.proofs.LeafLaws.{leaves-at}
use Rattle.ode_value.proofs.PointLaws.{points-at}
use Rattle.ode_value.proofs.machine.once_only_triggers_after_an_abort.Goals as goal

pub returns-clause-fires : goal.returns-clause-fires
unfolding posts treats cascade_limit
returns-clause-fires c = rw (points-at _ _ (v.outs-Leaf before_m None), leaves-at _ _ (v.outs-Leaf before_m None)) refl

pub returns-clause-off : goal.returns-clause-off
unfolding posts treats cascade_limit
returns-clause-off c = rw (points-at _ _ (v.outs-Leaf before_m None), leaves-at _ _ (v.outs-Leaf before_m None)) refl

pub returns-clause-aborted : goal.returns-clause-aborted
unfolding posts treats cascade_limit posted transaction
returns-clause-aborted c = rw (points-at _ _ (v.outs-Leaf before_m None), leaves-at _ _ (v.outs-Leaf before_m None)) refl

pub returns-clause-again : goal.returns-clause-again
unfolding posts treats cascade_limit
returns-clause-again c = rw (points-at _ _ (v.outs-Leaf before_m None), leaves-at _ _ (v.outs-Leaf before_m None)) refl
