use Rattle.std.proofs.Common.{refl, arith}
use Rattle.std.proofs.lemmas.Fmt.{decimal_digit}
use Rattle.std.specs.Prelude.{None}
use Rattle.ode_value.specs.Executing.{deeper, outermost}
use Rattle.ode_value.specs.declared.event.EventExpr.TheVariants as v
use Rattle.ode_value.specs.Limits.{depth_limit, output_limit}
use Rattle.ode_value.specs.MachineExamples.{before_m}
use Rattle.ode_value.specs.Posting.{posts, runs, touches, treats}
use Rattle.ode_value.specs.Statements.{calls_inside}
use Rattle.ode_value.proofs.LeafLaws.{leaves-at}
use Rattle.ode_value.proofs.PointLaws.{points-at}
use Rattle.ode_value.proofs.machine.actions_at_the_last_level.Goals as goal

pub returns-clause-outermost : goal.returns-clause-outermost
unfolding outermost deeper depth_limit
returns-clause-outermost c = refl

pub returns-clause-last : goal.returns-clause-last
unfolding deeper
returns-clause-last c = refl

pub returns-clause-reason : goal.returns-clause-reason
unfolding calls_inside touches posts treats runs output_limit
returns-clause-reason c = rw (points-at _ _ (v.outs-Leaf before_m None), leaves-at _ _ (v.outs-Leaf before_m None), decimal_digit 1 (omega arith)) refl

pub returns-clause-text : goal.returns-clause-text
unfolding calls_inside touches posts treats runs output_limit
returns-clause-text c = rw (points-at _ _ (v.outs-Leaf before_m None), leaves-at _ _ (v.outs-Leaf before_m None), decimal_digit 1 (omega arith)) refl
