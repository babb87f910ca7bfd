-- The machine of an expression answers at each position of a history as the expression's points say.
use Rattle.std.proofs.Common.{◌≡◌, ◌-◌, ◌<◌, true, List, [], ◌∷◌, length, drop, ap, sym, ◌∙◌, arith, ltb}
use Rattle.std.specs.Prelude.{◌&&◌}
use Rattle.std.proofs.lemmas.Bool.{lt-ltb}
use Rattle.ode_value.specs.declared.event.EventExpr.{EventExpr, Leaf, Any, First, Not', And', Or', Relative', Prior', Sequence', Choose', Every', Fa', RelPlus', Pipe', FaAbs', Masked', more_of-EventExpr, end_of-EventExpr}
use Rattle.ode_value.specs.declared.event.EventExpr.TheVariants as v
use Rattle.ode_value.specs.declared.event.EventExpr.TheBlock.{hidden-the_row-EventExpr-0}
use denote.Hole.Carrier.{hidden}
use Rattle.ode_value.specs.Marks.{Mark}
use Rattle.ode_value.specs.Points.{points, fires, picked}
use Rattle.ode_value.specs.Trees.{machine, answers, tree_after}
use Rattle.ode_value.proofs.PointLaws.{points-at}
use Rattle.ode_trees.proofs.After.{tree_after-after}
use Rattle.ode_trees.proofs.MachineLaws.{machine-at}
use Rattle.ode_trees.proofs.Steps.{Runs, runs_leaf, runs_any, runs_first, runs_not, runs_and, runs_or, runs_prior, runs_sequence, runs_choose, runs_every, runs_masked}
use Rattle.ode_trees.proofs.Started.{runs_relative}
use Rattle.ode_trees.proofs.Chains.{runs_relplus}
use Rattle.ode_trees.proofs.Pipes.{runs_pipe}
use Rattle.ode_trees.proofs.Waiting.{runs_faabs}
use Rattle.ode_trees.proofs.PairSets.{runs_fa}

pub runs : (e : EventExpr) (m : List Mark) → Runs (machine e) (points e) m
unfolding hidden-the_row-EventExpr-0 hidden
runs (Leaf k x) m = rw (machine-at _ _ (v.outs-Leaf k x), points-at _ _ (v.outs-Leaf k x)) (runs_leaf m k x)
runs Any m = rw (machine-at _ _ v.outs-Any, points-at _ _ v.outs-Any) (runs_any m)
runs First m = rw (machine-at _ _ v.outs-First, points-at _ _ v.outs-First) (runs_first m)
runs (Not' s (more_of-EventExpr e end_of-EventExpr)) m = rw (machine-at _ _ (v.outs-Not e), points-at _ _ (v.outs-Not e)) (runs_not m (machine e) (points e) (runs e m))
runs (And' s (more_of-EventExpr e end_of-EventExpr) t (more_of-EventExpr f end_of-EventExpr)) m =
    rw (machine-at _ _ (v.outs-And e f), points-at _ _ (v.outs-And e f)) (runs_and m (machine e) (machine f) (points e) (points f) (runs e m) (runs f m))
runs (Or' s (more_of-EventExpr e end_of-EventExpr) t (more_of-EventExpr f end_of-EventExpr)) m =
    rw (machine-at _ _ (v.outs-Or e f), points-at _ _ (v.outs-Or e f)) (runs_or m (machine e) (machine f) (points e) (points f) (runs e m) (runs f m))
runs (Prior' s (more_of-EventExpr e end_of-EventExpr) t (more_of-EventExpr f end_of-EventExpr)) m =
    rw (machine-at _ _ (v.outs-Prior e f), points-at _ _ (v.outs-Prior e f)) (runs_prior m (machine e) (machine f) (points e) (points f) (runs e m) (runs f m))
runs (Sequence' s (more_of-EventExpr e end_of-EventExpr) t (more_of-EventExpr f end_of-EventExpr)) m =
    rw (machine-at _ _ (v.outs-Sequence e f), points-at _ _ (v.outs-Sequence e f)) (runs_sequence m (machine e) (machine f) (points e) (points f) (runs e m) (runs f m))
runs (Relative' s (more_of-EventExpr e end_of-EventExpr) t (more_of-EventExpr f end_of-EventExpr)) m =
    rw (machine-at _ _ (v.outs-Relative e f), points-at _ _ (v.outs-Relative e f)) (runs_relative m (machine e) (machine f) (points e) (points f) (runs e m) (λ k. runs f (drop k m)))
runs (Choose' n s (more_of-EventExpr e end_of-EventExpr)) m = rw (machine-at _ _ (v.outs-Choose n e), points-at _ _ (v.outs-Choose n e)) (runs_choose m (machine e) (points e) n (runs e m))
runs (Every' n s (more_of-EventExpr e end_of-EventExpr)) m = rw (machine-at _ _ (v.outs-Every n e), points-at _ _ (v.outs-Every n e)) (runs_every m (machine e) (points e) n (runs e m))
runs (Fa' s (more_of-EventExpr e end_of-EventExpr) t (more_of-EventExpr f end_of-EventExpr) u (more_of-EventExpr g end_of-EventExpr)) m =
    rw (machine-at _ _ (v.outs-Fa e f g), points-at _ _ (v.outs-Fa e f g))
    (runs_fa m (machine e) (machine f) (machine g) (points e) (points f) (points g) (runs e m) (λ k. runs f (drop k m)) (λ k. runs g (drop k m)))
runs (RelPlus' s (more_of-EventExpr e end_of-EventExpr)) m =
    rw (machine-at _ _ (v.outs-RelPlus e), points-at _ _ (v.outs-RelPlus e)) (runs_relplus m (machine e) (points e) (runs e m) (λ k. runs e (drop k m)))
runs (Pipe' s (more_of-EventExpr e end_of-EventExpr) t (more_of-EventExpr f end_of-EventExpr)) m =
    rw (machine-at _ _ (v.outs-Pipe e f), points-at _ _ (v.outs-Pipe e f)) (runs_pipe m (machine e) (machine f) (points e) (points f) (runs e m) (runs f (picked (points e m) m)))
runs (FaAbs' s (more_of-EventExpr e end_of-EventExpr) t (more_of-EventExpr f end_of-EventExpr) u (more_of-EventExpr g end_of-EventExpr)) m =
    rw (machine-at _ _ (v.outs-FaAbs e f g), points-at _ _ (v.outs-FaAbs e f g))
    (runs_faabs m (machine e) (machine f) (machine g) (points e) (points f) (points g) (runs e m) (λ k. runs f (drop k m)) (runs g m))
runs (Masked' s (more_of-EventExpr e end_of-EventExpr) x) m = rw (machine-at _ _ (v.outs-Masked e x), points-at _ _ (v.outs-Masked e x)) (runs_masked m (machine e) (points e) x (runs e m))

-- after any history the tree answers whether the expression fires on it
pub answers-fires : (e : EventExpr) (m : List Mark) → answers e (tree_after e m) ≡ fires e m
answers-fires e [] = (runs e []).none
answers-fires e (x ∷ m) =
    let n = length m in
    let within : n < length (x ∷ m) = omega arith in
    let some : ltb 0 (length (x ∷ m)) ≡ true = lt-ltb 0 (length (x ∷ m)) (omega arith) in
    let last : length (x ∷ m) - 1 ≡ n = omega arith in
    ap (answers e) (tree_after-after e (x ∷ m))
    ∙ (runs e (x ∷ m)).each n within
    ∙ sym (ap (λ b. b && points e (x ∷ m) (length (x ∷ m) - 1)) some ∙ ap (points e (x ∷ m)) last)
