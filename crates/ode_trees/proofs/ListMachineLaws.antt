-- Steps over lists of truths are those over the marks that the lists spell.
use Rattle.std.proofs.Common.{◌≡◌, ℕ, suc, ◌+◌, Bool, true, false, List, [], ◌∷◌, ◌++◌, length, map, refl, ap, sym, ◌∙◌, subst, arith, length-append, append_assoc, IfOk, Ok, Err, Result}
use Rattle.std.proofs.lemmas.List.{append-nil, length-map}
use Rattle.std.specs.declared.alloc.AllocError.{AllocError}
use Rattle.std.specs.Prelude.{◌&&◌, ◌||◌, not, cond, filter, Option, slice_index_or}
use Rattle.std.specs.List.{list_any}
use Rattle.ode_value.specs.declared.event.EventExpr.{EventExpr, Leaf, Any, First, Not', And', Or', Relative', Prior', Sequence', Choose', Every', Fa', RelPlus', Pipe', FaAbs', Masked', more_of-EventExpr, end_of-EventExpr, fold_out-EventExpr, map-EventExpr, out-EventExpr, the_lemmas}
use Rattle.ode_value.specs.declared.event.EventExpr.TheBlock.{hidden-the_row-EventExpr-0}
use Rattle.ode_value.specs.declared.event.EventExpr.TheVariants as v
use Rattle.ode_value.specs.declared.event.EventExpr.TheOpen as o
use denote.Hole.Carrier.{hidden}
use Rattle.ode_value.specs.declared.event.Kind.{Kind}
use Rattle.ode_value.specs.declared.statement.Expr.{Expr}
use Rattle.ode_value.specs.declared.tree.StateTree.{StateTree}
use Rattle.ode_value.specs.declared.tree.StateTree.TheVariants as tree
use Rattle.ode_value.specs.Marks.{Mark, OfEvent, OfLeaf, composite_masks, leaves, spelled}
use Rattle.ode_value.specs.Marks as marks
use Rattle.ode_value.specs.TreeOrder.{tree_cmp, pair_cmp, joined, all_joined}
use Rattle.ode_value.specs.Trees.{TreeMachine, machine_of, machine, first_tree, next_tree, answers, left, right, bit, count, started, pairs, next_count, next_turn, with_first, is_spent}
use Rattle.ode_value.proofs.LeafLaws.{leaves-at, masks-at, numbers_out}
use Rattle.ode_value.proofs.PointLaws.{fold-at}
use Rattle.ode_trees.specs.ListMachines.{ListMachine, list_machine_of, list_machine, leaf_count, mask_count, past, start, next_listed, pair_next, pairs_after, unanswered_after}
use Rattle.ode_trees.specs.declared.cursor.Cursor.{Cursor}
use Rattle.ode_trees.proofs.MachineLaws.{machine-at}

-- the machine over lists by a known form of the expression, and by one level of it
list_machine-at : (e : EventExpr) (level : o.EventExpr-F EventExpr) → out-EventExpr e ≡ level → list_machine e ≡ list_machine_of (map-EventExpr EventExpr ListMachine list_machine level)
unfolding list_machine
list_machine-at e level is = fold-at list_machine_of e level is

pub list_machine_out : (e : EventExpr) → list_machine e ≡ list_machine_of (map-EventExpr EventExpr ListMachine list_machine (out-EventExpr e))
unfolding list_machine
list_machine_out e = fold_out-EventExpr ListMachine list_machine_of e

abbrev machine_in : ListMachine → TreeMachine
machine_in l = l.of

-- each has the machine of the expression
pub list_machine-of : (e : EventExpr) → (list_machine e).of ≡ machine e
unfolding hidden-the_row-EventExpr-0 hidden
list_machine-of (Leaf k x) = ap machine_in (list_machine-at _ _ (v.outs-Leaf k x)) ∙ sym (machine-at _ _ (v.outs-Leaf k x))
list_machine-of Any = ap machine_in (list_machine-at _ _ v.outs-Any) ∙ sym (machine-at _ _ v.outs-Any)
list_machine-of First = ap machine_in (list_machine-at _ _ v.outs-First) ∙ sym (machine-at _ _ v.outs-First)
list_machine-of (Not' s (more_of-EventExpr e end_of-EventExpr)) = ap machine_in (list_machine-at _ _ (v.outs-Not e)) ∙ (λ i. machine_of (o.Not (list_machine-of e i))) ∙ sym (machine-at _ _ (v.outs-Not e))
list_machine-of (And' s (more_of-EventExpr e end_of-EventExpr) t (more_of-EventExpr f end_of-EventExpr)) = ap machine_in (list_machine-at _ _ (v.outs-And e f)) ∙ (λ i. machine_of (o.And (list_machine-of e i) (list_machine-of f i))) ∙ sym (machine-at _ _ (v.outs-And e f))
list_machine-of (Or' s (more_of-EventExpr e end_of-EventExpr) t (more_of-EventExpr f end_of-EventExpr)) = ap machine_in (list_machine-at _ _ (v.outs-Or e f)) ∙ (λ i. machine_of (o.Or (list_machine-of e i) (list_machine-of f i))) ∙ sym (machine-at _ _ (v.outs-Or e f))
list_machine-of (Relative' s (more_of-EventExpr e end_of-EventExpr) t (more_of-EventExpr f end_of-EventExpr)) = ap machine_in (list_machine-at _ _ (v.outs-Relative e f)) ∙ (λ i. machine_of (o.Relative (list_machine-of e i) (list_machine-of f i))) ∙ sym (machine-at _ _ (v.outs-Relative e f))
list_machine-of (Prior' s (more_of-EventExpr e end_of-EventExpr) t (more_of-EventExpr f end_of-EventExpr)) = ap machine_in (list_machine-at _ _ (v.outs-Prior e f)) ∙ (λ i. machine_of (o.Prior (list_machine-of e i) (list_machine-of f i))) ∙ sym (machine-at _ _ (v.outs-Prior e f))
list_machine-of (Sequence' s (more_of-EventExpr e end_of-EventExpr) t (more_of-EventExpr f end_of-EventExpr)) = ap machine_in (list_machine-at _ _ (v.outs-Sequence e f)) ∙ (λ i. machine_of (o.Sequence (list_machine-of e i) (list_machine-of f i))) ∙ sym (machine-at _ _ (v.outs-Sequence e f))
list_machine-of (Choose' n s (more_of-EventExpr e end_of-EventExpr)) = ap machine_in (list_machine-at _ _ (v.outs-Choose n e)) ∙ (λ i. machine_of (o.Choose n (list_machine-of e i))) ∙ sym (machine-at _ _ (v.outs-Choose n e))
list_machine-of (Every' n s (more_of-EventExpr e end_of-EventExpr)) = ap machine_in (list_machine-at _ _ (v.outs-Every n e)) ∙ (λ i. machine_of (o.Every n (list_machine-of e i))) ∙ sym (machine-at _ _ (v.outs-Every n e))
list_machine-of (Fa' s (more_of-EventExpr e end_of-EventExpr) t (more_of-EventExpr f end_of-EventExpr) u (more_of-EventExpr g end_of-EventExpr)) = ap machine_in (list_machine-at _ _ (v.outs-Fa e f g)) ∙ (λ i. machine_of (o.Fa (list_machine-of e i) (list_machine-of f i) (list_machine-of g i))) ∙ sym (machine-at _ _ (v.outs-Fa e f g))
list_machine-of (RelPlus' s (more_of-EventExpr e end_of-EventExpr)) = ap machine_in (list_machine-at _ _ (v.outs-RelPlus e)) ∙ (λ i. machine_of (o.RelPlus (list_machine-of e i))) ∙ sym (machine-at _ _ (v.outs-RelPlus e))
list_machine-of (Pipe' s (more_of-EventExpr e end_of-EventExpr) t (more_of-EventExpr f end_of-EventExpr)) = ap machine_in (list_machine-at _ _ (v.outs-Pipe e f)) ∙ (λ i. machine_of (o.Pipe (list_machine-of e i) (list_machine-of f i))) ∙ sym (machine-at _ _ (v.outs-Pipe e f))
list_machine-of (FaAbs' s (more_of-EventExpr e end_of-EventExpr) t (more_of-EventExpr f end_of-EventExpr) u (more_of-EventExpr g end_of-EventExpr)) = ap machine_in (list_machine-at _ _ (v.outs-FaAbs e f g)) ∙ (λ i. machine_of (o.FaAbs (list_machine-of e i) (list_machine-of f i) (list_machine-of g i))) ∙ sym (machine-at _ _ (v.outs-FaAbs e f g))
list_machine-of (Masked' s (more_of-EventExpr e end_of-EventExpr) x) = ap machine_in (list_machine-at _ _ (v.outs-Masked e x)) ∙ (λ i. machine_of (o.Masked (list_machine-of e i) x)) ∙ sym (machine-at _ _ (v.outs-Masked e x))

-- how many leaves and masks each form has
abbrev leaves_in : ListMachine → ℕ
leaves_in l = l.leaves

abbrev masks_in : ListMachine → ℕ
masks_in l = l.masks

pub count-Leaf : (k : Kind) (x : Option Expr) → leaf_count (v.Leaf k x) ≡ 1
count-Leaf k x = ap leaves_in (list_machine-at _ _ (v.outs-Leaf k x))

pub count-Any : leaf_count v.Any ≡ 0
count-Any = ap leaves_in (list_machine-at _ _ v.outs-Any)

pub count-First : leaf_count v.First ≡ 0
count-First = ap leaves_in (list_machine-at _ _ v.outs-First)

pub count-Not : (e : EventExpr) → leaf_count (v.Not e) ≡ leaf_count e
count-Not e = ap leaves_in (list_machine-at _ _ (v.outs-Not e))

pub count-And : (e f : EventExpr) → leaf_count (v.And e f) ≡ leaf_count e + leaf_count f
count-And e f = ap leaves_in (list_machine-at _ _ (v.outs-And e f))

pub count-Or : (e f : EventExpr) → leaf_count (v.Or e f) ≡ leaf_count e + leaf_count f
count-Or e f = ap leaves_in (list_machine-at _ _ (v.outs-Or e f))

pub count-Relative : (e f : EventExpr) → leaf_count (v.Relative e f) ≡ leaf_count e + leaf_count f
count-Relative e f = ap leaves_in (list_machine-at _ _ (v.outs-Relative e f))

pub count-RelPlus : (e : EventExpr) → leaf_count (v.RelPlus e) ≡ leaf_count e
count-RelPlus e = ap leaves_in (list_machine-at _ _ (v.outs-RelPlus e))

pub count-Prior : (e f : EventExpr) → leaf_count (v.Prior e f) ≡ leaf_count e + leaf_count f
count-Prior e f = ap leaves_in (list_machine-at _ _ (v.outs-Prior e f))

pub count-Sequence : (e f : EventExpr) → leaf_count (v.Sequence e f) ≡ leaf_count e + leaf_count f
count-Sequence e f = ap leaves_in (list_machine-at _ _ (v.outs-Sequence e f))

pub count-Pipe : (e f : EventExpr) → leaf_count (v.Pipe e f) ≡ leaf_count e + leaf_count f
count-Pipe e f = ap leaves_in (list_machine-at _ _ (v.outs-Pipe e f))

pub count-Choose : (n : ℕ) (e : EventExpr) → leaf_count (v.Choose n e) ≡ leaf_count e
count-Choose n e = ap leaves_in (list_machine-at _ _ (v.outs-Choose n e))

pub count-Every : (n : ℕ) (e : EventExpr) → leaf_count (v.Every n e) ≡ leaf_count e
count-Every n e = ap leaves_in (list_machine-at _ _ (v.outs-Every n e))

pub count-Fa : (e f g : EventExpr) → leaf_count (v.Fa e f g) ≡ leaf_count e + leaf_count f + leaf_count g
count-Fa e f g = ap leaves_in (list_machine-at _ _ (v.outs-Fa e f g))

pub count-FaAbs : (e f g : EventExpr) → leaf_count (v.FaAbs e f g) ≡ leaf_count e + leaf_count f + leaf_count g
count-FaAbs e f g = ap leaves_in (list_machine-at _ _ (v.outs-FaAbs e f g))

pub count-Masked : (e : EventExpr) (x : Expr) → leaf_count (v.Masked e x) ≡ leaf_count e
count-Masked e x = ap leaves_in (list_machine-at _ _ (v.outs-Masked e x))

pub masks-Leaf : (k : Kind) (x : Option Expr) → mask_count (v.Leaf k x) ≡ 0
masks-Leaf k x = ap masks_in (list_machine-at _ _ (v.outs-Leaf k x))

pub masks-Any : mask_count v.Any ≡ 0
masks-Any = ap masks_in (list_machine-at _ _ v.outs-Any)

pub masks-First : mask_count v.First ≡ 0
masks-First = ap masks_in (list_machine-at _ _ v.outs-First)

pub masks-Not : (e : EventExpr) → mask_count (v.Not e) ≡ mask_count e
masks-Not e = ap masks_in (list_machine-at _ _ (v.outs-Not e))

pub masks-And : (e f : EventExpr) → mask_count (v.And e f) ≡ mask_count e + mask_count f
masks-And e f = ap masks_in (list_machine-at _ _ (v.outs-And e f))

pub masks-Or : (e f : EventExpr) → mask_count (v.Or e f) ≡ mask_count e + mask_count f
masks-Or e f = ap masks_in (list_machine-at _ _ (v.outs-Or e f))

pub masks-Relative : (e f : EventExpr) → mask_count (v.Relative e f) ≡ mask_count e + mask_count f
masks-Relative e f = ap masks_in (list_machine-at _ _ (v.outs-Relative e f))

pub masks-RelPlus : (e : EventExpr) → mask_count (v.RelPlus e) ≡ mask_count e
masks-RelPlus e = ap masks_in (list_machine-at _ _ (v.outs-RelPlus e))

pub masks-Prior : (e f : EventExpr) → mask_count (v.Prior e f) ≡ mask_count e + mask_count f
masks-Prior e f = ap masks_in (list_machine-at _ _ (v.outs-Prior e f))

pub masks-Sequence : (e f : EventExpr) → mask_count (v.Sequence e f) ≡ mask_count e + mask_count f
masks-Sequence e f = ap masks_in (list_machine-at _ _ (v.outs-Sequence e f))

pub masks-Pipe : (e f : EventExpr) → mask_count (v.Pipe e f) ≡ mask_count e + mask_count f
masks-Pipe e f = ap masks_in (list_machine-at _ _ (v.outs-Pipe e f))

pub masks-Choose : (n : ℕ) (e : EventExpr) → mask_count (v.Choose n e) ≡ mask_count e
masks-Choose n e = ap masks_in (list_machine-at _ _ (v.outs-Choose n e))

pub masks-Every : (n : ℕ) (e : EventExpr) → mask_count (v.Every n e) ≡ mask_count e
masks-Every n e = ap masks_in (list_machine-at _ _ (v.outs-Every n e))

pub masks-Fa : (e f g : EventExpr) → mask_count (v.Fa e f g) ≡ mask_count e + mask_count f + mask_count g
masks-Fa e f g = ap masks_in (list_machine-at _ _ (v.outs-Fa e f g))

pub masks-FaAbs : (e f g : EventExpr) → mask_count (v.FaAbs e f g) ≡ mask_count e + mask_count f + mask_count g
masks-FaAbs e f g = ap masks_in (list_machine-at _ _ (v.outs-FaAbs e f g))

pub masks-Masked : (e : EventExpr) (x : Expr) → mask_count (v.Masked e x) ≡ mask_count e + 1
masks-Masked e x = ap masks_in (list_machine-at _ _ (v.outs-Masked e x))

pub ruleset leaf_listings = (the_lemmas, count-Leaf, count-Any, count-First, count-Not, count-And, count-Or, count-Relative, count-RelPlus, count-Prior, count-Sequence, count-Pipe, count-Choose, count-Every, count-Fa, count-FaAbs, count-Masked)

pub ruleset mask_listings = (the_lemmas, masks-Leaf, masks-Any, masks-First, masks-Not, masks-And, masks-Or, masks-Relative, masks-RelPlus, masks-Prior, masks-Sequence, masks-Pipe, masks-Choose, masks-Every, masks-Fa, masks-FaAbs, masks-Masked)

pub ruleset steps = (the_lemmas, list_machine_out, list_machine-of, numbers_out)

lengths : {A : Type 0} (xs ys zs : List A) → length xs + length ys + length zs ≡ length (xs ++ ys ++ zs)
lengths xs ys zs = omega (arith, length-append (xs ++ ys) zs, length-append xs ys)

pub leaf_count-leaves : (e : EventExpr) → leaf_count e ≡ length (leaves e)
unfolding hidden-the_row-EventExpr-0 hidden
leaf_count-leaves (Leaf k x) = count-Leaf k x ∙ ap length (sym (leaves-at _ _ (v.outs-Leaf k x)))
leaf_count-leaves Any = count-Any ∙ ap length (sym (leaves-at _ _ v.outs-Any))
leaf_count-leaves First = count-First ∙ ap length (sym (leaves-at _ _ v.outs-First))
leaf_count-leaves (Not' s (more_of-EventExpr e end_of-EventExpr)) = count-Not e ∙ leaf_count-leaves e ∙ ap length (sym (leaves-at _ _ (v.outs-Not e)))
leaf_count-leaves (And' s (more_of-EventExpr e end_of-EventExpr) t (more_of-EventExpr f end_of-EventExpr)) = count-And e f ∙ (λ i. leaf_count-leaves e i + leaf_count-leaves f i) ∙ sym (length-append (leaves e) (leaves f)) ∙ ap length (sym (leaves-at _ _ (v.outs-And e f)))
leaf_count-leaves (Or' s (more_of-EventExpr e end_of-EventExpr) t (more_of-EventExpr f end_of-EventExpr)) = count-Or e f ∙ (λ i. leaf_count-leaves e i + leaf_count-leaves f i) ∙ sym (length-append (leaves e) (leaves f)) ∙ ap length (sym (leaves-at _ _ (v.outs-Or e f)))
leaf_count-leaves (Relative' s (more_of-EventExpr e end_of-EventExpr) t (more_of-EventExpr f end_of-EventExpr)) = count-Relative e f ∙ (λ i. leaf_count-leaves e i + leaf_count-leaves f i) ∙ sym (length-append (leaves e) (leaves f)) ∙ ap length (sym (leaves-at _ _ (v.outs-Relative e f)))
leaf_count-leaves (Prior' s (more_of-EventExpr e end_of-EventExpr) t (more_of-EventExpr f end_of-EventExpr)) = count-Prior e f ∙ (λ i. leaf_count-leaves e i + leaf_count-leaves f i) ∙ sym (length-append (leaves e) (leaves f)) ∙ ap length (sym (leaves-at _ _ (v.outs-Prior e f)))
leaf_count-leaves (Sequence' s (more_of-EventExpr e end_of-EventExpr) t (more_of-EventExpr f end_of-EventExpr)) = count-Sequence e f ∙ (λ i. leaf_count-leaves e i + leaf_count-leaves f i) ∙ sym (length-append (leaves e) (leaves f)) ∙ ap length (sym (leaves-at _ _ (v.outs-Sequence e f)))
leaf_count-leaves (Choose' n s (more_of-EventExpr e end_of-EventExpr)) = count-Choose n e ∙ leaf_count-leaves e ∙ ap length (sym (leaves-at _ _ (v.outs-Choose n e)))
leaf_count-leaves (Every' n s (more_of-EventExpr e end_of-EventExpr)) = count-Every n e ∙ leaf_count-leaves e ∙ ap length (sym (leaves-at _ _ (v.outs-Every n e)))
leaf_count-leaves (Fa' s (more_of-EventExpr e end_of-EventExpr) t (more_of-EventExpr f end_of-EventExpr) u (more_of-EventExpr g end_of-EventExpr)) = count-Fa e f g ∙ (λ i. leaf_count-leaves e i + leaf_count-leaves f i + leaf_count-leaves g i) ∙ lengths (leaves e) (leaves f) (leaves g) ∙ ap length (sym (leaves-at _ _ (v.outs-Fa e f g)))
leaf_count-leaves (RelPlus' s (more_of-EventExpr e end_of-EventExpr)) = count-RelPlus e ∙ leaf_count-leaves e ∙ ap length (sym (leaves-at _ _ (v.outs-RelPlus e)))
leaf_count-leaves (Pipe' s (more_of-EventExpr e end_of-EventExpr) t (more_of-EventExpr f end_of-EventExpr)) = count-Pipe e f ∙ (λ i. leaf_count-leaves e i + leaf_count-leaves f i) ∙ sym (length-append (leaves e) (leaves f)) ∙ ap length (sym (leaves-at _ _ (v.outs-Pipe e f)))
leaf_count-leaves (FaAbs' s (more_of-EventExpr e end_of-EventExpr) t (more_of-EventExpr f end_of-EventExpr) u (more_of-EventExpr g end_of-EventExpr)) = count-FaAbs e f g ∙ (λ i. leaf_count-leaves e i + leaf_count-leaves f i + leaf_count-leaves g i) ∙ lengths (leaves e) (leaves f) (leaves g) ∙ ap length (sym (leaves-at _ _ (v.outs-FaAbs e f g)))
leaf_count-leaves (Masked' s (more_of-EventExpr e end_of-EventExpr) x) = count-Masked e x ∙ leaf_count-leaves e ∙ ap length (sym (leaves-at _ _ (v.outs-Masked e x)))

pub mask_count-masks : (e : EventExpr) → mask_count e ≡ length (composite_masks e)
unfolding hidden-the_row-EventExpr-0 hidden
mask_count-masks (Leaf k x) = masks-Leaf k x ∙ ap length (sym (masks-at _ _ (v.outs-Leaf k x)))
mask_count-masks Any = masks-Any ∙ ap length (sym (masks-at _ _ v.outs-Any))
mask_count-masks First = masks-First ∙ ap length (sym (masks-at _ _ v.outs-First))
mask_count-masks (Not' s (more_of-EventExpr e end_of-EventExpr)) = masks-Not e ∙ mask_count-masks e ∙ ap length (sym (masks-at _ _ (v.outs-Not e)))
mask_count-masks (And' s (more_of-EventExpr e end_of-EventExpr) t (more_of-EventExpr f end_of-EventExpr)) = masks-And e f ∙ (λ i. mask_count-masks e i + mask_count-masks f i) ∙ sym (length-append (composite_masks e) (composite_masks f)) ∙ ap length (sym (masks-at _ _ (v.outs-And e f)))
mask_count-masks (Or' s (more_of-EventExpr e end_of-EventExpr) t (more_of-EventExpr f end_of-EventExpr)) = masks-Or e f ∙ (λ i. mask_count-masks e i + mask_count-masks f i) ∙ sym (length-append (composite_masks e) (composite_masks f)) ∙ ap length (sym (masks-at _ _ (v.outs-Or e f)))
mask_count-masks (Relative' s (more_of-EventExpr e end_of-EventExpr) t (more_of-EventExpr f end_of-EventExpr)) = masks-Relative e f ∙ (λ i. mask_count-masks e i + mask_count-masks f i) ∙ sym (length-append (composite_masks e) (composite_masks f)) ∙ ap length (sym (masks-at _ _ (v.outs-Relative e f)))
mask_count-masks (Prior' s (more_of-EventExpr e end_of-EventExpr) t (more_of-EventExpr f end_of-EventExpr)) = masks-Prior e f ∙ (λ i. mask_count-masks e i + mask_count-masks f i) ∙ sym (length-append (composite_masks e) (composite_masks f)) ∙ ap length (sym (masks-at _ _ (v.outs-Prior e f)))
mask_count-masks (Sequence' s (more_of-EventExpr e end_of-EventExpr) t (more_of-EventExpr f end_of-EventExpr)) = masks-Sequence e f ∙ (λ i. mask_count-masks e i + mask_count-masks f i) ∙ sym (length-append (composite_masks e) (composite_masks f)) ∙ ap length (sym (masks-at _ _ (v.outs-Sequence e f)))
mask_count-masks (Choose' n s (more_of-EventExpr e end_of-EventExpr)) = masks-Choose n e ∙ mask_count-masks e ∙ ap length (sym (masks-at _ _ (v.outs-Choose n e)))
mask_count-masks (Every' n s (more_of-EventExpr e end_of-EventExpr)) = masks-Every n e ∙ mask_count-masks e ∙ ap length (sym (masks-at _ _ (v.outs-Every n e)))
mask_count-masks (Fa' s (more_of-EventExpr e end_of-EventExpr) t (more_of-EventExpr f end_of-EventExpr) u (more_of-EventExpr g end_of-EventExpr)) = masks-Fa e f g ∙ (λ i. mask_count-masks e i + mask_count-masks f i + mask_count-masks g i) ∙ lengths (composite_masks e) (composite_masks f) (composite_masks g) ∙ ap length (sym (masks-at _ _ (v.outs-Fa e f g)))
mask_count-masks (RelPlus' s (more_of-EventExpr e end_of-EventExpr)) = masks-RelPlus e ∙ mask_count-masks e ∙ ap length (sym (masks-at _ _ (v.outs-RelPlus e)))
mask_count-masks (Pipe' s (more_of-EventExpr e end_of-EventExpr) t (more_of-EventExpr f end_of-EventExpr)) = masks-Pipe e f ∙ (λ i. mask_count-masks e i + mask_count-masks f i) ∙ sym (length-append (composite_masks e) (composite_masks f)) ∙ ap length (sym (masks-at _ _ (v.outs-Pipe e f)))
mask_count-masks (FaAbs' s (more_of-EventExpr e end_of-EventExpr) t (more_of-EventExpr f end_of-EventExpr) u (more_of-EventExpr g end_of-EventExpr)) = masks-FaAbs e f g ∙ (λ i. mask_count-masks e i + mask_count-masks f i + mask_count-masks g i) ∙ lengths (composite_masks e) (composite_masks f) (composite_masks g) ∙ ap length (sym (masks-at _ _ (v.outs-FaAbs e f g)))
mask_count-masks (Masked' s (more_of-EventExpr e end_of-EventExpr) x) = masks-Masked e x ∙ ap (λ n. n + 1) (mask_count-masks e) ∙ sym (length-append (composite_masks e) (x ∷ [])) ∙ ap length (sym (masks-at _ _ (v.outs-Masked e x)))

-- from a place on the list says of each of these whether it passes
abbrev Spells : {A : Type 0} → (A → Bool) → ℕ → List Bool → List A → Type 0
Spells test at list [] = Unit {0}
Spells test at list (x ∷ xs) = (slice_index_or list at false ≡ test x) × Spells test (at + 1) list xs

split : {A : Type 0} (test : A → Bool) (at : ℕ) (list : List Bool) (xs ys : List A) → Spells test at list (xs ++ ys) → Spells test at list xs × Spells test (at + length xs) list ys
split test at list [] ys h = let e : at ≡ at + 0 = omega arith in (tt, subst (λ n. Spells test n list ys) e h)
split test at list (x ∷ xs) ys h =
    let both = split test (at + 1) list xs ys h.1 in
    let e : (at + 1) + length xs ≡ at + suc (length xs) = omega arith in
    ((h.0, both.0), subst (λ n. Spells test n list ys) e both.1)

here : (front : List Bool) (b : Bool) (back : List Bool) → slice_index_or (front ++ b ∷ back) (length front) false ≡ b
here [] b back = refl
here (x ∷ front) b back = here front b back

spells-from : {A : Type 0} (test : A → Bool) (front : List Bool) (xs : List A) (back : List Bool) → Spells test (length front) (front ++ (map test xs ++ back)) xs
spells-from test front [] back = tt
spells-from test front (x ∷ xs) back =
    let rest = spells-from test (front ++ test x ∷ []) xs back in
    let long : length (front ++ test x ∷ []) ≡ length front + 1 = length-append front (test x ∷ []) in
    let same : (front ++ test x ∷ []) ++ (map test xs ++ back) ≡ front ++ (test x ∷ (map test xs ++ back)) = append_assoc front (test x ∷ []) (map test xs ++ back) in
    (here front (test x) (map test xs ++ back), subst (λ n. Spells test n (front ++ (test x ∷ (map test xs ++ back))) xs) long (subst (λ list. Spells test (length (front ++ test x ∷ [])) list xs) same rest))

-- the same of the leaves and masks of an expression, and a mark
abbrev of_leaf : Mark → marks.Leaf → Bool
of_leaf m l = m (OfLeaf l.0 l.1)

abbrev of_mask : Mark → Expr → Bool
of_mask m x = m (OfEvent x)

abbrev Reads : Cursor → List Bool → Mark → EventExpr → Type 0
Reads at list m e = Spells (of_leaf m) at.leaf list (leaves e) × Spells (of_mask m) at.mask list (composite_masks e)

reads-one : (at : Cursor) (list : List Bool) (m : Mark) (whole e : EventExpr) → leaves whole ≡ leaves e → composite_masks whole ≡ composite_masks e → Reads at list m whole → Reads at list m e
reads-one at list m whole e p q h = (subst (Spells (of_leaf m) at.leaf list) p h.0, subst (Spells (of_mask m) at.mask list) q h.1)

-- two lists, one behind the other
reads-both : (at : Cursor) (list : List Bool) (m : Mark) (e : EventExpr) (ls : List marks.Leaf) (xs : List Expr)
    → Spells (of_leaf m) at.leaf list (leaves e ++ ls) → Spells (of_mask m) at.mask list (composite_masks e ++ xs)
    → Reads at list m e × (Spells (of_leaf m) (past (list_machine e) at).leaf list ls × Spells (of_mask m) (past (list_machine e) at).mask list xs)
reads-both at list m e ls xs h k =
    let first = split (of_leaf m) at.leaf list (leaves e) ls h in
    let second = split (of_mask m) at.mask list (composite_masks e) xs k in
    let a = subst (λ n. Spells (of_leaf m) (at.leaf + n) list ls) (sym (leaf_count-leaves e)) first.1 in
    let b = subst (λ n. Spells (of_mask m) (at.mask + n) list xs) (sym (mask_count-masks e)) second.1 in
    ((first.0, second.0), (a, b))

reads-two : (at : Cursor) (list : List Bool) (m : Mark) (whole e f : EventExpr) → leaves whole ≡ leaves e ++ leaves f → composite_masks whole ≡ composite_masks e ++ composite_masks f
    → Reads at list m whole → Reads at list m e × Reads (past (list_machine e) at) list m f
reads-two at list m whole e f p q h = reads-both at list m e (leaves f) (composite_masks f) (subst (Spells (of_leaf m) at.leaf list) p h.0) (subst (Spells (of_mask m) at.mask list) q h.1)

reads-three : (at : Cursor) (list : List Bool) (m : Mark) (whole e f g : EventExpr)
    → leaves whole ≡ leaves e ++ leaves f ++ leaves g → composite_masks whole ≡ composite_masks e ++ composite_masks f ++ composite_masks g
    → Reads at list m whole → Reads at list m e × (Reads (past (list_machine e) at) list m f × Reads (past (list_machine f) (past (list_machine e) at)) list m g)
reads-three at list m whole e f g p q h =
    let ls = subst (Spells (of_leaf m) at.leaf list) (p ∙ append_assoc (leaves e) (leaves f) (leaves g)) h.0 in
    let xs = subst (Spells (of_mask m) at.mask list) (q ∙ append_assoc (composite_masks e) (composite_masks f) (composite_masks g)) h.1 in
    let first = reads-both at list m e (leaves f ++ leaves g) (composite_masks f ++ composite_masks g) ls xs in
    (first.0, reads-both (past (list_machine e) at) list m f (leaves g) (composite_masks g) first.1.0 first.1.1)

-- a mask stands behind those of its event
reads-mask : (at : Cursor) (list : List Bool) (m : Mark) (e : EventExpr) (x : Expr) → Reads at list m (v.Masked e x) → Reads at list m e × (slice_index_or list (at.mask + mask_count e) false ≡ m (OfEvent x))
reads-mask at list m e x h =
    let ls = subst (Spells (of_leaf m) at.leaf list) (leaves-at _ _ (v.outs-Masked e x)) h.0 in
    let both = split (of_mask m) at.mask list (composite_masks e) (x ∷ []) (subst (Spells (of_mask m) at.mask list) (masks-at _ _ (v.outs-Masked e x)) h.1) in
    ((ls, both.0), ap (λ n. slice_index_or list (at.mask + n) false) (mask_count-masks e) ∙ both.1.0)

-- steps by a list are steps by the mark that it spells
abbrev Step : Type 0
Step = StateTree → StateTree

abbrev by_list : Cursor → List Bool → ListMachine → Step
by_list at list l = l.next at list

abbrev by_mark : Mark → TreeMachine → Step
by_mark m machine = machine.next m

next-list_machine : (e : EventExpr) (at : Cursor) (list : List Bool) (m : Mark) → Reads at list m e → next_listed e at list ≡ (machine e).next m
unfolding hidden-the_row-EventExpr-0 hidden
next-list_machine (Leaf k x) at list m h =
    let there = subst (Spells (of_leaf m) at.leaf list) (leaves-at _ _ (v.outs-Leaf k x)) h.0 in
    ap (by_list at list) (list_machine-at _ _ (v.outs-Leaf k x)) ∙ (λ i s. tree.Bit (there.0 i)) ∙ sym (ap (by_mark m) (machine-at _ _ (v.outs-Leaf k x)))
next-list_machine Any at list m h =
    ap (by_list at list) (list_machine-at _ _ v.outs-Any) ∙ sym (ap (by_mark m) (machine-at _ _ v.outs-Any))
next-list_machine First at list m h =
    ap (by_list at list) (list_machine-at _ _ v.outs-First) ∙ sym (ap (by_mark m) (machine-at _ _ v.outs-First))
next-list_machine (Not' s (more_of-EventExpr e end_of-EventExpr)) at list m h =
    let p = next-list_machine e at list m (reads-one at list m (v.Not e) e (leaves-at _ _ (v.outs-Not e)) (masks-at _ _ (v.outs-Not e)) h) in
    ap (by_list at list) (list_machine-at _ _ (v.outs-Not e)) ∙ (λ i s. tree.Seen true (p i (left s))) ∙ sym (ap (by_mark m) (machine-at _ _ (v.outs-Not e)))
next-list_machine (And' s (more_of-EventExpr e end_of-EventExpr) t (more_of-EventExpr f end_of-EventExpr)) at list m h =
    let both = reads-two at list m (v.And e f) e f (leaves-at _ _ (v.outs-And e f)) (masks-at _ _ (v.outs-And e f)) h in
    let p = next-list_machine e at list m both.0 in
    let q = next-list_machine f (past (list_machine e) at) list m both.1 in
    ap (by_list at list) (list_machine-at _ _ (v.outs-And e f)) ∙ (λ i s. tree.Both (p i (left s)) (q i (right s))) ∙ sym (ap (by_mark m) (machine-at _ _ (v.outs-And e f)))
next-list_machine (Or' s (more_of-EventExpr e end_of-EventExpr) t (more_of-EventExpr f end_of-EventExpr)) at list m h =
    let both = reads-two at list m (v.Or e f) e f (leaves-at _ _ (v.outs-Or e f)) (masks-at _ _ (v.outs-Or e f)) h in
    let p = next-list_machine e at list m both.0 in
    let q = next-list_machine f (past (list_machine e) at) list m both.1 in
    ap (by_list at list) (list_machine-at _ _ (v.outs-Or e f)) ∙ (λ i s. tree.Both (p i (left s)) (q i (right s))) ∙ sym (ap (by_mark m) (machine-at _ _ (v.outs-Or e f)))
next-list_machine (Relative' s (more_of-EventExpr e end_of-EventExpr) t (more_of-EventExpr f end_of-EventExpr)) at list m h =
    let both = reads-two at list m (v.Relative e f) e f (leaves-at _ _ (v.outs-Relative e f)) (masks-at _ _ (v.outs-Relative e f)) h in
    let p = next-list_machine e at list m both.0 in
    let q = next-list_machine f (past (list_machine e) at) list m both.1 in
    ap (by_list at list) (list_machine-at _ _ (v.outs-Relative e f)) ∙ (λ i s. let x = p i (left s) in tree.Started x (with_first ((list_machine-of e i).answer x) (joined tree_cmp (list_machine-of f i).first) (all_joined tree_cmp [] (map (q i) (started s))))) ∙ sym (ap (by_mark m) (machine-at _ _ (v.outs-Relative e f)))
next-list_machine (Prior' s (more_of-EventExpr e end_of-EventExpr) t (more_of-EventExpr f end_of-EventExpr)) at list m h =
    let both = reads-two at list m (v.Prior e f) e f (leaves-at _ _ (v.outs-Prior e f)) (masks-at _ _ (v.outs-Prior e f)) h in
    let p = next-list_machine e at list m both.0 in
    let q = next-list_machine f (past (list_machine e) at) list m both.1 in
    ap (by_list at list) (list_machine-at _ _ (v.outs-Prior e f)) ∙ (λ i s. tree.Flag (p i (left s)) (q i (right s)) (bit s || (list_machine-of e i).answer (left s))) ∙ sym (ap (by_mark m) (machine-at _ _ (v.outs-Prior e f)))
next-list_machine (Sequence' s (more_of-EventExpr e end_of-EventExpr) t (more_of-EventExpr f end_of-EventExpr)) at list m h =
    let both = reads-two at list m (v.Sequence e f) e f (leaves-at _ _ (v.outs-Sequence e f)) (masks-at _ _ (v.outs-Sequence e f)) h in
    let p = next-list_machine e at list m both.0 in
    let q = next-list_machine f (past (list_machine e) at) list m both.1 in
    ap (by_list at list) (list_machine-at _ _ (v.outs-Sequence e f)) ∙ (λ i s. tree.Flag (p i (left s)) (q i (right s)) ((list_machine-of e i).answer (left s))) ∙ sym (ap (by_mark m) (machine-at _ _ (v.outs-Sequence e f)))
next-list_machine (Choose' n s (more_of-EventExpr e end_of-EventExpr)) at list m h =
    let p = next-list_machine e at list m (reads-one at list m (v.Choose n e) e (leaves-at _ _ (v.outs-Choose n e)) (masks-at _ _ (v.outs-Choose n e)) h) in
    ap (by_list at list) (list_machine-at _ _ (v.outs-Choose n e)) ∙ (λ i s. let x = p i (left s) in tree.Count x (next_count n ((list_machine-of e i).answer x) (count s))) ∙ sym (ap (by_mark m) (machine-at _ _ (v.outs-Choose n e)))
next-list_machine (Every' n s (more_of-EventExpr e end_of-EventExpr)) at list m h =
    let p = next-list_machine e at list m (reads-one at list m (v.Every n e) e (leaves-at _ _ (v.outs-Every n e)) (masks-at _ _ (v.outs-Every n e)) h) in
    ap (by_list at list) (list_machine-at _ _ (v.outs-Every n e)) ∙ (λ i s. let x = p i (left s) in tree.Count x (next_turn n ((list_machine-of e i).answer x) (count s))) ∙ sym (ap (by_mark m) (machine-at _ _ (v.outs-Every n e)))
next-list_machine (Fa' s (more_of-EventExpr e end_of-EventExpr) t (more_of-EventExpr f end_of-EventExpr) u (more_of-EventExpr g end_of-EventExpr)) at list m h =
    let all = reads-three at list m (v.Fa e f g) e f g (leaves-at _ _ (v.outs-Fa e f g)) (masks-at _ _ (v.outs-Fa e f g)) h in
    let p = next-list_machine e at list m all.0 in
    let q = next-list_machine f (past (list_machine e) at) list m all.1.0 in
    let r = next-list_machine g (past (list_machine f) (past (list_machine e) at)) list m all.1.1 in
    ap (by_list at list) (list_machine-at _ _ (v.outs-Fa e f g)) ∙ (λ i s. let x = p i (left s) in let both : StateTree × StateTree → StateTree × StateTree = λ y. (q i y.0, r i y.1) in
    tree.Pairs x (with_first ((list_machine-of e i).answer x) (joined pair_cmp ((list_machine-of f i).first, (list_machine-of g i).first)) (all_joined pair_cmp [] (map both (filter (λ y. not (is_spent (list_machine-of f i) (list_machine-of g i) y)) (pairs s)))))) ∙ sym (ap (by_mark m) (machine-at _ _ (v.outs-Fa e f g)))
next-list_machine (RelPlus' s (more_of-EventExpr e end_of-EventExpr)) at list m h =
    let p = next-list_machine e at list m (reads-one at list m (v.RelPlus e) e (leaves-at _ _ (v.outs-RelPlus e)) (masks-at _ _ (v.outs-RelPlus e)) h) in
    ap (by_list at list) (list_machine-at _ _ (v.outs-RelPlus e)) ∙ (λ i s. let set = all_joined tree_cmp [] (map (p i) (started s)) in tree.Chained (with_first (list_any (list_machine-of e i).answer set) (joined tree_cmp (list_machine-of e i).first) set)) ∙ sym (ap (by_mark m) (machine-at _ _ (v.outs-RelPlus e)))
next-list_machine (Pipe' s (more_of-EventExpr e end_of-EventExpr) t (more_of-EventExpr f end_of-EventExpr)) at list m h =
    let both = reads-two at list m (v.Pipe e f) e f (leaves-at _ _ (v.outs-Pipe e f)) (masks-at _ _ (v.outs-Pipe e f)) h in
    let p = next-list_machine e at list m both.0 in
    let q = next-list_machine f (past (list_machine e) at) list m both.1 in
    ap (by_list at list) (list_machine-at _ _ (v.outs-Pipe e f)) ∙ (λ i s. let x = p i (left s) in let y = q i (right s) in
    cond ((list_machine-of e i).answer x) (tree.Flag x y ((list_machine-of f i).answer y)) (tree.Flag x (right s) false)) ∙ sym (ap (by_mark m) (machine-at _ _ (v.outs-Pipe e f)))
next-list_machine (FaAbs' s (more_of-EventExpr e end_of-EventExpr) t (more_of-EventExpr f end_of-EventExpr) u (more_of-EventExpr g end_of-EventExpr)) at list m h =
    let all = reads-three at list m (v.FaAbs e f g) e f g (leaves-at _ _ (v.outs-FaAbs e f g)) (masks-at _ _ (v.outs-FaAbs e f g)) h in
    let p = next-list_machine e at list m all.0 in
    let q = next-list_machine f (past (list_machine e) at) list m all.1.0 in
    let r = next-list_machine g (past (list_machine f) (past (list_machine e) at)) list m all.1.1 in
    ap (by_list at list) (list_machine-at _ _ (v.outs-FaAbs e f g)) ∙ (λ i s. let x = p i (left s) in let y = r i (right s) in let after = all_joined tree_cmp [] (map (q i) (filter (λ z. not ((list_machine-of f i).answer z)) (started s))) in
    tree.Waiting x y (with_first ((list_machine-of e i).answer x) (joined tree_cmp (list_machine-of f i).first) (cond ((list_machine-of g i).answer y) (filter (list_machine-of f i).answer after) after))) ∙ sym (ap (by_mark m) (machine-at _ _ (v.outs-FaAbs e f g)))
next-list_machine (Masked' s (more_of-EventExpr e end_of-EventExpr) x) at list m h =
    let both = reads-mask at list m e x h in
    let p = next-list_machine e at list m both.0 in
    ap (by_list at list) (list_machine-at _ _ (v.outs-Masked e x)) ∙ (λ i s. tree.Masked (p i (left s)) (both.1 i)) ∙ sym (ap (by_mark m) (machine-at _ _ (v.outs-Masked e x)))

pub next-spelled : (e : EventExpr) (m : Mark) → next_listed e (start e) (spelled e m) ≡ (machine e).next m
next-spelled e m =
    let bits = map (of_leaf m) (leaves e) in
    let more = map (of_mask m) (composite_masks e) in
    let first = spells-from (of_leaf m) [] (leaves e) more in
    let second = spells-from (of_mask m) bits (composite_masks e) [] in
    let place : length bits ≡ leaf_count e = length-map (leaves e) (of_leaf m) ∙ sym (leaf_count-leaves e) in
    let list : bits ++ (more ++ []) ≡ spelled e m = ap (λ l. bits ++ l) (append-nil more) in
    next-list_machine e (start e) (spelled e m) m
    (first, subst (λ n. Spells (of_mask m) n (spelled e m) (composite_masks e)) place (subst (λ l. Spells (of_mask m) (length bits) l (composite_masks e)) list second))

-- a step of `fa`, put together from its parts
pub next-Fa : (e f g : EventExpr) (at : Cursor) (list : List Bool) (s part : StateTree) (old set : List (StateTree × StateTree)) → part ≡ next_listed e at list (left s) → old ≡ pairs_after f g (past (list_machine e) at) list [] (pairs s)
    → set ≡ with_first (answers e part) (joined pair_cmp (first_tree f, first_tree g)) old → tree.Pairs part set ≡ next_listed (v.Fa e f g) at list s
next-Fa e f g at list s part old set p q r =
    ap (tree.Pairs part) (r ∙ ap (with_first (answers e part) (joined pair_cmp (first_tree f, first_tree g))) q)
    ∙ (λ i. tree.Pairs (p i) (with_first ((sym (list_machine-of e) i).answer (p i)) (joined pair_cmp ((sym (list_machine-of f) i).first, (sym (list_machine-of g) i).first)) (all_joined pair_cmp [] (map (pair_next (list_machine f) (list_machine g) (past (list_machine e) at) list) (filter (λ y. not (is_spent (sym (list_machine-of f) i) (sym (list_machine-of g) i) y)) (pairs s))))))
    ∙ sym (ap (λ (l : ListMachine). l.next at list s) (list_machine-at _ _ (v.outs-Fa e f g)))

-- one of `relative`
pub next-Relative : (e f : EventExpr) (at : Cursor) (list : List Bool) (s part : StateTree) (old set : List StateTree) → part ≡ next_listed e at list (left s) → old ≡ all_joined tree_cmp [] (map (next_listed f (past (list_machine e) at) list) (started s))
    → set ≡ with_first (answers e part) (joined tree_cmp (first_tree f)) old → tree.Started part set ≡ next_listed (v.Relative e f) at list s
next-Relative e f at list s part old set p q r =
    ap (tree.Started part) (r ∙ ap (with_first (answers e part) (joined tree_cmp (first_tree f))) q)
    ∙ (λ i. tree.Started (p i) (with_first ((sym (list_machine-of e) i).answer (p i)) (joined tree_cmp ((sym (list_machine-of f) i).first)) (all_joined tree_cmp [] (map (next_listed f (past (list_machine e) at) list) (started s)))))
    ∙ sym (ap (λ (l : ListMachine). l.next at list s) (list_machine-at _ _ (v.outs-Relative e f)))

-- one of `relplus`
pub next-RelPlus : (e : EventExpr) (at : Cursor) (list : List Bool) (s : StateTree) (set : List StateTree) → set ≡ all_joined tree_cmp [] (map (next_listed e at list) (started s))
    → tree.Chained (with_first (list_any (answers e) set) (joined tree_cmp (first_tree e)) set) ≡ next_listed (v.RelPlus e) at list s
next-RelPlus e at list s set p =
    (λ i. tree.Chained (with_first (list_any (sym (list_machine-of e) i).answer (p i)) (joined tree_cmp (sym (list_machine-of e) i).first) (p i)))
    ∙ sym (ap (λ (l : ListMachine). l.next at list s) (list_machine-at _ _ (v.outs-RelPlus e)))

-- one of `pipe`
either_flag : (f : EventExpr) (part y z : StateTree) (b : Bool) → tree.Flag part (cond b y z) (b && answers f (cond b y z)) ≡ cond b (tree.Flag part y (answers f y)) (tree.Flag part z false)
either_flag f part y z true = refl
either_flag f part y z false = refl

pub next-Pipe : (e f : EventExpr) (at : Cursor) (list : List Bool) (s part second : StateTree) → part ≡ next_listed e at list (left s)
    → second ≡ cond (answers e part) (next_listed f (past (list_machine e) at) list (right s)) (right s)
    → tree.Flag part second (answers e part && answers f second) ≡ next_listed (v.Pipe e f) at list s
next-Pipe e f at list s part second p q =
    let y = next_listed f (past (list_machine e) at) list (right s) in
    ap (λ t. tree.Flag part t (answers e part && answers f t)) q
    ∙ either_flag f part y (right s) (answers e part)
    ∙ (λ i. cond ((sym (list_machine-of e) i).answer (p i)) (tree.Flag (p i) y ((sym (list_machine-of f) i).answer y)) (tree.Flag (p i) (right s) false))
    ∙ sym (ap (λ (l : ListMachine). l.next at list s) (list_machine-at _ _ (v.outs-Pipe e f)))

-- and one of `faabs`
pub next-FaAbs : (e f g : EventExpr) (at : Cursor) (list : List Bool) (s part third : StateTree) (set : List StateTree) → part ≡ next_listed e at list (left s) → third ≡ next_listed g (past (list_machine f) (past (list_machine e) at)) list (right s)
    → set ≡ unanswered_after f (past (list_machine e) at) list [] (started s)
    → tree.Waiting part third (with_first (answers e part) (joined tree_cmp (first_tree f)) (cond (answers g third) (filter (answers f) set) set)) ≡ next_listed (v.FaAbs e f g) at list s
next-FaAbs e f g at list s part third set p q r =
    ap (λ l. tree.Waiting part third (with_first (answers e part) (joined tree_cmp (first_tree f)) (cond (answers g third) (filter (answers f) l) l))) r
    ∙ (λ i. let old = all_joined tree_cmp [] (map (next_listed f (past (list_machine e) at) list) (filter (λ y. not ((sym (list_machine-of f) i).answer y)) (started s))) in
    tree.Waiting (p i) (q i) (with_first ((sym (list_machine-of e) i).answer (p i)) (joined tree_cmp (sym (list_machine-of f) i).first) (cond ((sym (list_machine-of g) i).answer (q i)) (filter (sym (list_machine-of f) i).answer old) old)))
    ∙ sym (ap (λ (l : ListMachine). l.next at list s) (list_machine-at _ _ (v.outs-FaAbs e f g)))

-- a result that is right by the list is right by each mark that the list spells
pub by-mark : (r : Result StateTree AllocError) (e : EventExpr) (list : List Bool) (s : StateTree) → IfOk r (λ t. t ≡ next_listed e (start e) list s) → IfOk r (λ t. (m : Mark) → list ≡ spelled e m → t ≡ next_tree e m s)
by-mark (Ok t) e list s h = λ m p. h ∙ ap (λ l. next_listed e (start e) l s) p ∙ (λ i. next-spelled e m i s)
by-mark (Err x) e list s h = tt
