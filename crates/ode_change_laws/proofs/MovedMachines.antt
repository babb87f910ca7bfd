-- The machine of an event over lists of truths looks at the event's form alone, so one whose masks are others fires as it did.
use Rattle.std.proofs.Common.{◌≡◌, ℕ, zero, suc, Bool, List, [], ◌∷◌, length, map, refl, ap, sym, ◌∙◌, subst}
use Rattle.std.specs.Prelude.{flat_map, fold}
use Rattle.ode_value.specs.declared.event.EventExpr.{EventExpr, roll-EventExpr, fold-roll-EventExpr, map-EventExpr, ind-EventExpr}
use Rattle.ode_value.specs.declared.event.EventExpr.TheOpen as event
use Rattle.ode_value.specs.declared.statement.Expr.{Expr}
use Rattle.ode_value.specs.declared.tree.StateTree.{StateTree}
use Rattle.ode_value.specs.Limits.{state_limit}
use Rattle.ode_value.specs.Marks.{Mark, spelled}
use Rattle.ode_value.specs.Moving.{with_masks, with_masks_of}
use Rattle.ode_value.specs.Points.{fires}
use Rattle.ode_value.specs.TreeCount.{with_tree}
use Rattle.ode_value.specs.Trees.{TreeMachine, first_tree, next_tree, answers}
use Rattle.ode_trees.specs.ListMachines.{ListMachine, list_machine_of, list_machine, grown_listed, listed_count}
use Rattle.ode_trees.proofs.CountLaws.{grown-first, grown-next, last-round}
use Rattle.ode_trees.proofs.ListMachineLaws.{list_machine-of, next-spelled}
use Rattle.ode_trees.proofs.TreeAnswers.{answers-fires}

with-roll : (f : Expr → Expr) (d : event.EventExpr-F EventExpr) → with_masks f (roll-EventExpr d) ≡ roll-EventExpr (with_masks_of f (map-EventExpr EventExpr EventExpr (with_masks f) d))
unfolding with_masks
with-roll f d = fold-roll-EventExpr EventExpr (λ x. roll-EventExpr (with_masks_of f x)) d

machine-roll : (d : event.EventExpr-F EventExpr) → list_machine (roll-EventExpr d) ≡ list_machine_of (map-EventExpr EventExpr ListMachine list_machine d)
unfolding list_machine
machine-roll d = fold-roll-EventExpr ListMachine list_machine_of d

-- a machine without its steps by marks, which name masks
abbrev unmarked : ListMachine → ListMachine
unmarked l = record l { of = record l.of { next = λ m s. s } }

-- ---- the machine of an event with other masks

module _ (f : Expr → Expr) where
  abbrev IsAlike : EventExpr → Type 0
  IsAlike e = unmarked (list_machine (with_masks f e)) ≡ unmarked (list_machine e)

  abbrev Alike : Type 0
  Alike = (e : EventExpr) × IsAlike e

  abbrev alike_event : Alike → EventExpr
  alike_event x = x.0

  abbrev level_with : event.EventExpr-F EventExpr → event.EventExpr-F EventExpr
  level_with d = with_masks_of f (map-EventExpr EventExpr EventExpr (with_masks f) d)

  level-alike : (y : event.EventExpr-F Alike)
      → unmarked (list_machine_of (map-EventExpr EventExpr ListMachine list_machine (level_with (map-EventExpr Alike EventExpr alike_event y))))
      ≡ unmarked (list_machine_of (map-EventExpr EventExpr ListMachine list_machine (map-EventExpr Alike EventExpr alike_event y)))
  level-alike (event.Leaf kind mask) = refl
  level-alike event.Any = refl
  level-alike event.First = refl
  level-alike (event.Not e) = λ i. unmarked (list_machine_of (event.Not (e.1 i)))
  level-alike (event.And e g) = λ i. unmarked (list_machine_of (event.And (e.1 i) (g.1 i)))
  level-alike (event.Or e g) = λ i. unmarked (list_machine_of (event.Or (e.1 i) (g.1 i)))
  level-alike (event.Relative e g) = λ i. unmarked (list_machine_of (event.Relative (e.1 i) (g.1 i)))
  level-alike (event.RelPlus e) = λ i. unmarked (list_machine_of (event.RelPlus (e.1 i)))
  level-alike (event.Prior e g) = λ i. unmarked (list_machine_of (event.Prior (e.1 i) (g.1 i)))
  level-alike (event.Sequence e g) = λ i. unmarked (list_machine_of (event.Sequence (e.1 i) (g.1 i)))
  level-alike (event.Pipe e g) = λ i. unmarked (list_machine_of (event.Pipe (e.1 i) (g.1 i)))
  level-alike (event.Choose n e) = λ i. unmarked (list_machine_of (event.Choose n (e.1 i)))
  level-alike (event.Every n e) = λ i. unmarked (list_machine_of (event.Every n (e.1 i)))
  level-alike (event.Fa e g h) = λ i. unmarked (list_machine_of (event.Fa (e.1 i) (g.1 i) (h.1 i)))
  level-alike (event.FaAbs e g h) = λ i. unmarked (list_machine_of (event.FaAbs (e.1 i) (g.1 i) (h.1 i)))
  level-alike (event.Masked e mask) = λ i. unmarked (list_machine_of (event.Masked (e.1 i) mask))

  machine-alike : (e : EventExpr) → IsAlike e
  machine-alike = ind-EventExpr IsAlike (λ x y q. subst (λ d. IsAlike (roll-EventExpr d)) q (here y)) where
    here : (y : event.EventExpr-F Alike) → IsAlike (roll-EventExpr (map-EventExpr Alike EventExpr alike_event y))
    here y =
        let d = map-EventExpr Alike EventExpr alike_event y in
        ap (λ e. unmarked (list_machine e)) (with-roll f d) ∙ ap unmarked (machine-roll (level_with d)) ∙ level-alike y ∙ ap unmarked (sym (machine-roll d))

-- ---- what a machine answers behind lists of truths

abbrev steps_by : ListMachine → List (List Bool) → StateTree → StateTree
steps_by l lists s = fold (λ s list. l.next (record { leaf = 0; mask = l.leaves }) list s) s lists

abbrev says_by : ListMachine → List (List Bool) → Bool
says_by l lists = l.of.answer (steps_by l lists l.of.first)

steps-by : (e : EventExpr) (m : List Mark) (s : StateTree) → steps_by (list_machine e) (map (spelled e) m) s ≡ fold (λ s mark. next_tree e mark s) s m
steps-by e [] s = refl
steps-by e (x ∷ m) s = (λ i. steps_by (list_machine e) (map (spelled e) m) (next-spelled e x i s)) ∙ steps-by e m (next_tree e x s)

fires-by : (e : EventExpr) (m : List Mark) → says_by (list_machine e) (map (spelled e) m) ≡ fires e m
fires-by e m =
    (λ i. (list_machine-of e i).answer (steps_by (list_machine e) (map (spelled e) m) (list_machine-of e i).first))
    ∙ ap (answers e) (steps-by e m (first_tree e))
    ∙ answers-fires e m

-- an event with other masks fires as this one does, where the marks are spelled as for this one
pub fires-alike : (f : Expr → Expr) (e : EventExpr) (m n : List Mark) → map (spelled (with_masks f e)) m ≡ map (spelled e) n → fires (with_masks f e) m ≡ fires e n
fires-alike f e m n alike =
    sym (fires-by (with_masks f e) m)
    ∙ (λ i. says_by (machine-alike f e i) (alike i))
    ∙ fires-by e n

-- ---- how many trees there are

module _ (f : Expr → Expr) (e : EventExpr) where
  abbrev there : EventExpr
  there = with_masks f e

  abbrev grow_of : ListMachine → List (List Bool) → List StateTree → List StateTree
  grow_of l lists trees = fold with_tree trees (flat_map (λ s. map (λ list. l.next (record { leaf = 0; mask = l.leaves }) list s) lists) trees)

  first-alike : first_tree there ≡ first_tree e
  first-alike =
      ap (λ (t : TreeMachine). t.first) (sym (list_machine-of there))
      ∙ ap (λ (l : ListMachine). l.of.first) (machine-alike f e)
      ∙ ap (λ (t : TreeMachine). t.first) (list_machine-of e)

  grown-alike : (lists : List (List Bool)) (n : ℕ) → grown_listed there lists n ≡ grown_listed e lists n
  grown-alike lists zero = grown-first there lists ∙ ap (λ s. s ∷ []) first-alike ∙ sym (grown-first e lists)
  grown-alike lists (suc n) =
      grown-next there lists n
      ∙ (λ i. grow_of (machine-alike f e i) lists (grown-alike lists n i))
      ∙ sym (grown-next e lists n)

  pub count-alike : (lists : List (List Bool)) → listed_count there lists ≡ listed_count e lists
  count-alike lists = sym (last-round there lists) ∙ ap length (grown-alike lists state_limit) ∙ last-round e lists
