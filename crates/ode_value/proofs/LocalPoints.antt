-- Whether a position is a point is seen from the history up to it.
use Rattle.std.proofs.Common.{◌≡◌, ℕ, zero, suc, ◌+◌, ◌-◌, ◌<◌, ◌≤◌, Bool, true, false, cond, List, [], ◌∷◌, length, take, drop, refl, ap, sym, ◌∙◌, subst, arith, ltb, get_or, length-drop, length-take}
use Rattle.std.specs.Prelude.{◌&&◌, ◌||◌, not, ◌==◌, ◌%◌}
use Rattle.std.proofs.lemmas.Bool.{lt-ltb}
use Rattle.std.proofs.lemmas.List.{get_or-drop, get_or-take}
use Rattle.ode_value.specs.declared.event.EventExpr.{EventExpr, Leaf, Any, First, Not', And', Or', Relative', RelPlus', Prior', Sequence', Pipe', Choose', Every', Fa', FaAbs', Masked', more_of-EventExpr, end_of-EventExpr}
use Rattle.ode_value.specs.declared.event.EventExpr.TheVariants as v
use Rattle.ode_value.specs.declared.event.EventExpr.TheBlock.{hidden-the_row-EventExpr-0}
use denote.Hole.Carrier.{hidden}
use Rattle.ode_value.specs.Marks.{Mark, OfEvent, OfLeaf, no_mark}
use Rattle.ode_value.specs.Points.{Points, some_below, count_below, after_each, first_of, first_unless, after_each_unless, chained, picked, piped, points, fires}
use Rattle.ode_value.proofs.Below.{some_below-same, count_below-same, count_below-front}
use Rattle.ode_value.proofs.PointLaws.{points-at}

-- two histories that agree up to and with a position
pub record Agree (m w : List Mark) (i : ℕ) : Type 0 where
  pub within : i < length m
  pub reaches : i < length w
  pub same : (k : ℕ) → k ≤ i → get_or m k no_mark ≡ get_or w k no_mark

pub agree_below : (m w : List Mark) (i k : ℕ) → k ≤ i → Agree m w i → Agree m w k
agree_below m w i k below a = record { within = omega arith; reaches = omega arith; same = λ j h. a.same j (omega arith) }

pub agree_after : (m w : List Mark) (i p : ℕ) → p < i → Agree m w i → Agree (drop (suc p) m) (drop (suc p) w) (i - suc p)
agree_after m w i p below a = record {
  within = omega (arith, length-drop (suc p) m);
  reaches = omega (arith, length-drop (suc p) w);
  same = λ k h. get_or-drop (suc p) m k no_mark ∙ a.same (suc p + k) (omega arith) ∙ sym (get_or-drop (suc p) w k no_mark);
}

-- the same for a test of the positions of a history
abbrev IsLocal : Points → Type 0
IsLocal e = (m w : List Mark) (i : ℕ) → Agree m w i → e m i ≡ e w i

after_each_local : (e f : Points) → IsLocal e → IsLocal f → IsLocal (after_each e f)
after_each_local e f se sf m w i a =
    some_below-same _ _ i (λ p h. ap (λ b. b && f (drop (suc p) m) (i - suc p)) (se m w p (agree_below m w i p (omega arith) a))
    ∙ ap (λ b. e w p && b) (sf (drop (suc p) m) (drop (suc p) w) (i - suc p) (agree_after m w i p h a)))

first_unless_local : (f g : Points) → IsLocal f → IsLocal g → IsLocal (first_unless f g)
first_unless_local f g sf sg m w i a =
    let before : some_below (λ k. f m k || g m k) i ≡ some_below (λ k. f w k || g w k) i =
    some_below-same _ _ i (λ k h. ap (λ b. b || g m k) (sf m w k (agree_below m w i k (omega arith) a)) ∙ ap (λ b. f w k || b) (sg m w k (agree_below m w i k (omega arith) a))) in
    ap (λ b. b && not (some_below (λ k. f m k || g m k) i)) (sf m w i a) ∙ ap (λ b. f w i && not b) before

first_of_local : (f : Points) → IsLocal f → IsLocal (first_of f)
first_of_local f sf m w i a =
    let before : some_below (f m) i ≡ some_below (f w) i = some_below-same _ _ i (λ k h. sf m w k (agree_below m w i k (omega arith) a)) in
    ap (λ b. b && not (some_below (f m) i)) (sf m w i a) ∙ ap (λ b. f w i && not b) before

-- whether one of G is between a position and another
abbrev between : Points → List Mark → ℕ → ℕ → Bool
between g m i p = some_below (λ k. g m (suc p + k)) (i - suc p)

after_each_unless_local : (e f g : Points) → IsLocal e → IsLocal f → IsLocal g → IsLocal (after_each_unless e f g)
after_each_unless_local e f g se sf sg m w i a =
    some_below-same _ _ i (λ p h. ap (λ b. b && (first_of f (drop (suc p) m) (i - suc p) && not (between g m i p))) (se m w p (agree_below m w i p (omega arith) a))
    ∙ ap (λ b. e w p && (b && not (between g m i p))) (first_of_local f sf (drop (suc p) m) (drop (suc p) w) (i - suc p) (agree_after m w i p h a))
    ∙ ap (λ b. e w p && (first_of f (drop (suc p) w) (i - suc p) && not b))
    (some_below-same _ _ (i - suc p) (λ k below. sg m w (suc p + k) (agree_below m w i (suc p + k) (omega arith) a))))

chained_local : (e : Points) → IsLocal e → (n : ℕ) → IsLocal (chained e n)
chained_local e se zero m w i a = refl
chained_local e se (suc n) m w i a =
    ap (λ b. b || after_each (chained e n) e m i) (se m w i a) ∙ ap (λ b. e w i || b) (after_each_local (chained e n) e (chained_local e se n) se m w i a)

-- histories with one more point at the front
agree_more : (x y : Mark) (m w : List Mark) (i : ℕ) → x ≡ y → Agree m w i → Agree (x ∷ m) (y ∷ w) (suc i)
agree_more x y m w i h a = record { within = omega (arith, a.within); reaches = omega (arith, a.reaches); same = each } where
  each : (k : ℕ) → k ≤ suc i → get_or (x ∷ m) k no_mark ≡ get_or (y ∷ w) k no_mark
  each zero below = h
  each (suc k) below = a.same k (omega arith)

agree_less : (x y : Mark) (m w : List Mark) (i : ℕ) → Agree (x ∷ m) (y ∷ w) (suc i) → Agree m w i
agree_less x y m w i a = record { within = omega (arith, a.within); reaches = omega (arith, a.reaches); same = λ k below. a.same (suc k) (omega arith) }

-- at a position that passes, what passes up to it agrees too
picked_agree : (p q : ℕ → Bool) (m w : List Mark) (i : ℕ) → Agree m w i → ((k : ℕ) → k ≤ i → p k ≡ q k) → p i ≡ true → Agree (picked p m) (picked q w) (count_below p i)
picked_agree p q [] w i a same is = absurd (omega (arith, a.within))
picked_agree p q (x ∷ m) [] i a same is = absurd (omega (arith, a.reaches))
picked_agree p q (x ∷ m) (y ∷ w) zero a same is = subst (λ t. Agree (cond t (x ∷ picked (λ k. p (suc k)) m) (picked (λ k. p (suc k)) m)) (picked q (y ∷ w)) 0) (sym is) (subst (λ t. Agree (x ∷ picked (λ k. p (suc k)) m) (cond t (y ∷ picked (λ k. q (suc k)) w) (picked (λ k. q (suc k)) w)) 0) (sym (sym (same 0 (omega arith)) ∙ is)) first) where
  first : Agree (x ∷ picked (λ k. p (suc k)) m) (y ∷ picked (λ k. q (suc k)) w) 0
  first = record { within = omega arith; reaches = omega arith; same = each } where
    each : (k : ℕ) → k ≤ 0 → get_or (x ∷ picked (λ j. p (suc j)) m) k no_mark ≡ get_or (y ∷ picked (λ j. q (suc j)) w) k no_mark
    each zero below = a.same 0 (omega arith)
    each (suc k) below = absurd (omega arith)
picked_agree p q (x ∷ m) (y ∷ w) (suc i) a same is =
    subst (Agree (picked p (x ∷ m)) (picked q (y ∷ w))) (sym (count_below-front p i))
    (by_test (picked_agree (λ k. p (suc k)) (λ k. q (suc k)) m w i (agree_less x y m w i a) (λ k below. same (suc k) (omega arith)) is) (p 0) (q 0) (same 0 (omega arith)))
  where
    by_test : Agree (picked (λ k. p (suc k)) m) (picked (λ k. q (suc k)) w) (count_below (λ k. p (suc k)) i) → (t u : Bool) → t ≡ u
        → Agree (cond t (x ∷ picked (λ k. p (suc k)) m) (picked (λ k. p (suc k)) m)) (cond u (y ∷ picked (λ k. q (suc k)) w) (picked (λ k. q (suc k)) w)) (cond t 1 0 + count_below (λ k. p (suc k)) i)
    by_test rest true true h =
        let one : suc (count_below (λ k. p (suc k)) i) ≡ 1 + count_below (λ k. p (suc k)) i = omega arith in
        subst (Agree (x ∷ picked (λ k. p (suc k)) m) (y ∷ picked (λ k. q (suc k)) w)) one
        (agree_more x y (picked (λ k. p (suc k)) m) (picked (λ k. q (suc k)) w) (count_below (λ k. p (suc k)) i) (a.same 0 (omega arith)) rest)
    by_test rest false false h =
        let none : count_below (λ k. p (suc k)) i ≡ 0 + count_below (λ k. p (suc k)) i = omega arith in
        subst (Agree (picked (λ k. p (suc k)) m) (picked (λ k. q (suc k)) w)) none rest
    by_test rest true false h = absurd (cc)
    by_test rest false true h = absurd (cc)

piped_local : (e f : Points) → IsLocal e → IsLocal f → IsLocal (piped e f)
piped_local e f se sf m w i a = by_test (e m i) refl where
  same : (k : ℕ) → k ≤ i → e m k ≡ e w k
  same k below = se m w k (agree_below m w i k below a)

  counts : count_below (e m) i ≡ count_below (e w) i
  counts = count_below-same (e m) (e w) i (λ k below. same k (omega arith))

  by_test : (t : Bool) → e m i ≡ t → (t && f (picked (e m) m) (count_below (e m) i)) ≡ (e w i && f (picked (e w) w) (count_below (e w) i))
  by_test false h = ap (λ b. b && f (picked (e w) w) (count_below (e w) i)) (sym h ∙ same i (omega arith))
  by_test true h =
      sf (picked (e m) m) (picked (e w) w) (count_below (e m) i) (picked_agree (e m) (e w) m w i a same h)
      ∙ ap (f (picked (e w) w)) counts
      ∙ ap (λ b. b && f (picked (e w) w) (count_below (e w) i)) (sym h ∙ same i (omega arith))

in_both : (m w : List Mark) (i : ℕ) → Agree m w i → ltb i (length m) ≡ ltb i (length w)
in_both m w i a = lt-ltb i (length m) a.within ∙ sym (lt-ltb i (length w) a.reaches)

pub points-local : (e : EventExpr) → IsLocal (points e)
unfolding hidden-the_row-EventExpr-0 hidden
points-local (Leaf k x) m w i a =
    rw (points-at _ _ (v.outs-Leaf k x)) (ap (λ b. b && get_or m i no_mark (OfLeaf k x)) (in_both m w i a) ∙ ap (λ μ. ltb i (length w) && μ (OfLeaf k x)) (a.same i (omega arith)))
points-local Any m w i a = rw (points-at _ _ v.outs-Any) (in_both m w i a)
points-local First m w i a = rw (points-at _ _ v.outs-First) (ap (λ b. b && (i == 0)) (in_both m w i a))
points-local (Not' s (more_of-EventExpr e end_of-EventExpr)) m w i a =
    rw (points-at _ _ (v.outs-Not e)) (ap (λ b. b && not (points e m i)) (in_both m w i a) ∙ ap (λ b. ltb i (length w) && not b) (points-local e m w i a))
points-local (And' s (more_of-EventExpr e end_of-EventExpr) t (more_of-EventExpr f end_of-EventExpr)) m w i a =
    rw (points-at _ _ (v.outs-And e f)) (ap (λ b. b && points f m i) (points-local e m w i a) ∙ ap (λ b. points e w i && b) (points-local f m w i a))
points-local (Or' s (more_of-EventExpr e end_of-EventExpr) t (more_of-EventExpr f end_of-EventExpr)) m w i a =
    rw (points-at _ _ (v.outs-Or e f)) (ap (λ b. b || points f m i) (points-local e m w i a) ∙ ap (λ b. points e w i || b) (points-local f m w i a))
points-local (Relative' s (more_of-EventExpr e end_of-EventExpr) t (more_of-EventExpr f end_of-EventExpr)) m w i a =
    rw (points-at _ _ (v.outs-Relative e f)) (after_each_local (points e) (points f) (points-local e) (points-local f) m w i a)
points-local (RelPlus' s (more_of-EventExpr e end_of-EventExpr)) m w i a = rw (points-at _ _ (v.outs-RelPlus e)) (chained_local (points e) (points-local e) (suc i) m w i a)
points-local (Prior' s (more_of-EventExpr e end_of-EventExpr) t (more_of-EventExpr f end_of-EventExpr)) m w i a =
    rw (points-at _ _ (v.outs-Prior e f))
    (ap (λ b. b && points f m i) (some_below-same (points e m) (points e w) i (λ p h. points-local e m w p (agree_below m w i p (omega arith) a)))
    ∙ ap (λ b. some_below (points e w) i && b) (points-local f m w i a))
points-local (Sequence' s (more_of-EventExpr e end_of-EventExpr) t (more_of-EventExpr f end_of-EventExpr)) m w zero a = rw (points-at _ _ (v.outs-Sequence e f)) refl
points-local (Sequence' s (more_of-EventExpr e end_of-EventExpr) t (more_of-EventExpr f end_of-EventExpr)) m w (suc i) a =
    rw (points-at _ _ (v.outs-Sequence e f))
    (ap (λ b. b && points f m (suc i)) (points-local e m w i (agree_below m w (suc i) i (omega arith) a)) ∙ ap (λ b. points e w i && b) (points-local f m w (suc i) a))
points-local (Pipe' s (more_of-EventExpr e end_of-EventExpr) t (more_of-EventExpr f end_of-EventExpr)) m w i a =
    rw (points-at _ _ (v.outs-Pipe e f)) (piped_local (points e) (points f) (points-local e) (points-local f) m w i a)
points-local (Choose' n s (more_of-EventExpr e end_of-EventExpr)) m w i a =
    rw (points-at _ _ (v.outs-Choose n e))
    (ap (λ b. b && (count_below (points e m) i + 1 == n)) (points-local e m w i a)
    ∙ ap (λ c. points e w i && (c + 1 == n)) (count_below-same (points e m) (points e w) i (λ p h. points-local e m w p (agree_below m w i p (omega arith) a))))
points-local (Every' n s (more_of-EventExpr e end_of-EventExpr)) m w i a =
    rw (points-at _ _ (v.outs-Every n e))
    (ap (λ b. b && ((count_below (points e m) i + 1) % n == 0)) (points-local e m w i a)
    ∙ ap (λ c. points e w i && ((c + 1) % n == 0)) (count_below-same (points e m) (points e w) i (λ p h. points-local e m w p (agree_below m w i p (omega arith) a))))
points-local (Fa' s (more_of-EventExpr e end_of-EventExpr) t (more_of-EventExpr f end_of-EventExpr) u (more_of-EventExpr g end_of-EventExpr)) m w i a =
    rw (points-at _ _ (v.outs-Fa e f g))
    (after_each_local (points e) (first_unless (points f) (points g)) (points-local e) (first_unless_local (points f) (points g) (points-local f) (points-local g)) m w i a)
points-local (FaAbs' s (more_of-EventExpr e end_of-EventExpr) t (more_of-EventExpr f end_of-EventExpr) u (more_of-EventExpr g end_of-EventExpr)) m w i a =
    rw (points-at _ _ (v.outs-FaAbs e f g)) (after_each_unless_local (points e) (points f) (points g) (points-local e) (points-local f) (points-local g) m w i a)
points-local (Masked' s (more_of-EventExpr e end_of-EventExpr) x) m w i a =
    rw (points-at _ _ (v.outs-Masked e x)) (ap (λ b. b && get_or m i no_mark (OfEvent x)) (points-local e m w i a) ∙ ap (λ μ. points e w i && μ (OfEvent x)) (a.same i (omega arith)))

agree_take : (m : List Mark) (i : ℕ) → i < length m → Agree m (take (i + 1) m) i
agree_take m i h = record {
  within = h;
  reaches = omega (arith, length-take (i + 1) m);
  same = λ k below. let lt : k < i + 1 = omega arith in sym (get_or-take (i + 1) m k no_mark lt);
}

-- each position of a history is a point exactly where the expression fires on the history up to and with it
pub points-firing : (e : EventExpr) (m : List Mark) (i : ℕ) → i < length m → points e m i ≡ fires e (take (i + 1) m)
points-firing e m i h =
    let w = take (i + 1) m in
    let long : length w ≡ i + 1 = omega (arith, length-take (i + 1) m) in
    let some : ltb 0 (length w) ≡ true = lt-ltb 0 (length w) (omega arith) in
    let last : length w - 1 ≡ i = omega arith in
    points-local e m w i (agree_take m i h) ∙ sym (ap (λ b. b && points e w (length w - 1)) some ∙ ap (points e w) last)
