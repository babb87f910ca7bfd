-- A stable sort gives one list, that of the definition.
use Rattle.std.proofs.Common.{◌≡◌, ℕ, suc, ◌<◌, ◌≤◌, List, [], ◌∷◌, length, get_or, drop, refl, sym, ap, subst, ◌∙◌, arith}
use Rattle.std.proofs.lemmas.Bool.{false≢true}
use Rattle.std.proofs.lemmas.Cmp.{lists_total}
use Rattle.std.proofs.lemmas.List.MinMax.{ranks_by}
use Rattle.std.proofs.lemmas.List.Sorted.{sorted_far}
use Rattle.std.specs.Cmp.{IsStrictWeakOrder}
use Rattle.std.specs.List.{AllByRecursion, filter}
use Rattle.std.specs.List.Sorted.{ties, IsSortedBy, IsStableBy}
use Rattle.std.specs.Prelude.{Bool, true, false, cond}
use Rattle.ode_index.proofs.OrderLaws.{value_total}
use Rattle.ode_index.specs.Sorting.{put_sorted, row_less, sorted_by}

module _ {X : Type 0} (lt : X → X → Bool) (o : IsStrictWeakOrder lt) where
  -- nothing behind is less
  abbrev Up : List X → Type 0
  Up [] = Unit {0}
  Up (y ∷ ys) = AllByRecursion (λ z. lt z y ≡ false) ys × Up ys

  itself : (x : X) → lt x x ≡ false
  itself x = by (lt x x) refl where
    by : (b : Bool) → lt x x ≡ b → b ≡ false
    by true e = sym (sym (o.one_way x x e) ∙ e)
    by false e = refl

  tied : (x y : X) → lt x y ≡ false → lt y x ≡ false → ties lt x y ≡ true
  tied x y f g = rw f (rw g refl)

  untied : (x y : X) → ties lt x y ≡ true → (lt x y ≡ false) × (lt y x ≡ false)
  untied x y h = by (lt x y) (lt y x) refl refl h where
    by : (a b : Bool) → lt x y ≡ a → lt y x ≡ b → ties lt x y ≡ true → (a ≡ false) × (b ≡ false)
    by false false e f h = (refl, refl)
    by false true e f h = absurd (false≢true (sym (rw e (rw f refl)) ∙ h))
    by true b e f h = absurd (false≢true (sym (rw e refl) ∙ h))

  -- ---- lists in order that have those that tie alike are one

  heads : {x y : X} {xs ys : List X} → x ∷ xs ≡ y ∷ ys → x ≡ y
  heads {x} e = ap (λ l. get_or l 0 x) e

  member : (t : X → Bool) (Q : X → Type 0) (l r : List X) (y : X) → y ∷ r ≡ filter t l → AllByRecursion Q l → Q y
  member t Q [] r y e all = absurd (cc (e))
  member t Q (z ∷ zs) r y e all = by (t z) refl (λ f. member t Q zs r y f all.1) where
    by : (b : Bool) → t z ≡ b → (y ∷ r ≡ filter t zs → Q y) → Q y
    by true f later = subst Q (sym (heads {x = y} {y = z} {xs = r} {ys = filter t zs} (e ∙ rw f refl))) all.0
    by false f later = later (e ∙ rw f refl)

  abbrev alike : List X → List X → Type 0
  alike ys zs = (x : X) → filter (ties lt x) ys ≡ filter (ties lt x) zs

  ties_itself : (x : X) → ties lt x x ≡ true
  ties_itself x = tied x x (itself x) (itself x)

  first_kept : (x : X) (xs : List X) → filter (ties lt x) (x ∷ xs) ≡ x ∷ filter (ties lt x) xs
  first_kept x xs = rw (ties_itself x) refl

  not_less : (y z : X) (ys zs : List X) → Up (z ∷ zs) → alike (y ∷ ys) (z ∷ zs) → lt y z ≡ false
  not_less y z ys zs up same =
      member (ties lt y) (λ w. lt w z ≡ false) (z ∷ zs) (filter (ties lt y) ys) y (sym (first_kept y ys) ∙ same y) (itself z, up.0)

  tails : {x y : X} {xs ys : List X} → x ∷ xs ≡ y ∷ ys → xs ≡ ys
  tails {xs} e = ap (λ l. drop 1 l) e

  rest_alike : (y : X) (ys zs : List X) → alike (y ∷ ys) (y ∷ zs) → alike ys zs
  rest_alike y ys zs same x = by (ties lt x y) refl where
    by : (b : Bool) → ties lt x y ≡ b → filter (ties lt x) ys ≡ filter (ties lt x) zs
    by true e = tails {x = y} {y = y} {xs = filter (ties lt x) ys} {ys = filter (ties lt x) zs} (sym (rw e refl) ∙ (same x ∙ rw e refl))
    by false e = sym (rw e refl) ∙ (same x ∙ rw e refl)

  pub one_list : (ys zs : List X) → Up ys → Up zs → alike ys zs → ys ≡ zs
  one_list [] [] u v same = refl
  one_list [] (z ∷ zs) u v same = absurd (cc (same z ∙ first_kept z zs))
  one_list (y ∷ ys) [] u v same = absurd (cc (sym (first_kept y ys) ∙ same y))
  one_list (y ∷ ys) (z ∷ zs) u v same =
      let f = not_less y z ys zs v same in
      let g = not_less z y zs ys u (λ x. sym (same x)) in
      let kept : filter (ties lt y) (z ∷ zs) ≡ z ∷ filter (ties lt y) zs = rw (tied y z f g) refl in
      let is : y ≡ z = heads (sym (first_kept y ys) ∙ (same y ∙ kept)) in
      let more : alike (y ∷ ys) (y ∷ zs) = subst (λ (x : X). alike (y ∷ ys) (x ∷ zs)) (sym is) same in
      ap (λ x. x ∷ ys) is ∙ ap (λ l. z ∷ l) (one_list ys zs u.1 v.1 (rest_alike y ys zs more))

  -- ---- what `sorted_by` gives is one of them

  put_all : (x : X) (P : X → Type 0) (ys : List X) → P x → AllByRecursion P ys → AllByRecursion P (put_sorted lt x ys)
  put_all x P [] p all = (p, tt)
  put_all x P (y ∷ ys) p all = by (lt y x) refl (put_all x P ys p all.1) where
    by : (b : Bool) → lt y x ≡ b → AllByRecursion P (put_sorted lt x ys) → AllByRecursion P (put_sorted lt x (y ∷ ys))
    by true e more = rw e (all.0, more)
    by false e more = rw e (p, (all.0, all.1))

  all_chain : (x y : X) (zs : List X) → lt y x ≡ false → AllByRecursion (λ z. lt z y ≡ false) zs → AllByRecursion (λ z. lt z x ≡ false) zs
  all_chain x y [] f all = tt
  all_chain x y (z ∷ zs) f all = (o.chain z y x all.0 f, all_chain x y zs f all.1)

  put_up : (x : X) (ys : List X) → Up ys → Up (put_sorted lt x ys)
  put_up x [] up = (tt, tt)
  put_up x (y ∷ ys) up = by (lt y x) refl (put_up x ys up.1) where
    by : (b : Bool) → lt y x ≡ b → Up (put_sorted lt x ys) → Up (put_sorted lt x (y ∷ ys))
    by true e more = rw e (put_all x (λ z. lt z y ≡ false) ys (o.one_way y x e) up.0, more)
    by false e more = rw e ((e, all_chain x y ys e up.0), (up.0, up.1))

  pub sorted_up : (xs : List X) → Up (sorted_by lt xs)
  unfolding sorted_by
  sorted_up [] = tt
  sorted_up (x ∷ xs) = put_up x (sorted_by lt xs) (sorted_up xs)

  -- it has those that tie with any other as they stood
  apart : (x y z : X) → lt y x ≡ true → ties lt z x ≡ true → ties lt z y ≡ true → ⊥
  apart x y z less f g = false≢true (sym (o.chain y z x (untied z y g).1 (untied z x f).0) ∙ less)

  put_alike : (z x : X) (ys : List X) → filter (ties lt z) (put_sorted lt x ys) ≡ filter (ties lt z) (x ∷ ys)
  put_alike z x [] = refl
  put_alike z x (y ∷ ys) = by (lt y x) refl (put_alike z x ys) where
    behind : (a b : Bool) → lt y x ≡ true → ties lt z x ≡ a → ties lt z y ≡ b → filter (ties lt z) (put_sorted lt x ys) ≡ filter (ties lt z) (x ∷ ys)
        → filter (ties lt z) (y ∷ put_sorted lt x ys) ≡ filter (ties lt z) (x ∷ y ∷ ys)
    behind true true less f g more = absurd (apart x y z less f g)
    behind true false less f g more = rw g (rw f (more ∙ rw f refl))
    behind false true less f g more = rw g (rw f (ap (λ l. y ∷ l) (more ∙ rw f refl)))
    behind false false less f g more = rw g (rw f (more ∙ rw f refl))

    by : (b : Bool) → lt y x ≡ b → filter (ties lt z) (put_sorted lt x ys) ≡ filter (ties lt z) (x ∷ ys)
        → filter (ties lt z) (put_sorted lt x (y ∷ ys)) ≡ filter (ties lt z) (x ∷ y ∷ ys)
    by true e more = rw e (behind (ties lt z x) (ties lt z y) e refl refl more)
    by false e more = rw e refl

  if_alike : (z x : X) (ys zs : List X) → filter (ties lt z) ys ≡ filter (ties lt z) zs → filter (ties lt z) (x ∷ ys) ≡ filter (ties lt z) (x ∷ zs)
  if_alike z x ys zs same = ap (λ l. cond (ties lt z x) (x ∷ l) l) same

  pub sorted_alike : (xs : List X) → alike (sorted_by lt xs) xs
  unfolding sorted_by
  sorted_alike [] z = refl
  sorted_alike (x ∷ xs) z = put_alike z x (sorted_by lt xs) ∙ if_alike z x (sorted_by lt xs) xs (sorted_alike xs z)

  -- ---- what a sort ensures

  up_from : (ys : List X) → ((i j : ℕ) (d : X) → i ≤ j → j < length ys → lt (get_or ys j d) (get_or ys i d) ≡ false) → Up ys
  up_from [] h = tt
  up_from (y ∷ ys) h = (above y ys (λ k d e. h 0 (suc k) d (omega arith) (omega (arith, e))), up_from ys (λ i j d e f. h (suc i) (suc j) d (omega (arith, e)) (omega (arith, f)))) where
    above : (y : X) (zs : List X) → ((k : ℕ) (d : X) → k < length zs → lt (get_or zs k d) y ≡ false) → AllByRecursion (λ z. lt z y ≡ false) zs
    above y [] h = tt
    above y (z ∷ zs) h = (h 0 z (omega arith), above y zs (λ k d e. h (suc k) d (omega (arith, e))))

  pub stably_sorted : (xs ys : List X) → IsSortedBy lt ys → IsStableBy lt xs ys → ys ≡ sorted_by lt xs
  stably_sorted xs ys up stable =
      one_list ys (sorted_by lt xs) (up_from ys (sorted_far lt o ys up)) (sorted_up xs) (λ x. stable x ∙ sym (sorted_alike xs x))

-- rows by the values in front of them
pub rows_ranked : {X : Type 0} → IsStrictWeakOrder (row_less {X = X})
rows_ranked = ranks_by (lists_total value_total) (λ row. row.0)
