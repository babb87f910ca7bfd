-- Keys that rise, one more at a time.
use Rattle.std.proofs.Common.{◌≡◌, List, [], ◌∷◌, ◌++◌, Option, Some, None, refl, ◌∙◌, ap}
use Rattle.std.specs.BTreeMap.{insert_entry}
use Rattle.std.specs.Cmp.{IsTotalOrder}
use Rattle.std.specs.List.{AllByRecursion}
use Rattle.std.specs.List.Sorted.{IsStrictlySortedBy}
use Rattle.std.specs.Map.{keys_of}
use Rattle.std.specs.Option.{IfSome}
use Rattle.std.specs.Ordering.{match_ordering, ordering_reverse}
use Rattle.std.specs.declared.cmp.Ordering.{Ordering}
use Rattle.std.specs.declared.cmp.Ordering.TheVariants.{Less}

-- the last key, or this one where there is none
abbrev pub last_of : {K X : Type 0} → Option K → List (K × X) → Option K
last_of last [] = last
last_of last (e ∷ es) = last_of (Some e.0) es

pub last_of-push : {K X : Type 0} (last : Option K) (es : List (K × X)) (e : K × X) → last_of last (es ++ e ∷ []) ≡ Some e.0
last_of-push last [] e = refl
last_of-push last (d ∷ es) e = last_of-push (Some d.0) es e

module _ {K : Type 0} (R : K → K → Ordering) where
  -- a key that may come behind the last one
  abbrev pub MayFollow : Option K → K → Type 0
  MayFollow last k = IfSome last (λ l. R l k ≡ Less)

  all_keys_push : {X : Type 0} (P : K → Type 0) (es : List (K × X)) (e : K × X) → AllByRecursion P (keys_of es) → P e.0 → AllByRecursion P (keys_of (es ++ e ∷ []))
  all_keys_push P [] e all here = (here, tt)
  all_keys_push P (d ∷ es) e all here = (all.0, all_keys_push P es e all.1 here)

  all_keys_front : {X : Type 0} (P : K → Type 0) (es ds : List (K × X)) → AllByRecursion P (keys_of (es ++ ds)) → AllByRecursion P (keys_of es)
  all_keys_front P [] ds all = tt
  all_keys_front P (e ∷ es) ds all = (all.0, all_keys_front P es ds all.1)

  pub rising_front : {X : Type 0} (es ds : List (K × X)) → IsStrictlySortedBy R (keys_of (es ++ ds)) → IsStrictlySortedBy R (keys_of es)
  unfolding IsStrictlySortedBy
  rising_front [] ds rising = tt
  rising_front (e ∷ es) ds rising = (all_keys_front (λ y. R e.0 y ≡ Less) es ds rising.0, rising_front es ds rising.1)

  follows_later : {X : Type 0} (l : K) (es : List (K × X)) (e : K × X) (ds : List (K × X)) → IsStrictlySortedBy R (l ∷ keys_of (es ++ e ∷ ds)) → MayFollow (last_of (Some l) es) e.0
  unfolding IsStrictlySortedBy
  follows_later l [] e ds rising = rising.0.0
  follows_later l (d ∷ es) e ds rising = follows_later d.0 es e ds rising.1

  -- behind the last of them, where the keys rise
  pub follows : {X : Type 0} (es : List (K × X)) (e : K × X) (ds : List (K × X)) → IsStrictlySortedBy R (keys_of (es ++ e ∷ ds)) → MayFollow (last_of None es) e.0
  follows [] e ds rising = tt
  follows (d ∷ es) e ds rising = follows_later d.0 es e ds rising

module _ {K : Type 0} {R : K → K → Ordering} (o : IsTotalOrder R) where
  all_before : {X : Type 0} (l : K) (es : List (K × X)) (k : K) → IsStrictlySortedBy R (l ∷ keys_of es) → MayFollow R (last_of (Some l) es) k → AllByRecursion (λ y. R y k ≡ Less) (l ∷ keys_of es)
  unfolding IsStrictlySortedBy
  all_before l [] k rising after = (after, tt)
  all_before l (e ∷ es) k rising after = let later = all_before e.0 es k rising.1 after in (o.trans l e.0 k rising.0.0 later.0, later)

  -- a key above the last one is above all
  pub above_all : {X : Type 0} (es : List (K × X)) (k : K) → IsStrictlySortedBy R (keys_of es) → MayFollow R (last_of None es) k → AllByRecursion (λ y. R y k ≡ Less) (keys_of es)
  above_all [] k rising after = tt
  above_all (e ∷ es) k rising after = all_before e.0 es k rising after

  rising_more : {X : Type 0} (es : List (K × X)) (e : K × X) → IsStrictlySortedBy R (keys_of es) → AllByRecursion (λ y. R y e.0 ≡ Less) (keys_of es) → IsStrictlySortedBy R (keys_of (es ++ e ∷ []))
  unfolding IsStrictlySortedBy
  rising_more [] e rising above = (tt, tt)
  rising_more (d ∷ es) e rising above = (all_keys_push R (λ y. R d.0 y ≡ Less) es e rising.0 above.0, rising_more es e rising.1 above.1)

  pub rising_push : {X : Type 0} (es : List (K × X)) (e : K × X) → IsStrictlySortedBy R (keys_of es) → MayFollow R (last_of None es) e.0 → IsStrictlySortedBy R (keys_of (es ++ e ∷ []))
  rising_push es e rising after = rising_more es e rising (above_all es e.0 rising after)

  -- an insertion above all keys goes to the end
  pub inserted_last : {X : Type 0} (es : List (K × X)) (k : K) (v : X) → AllByRecursion (λ y. R y k ≡ Less) (keys_of es) → insert_entry R es k v ≡ es ++ (k, v) ∷ []
  inserted_last [] k v above = refl
  inserted_last (e ∷ es) k v above =
      ap (λ r. match_ordering r ((k, v) ∷ e ∷ es) ((e.0, v) ∷ es) (e ∷ insert_entry R es k v)) (o.antisymm k e.0 ∙ ap ordering_reverse above.0)
      ∙ ap (λ l. e ∷ l) (inserted_last es k v above.1)
