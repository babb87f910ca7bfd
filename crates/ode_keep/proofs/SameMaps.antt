-- Maps with rising keys that have the same under each key are the same.
use Rattle.std.proofs.Common.{◌≡◌, List, [], ◌∷◌, Bool, true, false, cond, Option, Some, refl, sym, ap, subst, ◌∙◌}
use Rattle.std.specs.Prelude.{T, ◌&&◌}
use Rattle.std.specs.BTreeMap.{is_at}
use Rattle.std.specs.FinMap.Entries.{same_entries, find, below_all, is_sorted}
use Rattle.std.specs.List.{AllByRecursion}
use Rattle.std.specs.List.Sorted.{IsStrictlySortedBy}
use Rattle.std.specs.Map.{lookup, keys_of}
use Rattle.std.specs.Ordering.{is_eq, is_lt}
use Rattle.std.specs.declared.cmp.Ordering.TheVariants.{Less}
use Rattle.ode_value.specs.declared.key.Key.{Key}
use Rattle.ode_value.specs.Keys.{key_cmp}
use Rattle.ode_keep.specs.Entries.{HasRisingKeys}
use Rattle.ode_keep.proofs.Keys.{key_total, same_key}

both : (a b : Bool) → T a → T b → T (a && b)
both true b p q = q
both false b p q = p

module _ {X : Type 0} where
  found_same : (q : Key) (es : List (Key × X)) → find key_cmp q es ≡ lookup (is_at (key_cmp q)) es
  found_same q [] = refl
  found_same q (e ∷ es) = ap (λ (r : Option X). cond (is_at (key_cmp q) e.0) (Some e.1) r) (found_same q es)

  below : (k : Key) (es : List (Key × X)) → AllByRecursion (λ y. key_cmp k y ≡ Less) (keys_of es) → T (below_all key_cmp k es)
  below k [] all = tt
  below k (e ∷ es) all = both (is_lt (key_cmp k e.0)) (below_all key_cmp k es) (subst (λ o. T (is_lt o)) (sym all.0) tt) (below k es all.1)

  sorted : (es : List (Key × X)) → HasRisingKeys es → T (is_sorted key_cmp es)
  unfolding IsStrictlySortedBy
  sorted [] rising = tt
  sorted (e ∷ es) rising = both (below_all key_cmp e.0 es) (is_sorted key_cmp es) (below e.0 es rising.0) (sorted es rising.1)

  pub same_map : (es fs : List (Key × X)) → HasRisingKeys es → HasRisingKeys fs → ((q : Key) → lookup (is_at (key_cmp q)) es ≡ lookup (is_at (key_cmp q)) fs) → es ≡ fs
  same_map es fs s t same =
      same_entries key_cmp key_total (λ x y e. sym (same_key x y (ap is_eq e))) es fs (sorted es s) (sorted fs t)
      (λ q. found_same q es ∙ same q ∙ sym (found_same q fs))
