-- A value that is written through a key that is there stands where an insertion puts it.
use Rattle.std.proofs.Common.{◌≡◌, ℕ, List, [], ◌∷◌, true, false, cond, Some, None, refl, sym, ap, ◌∙◌, arith}
use Rattle.std.proofs.lemmas.Bool.Decides.{nat_tests}
use Rattle.std.specs.BTreeMap.{insert_entry, is_at}
use Rattle.std.specs.List.{AllByRecursion}
use Rattle.std.specs.List.Sorted.{IsStrictlySortedBy}
use Rattle.std.specs.Map.{keys_of, lookup, set_value}
use Rattle.std.specs.Ordering.{match_ordering, nat_cmp}
use Rattle.std.specs.declared.cmp.Ordering.{Ordering}
use Rattle.std.specs.declared.cmp.Ordering.TheVariants.{Less, Equal, Greater}

less_less : (id k l : ℕ) → nat_cmp id k ≡ Less → nat_cmp k l ≡ Less → is_at (nat_cmp id) l ≡ false
less_less id k l below above = grind (arith, nat_tests)

module _ {X : Type 0} where
  none_above : (id k : ℕ) (es : List (ℕ × X)) → nat_cmp id k ≡ Less → AllByRecursion (λ l. nat_cmp k l ≡ Less) (keys_of es) → lookup (is_at (nat_cmp id)) es ≡ None
  none_above id k [] below above = refl
  none_above id k (e ∷ es) below above =
      ap (λ b. cond b (Some e.1) (lookup (is_at (nat_cmp id)) es)) (less_less id k e.0 below above.0) ∙ none_above id k es below above.1

  step : (id : ℕ) (e : ℕ × X) (es : List (ℕ × X)) (v w : X) → AllByRecursion (λ l. nat_cmp e.0 l ≡ Less) (keys_of es)
      → (lookup (is_at (nat_cmp id)) es ≡ Some v → set_value (is_at (nat_cmp id)) es w ≡ insert_entry nat_cmp es id w)
      → (o : Ordering) → nat_cmp id e.0 ≡ o → lookup (is_at (nat_cmp id)) (e ∷ es) ≡ Some v
      → set_value (is_at (nat_cmp id)) (e ∷ es) w ≡ match_ordering o ((id, w) ∷ e ∷ es) ((e.0, w) ∷ es) (e ∷ insert_entry nat_cmp es id w)
  step id e es v w above more Less is found =
      absurd (let none = none_above id e.0 es is above in let out : is_at (nat_cmp id) e.0 ≡ false = grind (arith, nat_tests) in let there = sym (ap (λ b. cond b (Some e.1) (lookup (is_at (nat_cmp id)) es)) out) ∙ found in cc (none, there))
  step id e es v w above more Equal is found = let at : is_at (nat_cmp id) e.0 ≡ true = grind (arith, nat_tests) in ap (λ b. cond b ((e.0, w) ∷ es) (e ∷ set_value (is_at (nat_cmp id)) es w)) at
  step id e es v w above more Greater is found =
      let out : is_at (nat_cmp id) e.0 ≡ false = grind (arith, nat_tests) in
      let there = sym (ap (λ b. cond b (Some e.1) (lookup (is_at (nat_cmp id)) es)) out) ∙ found in
      ap (λ b. cond b ((e.0, w) ∷ es) (e ∷ set_value (is_at (nat_cmp id)) es w)) out ∙ ap (λ (fs : List (ℕ × X)). e ∷ fs) (more there)

  pub written_is_inserted : (id : ℕ) (es : List (ℕ × X)) (v w : X) → IsStrictlySortedBy nat_cmp (keys_of es) → lookup (is_at (nat_cmp id)) es ≡ Some v
      → set_value (is_at (nat_cmp id)) es w ≡ insert_entry nat_cmp es id w
  unfolding IsStrictlySortedBy
  written_is_inserted id [] v w sorted found = absurd (cc found)
  written_is_inserted id (e ∷ es) v w sorted found = step id e es v w sorted.0 (λ there. written_is_inserted id es v w sorted.1 there) (nat_cmp id e.0) refl found
