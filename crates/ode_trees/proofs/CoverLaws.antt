-- Trees under their codes.
use Rattle.std.proofs.Common.{◌≡◌, ℕ, Bool, true, false, cond, List, [], ◌∷◌, ◌++◌, Some, None, Option, refl, ap, sym, ◌∙◌, subst, OnOk, Ok, Err, Result}
use Rattle.std.specs.Prelude.{◌||◌}
use Rattle.std.specs.BTreeMap.{insert_entry}
use Rattle.std.specs.Cmp.Lexicographic.{slice_cmp}
use Rattle.std.specs.List.{list_any}
use Rattle.std.specs.Map.{lookup}
use Rattle.std.specs.Option.{is_some}
use Rattle.std.specs.Ordering.{is_eq, match_ordering, nat_cmp}
use Rattle.std.specs.declared.alloc.AllocError.{AllocError}
use Rattle.std.specs.declared.cmp.Ordering.{Ordering}
use Rattle.std.specs.declared.cmp.Ordering.TheVariants.{Less, Equal, Greater}
use Rattle.std.proofs.lemmas.List.Folds.{list_any-append}
use Rattle.std.proofs.lemmas.Map.Text.{is_eq-slice_cmp}
use Rattle.std.proofs.lemmas.Slice.Eq.{bytes_eq-Decides}
use Rattle.ode_value.specs.declared.tree.StateTree.{StateTree}
use Rattle.ode_value.specs.TreeOrder.{same_tree}
use Rattle.ode_trees.specs.Codes.{code}
use Rattle.ode_trees.specs.Found.{Covers}
use Rattle.ode_trees.proofs.EqualTrees.{same_tree-equal}

module _ {K X : Type 0} (p : K → Bool) (cmp : K → K → Ordering) (k : K) (v : X) where
  -- what is found is found with one more entry
  still : (es : List (K × X)) → is_some (lookup p es) ≡ true → is_some (lookup p (insert_entry cmp es k v)) ≡ true
  still [] h = cc
  still (e ∷ es) h = by_order (cmp k e.0) (insert_entry cmp es k v) (still es) where
    by_test : (t : Bool) (a b : Option X) → is_some b ≡ true → is_some (cond t (Some v) b) ≡ true
    by_test true a b q = refl
    by_test false a b q = q

    by_order : (o : Ordering) (more : List (K × X)) → (is_some (lookup p es) ≡ true → is_some (lookup p more) ≡ true) → is_some (lookup p (match_ordering o ((k, v) ∷ e ∷ es) ((e.0, v) ∷ es) (e ∷ more))) ≡ true
    by_order Less more rest = by_test (p k) None (cond (p e.0) (Some e.1) (lookup p es)) h
    by_order Equal more rest = equal (p e.0) h where
      equal : (t : Bool) → is_some (cond t (Some e.1) (lookup p es)) ≡ true → is_some (cond t (Some v) (lookup p es)) ≡ true
      equal true q = refl
      equal false q = q
    by_order Greater more rest = greater (p e.0) h where
      greater : (t : Bool) → is_some (cond t (Some e.1) (lookup p es)) ≡ true → is_some (cond t (Some e.1) (lookup p more)) ≡ true
      greater true q = refl
      greater false q = rest q

  -- and so is the new one
  there : p k ≡ true → ((x : K) → cmp k x ≡ Equal → p x ≡ true) → (es : List (K × X)) → is_some (lookup p (insert_entry cmp es k v)) ≡ true
  there is same [] = ap (λ t. is_some (cond t (Some v) (lookup p []))) is
  there is same (e ∷ es) = by_order (cmp k e.0) refl (insert_entry cmp es k v) (there is same es) where
    by_order : (o : Ordering) → cmp k e.0 ≡ o → (more : List (K × X)) → is_some (lookup p more) ≡ true → is_some (lookup p (match_ordering o ((k, v) ∷ e ∷ es) ((e.0, v) ∷ es) (e ∷ more))) ≡ true
    by_order Less q more rest = ap (λ t. is_some (cond t (Some v) (cond (p e.0) (Some e.1) (lookup p es)))) is
    by_order Equal q more rest = ap (λ t. is_some (cond t (Some v) (lookup p es))) (same e.0 q)
    by_order Greater q more rest = greater (p e.0) where
      greater : (t : Bool) → is_some (cond t (Some e.1) (lookup p more)) ≡ true
      greater true = refl
      greater false = rest

itself : (xs : List ℕ) → is_eq (slice_cmp nat_cmp xs xs) ≡ true
itself xs = is_eq-slice_cmp xs xs ∙ (bytes_eq-Decides xs xs).1 refl

or_none : (b : Bool) → (b || false) ≡ true → b ≡ true
or_none true h = refl
or_none false h = cc

pub covers-new : {K : Type 0} (code_of : K → List ℕ) (cmp : K → K → Ordering) → ((x y : K) → cmp x y ≡ slice_cmp nat_cmp (code_of x) (code_of y)) → (trees : List StateTree) (entries : List (K × ℕ)) (k : K) (n : ℕ) (new : StateTree)
    → code_of k ≡ code new → Covers trees entries code_of → Covers (trees ++ new ∷ []) (insert_entry cmp entries k n) code_of
covers-new {K} code_of cmp order trees entries k n new is covers = λ s h. by_known s (list_any (same_tree s) trees) refl (sym (list_any-append (same_tree s) trees (new ∷ [])) ∙ h) where
  by_known : (s : StateTree) (t : Bool) → list_any (same_tree s) trees ≡ t → (t || (same_tree s new || false)) ≡ true
      → is_some (lookup (λ x. is_eq (slice_cmp nat_cmp (code s) (code_of x))) (insert_entry cmp entries k n)) ≡ true
  by_known s true known h = still (λ x. is_eq (slice_cmp nat_cmp (code s) (code_of x))) cmp k n entries (covers s known)
  by_known s false known h =
      let same : code_of k ≡ code s = is ∙ ap code (sym (same_tree-equal s new (or_none (same_tree s new) h))) in
      there (λ x. is_eq (slice_cmp nat_cmp (code s) (code_of x))) cmp k n
      (ap (λ c. is_eq (slice_cmp nat_cmp (code s) c)) same ∙ itself (code s))
      (λ x q. ap (λ c. is_eq (slice_cmp nat_cmp c (code_of x))) (sym same) ∙ ap is_eq (sym (order k x) ∙ q))
      entries

-- a tree under whose code there is none isn't there
pub not-covered : {K : Type 0} (entries : List (K × ℕ)) (code_of : K → List ℕ) (trees : List StateTree) (s : StateTree) (c : List ℕ) → c ≡ code s → Covers trees entries code_of
    → lookup (λ k. is_eq (slice_cmp nat_cmp c (code_of k))) entries ≡ None → list_any (same_tree s) trees ≡ false
not-covered entries code_of trees s c is covers none = by_known (list_any (same_tree s) trees) refl where
  found : is_some (lookup (λ k. is_eq (slice_cmp nat_cmp (code s) (code_of k))) entries) ≡ false
  found = ap (λ l. is_some (lookup (λ k. is_eq (slice_cmp nat_cmp l (code_of k))) entries)) (sym is) ∙ ap is_some none

  by_known : (t : Bool) → list_any (same_tree s) trees ≡ t → t ≡ false
  by_known true known = let both : true ≡ false = sym (covers s known) ∙ found in both
  by_known false known = refl

pub covers-ok : {K : Type 0} (entries more : List (K × ℕ)) (code_of : K → List ℕ) (cmp : K → K → Ordering) → ((x y : K) → cmp x y ≡ slice_cmp nat_cmp (code_of x) (code_of y)) → (trees after : List StateTree) (k : K) (n : ℕ) (new : StateTree)
    (r : Result (Unit {0}) AllocError) → code_of k ≡ code new → Covers trees entries code_of → more ≡ insert_entry cmp entries k n → OnOk r (after ≡ trees ++ new ∷ []) → OnOk r (Covers after more code_of)
covers-ok entries more code_of cmp order trees after k n new (Ok x) is covers p q =
    subst (λ l. Covers after l code_of) (sym p) (subst (λ l. Covers l (insert_entry cmp entries k n) code_of) (sym q) (covers-new code_of cmp order trees entries k n new is covers))
covers-ok entries more code_of cmp order trees after k n new (Err x) is covers p q = tt
