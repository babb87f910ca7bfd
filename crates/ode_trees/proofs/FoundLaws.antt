-- The list of trees that steps of its trees in turn fill is the list that rounds of steps fill.
use Rattle.std.proofs.Common.{◌≡◌, ℕ, zero, suc, ◌+◌, ◌-◌, ◌<◌, ◌≤◌, ◌⊎◌, Bool, true, false, cond, List, [], ◌∷◌, ◌++◌, length, map, take, drop, get_or, refl, ap, sym, ◌∙◌, subst, arith, Some, None, inl, inr, OnOk, Ok, Err, Result}
use Rattle.std.specs.Prelude.{◌||◌, fold, flat_map, nat_le}
use Rattle.std.specs.List.{list_any, slice_get}
use Rattle.std.proofs.lemmas.Bool.{cases_lt, or_left, or_right}
use Rattle.std.proofs.lemmas.Bool.Decides.{nat_tests}
use Rattle.std.proofs.lemmas.Grind.{flat_map-append}
use Rattle.std.proofs.lemmas.List.{append-nil, map-append, take_all, take_more, take-append-le, take-append-drop}
use Rattle.std.proofs.lemmas.List.Folds.{list_any-append}
use Rattle.std.proofs.lemmas.List.Sums.{fold-append}
use Rattle.std.proofs.lemmas.Option.{slice_get_read}
use Rattle.std.specs.declared.alloc.AllocError.{AllocError}
use Rattle.ode_value.specs.Limits.{state_limit}
use Rattle.ode_value.specs.declared.event.EventExpr.{EventExpr}
use Rattle.ode_value.specs.declared.tree.StateTree.{StateTree}
use Rattle.ode_value.specs.Marks.{Mark, spelled}
use Rattle.ode_value.specs.TreeCount.{with_tree, counted}
use Rattle.ode_value.specs.TreeOrder.{same_tree}
use Rattle.ode_value.specs.Trees.{first_tree, next_tree}
use Rattle.ode_trees.specs.Found.{Leads, made_from, IsMade, steps_by, IsAnswer}
use Rattle.ode_trees.specs.ListMachines.{each_step, grown_listed, listed_count}
use Rattle.ode_trees.proofs.CountLaws.{Begins, begins-more, begins-fold, begins-longer, grown-next, grown-first, longer, last-round, beyond, leb-within, each-marks, count-marks}
use Rattle.ode_trees.proofs.EqualTrees.{same_tree-itself, same_tree-equal}

-- ---- trees that are there

abbrev KnowsAll : List StateTree → List StateTree → Type 0
KnowsAll trees [] = Unit {0}
KnowsAll trees (s ∷ new) = (list_any (same_tree s) trees ≡ true) × KnowsAll trees new

knows-more : (xs ys : List StateTree) (s : StateTree) → Begins xs ys → list_any (same_tree s) xs ≡ true → list_any (same_tree s) ys ≡ true
knows-more xs ys s p h = ap (list_any (same_tree s)) p.1 ∙ list_any-append (same_tree s) xs p.0 ∙ or_left (list_any (same_tree s) xs) (list_any (same_tree s) p.0) h

knows-last : (trees : List StateTree) (s : StateTree) → list_any (same_tree s) (trees ++ s ∷ []) ≡ true
knows-last trees s = list_any-append (same_tree s) trees (s ∷ []) ∙ or_right (list_any (same_tree s) trees) (same_tree s s || false) (or_left (same_tree s s) false (same_tree-itself s))

knows-with_tree : (trees : List StateTree) (s : StateTree) → list_any (same_tree s) (with_tree trees s) ≡ true
knows-with_tree trees s = by_test (list_any (same_tree s) trees) refl where
  by_test : (t : Bool) → list_any (same_tree s) trees ≡ t → list_any (same_tree s) (cond t trees (trees ++ s ∷ [])) ≡ true
  by_test true p = p
  by_test false p = knows-last trees s

knows-fold : (trees new : List StateTree) → KnowsAll (fold with_tree trees new) new
knows-fold trees [] = tt
knows-fold trees (s ∷ new) =
    (knows-more (with_tree trees s) (fold with_tree (with_tree trees s) new) s (begins-fold (with_tree trees s) new) (knows-with_tree trees s), knows-fold (with_tree trees s) new)

fold-known : (trees new : List StateTree) → KnowsAll trees new → fold with_tree trees new ≡ trees
fold-known trees [] h = refl
fold-known trees (s ∷ new) h =
    ap (λ t. fold with_tree (cond t trees (trees ++ s ∷ [])) new) h.0 ∙ fold-known trees new h.1

-- what is there isn't added again
again : (trees new more : List StateTree) → fold with_tree (fold with_tree trees new) (new ++ more) ≡ fold with_tree trees (new ++ more)
again trees new more =
    fold-append with_tree (fold with_tree trees new) new more
    ∙ ap (λ l. fold with_tree l more) (fold-known (fold with_tree trees new) new (knows-fold trees new))
    ∙ sym (fold-append with_tree trees new more)

-- ---- fronts of a list

take-begins : (k q : ℕ) (trees : List StateTree) → k ≤ q → Begins (take k trees) (take q trees)
take-begins zero q trees h = (take q trees, refl)
take-begins (suc k) zero trees h = absurd (omega arith)
take-begins (suc k) (suc q) [] h = ([], refl)
take-begins (suc k) (suc q) (s ∷ trees) h =
    let rest = take-begins k q trees (omega arith) in
    (rest.0, ap (λ l. s ∷ l) rest.1)

front-begins : (k : ℕ) (trees : List StateTree) → Begins (take k trees) trees
front-begins k trees = (drop k trees, sym (take-append-drop k trees))

same-front : (k : ℕ) (xs ys : List StateTree) → Begins xs ys → k ≤ length xs → take k ys ≡ take k xs
same-front k xs ys p h = ap (take k) p.1 ∙ take-append-le k xs p.0 h

module _ (firsts : List StateTree) (steps : StateTree → List StateTree) where
  -- more trees have more steps
  made-more : (xs ys : List StateTree) → Begins xs ys → Begins (made_from firsts steps xs) (made_from firsts steps ys)
  made-more xs ys p =
      let e : made_from firsts steps ys ≡ fold with_tree (made_from firsts steps xs) (flat_map steps p.0) =
      ap (made_from firsts steps) p.1 ∙ ap (fold with_tree firsts) (flat_map-append steps xs p.0) ∙ fold-append with_tree firsts (flat_map steps xs) (flat_map steps p.0) in
      let more = begins-fold (made_from firsts steps xs) (flat_map steps p.0) in
      (more.0, e ∙ more.1)

  -- the steps of one more tree
  made-last : (xs : List StateTree) (s : StateTree) → fold with_tree (made_from firsts steps xs) (steps s) ≡ made_from firsts steps (xs ++ s ∷ [])
  made-last xs s =
      sym (fold-append with_tree firsts (flat_map steps xs) (steps s))
      ∙ ap (λ l. fold with_tree firsts (flat_map steps xs ++ l)) (sym (append-nil (steps s)))
      ∙ ap (fold with_tree firsts) (sym (flat_map-append steps xs (s ∷ [])))

  pub none-made : IsMade firsts steps 0 firsts
  none-made = record {
    made = refl;
    before = λ k h. absurd (omega arith);
  }

  pub more-made : (q : ℕ) (trees : List StateTree) (d : StateTree) → q < length trees → IsMade firsts steps q trees → IsMade firsts steps (q + 1) (fold with_tree trees (steps (get_or trees q d)))
  more-made q trees d within h =
      let front : take (q + 1) grown ≡ take (q + 1) trees = same-front (q + 1) trees grown more (omega arith) in
      record {
        made =
            ap (λ l. fold with_tree l (steps (get_or trees q d))) h.made
            ∙ made-last (take q trees) (get_or trees q d)
            ∙ ap (made_from firsts steps) (sym (front ∙ take_more trees q d within));
        before = before;
      }
    where
      grown : List StateTree
      grown = fold with_tree trees (steps (get_or trees q d))

      more : Begins trees (fold with_tree trees (steps (get_or trees q d)))
      more = begins-fold trees (steps (get_or trees q d))

      here : (k : ℕ) → k < q ⊎ q ≤ k → k < q + 1 → k < length (made_from firsts steps (take k trees))
      here k (inl less) below = h.before k less
      here k (inr not_less) below =
          let same : q ≡ k = omega arith in
          subst (λ j. j < length (made_from firsts steps (take j trees))) same (subst (λ l. q < length l) h.made within)

      before : (k : ℕ) → k < q + 1 → k < length (made_from firsts steps (take k (fold with_tree trees (steps (get_or trees q d)))))
      before k below =
          let front : take k (fold with_tree trees (steps (get_or trees q d))) ≡ take k trees = same-front k trees (fold with_tree trees (steps (get_or trees q d))) more (omega arith) in
          subst (λ l. k < length (made_from firsts steps l)) (sym front) (here k (cases_lt k q) below)

-- ---- the list and the rounds

module _ (e : EventExpr) (lists : List (List Bool)) where
  abbrev made_by : List StateTree → List StateTree
  made_by trees = made_from (first_tree e ∷ []) (each_step e lists) trees

  -- each round is made from the round before
  round : (n : ℕ) → grown_listed e lists (suc n) ≡ made_from (first_tree e ∷ []) (each_step e lists) (grown_listed e lists n)
  round zero = grown-next e lists 0 ∙ ap (λ l. fold with_tree l (flat_map (each_step e lists) (grown_listed e lists 0))) (grown-first e lists)
  round (suc n) =
      let before : grown_listed e lists (suc n) ≡ made_by (grown_listed e lists n) = round n in
      let more = begins-fold (grown_listed e lists n) (flat_map (each_step e lists) (grown_listed e lists n)) in
      let longer_list : grown_listed e lists (suc n) ≡ grown_listed e lists n ++ more.0 = grown-next e lists n ∙ more.1 in
      let steps : flat_map (each_step e lists) (grown_listed e lists (suc n)) ≡ flat_map (each_step e lists) (grown_listed e lists n) ++ flat_map (each_step e lists) more.0 =
      ap (flat_map (each_step e lists)) longer_list ∙ flat_map-append (each_step e lists) (grown_listed e lists n) more.0 in
      grown-next e lists (suc n)
      ∙ ap (λ l. fold with_tree l (flat_map (each_step e lists) (grown_listed e lists (suc n)))) before
      ∙ ap (fold with_tree (made_by (grown_listed e lists n))) steps
      ∙ again (first_tree e ∷ []) (flat_map (each_step e lists) (grown_listed e lists n)) (flat_map (each_step e lists) more.0)
      ∙ ap (fold with_tree (first_tree e ∷ [])) (sym steps)

  first-begins : (xs : List StateTree) → Begins (first_tree e ∷ []) (made_from (first_tree e ∷ []) (each_step e lists) xs)
  first-begins xs = begins-fold (first_tree e ∷ []) (flat_map (each_step e lists) xs)

  module _ (q : ℕ) (trees : List StateTree) (made : IsMade (first_tree e ∷ []) (each_step e lists) q trees) where
    -- what steps of a front give is a front
    made-front : (k : ℕ) → k ≤ q → Begins (made_from (first_tree e ∷ []) (each_step e lists) (take k trees)) trees
    made-front k below =
        subst (λ l. Begins (made_from (first_tree e ∷ []) (each_step e lists) (take k trees)) l) (sym made.made)
        (made-more (first_tree e ∷ []) (each_step e lists) (take k trees) (take q trees) (take-begins k q trees below))

    -- a front that is longer by one is there already
    next-front : (k : ℕ) → k < q → Begins (take (k + 1) trees) (made_from (first_tree e ∷ []) (each_step e lists) (take k trees))
    next-front k below =
        let list = made_from (first_tree e ∷ []) (each_step e lists) (take k trees) in
        let front : take (k + 1) trees ≡ take (k + 1) list = same-front (k + 1) list trees (made-front k (omega arith)) (omega (arith, made.before k below)) in
        subst (λ l. Begins l (made_from (first_tree e ∷ []) (each_step e lists) (take k trees))) (sym front) (front-begins (k + 1) list)

    in-round : (n : ℕ) → n < q → Begins (take (n + 1) trees) (grown_listed e lists n)
    in-round zero below =
        let e0 : made_from (first_tree e ∷ []) (each_step e lists) (take 0 trees) ≡ grown_listed e lists 0 = sym (grown-first e lists) in
        subst (λ l. Begins (take (0 + 1) trees) l) e0 (next-front 0 below)
    in-round (suc n) below =
        let before : Begins (take (n + 1) trees) (grown_listed e lists n) = in-round n (omega arith) in
        let same : n + 1 ≡ suc n = omega arith in
        let grown = made-more (first_tree e ∷ []) (each_step e lists) (take (n + 1) trees) (grown_listed e lists n) before in
        let there : Begins (made_by (take (suc n) trees)) (grown_listed e lists (suc n)) =
        subst (λ l. Begins (made_by (take (suc n) trees)) l) (sym (round n)) (subst (λ k. Begins (made_by (take k trees)) (made_by (grown_listed e lists n))) same grown) in
        begins-more (take (suc n + 1) trees) (made_by (take (suc n) trees)) (grown_listed e lists (suc n)) (next-front (suc n) below) there

    -- the list is in the round of that number
    in-last : Begins trees (grown_listed e lists q)
    in-last = by_number q refl where
      by_number : (n : ℕ) → n ≡ q → Begins trees (grown_listed e lists q)
      by_number zero p =
          let same : trees ≡ made_by (take 0 trees) = made.made ∙ ap (λ k. made_by (take k trees)) (sym p) in
          subst (λ k. Begins trees (grown_listed e lists k)) p (subst (λ l. Begins trees l) (same ∙ sym (grown-first e lists)) ([], sym (append-nil trees)))
      by_number (suc n) p =
          let before = in-round n (omega arith) in
          let grown = made-more (first_tree e ∷ []) (each_step e lists) (take (n + 1) trees) (grown_listed e lists n) before in
          let same : n + 1 ≡ q = omega arith in
          let here : made_by (take (n + 1) trees) ≡ trees = ap (λ k. made_by (take k trees)) same ∙ sym made.made in
          subst (λ k. Begins trees (grown_listed e lists k)) p (subst (λ l. Begins trees l) (sym (round n)) (subst (λ l. Begins l (made_by (grown_listed e lists n))) here grown))

    -- and where all have been stepped each round is in the list
    all-in : q ≡ length trees → (n : ℕ) → Begins (grown_listed e lists n) trees
    all-in all zero = subst (λ l. Begins l trees) (sym (grown-first e lists)) (subst (λ l. Begins (first_tree e ∷ []) l) (sym made.made) (first-begins (take q trees)))
    all-in all (suc n) =
        let whole : take q trees ≡ trees = take_all q trees (omega arith) in
        let same : trees ≡ made_by trees = made.made ∙ ap made_by whole in
        let grown = made-more (first_tree e ∷ []) (each_step e lists) (grown_listed e lists n) trees (all-in all n) in
        subst (λ l. Begins l trees) (sym (round n)) (subst (λ l. Begins (made_by (grown_listed e lists n)) l) (sym same) grown)

    last-longer : q ≤ state_limit → length trees ≤ listed_count e lists
    last-longer few =
        let long = begins-longer trees (grown_listed e lists q) in-last in
        let more = longer e lists q (state_limit - q) in
        let all : q + (state_limit - q) ≡ state_limit = omega arith in
        let last : length (grown_listed e lists (q + (state_limit - q))) ≡ listed_count e lists = ap (λ k. length (grown_listed e lists k)) all ∙ last-round e lists in
        omega (arith, long, more, last)

    pub count-found : q ≤ length trees → q ≤ state_limit → length trees ≤ q ⊎ state_limit < length trees → counted (length trees) ≡ counted (listed_count e lists)
    count-found within few (inr many) =
        beyond (length trees) many ∙ sym (beyond (listed_count e lists) (omega (arith, last-longer few)))
    count-found within few (inl done) =
        let short = begins-longer (grown_listed e lists state_limit) trees (all-in (omega arith) state_limit) in
        let same : length trees ≡ listed_count e lists = omega (arith, last-longer few, short, last-round e lists) in
        ap counted same

-- ---- numbers of trees

same_head : {A : Type 0} (x y : A) (xs ys : List A) → x ∷ xs ≡ y ∷ ys → x ≡ y
same_head x y xs ys h = cc

same_tail : {A : Type 0} (x y : A) (xs ys : List A) → x ∷ xs ≡ y ∷ ys → xs ≡ ys
same_tail x y xs ys h = cc

get-more : (trees rest : List StateTree) (n : ℕ) (s : StateTree) → slice_get trees n ≡ Some s → slice_get (trees ++ rest) n ≡ Some s
get-more [] rest n s h = cc
get-more (t ∷ trees) rest zero s h = h
get-more (t ∷ trees) rest (suc n) s h = get-more trees rest n s h

pub get-last : (trees : List StateTree) (s : StateTree) → slice_get (trees ++ s ∷ []) (length trees) ≡ Some s
get-last [] s = refl
get-last (t ∷ trees) s = get-last trees s

leads-more : (trees rest : List StateTree) (next : List ℕ) (steps : List StateTree) → Leads trees next steps → Leads (trees ++ rest) next steps
leads-more trees rest [] [] h = refl
leads-more trees rest [] (s ∷ steps) h = cc
leads-more trees rest (n ∷ next) [] h = cc
leads-more trees rest (n ∷ next) (s ∷ steps) h =
    let here = get-more trees rest n s (same_head (slice_get trees n) (Some s) (map (slice_get trees) next) (map Some steps) h) in
    let more = leads-more trees rest next steps (same_tail (slice_get trees n) (Some s) (map (slice_get trees) next) (map Some steps) h) in
    λ i. here i ∷ more i

leads-last : (trees : List StateTree) (next : List ℕ) (steps : List StateTree) (n : ℕ) (s : StateTree) → Leads trees next steps → slice_get trees n ≡ Some s → Leads trees (next ++ n ∷ []) (steps ++ s ∷ [])
leads-last trees next steps n s h k =
    map-append (slice_get trees) next (n ∷ [])
    ∙ (λ i. h i ++ (k i ∷ []))
    ∙ sym (map-append Some steps (s ∷ []))

pub leads-new : (trees : List StateTree) (next : List ℕ) (s : StateTree) (steps : List StateTree) → Leads trees next steps → Leads (trees ++ s ∷ []) (next ++ length trees ∷ []) (steps ++ s ∷ [])
leads-new trees next s steps h = leads-last (trees ++ s ∷ []) next steps (length trees) s (leads-more trees (s ∷ []) next steps h) (get-last trees s)

get-knows : (trees : List StateTree) (n : ℕ) (s : StateTree) → slice_get trees n ≡ Some s → list_any (same_tree s) trees ≡ true
get-knows [] n s h = cc
get-knows (t ∷ trees) zero s h =
    let same : t ≡ s = cc in
    or_left (same_tree s t) (list_any (same_tree s) trees) (ap (same_tree s) same ∙ same_tree-itself s)
get-knows (t ∷ trees) (suc n) s h = or_right (same_tree s t) (list_any (same_tree s) trees) (get-knows trees n s h)

-- the list with a tree that is there, and with one that isn't
pub with-known : (trees : List StateTree) (n : ℕ) (s : StateTree) → slice_get trees n ≡ Some s → trees ≡ with_tree trees s
with-known trees n s h = sym (ap (λ t. cond t trees (trees ++ s ∷ [])) (get-knows trees n s h))

-- a tree that is the same as one that is there
pub get-same : (trees : List StateTree) (i : ℕ) (s t : StateTree) → i < length trees → t ≡ get_or trees i t → same_tree s t ≡ true → slice_get trees i ≡ Some s
get-same trees i s t within there h = slice_get_read trees (length trees) i t refl within there ∙ ap Some (sym (same_tree-equal s t h))

pub known-ok : (r : Result (Unit {0}) AllocError) (seen trees : List StateTree) (n : ℕ) (s : StateTree) → seen ≡ trees → slice_get seen n ≡ Some s → OnOk r (trees ≡ with_tree trees s)
known-ok (Ok x) seen trees n s p h = with-known trees n s (ap (λ l. slice_get l n) (sym p) ∙ h)
known-ok (Err x) seen trees n s p h = tt

pub new-ok : (r : Result (Unit {0}) AllocError) (trees more : List StateTree) (next numbers : List ℕ) (n : ℕ) (s : StateTree) → more ≡ trees ++ s ∷ [] → n ≡ length trees → OnOk r (numbers ≡ next ++ n ∷ [])
    → OnOk r ((steps : List StateTree) → Leads trees next steps → Leads more numbers (steps ++ s ∷ []))
new-ok (Ok x) trees more next numbers n s p q h = λ steps k.
    subst (λ l. Leads l numbers (steps ++ s ∷ [])) (sym p)
    (subst (λ l. Leads (trees ++ s ∷ []) l (steps ++ s ∷ [])) (sym (h ∙ ap (λ j. next ++ j ∷ []) q)) (leads-new trees next s steps k))
new-ok (Err x) trees more next numbers n s p q h = tt

-- the first tree stays where it is
pub first-stays : (trees new : List StateTree) (s : StateTree) → slice_get trees 0 ≡ Some s → slice_get (fold with_tree trees new) 0 ≡ Some s
first-stays trees new s h = let more = begins-fold trees new in ap (λ l. slice_get l 0) more.1 ∙ get-more trees more.0 0 s h

pub not-shorter : (trees new : List StateTree) → length trees ≤ length (fold with_tree trees new)
not-shorter trees new = begins-longer trees (fold with_tree trees new) (begins-fold trees new)

-- the steps of so many trees, and of one more
pub more-steps : (steps : StateTree → List StateTree) (q : ℕ) (trees new : List StateTree) (d : StateTree) → q < length trees
    → flat_map steps (take q trees) ++ steps (get_or trees q d) ≡ flat_map steps (take (q + 1) (fold with_tree trees new))
more-steps steps q trees new d within =
    let front : take (q + 1) (fold with_tree trees new) ≡ take (q + 1) trees = same-front (q + 1) trees (fold with_tree trees new) (begins-fold trees new) (omega arith) in
    ap (λ l. flat_map steps (take q trees) ++ l) (sym (append-nil (steps (get_or trees q d))))
    ∙ sym (flat_map-append steps (take q trees) (get_or trees q d ∷ []))
    ∙ ap (flat_map steps) (sym (front ∙ take_more trees q d within))

-- ---- steps by marks

steps-marks : (e : EventExpr) (ms : List Mark) (s : StateTree) → map (λ step. step s) (map (next_tree e) ms) ≡ steps_by e ms s
steps-marks e [] s = refl
steps-marks e (m ∷ ms) s = ap (λ l. next_tree e m s ∷ l) (steps-marks e ms s)

steps-of_lists : (e : EventExpr) (lists : List (List Bool)) (ms : List Mark) → lists ≡ map (spelled e) ms → (s : StateTree) → each_step e lists s ≡ steps_by e ms s
steps-of_lists e lists ms h s = ap (λ l. each_step e l s) h ∙ each-marks e ms s ∙ steps-marks e ms s

is-count : (n k : ℕ) → counted n ≡ counted k → n ≤ state_limit → n ≡ k
is-count n k h few = by_test (nat_le k state_limit) (sym (ap (λ t. cond t (Some n) None) (leb-within n state_limit few)) ∙ h) where
  by_test : (t : Bool) → Some n ≡ cond t (Some k) None → n ≡ k
  by_test true p = cc
  by_test false p = cc

more-than : (k : ℕ) → nat_le k state_limit ≡ false → state_limit < k
more-than k h = grind (arith, nat_tests)

is-many : (n k : ℕ) → counted n ≡ counted k → state_limit < n → state_limit < k
is-many n k h many = by_test (nat_le k state_limit) refl (sym (beyond n many) ∙ h) where
  by_test : (t : Bool) → nat_le k state_limit ≡ t → None ≡ cond t (Some k) None → state_limit < k
  by_test true p q = cc
  by_test false p q = more-than k p

pub found-many : (e : EventExpr) (lists : List (List Bool)) (n : ℕ) → state_limit < n → counted n ≡ counted (listed_count e lists) → (ms : List Mark) → lists ≡ map (spelled e) ms → IsAnswer e ms None
found-many e lists n many h ms p = subst (λ k. state_limit < k) (count-marks e lists ms p) (is-many n (listed_count e lists) h many)

pub found-few : (e : EventExpr) (lists : List (List Bool)) (trees : List StateTree) (next : List ℕ) → length trees ≤ state_limit → counted (length trees) ≡ counted (listed_count e lists)
    → slice_get trees 0 ≡ Some (first_tree e) → (length trees ≤ state_limit → Leads trees next (flat_map (each_step e lists) trees)) → (ms : List Mark) → lists ≡ map (spelled e) ms
    → IsAnswer e ms (Some (record { trees = trees; next = next }))
found-few e lists trees next few h first leads ms p = record {
  count = is-count (length trees) (listed_count e lists) h few ∙ count-marks e lists ms p;
  few = few;
  first = first;
  next = leads few ∙ (λ i. map Some (flat_map (λ s. steps-of_lists e lists ms p s i) trees));
}
