-- Fields that were added, class by class: each has a birth of its own, and no birth is missing.
use Rattle.std.proofs.Common.{◌≡◌, ℕ, zero, suc, ◌+◌, ◌-◌, ◌<◌, ◌≤◌, ◌⊎◌, inl, inr, List, [], ◌∷◌, ◌++◌, length, map, Bool, true, false, cond, Some, refl, sym, subst, ap, ◌∙◌, append_assoc, length-append, arith}
use Rattle.std.specs.Prelude.{◌==◌, ◌||◌}
use Rattle.std.specs.List.{AllByRecursion, filter, flat_map, list_any, slice_get}
use Rattle.std.proofs.lemmas.Bool.{eqb-true}
use Rattle.std.proofs.lemmas.Bool.Decides.{nat_tests}
use Rattle.std.proofs.lemmas.List.{append-nil}
use Rattle.ode_value.specs.Changing.{added_to}
use Rattle.ode_value.specs.GoodWorlds.{AreAdded, RiseFrom}
use Rattle.ode_value.specs.Worlds.{Declared}
use Rattle.ode_value.specs.declared.change.Added.{Added}
use Rattle.ode_opening_laws.proofs.Each.{all_append, all_then}

abbrev pub has_same : Added → Added → Bool
has_same a x = x.birth == a.birth

-- none of those before has the birth of one behind them, one by one
abbrev pub AreFresh : List Added → List Added → Type 0
AreFresh before [] = Unit {0}
AreFresh before (a ∷ more) = (list_any (has_same a) before ≡ false) × AreFresh (before ++ a ∷ []) more

fresh_append : (before xs ys : List Added) → AreFresh before xs → AreFresh (before ++ xs) ys → AreFresh before (xs ++ ys)
fresh_append before [] ys first second = let same : before ++ [] ≡ before = append-nil before in subst (λ (all : List Added). AreFresh all ys) same second
fresh_append before (x ∷ xs) ys first second =
    let same : before ++ x ∷ xs ≡ before ++ x ∷ [] ++ xs = simp append_assoc in
    (first.0, fresh_append (before ++ x ∷ []) xs ys first.1 (subst (λ (all : List Added). AreFresh all ys) same second))

-- ---- each stands where its birth says

module _ (added : List Added) where
  abbrev pub IsPlaced : Added → Type 0
  IsPlaced a = (1 ≤ a.birth) × (a.birth ≤ length added) × (slice_get added (a.birth - 1) ≡ Some a)

  get_at : (front : List Added) (a : Added) (more : List Added) (i : ℕ) → i ≡ length front → slice_get (front ++ a ∷ more) i ≡ Some a
  get_at [] a more zero is = refl
  get_at [] a more (suc i) is = absurd (omega (arith, is))
  get_at (x ∷ front) a more zero is = absurd (omega (arith, is))
  get_at (x ∷ front) a more (suc i) is = get_at front a more i (omega (arith, is))

  module _ (classes : List Declared) where
    all_placed : (front more : List Added) → front ++ more ≡ added → AreAdded classes (length front + 1) more → AllByRecursion IsPlaced more
    all_placed front [] is are = tt
    all_placed front (a ∷ more) is are =
        let birth : a.birth ≡ length front + 1 = are.0 in
        let long : length front + suc (length more) ≡ length added = sym (length-append front (a ∷ more)) ∙ ap length is in
        let there : slice_get added (a.birth - 1) ≡ Some a =
        ap (λ (all : List Added). slice_get all (a.birth - 1)) (sym is) ∙ get_at front a more (a.birth - 1) (omega (arith, birth)) in
        let next : length (front ++ a ∷ []) + 1 ≡ length front + 1 + 1 = ap (λ (n : ℕ). n + 1) (length-append front (a ∷ [])) in
        let behind : front ++ a ∷ [] ++ more ≡ added = (let same : front ++ a ∷ [] ++ more ≡ front ++ a ∷ more = simp append_assoc in same) ∙ is in (
          (omega (arith, birth), omega (arith, birth, long), there),
          all_placed (front ++ a ∷ []) more behind (subst (λ (n : ℕ). AreAdded classes n more) (sym next) are.2),
        )

    pub are_placed : AreAdded classes 1 added → AllByRecursion IsPlaced added
    are_placed are = all_placed [] added refl are

  -- so one birth is that of one field
  same_field : (a x : Added) → IsPlaced a → IsPlaced x → x.birth ≡ a.birth → x ≡ a
  same_field a x here there same =
      let one : slice_get added (a.birth - 1) ≡ Some x = ap (λ (n : ℕ). slice_get added (n - 1)) (sym same) ∙ there.2 in cc (one, here.2)

  -- ---- those of a class

  all_filtered : (P : Added → Type 0) (t : Added → Bool) (xs : List Added) → AllByRecursion P xs → AllByRecursion (λ a. P a × (t a ≡ true)) (filter t xs)
  all_filtered P t [] all = tt
  all_filtered P t (x ∷ xs) all = by (t x) refl (all_filtered P t xs all.1)
    where
      by : (b : Bool) → t x ≡ b → AllByRecursion (λ a. P a × (t a ≡ true)) (filter t xs) → AllByRecursion (λ a. P a × (t a ≡ true)) (cond b (x ∷ filter t xs) (filter t xs))
      by true passes rest = ((all.0, passes), rest)
      by false passes rest = rest

  rises_later : (low : ℕ) (ns : List ℕ) → RiseFrom (low + 1) ns → RiseFrom low ns
  rises_later low [] rise = tt
  rises_later low (n ∷ ns) rise = (omega (arith, rise.0), rise.1)

  abbrev births : List Added → List ℕ
  births xs = map (λ (a : Added). a.birth) xs

  rise : (classes : List Declared) (t : Added → Bool) (low : ℕ) (more : List Added) → AreAdded classes low more → RiseFrom low (births (filter t more))
  rise classes t low [] are = tt
  rise classes t low (a ∷ more) are = by (t a) (rise classes t (low + 1) more are.2)
    where
      by : (b : Bool) → RiseFrom (low + 1) (births (filter t more)) → RiseFrom low (births (cond b (a ∷ filter t more) (filter t more)))
      by true rest = let birth = are.0 in (omega (arith, birth), subst (λ (n : ℕ). RiseFrom (n + 1) (births (filter t more))) (sym birth) rest)
      by false rest = rises_later low (births (filter t more)) rest

  -- before a field stand fields of other classes, and lower births
  abbrev IsApart : ℕ → ℕ → Added → Type 0
  IsApart class low x = IsPlaced x × (((x.class == class) ≡ false) ⊎ (x.birth < low))

  other_birth : (class low : ℕ) (a x : Added) → IsPlaced a → (a.class == class) ≡ true → low ≤ a.birth → IsApart class low x → has_same a x ≡ false
  other_birth class low a x here own least there = by (x.birth == a.birth) refl there.1
    where
      by : (b : Bool) → (x.birth == a.birth) ≡ b → ((x.class == class) ≡ false) ⊎ (x.birth < low) → b ≡ false
      by false is apart = refl
      by true is (inl other) =
          let same : x ≡ a = same_field a x here there.0 (eqb-true x.birth a.birth is) in
          let class_of : (x.class == class) ≡ true = ap (λ (y : Added). y.class == class) same ∙ own in
          absurd (cc (class_of, other))
      by true is (inr less) = let same : x.birth ≡ a.birth = eqb-true x.birth a.birth is in absurd (omega (arith, same, less, least))

  none_same : (class low : ℕ) (a : Added) → IsPlaced a → (a.class == class) ≡ true → low ≤ a.birth → (before : List Added) → AllByRecursion (IsApart class low) before
      → list_any (has_same a) before ≡ false
  none_same class low a here own least [] all = refl
  none_same class low a here own least (x ∷ before) all =
      ap (λ (b : Bool). b || list_any (has_same a) before) (other_birth class low a x here own least all.0) ∙ none_same class low a here own least before all.1

  apart_later : (class low : ℕ) (a : Added) → low ≤ a.birth → (x : Added) → IsApart class low x → IsApart class (a.birth + 1) x
  apart_later class low a least x (placed, inl other) = (placed, inl other)
  apart_later class low a least x (placed, inr less) = (placed, inr (omega (arith, less, least)))

  fresh_own : (class low : ℕ) (before xs : List Added) → AllByRecursion (IsApart class low) before → RiseFrom low (births xs)
      → AllByRecursion (λ a. IsPlaced a × ((a.class == class) ≡ true)) xs → AreFresh before xs
  fresh_own class low before [] apart rising own = tt
  fresh_own class low before (a ∷ xs) apart rising own = (
    none_same class low a own.0.0 own.0.1 rising.0 before apart,
    fresh_own class (a.birth + 1) (before ++ a ∷ []) xs
        (all_append (IsApart class (a.birth + 1)) before (a ∷ []) (all_then (IsApart class low) (IsApart class (a.birth + 1)) (apart_later class low a rising.0) before apart) ((own.0.0, inr (omega arith)), tt))
        rising.1 own.1,
  )

  -- ---- all of them, class by class

  abbrev pub block : Declared → List Added
  block d = added_to d.class.number added

  abbrev pub blocks : List Declared → List Added
  blocks ds = flat_map block ds

  -- a field is of none of these classes
  abbrev IsOfNone : List Declared → Added → Type 0
  IsOfNone ds x = AllByRecursion (λ (d : Declared). (x.class == d.class.number) ≡ false) ds

  abbrev Stands : List Declared → Added → Type 0
  Stands ds x = IsPlaced x × IsOfNone ds x

  other_number : (a b : ℕ) (x : Added) → a < b → (x.class == a) ≡ true → (x.class == b) ≡ false
  other_number a b x less own = let is : x.class ≡ a = eqb-true x.class a own in grind (arith, nat_tests, is, less)

  of_none : (low : ℕ) (ds : List Declared) (a : ℕ) (x : Added) → a < low → (x.class == a) ≡ true → RiseFrom low (map (λ (d : Declared). d.class.number) ds) → IsOfNone ds x
  of_none low [] a x less own rising = tt
  of_none low (d ∷ ds) a x less own rising = (
    other_number a d.class.number x (omega (arith, less, rising.0)) own,
    of_none (d.class.number + 1) ds a x (omega (arith, less, rising.0)) own rising.1,
  )

  module _ (classes : List Declared) (are : AreAdded classes 1 added) where
    pub own_block : (d : Declared) → AllByRecursion (λ a. IsPlaced a × ((a.class == d.class.number) ≡ true)) (block d)
    own_block d = all_filtered IsPlaced (λ (a : Added). a.class == d.class.number) added (are_placed classes are)

    fresh_blocks : (low : ℕ) (before : List Added) (ds : List Declared) → RiseFrom low (map (λ (d : Declared). d.class.number) ds) → AllByRecursion (Stands ds) before
        → AreFresh before (blocks ds)
    fresh_blocks low before [] rising stand = tt
    fresh_blocks low before (d ∷ ds) rising stand =
        let own = own_block d in
        let apart = all_then (Stands (d ∷ ds)) (IsApart d.class.number 1) (λ x is. (is.0, inl is.1.0)) before stand in
        let first = fresh_own d.class.number 1 before (block d) apart (rise classes (λ (a : Added). a.class == d.class.number) 1 added are) own in
        let behind = all_append (Stands ds) before (block d) (all_then (Stands (d ∷ ds)) (Stands ds) (λ x is. (is.0, is.1.1)) before stand)
        (all_then (λ a. IsPlaced a × ((a.class == d.class.number) ≡ true)) (Stands ds) (λ a is. (is.0, of_none (d.class.number + 1) ds d.class.number a (omega arith) is.1 rising.1)) (block d) own) in
        fresh_append before (block d) (blocks ds) first (fresh_blocks (d.class.number + 1) (before ++ block d) ds rising.1 behind)

    pub all_fresh : (ds : List Declared) → RiseFrom 0 (map (λ (d : Declared). d.class.number) ds) → AreFresh [] (blocks ds)
    all_fresh ds rising = fresh_blocks 0 [] ds rising tt

    pub all_blocks_placed : (ds : List Declared) → AllByRecursion IsPlaced (blocks ds)
    all_blocks_placed [] = tt
    all_blocks_placed (d ∷ ds) =
        all_append IsPlaced (block d) (blocks ds) (all_then (λ a. IsPlaced a × ((a.class == d.class.number) ≡ true)) IsPlaced (λ a is. is.0) (block d) (own_block d)) (all_blocks_placed ds)
