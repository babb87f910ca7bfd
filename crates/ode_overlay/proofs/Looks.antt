-- A number joins those that were looked at, at its place.
use Rattle.std.proofs.Common.{◌≡◌, ◌<◌, ◌≤◌, ◌+◌, ◌==◌, ℕ, zero, suc, Bool, true, false, List, [], ◌∷◌, Ok, Err, length, get_or, refl, sym, ap, subst, ◌∙◌, arith}
use Rattle.std.proofs.lemmas.Bool.{ltb-true}
use Rattle.std.proofs.lemmas.Bool.Decides.{nat_tests}
use Rattle.std.specs.Prelude.{nat_lt}
use Rattle.std.proofs.lemmas.List.Sorted.{searched}
use Rattle.std.specs.BTreeSet.{insert_key}
use Rattle.std.specs.Cmp.{nat_cmp_is}
use Rattle.std.specs.List.{insert}
use Rattle.std.specs.List.Sorted.{IsBinarySearchResult}
use Rattle.std.specs.Ordering.{match_ordering, nat_cmp}
use Rattle.std.specs.declared.cmp.Ordering.TheVariants.{Less, Equal, Greater}
use Rattle.ode_overlay.specs.Layers.{Layer, looking}
use Rattle.ode_value.specs.GoodWorlds.{RiseFrom}

abbrev joined : ℕ → List ℕ → List ℕ
joined id xs = insert_key nat_cmp xs id

before_all : (x id : ℕ) (xs : List ℕ) → id < x → joined id (x ∷ xs) ≡ id ∷ x ∷ xs
before_all x id xs less = ap (λ o. match_ordering o (id ∷ x ∷ xs) (x ∷ xs) (x ∷ joined id xs)) (sym (nat_cmp_is id x Less less))

is_first : (x id : ℕ) (xs : List ℕ) → id ≡ x → joined id (x ∷ xs) ≡ x ∷ xs
is_first x id xs is = ap (λ o. match_ordering o (id ∷ x ∷ xs) (x ∷ xs) (x ∷ joined id xs)) (sym (nat_cmp_is id x Equal is))

behind_first : (x id : ℕ) (xs : List ℕ) → x < id → joined id (x ∷ xs) ≡ x ∷ joined id xs
behind_first x id xs less = ap (λ o. match_ordering o (id ∷ x ∷ xs) (x ∷ xs) (x ∷ joined id xs)) (sym (nat_cmp_is id x Greater less))

-- numbers that rise from one on are no less
rising_at : (xs : List ℕ) (low at : ℕ) → RiseFrom low xs → at < length xs → low ≤ get_or xs at 0
rising_at [] low at rise inside = absurd (omega arith)
rising_at (x ∷ xs) low zero rise inside = rise.0
rising_at (x ∷ xs) low (suc at) rise inside =
    let first : low ≤ x = rise.0 in
    let more : x + 1 ≤ get_or xs at 0 = rising_at xs (x + 1) at rise.1 (omega arith) in
    omega arith

rising_between : (xs : List ℕ) (low i j : ℕ) → RiseFrom low xs → i ≤ j → j < length xs → get_or xs i 0 ≤ get_or xs j 0
rising_between [] low i j rise less inside = absurd (omega arith)
rising_between (x ∷ xs) low zero zero rise less inside = omega arith
rising_between (x ∷ xs) low zero (suc j) rise less inside =
    let more : x + 1 ≤ get_or xs j 0 = rising_at xs (x + 1) j rise.1 (omega arith) in
    omega arith
rising_between (x ∷ xs) low (suc i) zero rise less inside = absurd (omega arith)
rising_between (x ∷ xs) low (suc i) (suc j) rise less inside = rising_between xs (x + 1) i j rise.1 (omega arith) (omega arith)

-- at the place where it isn't
at_gap : (xs : List ℕ) (id at : ℕ) → at ≤ length xs → ((k : ℕ) → k < at → get_or xs k 0 < id) → ((k : ℕ) → at ≤ k → k < length xs → id < get_or xs k 0) → insert xs at id ≡ joined id xs
at_gap [] id zero within below above = refl
at_gap [] id (suc at) within below above = absurd (omega arith)
at_gap (x ∷ xs) id zero within below above = sym (before_all x id xs (above 0 (omega arith) (omega arith)))
at_gap (x ∷ xs) id (suc at) within below above =
    ap (λ r. x ∷ r) (at_gap xs id at (omega arith) (λ k less. below (suc k) (omega arith)) (λ k past inside. above (suc k) (omega arith) (omega arith)))
    ∙ sym (behind_first x id xs (below 0 (omega arith)))

-- at the place where it is
at_found : (xs : List ℕ) (low id at : ℕ) → RiseFrom low xs → at < length xs → get_or xs at 0 ≡ id → joined id xs ≡ xs
at_found [] low id at rise inside is = absurd (omega arith)
at_found (x ∷ xs) low id zero rise inside is = is_first x id xs (sym is)
at_found (x ∷ xs) low id (suc at) rise inside is =
    let more : x + 1 ≤ get_or xs at 0 = rising_at xs (x + 1) at rise.1 (omega arith) in
    behind_first x id xs (let here : get_or xs at 0 ≡ id = is in omega arith) ∙ ap (λ r. x ∷ r) (at_found xs (x + 1) id at rise.1 (omega arith) is)

pub placed : (xs : List ℕ) (id at : ℕ) → RiseFrom 0 xs → IsBinarySearchResult (λ y. nat_cmp y id) xs (Err at) → insert xs at id ≡ joined id xs
placed xs id at rise result =
    let it = searched xs id (Err at) result (λ i j. rising_between xs 0 i j rise) in
    at_gap xs id at it.0 it.1 it.2

pub there_already : (xs : List ℕ) (id at : ℕ) → RiseFrom 0 xs → IsBinarySearchResult (λ y. nat_cmp y id) xs (Ok at) → joined id xs ≡ xs
there_already xs id at rise result =
    let it = searched xs id (Ok at) result (λ i j. rising_between xs 0 i j rise) in
    at_found xs 0 id at rise it.0 it.1

-- they still rise
pub joined_rises : (xs : List ℕ) (low id : ℕ) → low ≤ id → RiseFrom low xs → RiseFrom low (joined id xs)
joined_rises [] low id least rise = (least, tt)
joined_rises (x ∷ xs) low id least rise = by_tests (nat_lt id x) (id == x) refl refl (λ above. joined_rises xs (x + 1) id above rise.1) where
  by_tests : (b c : Bool) → nat_lt id x ≡ b → (id == x) ≡ c → (x + 1 ≤ id → RiseFrom (x + 1) (joined id xs)) → RiseFrom low (joined id (x ∷ xs))
  by_tests true c less is more =
      let below : id < x = ltb-true id x less in
      subst (RiseFrom low) (sym (before_all x id xs below)) (least, (omega arith, rise.1))
  by_tests false true less is more =
      let same : id ≡ x = grind (arith, nat_tests) in
      subst (RiseFrom low) (sym (is_first x id xs same)) rise
  by_tests false false less is more =
      let above : x < id = grind (arith, nat_tests) in
      subst (RiseFrom low) (sym (behind_first x id xs above)) (rise.0, more (omega arith))

-- an overlay that is seen so, with a number looked at
pub look_joins : (v x : Layer) (id : ℕ) (looked : List ℕ) → v ≡ x → looked ≡ joined id v.footprint.looked → record v { footprint = record v.footprint { looked = looked } } ≡ looking (id ∷ []) x
look_joins v x id looked is so = ap (λ (l : List ℕ). record v { footprint = record v.footprint { looked = l } }) so ∙ ap (λ (y : Layer). looking (id ∷ []) y) is

-- the same where it was looked at before
pub look_again : (v x : Layer) (id : ℕ) → v ≡ x → joined id v.footprint.looked ≡ v.footprint.looked → x ≡ looking (id ∷ []) x
look_again v x id is so =
    let same : joined id x.footprint.looked ≡ x.footprint.looked = subst (λ (y : Layer). joined id y.footprint.looked ≡ y.footprint.looked) is so in
    ap (λ (l : List ℕ). record x { footprint = record x.footprint { looked = l } }) (sym same)
