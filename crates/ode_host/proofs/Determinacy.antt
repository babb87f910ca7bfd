-- Items that are read one behind the other are told apart in one way, where the next one of each state is.
use Rattle.std.proofs.Common.{◌≡◌, inl, inr, ⊎_elim, ℕ, List, [], ◌∷◌, ◌++◌, refl, sym, ◌∙◌, ap, subst, append_assoc}
use Rattle.std.proofs.lemmas.List.{append-nil}
use Rattle.std.specs.Prelude.{◌⊎◌}
use Rattle.std.specs.List.{AllByRecursion, flat_map}

-- `Next s x t`: in the state s the item x is next, and t is the state behind it
module _ {S X : Type 0} (Next : S → X → S → Type 0) where
  -- these items are read from one state on, up to another
  abbrev pub Reads : S → List X → S → Type 0
  Reads s [] t = s ≡ t
  Reads s (x ∷ xs) t = (m : S) × Next s x m × Reads m xs t

  -- no item is next
  abbrev pub Stops : S → Type 0
  Stops s = (x : X) (t : S) → Next s x t → ⊥

  -- one item at most is next
  abbrev pub IsOnce : Type 0
  IsOnce = (s : S) (x y : X) (t u : S) → Next s x t → Next s y u → (x ≡ y) × (t ≡ u)

  -- ys are xs and some more, which are read behind them
  pub record IsAhead (xs : List X) (t : S) (ys : List X) (u : S) : Type 0 where
    pub others : List X
    pub items : ys ≡ xs ++ others
    pub reads : Reads t others u

  one_longer : (x y : X) (xs ys : List X) (t u : S) → x ≡ y → IsAhead xs t ys u → IsAhead (x ∷ xs) t (y ∷ ys) u
  one_longer x y xs ys t u same ahead = record {
    others = ahead.others;
    items = ap (λ (z : X). z ∷ ys) (sym same) ∙ ap (λ (l : List X). x ∷ l) ahead.items;
    reads = ahead.reads;
  }

  -- of two lists that are read from one state on, one begins with the other
  pub forked : IsOnce → (xs ys : List X) (s t u : S) → Reads s xs t → Reads s ys u → IsAhead xs t ys u ⊎ IsAhead ys u xs t
  forked once [] ys s t u first second = inl (record { others = ys; items = refl; reads = subst (λ (z : S). Reads z ys u) first second })
  forked once (x ∷ xs) [] s t u first second = inr (record { others = x ∷ xs; items = refl; reads = subst (λ (z : S). Reads z (x ∷ xs) t) second first })
  forked once (x ∷ xs) (y ∷ ys) s t u first second =
      let one = once s x y first.0 second.0 first.1 second.1 in
      ⊎_elim
      (λ (ahead : IsAhead xs t ys u). inl (one_longer x y xs ys t u one.0 ahead))
      (λ (ahead : IsAhead ys u xs t). inr (one_longer y x ys xs u t (sym one.0) ahead))
      (forked once xs ys first.0 t u first.2 (subst (λ (z : S). Reads z ys u) (sym one.1) second.2))

  none_more : (others : List X) (t u : S) → Reads t others u → Stops t → (others ≡ []) × (t ≡ u)
  none_more [] t u reads stops = (refl, reads)
  none_more (x ∷ others) t u reads stops = absurd (stops x reads.0 reads.1)

  -- the longer one is no longer where none is next behind the shorter one
  ahead_none : (xs ys : List X) (t u : S) → IsAhead xs t ys u → Stops t → (ys ≡ xs) × (t ≡ u)
  ahead_none xs ys t u ahead stops =
      let none = none_more ahead.others t u ahead.reads stops in
      (ahead.items ∙ ap (λ (l : List X). xs ++ l) none.0 ∙ append-nil xs, none.1)

  -- from a state on one list is read up to where no item is next
  pub one_reading : IsOnce → (xs ys : List X) (s t u : S) → Reads s xs t → Reads s ys u → Stops t → Stops u → (xs ≡ ys) × (t ≡ u)
  one_reading once xs ys s t u first second stop_t stop_u = ⊎_elim
      (λ (ahead : IsAhead xs t ys u). let same = ahead_none xs ys t u ahead stop_t in (sym same.0, same.1))
      (λ (ahead : IsAhead ys u xs t). let same = ahead_none ys xs u t ahead stop_u in (same.0, sym same.1))
      (forked once xs ys s t u first second)

-- Items that are spelled one behind the other.
module _ {X : Type 0} (spell : X → List ℕ) (Fits : X → Type 0) where
  abbrev pub NextSpelled : List ℕ → X → List ℕ → Type 0
  NextSpelled bytes x rest = Fits x × (bytes ≡ spell x ++ rest)

  pub spelled_reads : (xs : List X) (rest : List ℕ) → AllByRecursion Fits xs → Reads NextSpelled (flat_map spell xs ++ rest) xs rest
  spelled_reads [] rest fits = refl
  spelled_reads (x ∷ xs) rest fits = (flat_map spell xs ++ rest, (fits.0, append_assoc (spell x) (flat_map spell xs) rest), spelled_reads xs rest fits.1)

  -- of two items that the same bytes begin with both are one
  abbrev pub AreFirstOnce : Type 0
  AreFirstOnce = (x y : X) (rest more : List ℕ) → Fits x → Fits y → spell x ++ rest ≡ spell y ++ more → (x ≡ y) × (rest ≡ more)

  pub spelled_once : AreFirstOnce → IsOnce NextSpelled
  spelled_once first bytes x y rest more one other = first x y rest more one.0 other.0 (sym one.1 ∙ other.1)

  -- the same bytes spell one list of items, where each has some bytes
  pub one_list : AreFirstOnce → ((x : X) (rest : List ℕ) → [] ≡ spell x ++ rest → ⊥)
      → (xs ys : List X) → AllByRecursion Fits xs → AllByRecursion Fits ys → flat_map spell xs ≡ flat_map spell ys → xs ≡ ys
  one_list first some xs ys fit_x fit_y same =
      let stops : Stops NextSpelled [] = λ x rest is. some x rest is.1 in
      let second : Reads NextSpelled (flat_map spell xs ++ []) ys [] = subst (λ (l : List ℕ). Reads NextSpelled (l ++ []) ys []) (sym same) (spelled_reads ys [] fit_y) in
      (one_reading NextSpelled (spelled_once first) xs ys (flat_map spell xs ++ []) [] [] (spelled_reads xs [] fit_x) second stops stops).0
