-- What is due, second by second and place by place.
use Rattle.std.proofs.Common.{◌≡◌, ◌≤◌, ◌<◌, ℕ, zero, suc, ◌+◌, ◌-◌, min, ℤ, pos, List, [], ◌∷◌, ◌++◌, length, Bool, true, false, cond, refl, sym, ap, ◌∙◌, arith, append-nil, append_assoc, length-append}
use Rattle.std.specs.Prelude.{◌+ℤ◌, ◌≤ℤ◌, ◌<ℤ◌, map, ◌&&◌, int_le, int_lt}
use Rattle.std.specs.Int.{int_gap}
use Rattle.std.specs.List.{enumerate_from, filter, flat_map, range_with_len, sum_by}
use Rattle.std.proofs.lemmas.Int.{ints}
use Rattle.std.proofs.lemmas.List.Elements.{filter-append}
use Rattle.std.proofs.lemmas.List.Concat.{flat_map-cons}
use Rattle.std.proofs.lemmas.List.Sums.{sum_by-cons}
use Rattle.ode_value.specs.declared.event.Kind.{Kind}
use Rattle.ode_value.specs.Worlds.{Position}
use Rattle.ode_timer.specs.declared.clock.TimeRow.{TimeRow}
use Rattle.ode_timer.specs.Counts.{AreIdle, all_times, kind_times, row_times}
use Rattle.ode_timer.specs.Due.{due, due_at, due_in, is_above, is_due, position_at}

-- what is due of an object's kinds from a place on
abbrev pub due_from : ℤ → ℕ → ℕ → List Kind → List Position
due_from t object place kinds = map (λ (k : ℕ × Kind). position_at t object k.0) (filter (λ (k : ℕ × Kind). is_due t k.1) (enumerate_from place kinds))

-- what is due at so many seconds from a place behind one on
abbrev due_run : List TimeRow → ℤ → ℕ → ℕ → List Position
due_run rows after from zero = []
due_run rows after from (suc n) = due_at rows (after +ℤ pos from) ++ due_run rows after (suc from) n

-- what is due at so many seconds behind one
abbrev pub due_behind : List TimeRow → ℤ → ℕ → List Position
due_behind rows after n = due_run rows after 1 n

module _ (rows : List TimeRow) where
  run_is : (after : ℤ) (from n : ℕ) → flat_map (due_at rows) (map (λ k. after +ℤ pos k) (range_with_len from n)) ≡ due_run rows after from n
  run_is after from zero = refl
  run_is after from (suc n) =
      let next : from + 1 ≡ suc from = omega arith in
      ap (λ f. flat_map (due_at rows) ((after +ℤ pos from) ∷ map (λ k. after +ℤ pos k) (range_with_len f n))) next
      ∙ flat_map-cons (due_at rows) (after +ℤ pos from) (map (λ k. after +ℤ pos k) (range_with_len (suc from) n))
      ∙ ap (λ (ps : List Position). due_at rows (after +ℤ pos from) ++ ps) (run_is after (suc from) n)

  -- the last second of them
  run_last : (after : ℤ) (from n : ℕ) → due_run rows after from (suc n) ≡ due_run rows after from n ++ due_at rows (after +ℤ pos (from + n))
  run_last after from zero = append-nil (due_at rows (after +ℤ pos from)) ∙ ap (λ k. due_at rows (after +ℤ pos k)) (omega arith)
  run_last after from (suc n) =
      let same : suc from + n ≡ from + suc n = omega arith in
      ap (λ (ps : List Position). due_at rows (after +ℤ pos from) ++ ps) (run_last after (suc from) n)
      ∙ sym (append_assoc (due_at rows (after +ℤ pos from)) (due_run rows after (suc from) n) (due_at rows (after +ℤ pos (suc from + n))))
      ∙ ap (λ k. due_run rows after from (suc n) ++ due_at rows (after +ℤ pos k)) same

  -- the first ones may be idle
  run_idle : (after : ℤ) (from k n : ℕ) → ((j : ℕ) → from ≤ j → j < from + k → due_at rows (after +ℤ pos j) ≡ []) → due_run rows after from (k + n) ≡ due_run rows after (from + k) n
  run_idle after from zero n idle =
      let same : from + 0 ≡ from = omega arith in
      let none : 0 + n ≡ n = omega arith in
      ap (due_run rows after from) none ∙ ap (λ f. due_run rows after f n) (sym same)
  run_idle after from (suc k) n idle =
      let same : suc from + k ≡ from + suc k = omega arith in
      let more : suc k + n ≡ suc (k + n) = omega arith in
      ap (due_run rows after from) more
      ∙ ap (λ (ps : List Position). ps ++ due_run rows after (suc from) (k + n)) (idle from (omega arith) (omega arith))
      ∙ run_idle after (suc from) k n (λ j above below. idle j (omega arith) (omega arith))
      ∙ ap (λ f. due_run rows after f n) same

  -- counted from a later second
  run_later : (after : ℤ) (k from n : ℕ) → due_run rows after (k + from) n ≡ due_run rows (after +ℤ pos k) from n
  run_later after k from zero = refl
  run_later after k from (suc n) =
      let same : suc (k + from) ≡ k + suc from = omega arith in
      let second : after +ℤ pos (k + from) ≡ (after +ℤ pos k) +ℤ pos from = omega (arith, ints) in
      ap (λ t. due_at rows t ++ due_run rows after (suc (k + from)) n) second
      ∙ ap (λ f. due_at rows ((after +ℤ pos k) +ℤ pos from) ++ due_run rows after f n) same
      ∙ ap (λ (ps : List Position). due_at rows ((after +ℤ pos k) +ℤ pos from) ++ ps) (run_later after k (suc from) n)

  -- where nothing is due up to the last second, nothing is listed
  pub behind_idle : (after : ℤ) (n : ℕ) → ((j : ℕ) → 0 < j → j < n + 1 → due_at rows (after +ℤ pos j) ≡ []) → due_behind rows after n ≡ []
  behind_idle after n idle =
      let same : n ≡ n + 0 = omega arith in
      ap (due_run rows after 1) same ∙ run_idle after 1 n 0 (λ j above below. idle j (omega arith) (omega arith))

  -- the first second with an event, and those behind it
  pub behind_next : (after next last : ℤ) → after <ℤ next → next ≤ℤ last → ((j : ℕ) → 0 < j → j < int_gap after next → due_at rows (after +ℤ pos j) ≡ [])
      → due_behind rows after (int_gap after last) ≡ due_at rows next ++ due_behind rows next (int_gap next last)
  behind_next after next last above within idle =
      let k = int_gap after next - 1 in
      let gap : int_gap after last ≡ k + suc (int_gap next last) = grind (arith, ints) in
      let there : after +ℤ pos (1 + k) ≡ next = grind (arith, ints) in
      let same : suc (1 + k) ≡ (1 + k) + 1 = omega arith in
      ap (due_run rows after 1) gap
      ∙ run_idle after 1 k (suc (int_gap next last)) (λ j from below. idle j (omega arith) (omega arith))
      ∙ ap (λ f. due_at rows (after +ℤ pos (1 + k)) ++ due_run rows after f (int_gap next last)) same
      ∙ ap (λ (ps : List Position). due_at rows (after +ℤ pos (1 + k)) ++ ps) (run_later after (1 + k) 1 (int_gap next last))
      ∙ ap (λ t. due_at rows t ++ due_run rows t 1 (int_gap next last)) there

  module _ (old : Position) where
    -- what is due at the old second, and behind it
    pub due_split : (new : ℤ) → old.instant ≤ℤ new
        → due rows old new ≡ filter (is_above old) (due_at rows old.instant) ++ filter (is_above old) (due_behind rows old.instant (int_gap old.instant new))
    unfolding due
    due_split new order =
        let holds : int_le old.instant new ≡ true = grind (arith, ints) in
        let more : int_gap old.instant new + 1 ≡ suc (int_gap old.instant new) = omega arith in
        let first : old.instant +ℤ pos 0 ≡ old.instant = omega (arith, ints) in
        ap (λ b. filter (is_above old) (flat_map (due_at rows) (map (λ n. old.instant +ℤ pos n) (range_with_len 0 (cond b (int_gap old.instant new + 1) 0))))) holds
        ∙ ap (λ n. filter (is_above old) (flat_map (due_at rows) (map (λ k. old.instant +ℤ pos k) (range_with_len 0 n)))) more
        ∙ ap (λ (ps : List Position). filter (is_above old) ps) (run_is old.instant 0 (suc (int_gap old.instant new)))
        ∙ ap (λ t. filter (is_above old) (due_at rows t ++ due_behind rows old.instant (int_gap old.instant new))) first
        ∙ filter-append (is_above old) (due_at rows old.instant) (due_behind rows old.instant (int_gap old.instant new))

    -- nothing is due before the old second
    pub due_before : (new : ℤ) → new <ℤ old.instant → due rows old new ≡ []
    unfolding due
    due_before new order =
        let fails : int_le old.instant new ≡ false = grind (arith, ints) in
        ap (λ b. filter (is_above old) (flat_map (due_at rows) (map (λ n. old.instant +ℤ pos n) (range_with_len 0 (cond b (int_gap old.instant new + 1) 0))))) fails

module _ (old : Position) where
  -- 1 where a kind is due at a second above the old position
  pub counts_at : ℤ → ℕ → ℕ × Kind → ℕ
  counts_at t object k = cond (is_due t k.1 && is_above old (position_at t object k.0)) 1 0

  pub row_counts : ℤ → TimeRow → ℕ
  row_counts t row = sum_by (counts_at t row.object) (enumerate_from 0 row.kinds)

  count_one : (p : Position) (ps : List Position) (due above : Bool) → is_above old p ≡ above → length (filter (is_above old) (cond due (p ∷ ps) ps)) ≡ cond (due && above) 1 0 + length (filter (is_above old) ps)
  count_one p ps true true is = ap (λ b. length (cond b (p ∷ filter (is_above old) ps) (filter (is_above old) ps))) is ∙ omega arith
  count_one p ps true false is = ap (λ b. length (cond b (p ∷ filter (is_above old) ps) (filter (is_above old) ps))) is ∙ omega arith
  count_one p ps false above is = omega arith

  map_one : (f : ℕ × Kind → Position) (k : ℕ × Kind) (ks : List (ℕ × Kind)) (due : Bool) → map f (cond due (k ∷ ks) ks) ≡ cond due (f k ∷ map f ks) (map f ks)
  map_one f k ks true = refl
  map_one f k ks false = refl

  count_kinds : (t : ℤ) (object : ℕ) (ks : List (ℕ × Kind))
      → length (filter (is_above old) (map (λ (k : ℕ × Kind). position_at t object k.0) (filter (λ (k : ℕ × Kind). is_due t k.1) ks))) ≡ sum_by (counts_at t object) ks
  unfolding counts_at
  count_kinds t object [] = refl
  count_kinds t object (k ∷ ks) =
      let f : ℕ × Kind → Position = λ (k : ℕ × Kind). position_at t object k.0 in
      let rest : List (ℕ × Kind) = filter (λ (k : ℕ × Kind). is_due t k.1) ks in
      ap (λ (ps : List Position). length (filter (is_above old) ps)) (map_one f k rest (is_due t k.1))
      ∙ count_one (f k) (map f rest) (is_due t k.1) (is_above old (f k)) refl
      ∙ ap (λ n. counts_at t object k + n) (count_kinds t object ks)
      ∙ sym (sum_by-cons (counts_at t object) k ks)

  count_second : (t : ℤ) (rows : List TimeRow) → length (filter (is_above old) (due_at rows t)) ≡ sum_by (row_counts t) rows
  unfolding row_counts
  count_second t [] = refl
  count_second t (row ∷ rows) =
      ap (λ (ps : List Position). length (filter (is_above old) ps)) (flat_map-cons (due_in t) row rows)
      ∙ ap length (filter-append (is_above old) (due_in t row) (due_at rows t))
      ∙ length-append (filter (is_above old) (due_in t row)) (filter (is_above old) (due_at rows t))
      ∙ ap (λ n. n + length (filter (is_above old) (due_at rows t))) (count_kinds t row.object (enumerate_from 0 row.kinds))
      ∙ ap (λ n. row_counts t row + n) (count_second t rows)
      ∙ sym (sum_by-cons (row_counts t) row rows)

-- sums of sums
sum_plus : {X : Type 0} (f g h : X → ℕ) → ((x : X) → h x ≡ f x + g x) → (xs : List X) → sum_by h xs ≡ sum_by f xs + sum_by g xs
sum_plus f g h is [] = refl
sum_plus f g h is (x ∷ xs) =
    let all = sum_plus f g h is xs in
    omega (arith, sum_by-cons h x xs, sum_by-cons f x xs, sum_by-cons g x xs, is x, all)

sum_same : {X : Type 0} (f g : X → ℕ) → ((x : X) → f x ≡ g x) → (xs : List X) → sum_by f xs ≡ sum_by g xs
sum_same f g is [] = refl
sum_same f g is (x ∷ xs) = let all = sum_same f g is xs in omega (arith, sum_by-cons f x xs, sum_by-cons g x xs, is x, all)

module _ (old : Position) where
  -- at a second behind the old one every position is above
  behind_above : (n object : ℕ) (k : ℕ × Kind) → is_above old (position_at (old.instant +ℤ pos (suc n)) object k.0) ≡ true
  behind_above n object k =
      let later : int_lt old.instant (old.instant +ℤ pos (suc n)) ≡ true = grind (arith, ints) in
      let p = position_at (old.instant +ℤ pos (suc n)) object k.0 in
      grind (arith, ints)

  by_both : (due above : Bool) → above ≡ true → due && above ≡ due
  by_both true above is = is
  by_both false above is = refl

  kind_more : (n object : ℕ) (k : ℕ × Kind) → kind_times old (suc n) object k ≡ kind_times old n object k + counts_at old (old.instant +ℤ pos (suc n)) object k
  unfolding counts_at
  kind_more n object k =
      let t = old.instant +ℤ pos (suc n) in
      let both = by_both (is_due t k.1) (is_above old (position_at t object k.0)) (behind_above n object k) in
      let one : Bool → ℕ = λ b. cond b 1 0 in
      omega (arith, ap one both)

  kind_none : (object : ℕ) (k : ℕ × Kind) → kind_times old 0 object k ≡ counts_at old old.instant object k
  unfolding counts_at
  kind_none object k = omega arith

  row_more : (n : ℕ) (row : TimeRow) → row_times old (suc n) row ≡ row_times old n row + row_counts old (old.instant +ℤ pos (suc n)) row
  unfolding row_counts
  row_more n row = sum_plus (kind_times old n row.object) (counts_at old (old.instant +ℤ pos (suc n)) row.object) (kind_times old (suc n) row.object) (kind_more n row.object) (enumerate_from 0 row.kinds)

  row_none : (row : TimeRow) → row_times old 0 row ≡ row_counts old old.instant row
  unfolding row_counts
  row_none row = sum_same (kind_times old 0 row.object) (counts_at old old.instant row.object) (kind_none row.object) (enumerate_from 0 row.kinds)

  -- all that is due at the old second and at so many behind it
  count_all : (rows : List TimeRow) (n : ℕ)
      → length (filter (is_above old) (due_at rows old.instant)) + length (filter (is_above old) (due_behind rows old.instant n)) ≡ all_times old n rows
  count_all rows zero =
      let first = count_second old old.instant rows in
      let none = sum_same (row_times old 0) (row_counts old old.instant) row_none rows in
      omega (arith, first, none)
  count_all rows (suc n) =
      let so_far = count_all rows n in
      let t = old.instant +ℤ pos (suc n) in
      let there : 1 + n ≡ suc n = omega arith in
      let last = ap (λ (ps : List Position). length (filter (is_above old) ps)) (run_last rows old.instant 1 n)
      ∙ ap (λ k. length (filter (is_above old) (due_behind rows old.instant n ++ due_at rows (old.instant +ℤ pos k)))) there
      ∙ ap length (filter-append (is_above old) (due_behind rows old.instant n) (due_at rows t))
      ∙ length-append (filter (is_above old) (due_behind rows old.instant n)) (filter (is_above old) (due_at rows t)) in
      let second = count_second old t rows in
      let more = sum_plus (row_times old n) (row_counts old t) (row_times old (suc n)) (row_more n) rows in
      omega (arith, so_far, last, second, more)

  pub count_due : (rows : List TimeRow) (new : ℤ) → old.instant ≤ℤ new → length (due rows old new) ≡ all_times old (int_gap old.instant new) rows
  count_due rows new order =
      ap length (due_split rows old new order)
      ∙ length-append (filter (is_above old) (due_at rows old.instant)) (filter (is_above old) (due_behind rows old.instant (int_gap old.instant new)))
      ∙ count_all rows (int_gap old.instant new)

-- what was counted is the whole, where nothing is left
pub counted : (times rest total most : ℕ) → rest ≡ 0 → times ≤ most → min (times + rest) most ≡ min total most → times ≡ min total most
counted times rest total most none small is = grind arith

module _ (rows : List TimeRow) (old : Position) (new : ℤ) where
  -- the events of the next second are listed
  pub list_step : (second next : ℤ) (events more : List Position) → second <ℤ next → next ≤ℤ new → AreIdle second (int_gap second next) rows
      → due rows old new ≡ events ++ filter (is_above old) (due_behind rows second (int_gap second new)) → more ≡ events ++ filter (is_above old) (due_at rows next)
      → due rows old new ≡ more ++ filter (is_above old) (due_behind rows next (int_gap next new))
  list_step second next events more above within idle is put =
      let behind : List Position = filter (is_above old) (due_behind rows next (int_gap next new)) in
      is
      ∙ ap (λ (ps : List Position). events ++ filter (is_above old) ps) (behind_next rows second next new above within idle)
      ∙ ap (λ (ps : List Position). events ++ ps) (filter-append (is_above old) (due_at rows next) (due_behind rows next (int_gap next new)))
      ∙ sym (append_assoc events (filter (is_above old) (due_at rows next)) behind)
      ∙ ap (λ (ps : List Position). ps ++ behind) (sym put)

  -- no second with an event is left
  pub list_end : (second : ℤ) (events : List Position) → AreIdle second (int_gap second new + 1) rows
      → due rows old new ≡ events ++ filter (is_above old) (due_behind rows second (int_gap second new)) → events ≡ due rows old new
  list_end second events idle is =
      sym (is ∙ ap (λ (ps : List Position). events ++ filter (is_above old) ps) (behind_idle rows second (int_gap second new) idle) ∙ append-nil events)
