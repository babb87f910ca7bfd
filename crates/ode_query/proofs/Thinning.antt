-- Numbers with which no combination passes may be left out.
use Rattle.std.proofs.Common.{◌≡◌, ◌⊎◌, inl, inr, ⊎_elim, ℕ, zero, suc, ◌+◌, ◌<◌, ◌≤◌, List, [], ◌∷◌, ◌++◌, length, map, get_or, refl, sym, ap, ◌∙◌, arith}
use Rattle.std.proofs.lemmas.Bool.{cases_lt}
use Rattle.std.proofs.lemmas.List.{map-append}
use Rattle.std.proofs.lemmas.List.Elements.{filter-append}
use Rattle.std.proofs.lemmas.List.Kept.{AllPairs-from_increasing}
use Rattle.std.specs.List.{Contains, filter}
use Rattle.std.specs.List.Sorted.{IsStrictlyIncreasing}
use Rattle.std.specs.Prelude.{Bool, false}
use Rattle.ode_query.specs.Rows.{begun_by, combinations}
use Rattle.ode_value.specs.GoodWorlds.{RiseFrom}

-- ---- rising numbers, by recursion

abbrev Rising : List ℕ → Type 0
Rising [] = Unit {0}
Rising (n ∷ ns) = ((m : ℕ) → Contains ns m → n < m) × Rising ns

pub in_tail : (n m : ℕ) (ns : List ℕ) → Contains ns m → Contains (n ∷ ns) m
in_tail n m ns (k, lt, e) = (suc k, omega (arith, lt), e)

pub in_none : (n : ℕ) → Contains [] n → ⊥
in_none n (k, lt, e) = omega (arith, lt)

pub in_head : (n : ℕ) (ns : List ℕ) → Contains (n ∷ ns) n
in_head n ns = (0, omega arith, refl)

pub cases_in : (n m : ℕ) (ns : List ℕ) → Contains (n ∷ ns) m → (n ≡ m) ⊎ Contains ns m
cases_in n m ns (zero, lt, e) = inl e
cases_in n m ns (suc k, lt, e) = inr (k, omega (arith, lt), e)

rising_from : (ns : List ℕ) → ((i j d : ℕ) → i < j → j < length ns → get_or ns i d < get_or ns j d) → Rising ns
rising_from [] h = tt
rising_from (n ∷ ns) h = (above, rising_from ns (λ i j d p q. h (suc i) (suc j) d (omega (arith, p)) (omega (arith, q)))) where
  above : (m : ℕ) → Contains ns m → n < m
  above m (k, lt, e) = omega (arith, e, h 0 (suc k) m (omega arith) (omega (arith, lt)))

least : (low : ℕ) (ns : List ℕ) → RiseFrom low ns → (m : ℕ) → Contains ns m → low ≤ m
least low [] rise m here = absurd (in_none m here)
least low (n ∷ ns) rise m here = by (cases_in n m ns here) (least (n + 1) ns rise.1 m) where
  by : (n ≡ m) ⊎ Contains ns m → (Contains ns m → n + 1 ≤ m) → low ≤ m
  by (inl e) later = omega (arith, e, rise.0)
  by (inr i) later = omega (arith, later i, rise.0)

rising : (low : ℕ) (ns : List ℕ) → RiseFrom low ns → Rising ns
rising low [] rise = tt
rising low (n ∷ ns) rise = (λ m i. omega (arith, least (n + 1) ns rise.1 m i), rising (n + 1) ns rise.1)

-- ---- what is left of combinations

module _ (p : List ℕ → Bool) (chosen : List ℕ) (lists : List (List ℕ)) where
  abbrev pub left : List ℕ → List (List ℕ)
  left ns = filter p (begun_by chosen (ns ∷ lists))

  abbrev left_with : ℕ → List (List ℕ)
  left_with n = filter p (map (λ ms. chosen ++ ms) (map (λ ms. n ∷ ms) (combinations lists)))

  left_cons : (n : ℕ) (ns : List ℕ) → left (n ∷ ns) ≡ left_with n ++ left ns
  left_cons n ns = ap (filter p) (map-append (λ ms. chosen ++ ms) (map (λ ms. n ∷ ms) (combinations lists)) (combinations (ns ∷ lists)))
      ∙ filter-append p (map (λ ms. chosen ++ ms) (map (λ ms. n ∷ ms) (combinations lists))) (begun_by chosen (ns ∷ lists))

  abbrev pub Dead : ℕ → Type 0
  Dead n = (ms : List ℕ) → p (chosen ++ n ∷ ms) ≡ false

  none_of : (n : ℕ) → Dead n → (all : List (List ℕ)) → filter p (map (λ ms. chosen ++ ms) (map (λ ms. n ∷ ms) all)) ≡ []
  none_of n dead [] = refl
  none_of n dead (ms ∷ all) = rw (dead ms) (none_of n dead all)

  left_out : (n : ℕ) (ns : List ℕ) → Dead n → left (n ∷ ns) ≡ left ns
  left_out n ns dead = left_cons n ns ∙ ap (λ l. l ++ left ns) (none_of n dead (combinations lists))

  left_same : (n m : ℕ) (ns ms : List ℕ) → n ≡ m → left ns ≡ left ms → left (n ∷ ns) ≡ left (m ∷ ms)
  left_same n m ns ms e f = left_cons n ns ∙ ap (λ k. left_with k ++ left ns) e ∙ ap (λ l. left_with m ++ l) f ∙ sym (left_cons m ms)

  abbrev pub Within : List ℕ → List ℕ → Type 0
  Within few all = (n : ℕ) → Contains few n → Contains all n

  abbrev pub Rest : List ℕ → List ℕ → Type 0
  Rest few all = (n : ℕ) → Contains all n → (Contains few n → ⊥) → Dead n

  -- the heads are the same, or the second one is left out
  by_heads : (f n : ℕ) (few all : List ℕ) → Rising (f ∷ few) → Rising (n ∷ all) → Within (f ∷ few) (n ∷ all) → Rest (f ∷ few) (n ∷ all)
      → (Within few all → Rest few all → left few ≡ left all) → (Within (f ∷ few) all → Rest (f ∷ few) all → left (f ∷ few) ≡ left all)
      → left (f ∷ few) ≡ left (n ∷ all)
  by_heads f n few all up rise within rest same less = by (cases_lt n f) (cases_in n f all (within f (in_head f few))) where
    later : (m : ℕ) → n < m → Contains (n ∷ all) m → Contains all m
    later m lt in_all = ⊎_elim (λ e. absurd (omega (arith, lt, e))) (λ i. i) (cases_in n m all in_all)

    by : (n < f) ⊎ (f ≤ n) → (n ≡ f) ⊎ Contains all f → left (f ∷ few) ≡ left (n ∷ all)
    by _ (inl e) = left_same f n few all (sym e) (same
        (λ m i. later m (omega (arith, e, up.0 m i)) (within m (in_tail f m few i)))
        (λ m i out. rest m (in_tail n m all i) (λ here. ⊎_elim (λ g. omega (arith, e, g, rise.0 m i)) out (cases_in f m few here))))
    by (inr le) (inr i) = absurd (omega (arith, le, rise.0 f i))
    by (inl lt) (inr _) = less (λ m here. later m (⊎_elim (λ e. omega (arith, lt, e)) (λ i. omega (arith, lt, up.0 m i)) (cases_in f m few here)) (within m here))
        (λ m i out. rest m (in_tail n m all i) out)
        ∙ sym (left_out n all (rest n (in_head n all) (λ here. ⊎_elim (λ e. omega (arith, lt, e)) (λ i. omega (arith, lt, up.0 n i)) (cases_in f n few here))))

  by_rising : (few all : List ℕ) → Rising few → Rising all → Within few all → Rest few all → left few ≡ left all
  by_rising [] [] up rise within rest = refl
  by_rising (f ∷ few) [] up rise within rest = absurd (in_none f (within f (in_head f few)))
  by_rising [] (n ∷ all) up rise within rest =
      by_rising [] all up rise.1 (λ m in_few. absurd (in_none m in_few)) (λ m in_all out. rest m (in_tail n m all in_all) out)
      ∙ sym (left_out n all (rest n (in_head n all) (in_none n)))
  by_rising (f ∷ few) (n ∷ all) up rise within rest =
      by_heads f n few all up rise within rest (by_rising few all up.1 rise.1) (by_rising (f ∷ few) all up rise.1)

  pub thinned : (few all : List ℕ) → IsStrictlyIncreasing few → RiseFrom 0 all → Within few all → Rest few all → left few ≡ left all
  thinned few all up rise = by_rising few all (rising_from few (AllPairs-from_increasing few up)) (rising 0 all rise)
