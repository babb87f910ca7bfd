-- What stored tables weigh beside counts of states.
use Rattle.std.proofs.Common.{◌≡◌, ◌<◌, ◌≤◌, ℕ, ◌+◌, ◌-◌, List, [], ◌∷◌, ◌++◌, length, take, get_or, refl, sym, ap, ◌∙◌, arith, add_assoc}
use Rattle.std.proofs.lemmas.List.{length-take-le, take_more}
use Rattle.ode_class_records.specs.Weighing.{spare_beside}
use Rattle.ode_value.specs.Lengths.{trigger_length}
use Rattle.ode_value.specs.Tables.{Table}

-- how much more a table would weigh with so many states
abbrev pub more : ℕ → Table → ℕ
more n s = trigger_length n s.symbols - trigger_length s.states s.symbols

pub spare_none : (counts : List ℕ) → spare_beside counts [] ≡ 0
spare_none [] = refl
spare_none (n ∷ counts) = refl

more_beside : (counts : List ℕ) (before : List Table) (n : ℕ) (s : Table) (d : ℕ) → length before < length counts → n ≡ get_or counts (length before) d
    → spare_beside counts (before ++ s ∷ []) ≡ spare_beside counts before + more n s
more_beside [] before n s d less is = absurd (omega (arith, less))
more_beside (x ∷ counts) [] n s d less is =
    let none : more x s + 0 ≡ 0 + more x s = omega arith in
    ap (λ k. more x s + k) (spare_none counts) ∙ none ∙ ap (λ k. 0 + more k s) (sym is)
more_beside (x ∷ counts) (y ∷ before) n s d less is =
    ap (λ k. more x y + k) (more_beside counts before n s d (omega (arith, less)) is) ∙ sym (add_assoc (more x y) (spare_beside counts before) (more n s))

past_all : (counts : List ℕ) (before : List Table) (s : Table) → length counts ≤ length before → spare_beside counts (before ++ s ∷ []) ≡ spare_beside counts before
past_all [] before s less = refl
past_all (x ∷ counts) [] s less = absurd (omega (arith, less))
past_all (x ∷ counts) (y ∷ before) s less = ap (λ k. more x y + k) (past_all counts before s (omega (arith, less)))

module _ (counts : List ℕ) (stored : List Table) (i : ℕ) (s : Table) (inside : i < length stored) (is : s ≡ get_or stored i s) where
  one_more : take (i + 1) stored ≡ take i stored ++ s ∷ []
  one_more = take_more stored i s inside ∙ ap (λ (t : Table). take i stored ++ t ∷ []) (sym is)

  long : length (take i stored) ≡ i
  long = length-take-le i stored (omega (arith, inside))

  pub spare_more : i < length counts → spare_beside counts (take (i + 1) stored) ≡ spare_beside counts (take i stored) + more (get_or counts i 0) s
  spare_more less =
      ap (spare_beside counts) one_more ∙ more_beside counts (take i stored) (get_or counts i 0) s 0 (omega (arith, less, long)) (ap (λ k. get_or counts k 0) (sym long))

  pub spare_past : length counts ≤ i → spare_beside counts (take (i + 1) stored) ≡ spare_beside counts (take i stored)
  spare_past late = ap (spare_beside counts) one_more ∙ past_all counts (take i stored) s (omega (arith, late, long))
