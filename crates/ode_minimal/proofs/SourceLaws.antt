-- Lists of sources, filled state by state and symbol by symbol.
use Rattle.std.proofs.Common.{◌≡◌, ◌≢◌, ℕ, ◌+◌, ◌*◌, ◌<◌, List, [], ◌∷◌, ◌++◌, length, get_or, set, sym, ap, ◌∙◌, subst, arith, inl, inr, ◌⊎◌, below_more}
use Rattle.std.specs.Prelude.{Contains}
use Rattle.std.proofs.lemmas.List.{get_or-set_same, get_or-set_other, length-set}
use Rattle.std.proofs.lemmas.List.Elements.{Contains-append_left, Contains-push}
use Rattle.std.proofs.Math.Nat.{mul_comm}
use Rattle.std.proofs.lemmas.Nat.{mul-add-lt, same_from_place}
use Rattle.std.proofs.lemmas.Bool.{cases_eq}
use Rattle.ode_value.specs.Tables.{Table, next_state}
use Rattle.ode_minimal.specs.Sources.{sources, IsFilled}
use Rattle.ode_minimal.proofs.AlikeLaws.{push_each}

pub row_fits : (t : Table) (rows r s : ℕ) → rows ≡ t.states * t.symbols → r < t.states → s < t.symbols → r * t.symbols + s < rows
row_fits t rows r s is_rows below_r below_s = subst (λ n. r * t.symbols + s < n) (mul_comm t.symbols t.states ∙ sym is_rows) (mul-add-lt r t.symbols s t.states below_r below_s)

pub filled_next : (t : Table) (lists : List (List ℕ)) (head upto : ℕ) → upto ≡ t.symbols → IsFilled t lists head upto → IsFilled t lists (head + 1) 0
filled_next t lists head upto all h = record {
  rows = h.rows;
  states = h.states;
  lead = h.lead;
  to = λ q s low below. below_more (λ q. (s : ℕ) → s < t.symbols → next_state t q s < t.states) head (λ q low s below. h.to q s low below) (λ s below. h.to_here s (omega arith)) q low s below;
  each = λ q s low below.
      below_more (λ q. (s : ℕ) → s < t.symbols → Contains (sources t lists (next_state t q s) s) q) head (λ q low s below. h.each q s low below) (λ s below. h.here s (omega arith)) q low s below;
  to_here = λ s none. absurd (omega arith);
  here = λ s none. absurd (omega arith);
}

module _ (t : Table) (lists : List (List ℕ)) (head upto : ℕ) (is_state : head < t.states) (is_symbol : upto < t.symbols) (to_state : next_state t head upto < t.states) (h : IsFilled t lists head upto) where
  abbrev to : ℕ
  to = next_state t head upto

  abbrev place : ℕ
  place = to * t.symbols + upto

  abbrev more : List (List ℕ)
  more = set lists place (get_or lists place [] ++ head ∷ [])

  inside : place < length lists
  inside = row_fits t (length lists) to upto h.rows to_state is_symbol

  -- a list is as before, or has one more
  record IsLonger (r s : ℕ) : Type 0 where
    pub is_to : r ≡ to
    pub is_upto : s ≡ upto
    pub list : sources t more r s ≡ sources t lists r s ++ head ∷ []

  same_list : (r s : ℕ) → s < t.symbols → (sources t more r s ≡ sources t lists r s) ⊎ IsLonger r s
  same_list r s below = by_place (cases_eq (r * t.symbols + s) place) where
    by_place : (r * t.symbols + s ≡ place) ⊎ (r * t.symbols + s ≢ place) → (sources t more r s ≡ sources t lists r s) ⊎ IsLonger r s
    by_place (inl same) =
        let parts = same_from_place r s to upto t.symbols below is_symbol same in
        inr record {
          is_to = parts.0;
          is_upto = parts.1;
          list = ap (λ n. get_or more n []) same ∙ get_or-set_same lists place (get_or lists place [] ++ head ∷ []) [] inside ∙ ap (λ n. get_or lists n [] ++ head ∷ []) (sym same);
        }
    by_place (inr other) = inl (get_or-set_other lists place (r * t.symbols + s) (get_or lists place [] ++ head ∷ []) [] other)

  still : (r s q : ℕ) → s < t.symbols → Contains (sources t lists r s) q → Contains (sources t more r s) q
  still r s q below there = by_list (same_list r s below) where
    by_list : (sources t more r s ≡ sources t lists r s) ⊎ IsLonger r s → Contains (sources t more r s) q
    by_list (inl same) = subst (λ l. Contains l q) (sym same) there
    by_list (inr longer) = subst (λ l. Contains l q) (sym longer.list) (Contains-append_left (sources t lists r s) (head ∷ []) q there)

  states_more : (r s j : ℕ) → s < t.symbols → j < length (sources t more r s) → get_or (sources t more r s) j 0 < t.states
  states_more r s j below = by_list (same_list r s below) where
    by_list : (sources t more r s ≡ sources t lists r s) ⊎ IsLonger r s → j < length (sources t more r s) → get_or (sources t more r s) j 0 < t.states
    by_list (inl same) = subst (λ (l : List ℕ). j < length l → get_or l j 0 < t.states) (sym same) (h.states r s j below)
    by_list (inr longer) = subst (λ (l : List ℕ). j < length l → get_or l j 0 < t.states) (sym longer.list)
        (push_each (sources t lists r s) head 0 (λ q _. q < t.states) (λ j within. h.states r s j below within) is_state j)

  lead_more : (r s j : ℕ) → s < t.symbols → j < length (sources t more r s) → next_state t (get_or (sources t more r s) j 0) s ≡ r
  lead_more r s j below = by_list (same_list r s below) where
    by_list : (sources t more r s ≡ sources t lists r s) ⊎ IsLonger r s → j < length (sources t more r s) → next_state t (get_or (sources t more r s) j 0) s ≡ r
    by_list (inl same) = subst (λ (l : List ℕ). j < length l → next_state t (get_or l j 0) s ≡ r) (sym same) (h.lead r s j below)
    by_list (inr longer) = subst (λ (l : List ℕ). j < length l → next_state t (get_or l j 0) s ≡ r) (sym longer.list)
        (push_each (sources t lists r s) head 0 (λ q _. next_state t q s ≡ r) (λ j within. h.lead r s j below within) (ap (next_state t head) longer.is_upto ∙ sym longer.is_to) j)

  pub filled_more : IsFilled t more head (upto + 1)
  filled_more = record {
    rows = length-set lists place (get_or lists place [] ++ head ∷ []) ∙ h.rows;
    states = states_more;
    lead = lead_more;
    to = h.to;
    each = λ q s low below. still (next_state t q s) s q below (h.each q s low below);
    to_here = below_more (λ s. next_state t head s < t.states) upto h.to_here to_state;
    here =
        below_more (λ s. Contains (sources t more (next_state t head s) s) head) upto
        (λ s low. still (next_state t head s) s head (omega arith) (h.here s low))
        (subst (λ l. Contains l head) (sym (get_or-set_same lists place (get_or lists place [] ++ head ∷ []) [] inside)) (Contains-push (get_or lists place []) head));
  }
