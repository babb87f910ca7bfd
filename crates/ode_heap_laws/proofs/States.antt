-- The state numbers of a world that is held are below the states of their tables, which are few.
use Rattle.std.proofs.Common.{◌≡◌, ℕ, zero, suc, ◌+◌, ◌*◌, ◌<◌, ◌^◌, Bool, true, false, cond, List, [], ◌∷◌, get_or, ◌==◌, Option, Some, None, refl, subst, arith}
use Rattle.std.specs.List.{AllByRecursion}
use Rattle.std.specs.Option.{option_map, option_map_or, unwrap_or}
use Rattle.ode_codec.specs.Standing.{ArePasts, AreStates, HasTables, IsStateOf, IsTableOf, IsWhole, StandsBy}
use Rattle.ode_codec.specs.StoredRows.{state_in, state_of}
use Rattle.ode_heap_laws.proofs.Classes.{IsSmallTrigger}
use Rattle.ode_laws.proofs.Numbers.{all-at}
use Rattle.ode_value.specs.Classes.{Trigger, own_triggers, trigger_at, watch_of}
use Rattle.ode_value.specs.Objects.{Activation, Histories, Starts}
use Rattle.ode_value.specs.Pasts.{Kept}
use Rattle.ode_value.specs.Tables.{Table, next_state, run}
use Rattle.ode_value.specs.Worlds.{Declared, Object, World, kept_at}

index_below : (xs : List ℕ) (n i : ℕ) → 0 < n → AllByRecursion (λ q. q < n) xs → get_or xs i 0 < n
index_below [] n i some all = some
index_below (x ∷ xs) n zero some all = all.0
index_below (x ∷ xs) n (suc i) some all = index_below xs n i some all.1

-- a word leads to a state of the table
run_below : (t : Table) → IsWhole t → (q : ℕ) (word : List ℕ) → q < t.states → run t q word < t.states
run_below t whole q [] less = less
run_below t whole q (s ∷ word) less = run_below t whole (next_state t q s) word (index_below t.next t.states (q * t.symbols + s) whole.some whole.in_range)

abbrev pub IsLow : ℕ → Type 0
IsLow state = state < 2 ^ 16

abbrev AreLow : Kept (Unit {0}) ℕ → Type 0
AreLow kept = AllByRecursion (λ (row : ℕ × ℕ). IsLow row.1) kept.activations

module _ (tables : ℕ → ℕ → Table) (cs : List Declared) (mean : AllByRecursion (HasTables tables) cs)
    (small : AllByRecursion (λ (d : Declared). AllByRecursion IsSmallTrigger (own_triggers d.class)) cs) where
  low : (h : Histories) (a : Activation) (row : ℕ × ℕ) (start : ℕ × Starts) → IsStateOf tables cs h a row start → IsLow row.1
  low h a row start is = by_trigger (trigger_at cs a.class a.trigger) refl is.stands
    where
      by_trigger : (o : Option Trigger) → trigger_at cs a.class a.trigger ≡ o → StandsBy tables cs h row start (option_map (λ t. watch_of t a.args) o) → IsLow row.1
      by_trigger None at stands = absurd stands
      by_trigger (Some t) at stands =
          let table : IsTableOf tables t = all-at (IsTableOf tables) cs mean a.class a.trigger t at in
          let few : IsSmallTrigger t = all-at IsSmallTrigger cs small a.class a.trigger t at in
          let below = run_below (tables t.class t.place) table.whole 0 stands.word table.whole.some in
          let states = few.states in
          let reached = stands.reached in
          let trees = table.small in
          omega arith

  rows_low : (h : Histories) (acts : List Activation) (rows : List (ℕ × ℕ)) (starts : List (ℕ × Starts)) → AreStates tables cs h acts rows starts → AllByRecursion (λ (row : ℕ × ℕ). IsLow row.1) rows
  rows_low h acts [] starts are = tt
  rows_low h (a ∷ acts) (row ∷ rows) (start ∷ starts) are = (low h a row start are.0, rows_low h acts rows starts are.1)
  rows_low h [] (row ∷ rows) starts are = absurd are
  rows_low h (a ∷ acts) (row ∷ rows) [] are = absurd are

  pasts_low : (os : List Object) (rows : List (ℕ × Kept (Unit {0}) ℕ)) (pasts : List (ℕ × Kept Histories Starts)) → ArePasts tables cs os rows pasts
      → AllByRecursion (λ (row : ℕ × Kept (Unit {0}) ℕ). AreLow row.1) rows
  pasts_low os [] pasts are = tt
  pasts_low (o ∷ os) (row ∷ rows) (past ∷ pasts) are = (rows_low past.1.own o.activations row.1.activations past.1.activations are.1, pasts_low os rows pasts are.2)
  pasts_low [] (row ∷ rows) pasts are = absurd are
  pasts_low (o ∷ os) (row ∷ rows) [] are = absurd are

kept_all : {K : Type 0} (P : K → Type 0) (rows : List (ℕ × K)) → AllByRecursion (λ (row : ℕ × K). P row.1) rows → (n : ℕ) (k : K) → kept_at n rows ≡ Some k → P k
kept_all P [] all n k is = absurd (cc)
kept_all P (row ∷ rows) all n k is = by_test (row.0 == n) is (kept_all P rows all.1 n k)
  where
    by_test : (b : Bool) → cond b (Some row.1) (kept_at n rows) ≡ Some k → (kept_at n rows ≡ Some k → P k) → P k
    by_test true e rest = let same : row.1 ≡ k = cc in subst P same all.0
    by_test false e rest = rest e

-- the state number of any activation
pub state_low : (tables : ℕ → ℕ → Table) (cs : List Declared) → AllByRecursion (HasTables tables) cs → AllByRecursion (λ (d : Declared). AllByRecursion IsSmallTrigger (own_triggers d.class)) cs
    → (w : World (Unit {0}) ℕ) (os : List Object) (pasts : List (ℕ × Kept Histories Starts)) → ArePasts tables cs os w.pasts pasts → (id number : ℕ) → IsLow (state_of w id number)
state_low tables cs mean small w os pasts are id number = by_object (kept_at id w.pasts) refl
  where
    by_object : (o : Option (Kept (Unit {0}) ℕ)) → kept_at id w.pasts ≡ o → IsLow (option_map_or (state_in number) o 0)
    by_object None at = omega arith
    by_object (Some kept) at = by_number (kept_at number kept.activations) refl
      where
        by_number : (o : Option ℕ) → kept_at number kept.activations ≡ o → IsLow (unwrap_or o 0)
        by_number None at = omega arith
        by_number (Some state) found =
            kept_all IsLow kept.activations (kept_all AreLow w.pasts (pasts_low tables cs mean small os w.pasts pasts are) id kept at) number state found
