-- The state numbers of an object's activations are those that are kept.
use Rattle.std.proofs.Common.{◌≡◌, ◌==◌, ℕ, List, [], ◌∷◌, Bool, true, false, cond, map, Option, Some, refl, sym, ap, subst, ◌∙◌}
use Rattle.std.specs.List.{AllByRecursion, find}
use Rattle.std.specs.Option.{option_map, option_map_or, unwrap_or}
use Rattle.ode_codec.specs.Standing.{ArePasts, AreStates}
use Rattle.ode_codec.specs.StoredRows.{state_in, state_of}
use Rattle.ode_laws.proofs.Rows.{find_rising}
use Rattle.ode_laws.specs.Alike.{NumberWorld}
use Rattle.ode_value.specs.Denoting.{object_numbered}
use Rattle.ode_value.specs.GoodWorlds.{RiseFrom}
use Rattle.ode_value.specs.Objects.{Activation, Histories, Starts}
use Rattle.ode_value.specs.Pasts.{Kept}
use Rattle.ode_value.specs.Tables.{Table}
use Rattle.ode_value.specs.Worlds.{Declared, Object, kept_at}

abbrev NumberKept : Type 0
NumberKept = Kept (Unit {0}) ℕ

-- ---- rows by rising numbers

kept_find : {K : Type 0} (n : ℕ) (rows : List (ℕ × K)) → kept_at n rows ≡ option_map (λ (row : ℕ × K). row.1) (find (λ (row : ℕ × K). row.0 == n) rows)
kept_find n [] = refl
kept_find {K} n (row ∷ rows) = by_test (row.0 == n) (kept_find n rows) where
  by_test : (b : Bool) → kept_at n rows ≡ option_map (λ (r : ℕ × K). r.1) (find (λ (r : ℕ × K). r.0 == n) rows)
      → cond b (Some row.1) (kept_at n rows) ≡ option_map (λ (r : ℕ × K). r.1) (cond b (Some row) (find (λ (r : ℕ × K). r.0 == n) rows))
  by_test true rest = refl
  by_test false rest = rest

kept_each : {K : Type 0} (rows : List (ℕ × K)) → RiseFrom 0 (map (λ (row : ℕ × K). row.0) rows) → AllByRecursion (λ (row : ℕ × K). kept_at row.0 rows ≡ Some row.1) rows
kept_each {K} rows rising = each rows (find_rising (λ (row : ℕ × K). row.0) 0 rows rising) where
  each : (more : List (ℕ × K)) → AllByRecursion (λ r. find (λ (row : ℕ × K). row.0 == r.0) rows ≡ Some r) more → AllByRecursion (λ (r : ℕ × K). kept_at r.0 rows ≡ Some r.1) more
  each [] all = tt
  each (r ∷ more) all = (kept_find r.0 rows ∙ ap (option_map (λ (row : ℕ × K). row.1)) all.0, each more all.1)

module _ (tables : ℕ → ℕ → Table) (classes : List Declared) where
  numbers_same : (h : Histories) (acts : List Activation) (rows : List (ℕ × ℕ)) (starts : List (ℕ × Starts)) → AreStates tables classes h acts rows starts
      → map (λ (a : Activation). a.number) acts ≡ map (λ (row : ℕ × ℕ). row.0) rows
  numbers_same h [] [] [] are = refl
  numbers_same h (a ∷ acts) (row ∷ rows) (start ∷ starts) are =
      ap (λ n. n ∷ map (λ (b : Activation). b.number) acts) (sym are.0.number) ∙ ap (λ ns. row.0 ∷ ns) (numbers_same h acts rows starts are.1)
  numbers_same h [] (row ∷ rows) starts are = absurd are
  numbers_same h [] [] (start ∷ starts) are = absurd are
  numbers_same h (a ∷ acts) [] starts are = absurd are
  numbers_same h (a ∷ acts) (row ∷ rows) [] are = absurd are

  rows_by : (all : List (ℕ × ℕ)) (h : Histories) (acts : List Activation) (rows : List (ℕ × ℕ)) (starts : List (ℕ × Starts)) → AreStates tables classes h acts rows starts
      → AllByRecursion (λ (row : ℕ × ℕ). kept_at row.0 all ≡ Some row.1) rows → map (λ (a : Activation). (a.number, unwrap_or (kept_at a.number all) 0)) acts ≡ rows
  rows_by all h [] [] [] are each = refl
  rows_by all h (a ∷ acts) (row ∷ rows) (start ∷ starts) are each =
      ap (λ (r : ℕ × ℕ). r ∷ map (λ (b : Activation). (b.number, unwrap_or (kept_at b.number all) 0)) acts) here ∙ ap (λ (rs : List (ℕ × ℕ)). row ∷ rs) (rows_by all h acts rows starts are.1 each.1) where
        here : (a.number, unwrap_or (kept_at a.number all) 0) ≡ row
        here = ap (λ n. (n, unwrap_or (kept_at n all) 0)) (sym are.0.number) ∙ ap (λ (m : Option ℕ). (row.0, unwrap_or m 0)) each.0
  rows_by all h [] (row ∷ rows) starts are each = absurd are
  rows_by all h [] [] (start ∷ starts) are each = absurd are
  rows_by all h (a ∷ acts) [] starts are each = absurd are
  rows_by all h (a ∷ acts) (row ∷ rows) [] are each = absurd are

  -- what is kept of an object, and for what its numbers stand
  pub record HasStates (o : Object) (there : Option NumberKept) : Type 0 where
    pub kept : NumberKept
    pub found : there ≡ Some kept
    pub histories : Histories
    pub starts : List (ℕ × Starts)
    pub states : AreStates tables classes histories o.activations kept.activations starts

  pub states_found : (id : ℕ) (os : List Object) (rows : List (ℕ × NumberKept)) (pasts : List (ℕ × Kept Histories Starts)) → ArePasts tables classes os rows pasts
      → (o : Object) → object_numbered id os ≡ Some o → HasStates o (kept_at id rows)
  states_found id (p ∷ os) (row ∷ rows) (past ∷ pasts) are o is = by_test (p.id == id) (row.0 == id) (ap (λ n. n == id) are.0) is (states_found id os rows pasts are.2 o) where
    by_test : (b c : Bool) → c ≡ b → cond b (Some p) (object_numbered id os) ≡ Some o → (object_numbered id os ≡ Some o → HasStates o (kept_at id rows)) → HasStates o (cond c (Some row.1) (kept_at id rows))
    by_test true true e there rest = let same : p ≡ o = cc in record {
      kept = row.1;
      found = refl;
      histories = past.1.own;
      starts = past.1.activations;
      states = subst (λ (q : Object). AreStates tables classes past.1.own q.activations row.1.activations past.1.activations) same are.1;
    }
    by_test false false e there rest = rest there
    by_test true false e there rest = absurd (cc)
    by_test false true e there rest = absurd (cc)
  states_found id [] rows pasts are o is = absurd (cc)
  states_found id (p ∷ os) [] pasts are o is = absurd are
  states_found id (p ∷ os) (row ∷ rows) [] are o is = absurd are

  -- its rows, by what a heap answers
  pub rows_kept : (w : NumberWorld) (id : ℕ) (o : Object) → RiseFrom 0 (map (λ (a : Activation). a.number) o.activations) → (has : HasStates o (kept_at id w.pasts))
      → map (λ (a : Activation). (a.number, state_of w id a.number)) o.activations ≡ has.kept.activations
  rows_kept w id o rising has =
      let all = has.kept.activations in
      ap (λ (k : Option NumberKept). map (λ (a : Activation). (a.number, option_map_or (state_in a.number) k 0)) o.activations) has.found
      ∙ rows_by all has.histories o.activations all has.starts has.states
      (kept_each all (subst (RiseFrom 0) (numbers_same has.histories o.activations all has.starts has.states) rising))
