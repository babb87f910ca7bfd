-- What a lookup leaves is enough.
use Rattle.std.proofs.Common.{◌≡◌, ◌⊎◌, inl, inr, ⊎_elim, ◌∙◌, ℕ, zero, suc, ◌+◌, ◌<◌, ◌≤◌, append_assoc, drop, get_or, slice_index_or, List, [], ◌∷◌, ◌++◌, length, map, Bool, true, false, Option, Some, None, Result, Ok, Err, refl, sym, ap, subst, arith}
use Rattle.std.proofs.lemmas.List.{append-nil, drop_all, drop_more, length-map, map-append}
use Rattle.std.proofs.lemmas.List.Concat.{flat_map-cons}
use Rattle.std.proofs.lemmas.List.Elements.{Contains-append_cases, Contains-append_left, Contains-append_right}
use Rattle.std.specs.List.{Contains}
use Rattle.ode_index.specs.Numbers.{AreNumbers, IsOf}
use Rattle.ode_links.proofs.LinkLaws.{field_is}
use Rattle.ode_links.specs.Linking.{Agree, IsKnown, field_of_local}
use Rattle.ode_query.proofs.Thinning.{Dead, cases_in, in_head, in_none, in_tail, thinned}
use Rattle.ode_query.specs.Answers.{Says}
use Rattle.ode_query.specs.Lookups.{AreEnough, IsLookup, field_at, row_with, unless_fault, valued}
use Rattle.ode_query.specs.Rows.{frame_of, passes, reference_to}
use Rattle.ode_query.specs.declared.lookup.Lookup.{Lookup}
use Rattle.ode_value.specs.Evaluation.{at_ref, evaluate, field_of}
use Rattle.ode_value.specs.GoodWorlds.{RiseFrom}
use Rattle.ode_value.specs.Masks.{value_at, with_value}
use Rattle.ode_value.specs.Worlds.{Bones}
use Rattle.ode_value.specs.declared.arithmetic.Fault.{Fault}
use Rattle.ode_value.specs.declared.statement.Expr.{Expr}
use Rattle.ode_value.specs.declared.value.Value.{Value}

-- ---- values and faults

same_value : (r : Result Value Fault) (v w : Value) → r ≡ Ok v → r ≡ Ok w → v ≡ w
same_value r v w e f = cc (sym e ∙ f)

told : (r : Result Value Fault) (o : Option Value) → Says (Ok (unless_fault r)) (Ok o) → unless_fault r ≡ o
told r o says = cc (says)

is_value : (r : Result Value Fault) (v : Value) → unless_fault r ≡ Some v → r ≡ Ok v
is_value (Ok w) v e = let same : w ≡ v = cc (e) in ap (λ (x : Value). Ok x) same
is_value (Err fault) v e = absurd (cc (e))

is_fault : (r : Result Value Fault) → unless_fault r ≡ None → (fault : Fault) × (r ≡ Err fault)
is_fault (Ok w) e = absurd (cc (e))
is_fault (Err fault) e = (fault, refl)

-- ---- frames of more numbers

module _ (b : Bones) (chosen : List ℕ) (n : ℕ) (ms : List ℕ) where
  next_value : (ns : List ℕ) → value_at (map reference_to (ns ++ n ∷ ms)) (length ns) ≡ Ok (reference_to n)
  next_value [] = refl
  next_value (m ∷ ns) = next_value ns

  -- the field of the next variable's object
  next_field : (place : ℕ) → evaluate (field_of_local (length chosen) place) b (frame_of (chosen ++ n ∷ ms)) ≡ field_at b place n
  next_field place =
      field_is (length chosen) place b (frame_of (chosen ++ n ∷ ms))
      ∙ ap (λ (r : Result Value Fault). with_value r (at_ref (field_of b place))) (next_value chosen)
      ∙ sym (field_is 0 place b (frame_of (n ∷ [])))

  -- what is known by those chosen
  known_before : (e : Expr) → IsKnown (length chosen) e → evaluate e b (frame_of (chosen ++ n ∷ ms)) ≡ evaluate e b (frame_of chosen)
  known_before e known =
      ap (λ (locals : List Value). evaluate e b (record (frame_of []) { locals = locals })) (map-append reference_to chosen (n ∷ ms))
      ∙ known b (frame_of []).this (map reference_to chosen) (map reference_to (n ∷ ms)) (omega (arith, length-map chosen reference_to))

-- ---- the rows of an index

single : {X : Type 0} (x y : X) (k : ℕ) → k < 1 → get_or (x ∷ []) k y ≡ y → x ≡ y
single x y zero lt e = e
single x y (suc k) lt e = absurd (omega (arith, lt))

module _ (b : Bones) (place : ℕ) where
  one_row : (m : ℕ) (r : Result Value Fault) (v : Value) (n : ℕ) → Contains (row_with m r) (v, n) → (m ≡ n) × (r ≡ Ok v)
  one_row m (Ok w) v n (k, lt, e) =
      let is = single {X = Value × ℕ} (w, m) (v, n) k lt e in
      (ap (λ (row : Value × ℕ). row.1) is, ap (λ (row : Value × ℕ). Ok row.0) is)
  one_row m (Err fault) v n (k, lt, e) = absurd (omega (arith, lt))

  valued_of : (ns : List ℕ) (v : Value) (n : ℕ) → Contains (valued b place ns) (v, n) → Contains ns n × (field_at b place n ≡ Ok v)
  valued_of [] v n (k, lt, e) = absurd (omega (arith, lt))
  valued_of (m ∷ ns) v n here = ⊎_elim
      (λ first. let is = one_row m (field_at b place m) v n first in (subst (λ k. Contains (m ∷ ns) k) is.0 (in_head m ns), ap (field_at b place) (sym is.0) ∙ is.1))
      (λ later. let is = valued_of ns v n later in (in_tail m n ns is.0, is.1))
      (Contains-append_cases (row_with m (field_at b place m)) (valued b place ns) (v, n) here)

  row_there : (m : ℕ) (r : Result Value Fault) (v : Value) → r ≡ Ok v → Contains (row_with m r) (v, m)
  row_there m r v is = subst (λ (s : Result Value Fault). Contains (row_with m s) (v, m)) (sym is) (0, omega arith, refl)

  valued_has : (ns : List ℕ) (v : Value) (n : ℕ) → Contains ns n → field_at b place n ≡ Ok v → Contains (valued b place ns) (v, n)
  valued_has [] v n here is = absurd (in_none n here)
  valued_has (m ∷ ns) v n here is = by (cases_in m n ns here) (λ later. valued_has ns v n later is) where
    by : (m ≡ n) ⊎ Contains ns n → (Contains ns n → Contains (valued b place ns) (v, n)) → Contains (valued b place (m ∷ ns)) (v, n)
    by (inl e) rest = Contains-append_left (row_with m (field_at b place m)) (valued b place ns) (v, n)
        (subst (λ k. Contains (row_with m (field_at b place m)) (v, k)) e (row_there m (field_at b place m) v (ap (field_at b place) e ∙ is)))
    by (inr later) rest = Contains-append_right (row_with m (field_at b place m)) (valued b place ns) (v, n) (rest later)

-- ---- what is found is enough

module _ (b : Bones) (test : Option Expr) (chosen numbers : List ℕ) (lookup : Lookup) (is : IsLookup b test (length chosen) numbers lookup) (rise : RiseFrom 0 numbers) where
  -- a combination that passes has one value on both sides
  both : (n : ℕ) (ms : List ℕ) → passes b test (chosen ++ n ∷ ms) ≡ true → Agree (field_at b lookup.link.place n) (evaluate lookup.link.other b (frame_of chosen))
  both n ms pass =
      let agree = is.agree (chosen ++ n ∷ ms) pass in
      (agree.0, sym (next_field b chosen n ms lookup.link.place) ∙ agree.1, sym (known_before b chosen n ms lookup.link.other is.known) ∙ agree.2)

  dead : (n : ℕ) → ((ms : List ℕ) → passes b test (chosen ++ n ∷ ms) ≡ true → ⊥) → Dead (passes b test) chosen [] n
  dead n never ms = by (passes b test (chosen ++ n ∷ ms)) refl where
    by : (p : Bool) → passes b test (chosen ++ n ∷ ms) ≡ p → passes b test (chosen ++ n ∷ ms) ≡ false
    by true e = absurd (never ms e)
    by false e = e

  found_enough : (v : Value) (found : List ℕ) → evaluate lookup.link.other b (frame_of chosen) ≡ Ok v → AreNumbers (valued b lookup.link.place numbers) v found → AreEnough b test chosen found numbers
  found_enough v found known are lists = thinned (passes b test) chosen lists found numbers are.rising rise
      (λ n here. (valued_of b lookup.link.place numbers v n ((are.are n).0 here)).0)
      (λ n inside out. dead n (λ ms pass.
      let agree = both n ms pass in
      let same : agree.0 ≡ v = same_value (evaluate lookup.link.other b (frame_of chosen)) agree.0 v agree.2 known in
      out ((are.are n).1 (valued_has b lookup.link.place numbers v n inside (agree.1 ∙ ap (λ (x : Value). Ok x) same)))))

  none_enough : (fault : Fault) → evaluate lookup.link.other b (frame_of chosen) ≡ Err fault → AreEnough b test chosen [] numbers
  none_enough fault known lists = thinned (passes b test) chosen lists [] numbers (λ k lt. absurd (omega (arith, lt))) rise
      (λ n here. absurd (in_none n here))
      (λ n inside out. dead n (λ ms pass. absurd (cc (sym known ∙ (both n ms pass).2))))

  -- as a call says what is known
  pub known_enough : (v : Value) (found : List ℕ) (o : Option Value) → Says (Ok (unless_fault (evaluate lookup.link.other b (frame_of chosen)))) (Ok o) → o ≡ Some v
      → ((rows : List (Value × ℕ)) → IsOf rows lookup.index → AreNumbers rows v found) → AreEnough b test chosen found numbers
  known_enough v found o says some finds =
      let other = evaluate lookup.link.other b (frame_of chosen) in
      found_enough v found (is_value other v (told other o says ∙ some)) (finds (valued b lookup.link.place numbers) is.index)

  pub unknown_enough : (found : List ℕ) (o : Option Value) → Says (Ok (unless_fault (evaluate lookup.link.other b (frame_of chosen)))) (Ok o) → o ≡ None → found ≡ [] → AreEnough b test chosen found numbers
  unknown_enough found o says none empty =
      let other = evaluate lookup.link.other b (frame_of chosen) in
      let fault = is_fault other (told other o says ∙ none) in
      subst (λ (ns : List ℕ). AreEnough b test chosen ns numbers) (sym empty) (none_enough fault.0 fault.1)

-- ---- rows read in a loop

module _ (b : Bones) (place : ℕ) (numbers : List ℕ) (i : ℕ) (inside : i < length numbers) (done : List (Value × ℕ)) (so : done ++ valued b place (drop i numbers) ≡ valued b place numbers) where
  abbrev pub item : ℕ
  item = slice_index_or numbers i 0

  next_row : done ++ (row_with item (field_at b place item) ++ valued b place (drop (i + 1) numbers)) ≡ valued b place numbers
  next_row =
      let each : ℕ → List (Value × ℕ) = λ m. row_with m (field_at b place m) in
      ap (λ (rs : List (Value × ℕ)). done ++ rs) (sym (ap (valued b place) (drop_more numbers i 0 inside) ∙ flat_map-cons each item (drop (i + 1) numbers))) ∙ so

  pub row_added : (v : Value) (o : Option Value) (more : List (Value × ℕ)) → Says (Ok (unless_fault (field_at b place item))) (Ok o) → o ≡ Some v → more ≡ done ++ (v, item) ∷ []
      → more ++ valued b place (drop (i + 1) numbers) ≡ valued b place numbers
  row_added v o more says some comes =
      let row : row_with item (field_at b place item) ≡ (v, item) ∷ [] = ap (row_with item) (is_value (field_at b place item) v (told (field_at b place item) o says ∙ some)) in
      ap (λ (rs : List (Value × ℕ)). rs ++ valued b place (drop (i + 1) numbers)) comes
      ∙ append_assoc done ((v, item) ∷ []) (valued b place (drop (i + 1) numbers))
      ∙ ap (λ (rs : List (Value × ℕ)). done ++ (rs ++ valued b place (drop (i + 1) numbers))) (sym row) ∙ next_row

  pub row_passed : (o : Option Value) (more : List (Value × ℕ)) → Says (Ok (unless_fault (field_at b place item))) (Ok o) → o ≡ None → more ≡ done → more ++ valued b place (drop (i + 1) numbers) ≡ valued b place numbers
  row_passed o more says none stays =
      let fault = is_fault (field_at b place item) (told (field_at b place item) o says ∙ none) in
      ap (λ (rs : List (Value × ℕ)). rs ++ valued b place (drop (i + 1) numbers)) stays
      ∙ ap (λ (r : Result Value Fault). done ++ (row_with item r ++ valued b place (drop (i + 1) numbers))) (sym fault.1) ∙ next_row

pub rows_read : (b : Bones) (place : ℕ) (numbers : List ℕ) (i : ℕ) (done : List (Value × ℕ)) → length numbers ≤ i → done ++ valued b place (drop i numbers) ≡ valued b place numbers → Says (Ok (valued b place numbers)) (Ok done)
rows_read b place numbers i done end so =
    let same : valued b place numbers ≡ done = sym so ∙ ap (λ (ns : List ℕ). done ++ valued b place ns) (drop_all i numbers end) ∙ append-nil done in
    ap (λ (rs : List (Value × ℕ)). Ok rs) same
