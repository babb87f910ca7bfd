-- Rows behind those that are known.
use Rattle.std.proofs.Common.{◌≡◌, ◌∙◌, ◌+◌, ◌<◌, ◌≤◌, ℕ, List, [], ◌∷◌, ◌++◌, drop, length, map, slice_index_or, Result, Ok, Err, refl, sym, ap, append_assoc}
use Rattle.std.proofs.lemmas.List.{append-nil, drop_all, drop_more, map-append}
use Rattle.std.proofs.lemmas.List.Concat.{flat_map-cons}
use Rattle.std.proofs.lemmas.List.Elements.{filter-append}
use Rattle.std.specs.List.{filter, flat_map}
use Rattle.ode_asksyn.specs.declared.query.Query.{Query}
use Rattle.ode_query.specs.Answers.{Says, behind}
use Rattle.ode_query.specs.Rows.{all_of, begun_by, combinations, passes, row_of, rows_from, with_both}
use Rattle.ode_query.specs.declared.error.QueryError.{QueryError}
use Rattle.ode_query.specs.declared.error.QueryError.TheVariants as error
use Rattle.ode_query.specs.declared.row.Row.{Row}
use Rattle.ode_value.specs.Worlds.{Bones}
use Rattle.ode_value.specs.declared.arithmetic.Fault.{Fault}
use Rattle.ode_value.specs.declared.value.Value.{Value}

-- ---- what each comes to, one by one

module _ {X Y : Type 0} (f : X → Result Y Fault) where
  one_more : (done : List Y) (y : Y) (r : Result (List Y) Fault) → behind done (with_both (λ z zs. z ∷ zs) (Ok y) r) ≡ behind (done ++ y ∷ []) r
  one_more done y (Ok more) = ap (λ (all : List Y). Ok all) (sym (append_assoc done (y ∷ []) more))
  one_more done y (Err fault) = refl

  all_go_on : (done : List Y) (x : X) (xs : List X) (y : Y) → f x ≡ Ok y → behind done (all_of f (x ∷ xs)) ≡ behind (done ++ y ∷ []) (all_of f xs)
  all_go_on done x xs y is = rw is (one_more done y (all_of f xs))

  all_end : (done : List Y) (x : X) (xs : List X) (fault : Fault) → f x ≡ Err fault → behind done (all_of f (x ∷ xs)) ≡ Err fault
  all_end done x xs fault is = rw is refl

  all_done : (done : List Y) → behind done (all_of f []) ≡ Ok done
  all_done done = ap (λ (all : List Y). Ok all) (append-nil done)

  -- ---- one list behind another

  list_goes_on : (done : List Y) (xs more : List X) (all : List Y) → behind done (all_of f xs) ≡ Ok all → behind done (all_of f (xs ++ more)) ≡ behind all (all_of f more)
  list_goes_on done [] more all is =
      let same : done ≡ all = cc (sym (all_done done) ∙ is) in
      ap (λ (ys : List Y). behind ys (all_of f more)) same
  list_goes_on done (x ∷ xs) more all is = by (f x) refl (λ y. list_goes_on (done ++ y ∷ []) xs more all) where
    by : (r : Result Y Fault) → f x ≡ r → ((y : Y) → behind (done ++ y ∷ []) (all_of f xs) ≡ Ok all → behind (done ++ y ∷ []) (all_of f (xs ++ more)) ≡ behind all (all_of f more))
        → behind done (all_of f ((x ∷ xs) ++ more)) ≡ behind all (all_of f more)
    by (Ok y) e later = all_go_on done x (xs ++ more) y e ∙ later y (sym (all_go_on done x xs y e) ∙ is)
    by (Err fault) e later = absurd (cc (sym (all_end done x xs fault e) ∙ is))

  list_ends : (done : List Y) (xs more : List X) (fault : Fault) → behind done (all_of f xs) ≡ Err fault → behind done (all_of f (xs ++ more)) ≡ Err fault
  list_ends done [] more fault is = absurd (cc (sym (all_done done) ∙ is))
  list_ends done (x ∷ xs) more fault is = by (f x) refl (λ y. list_ends (done ++ y ∷ []) xs more fault) where
    by : (r : Result Y Fault) → f x ≡ r → ((y : Y) → behind (done ++ y ∷ []) (all_of f xs) ≡ Err fault → behind (done ++ y ∷ []) (all_of f (xs ++ more)) ≡ Err fault)
        → behind done (all_of f ((x ∷ xs) ++ more)) ≡ Err fault
    by (Ok y) e later = all_go_on done x (xs ++ more) y e ∙ later y (sym (all_go_on done x xs y e) ∙ is)
    by (Err other) e later = all_end done x (xs ++ more) other e ∙ sym (all_end done x xs other e) ∙ is

-- ---- in a loop

item_first : {X : Type 0} (xs : List X) (i : ℕ) (x : X) → i < length xs → x ≡ slice_index_or xs i x → drop i xs ≡ x ∷ drop (i + 1) xs
item_first {X} xs i x inside is = drop_more xs i x inside ∙ ap (λ (y : X). y ∷ drop (i + 1) xs) (sym is)

module _ {X Y : Type 0} (f : X → Result Y Fault) (meant : Result (List Y) Fault) (done : List Y) (xs : List X) (i : ℕ) where
  -- one more of them
  pub next_of : (more : List Y) (x : X) (y : Y) → i < length xs → x ≡ slice_index_or xs i x → f x ≡ Ok y → more ≡ done ++ y ∷ [] → behind done (all_of f (drop i xs)) ≡ meant → behind more (all_of f (drop (i + 1) xs)) ≡ meant
  next_of more x y inside is comes pushed so =
      ap (λ (ys : List Y). behind ys (all_of f (drop (i + 1) xs))) pushed
      ∙ sym (all_go_on f done x (drop (i + 1) xs) y comes)
      ∙ ap (λ (l : List X). behind done (all_of f l)) (sym (item_first xs i x inside is))
      ∙ so

  -- one that comes to nothing
  pub stops_of : (x : X) (why : QueryError) → i < length xs → x ≡ slice_index_or xs i x → Says (f x) (Err why) → behind done (all_of f (drop i xs)) ≡ meant → Says meant (Err why)
  stops_of x error.Memory inside is says so = tt
  stops_of x (error.TooManyRows count) inside is says so = absurd says
  stops_of x (error.Fault fault) inside is says so =
      sym so ∙ ap (λ (l : List X). behind done (all_of f l)) (item_first xs i x inside is) ∙ all_end f done x (drop (i + 1) xs) fault says
  stops_of x error.Output inside is says so = absurd says
  stops_of x error.DiskFault inside is says so = tt
  stops_of x (error.Damaged key) inside is says so = absurd says

  -- no more
  pub end_of : length xs ≤ i → behind done (all_of f (drop i xs)) ≡ meant → meant ≡ Ok done
  end_of end so = sym so ∙ ap (λ (l : List X). behind done (all_of f l)) (drop_all i xs end) ∙ all_done f done

-- ---- combinations

module _ (chosen : List ℕ) (lists : List (List ℕ)) where
  moved : (n : ℕ) (all : List (List ℕ)) → map (λ ns. chosen ++ ns) (map (λ ms. n ∷ ms) all) ≡ map (λ ns. (chosen ++ n ∷ []) ++ ns) all
  moved n [] = refl
  moved n (ms ∷ all) = ap (λ (ns : List ℕ). ns ∷ map (λ ns. chosen ++ ns) (map (λ ms. n ∷ ms) all)) (sym (append_assoc chosen (n ∷ []) ms)) ∙ ap (λ (rest : List (List ℕ)). ((chosen ++ n ∷ []) ++ ms) ∷ rest) (moved n all)

  -- those with the first number come first
  first_number : (n : ℕ) (ns : List ℕ) → begun_by chosen ((n ∷ ns) ∷ lists) ≡ begun_by (chosen ++ n ∷ []) lists ++ begun_by chosen (ns ∷ lists)
  first_number n ns =
      let each : ℕ → List (List ℕ) = λ m. map (λ ms. m ∷ ms) (combinations lists) in
      ap (map (λ (ms : List ℕ). chosen ++ ms)) (flat_map-cons each n ns)
      ∙ map-append (λ (ms : List ℕ). chosen ++ ms) (each n) (flat_map each ns)
      ∙ ap (λ (all : List (List ℕ)). all ++ begun_by chosen (ns ∷ lists)) (moved n (combinations lists))

begun_by_none : (all : List (List ℕ)) → map (λ (ns : List ℕ). [] ++ ns) all ≡ all
begun_by_none [] = refl
begun_by_none (ns ∷ all) = ap (λ (rest : List (List ℕ)). ns ∷ rest) (begun_by_none all)

-- ---- their rows

behind_none : {Y : Type 0} (r : Result (List Y) Fault) → behind [] r ≡ r
behind_none (Ok ys) = refl
behind_none (Err fault) = refl

-- where nothing is known and no number chosen
pub from_nothing : (b : Bones) (q : Query) (lists : List (List ℕ)) (chosen : List ℕ) (done : List (List Value × Row)) → chosen ≡ [] → done ≡ [] → behind done (rows_from b q (begun_by chosen lists)) ≡ rows_from b q (combinations lists)
from_nothing b q lists chosen done no_number no_row =
    ap (λ (ns : List ℕ). behind done (rows_from b q (begun_by ns lists))) no_number
    ∙ ap (λ (rs : List (List Value × Row)). behind rs (rows_from b q (begun_by [] lists))) no_row
    ∙ behind_none (rows_from b q (begun_by [] lists))
    ∙ ap (rows_from b q) (begun_by_none (combinations lists))

module _ (b : Bones) (q : Query) (done : List (List Value × Row)) where
  -- of all that begin with these numbers
  module _ (chosen : List ℕ) (lists : List (List ℕ)) where
    split : (n : ℕ) (ns : List ℕ) → behind done (rows_from b q (begun_by chosen ((n ∷ ns) ∷ lists)))
        ≡ behind done (all_of (row_of b q) (filter (passes b q.test) (begun_by (chosen ++ n ∷ []) lists) ++ filter (passes b q.test) (begun_by chosen (ns ∷ lists))))
    split n ns =
        ap (λ (all : List (List ℕ)). behind done (rows_from b q all)) (first_number chosen lists n ns)
        ∙ ap (λ (all : List (List ℕ)). behind done (all_of (row_of b q) all)) (filter-append (passes b q.test) (begun_by (chosen ++ n ∷ []) lists) (begun_by chosen (ns ∷ lists)))

    rows_go_on : (n : ℕ) (ns : List ℕ) (all : List (List Value × Row)) → behind done (rows_from b q (begun_by (chosen ++ n ∷ []) lists)) ≡ Ok all
        → behind done (rows_from b q (begun_by chosen ((n ∷ ns) ∷ lists))) ≡ behind all (rows_from b q (begun_by chosen (ns ∷ lists)))
    rows_go_on n ns all is = split n ns ∙ list_goes_on (row_of b q) done (filter (passes b q.test) (begun_by (chosen ++ n ∷ []) lists)) (filter (passes b q.test) (begun_by chosen (ns ∷ lists))) all is

    rows_end : (n : ℕ) (ns : List ℕ) (fault : Fault) → behind done (rows_from b q (begun_by (chosen ++ n ∷ []) lists)) ≡ Err fault
        → behind done (rows_from b q (begun_by chosen ((n ∷ ns) ∷ lists))) ≡ Err fault
    rows_end n ns fault is = split n ns ∙ list_ends (row_of b q) done (filter (passes b q.test) (begun_by (chosen ++ n ∷ []) lists)) (filter (passes b q.test) (begun_by chosen (ns ∷ lists))) fault is

    rows_done : behind done (rows_from b q (begun_by chosen ([] ∷ lists))) ≡ Ok done
    rows_done = all_done (row_of b q) done

    -- in a loop over the first list
    module _ (meant : Result (List (List Value × Row)) Fault) (numbers : List ℕ) (i : ℕ) (so : behind done (rows_from b q (begun_by chosen (drop i numbers ∷ lists))) ≡ meant) where
      pub next_rows : (all : List (List Value × Row)) (d : ℕ) (more : List ℕ) → i < length numbers → more ≡ chosen ++ slice_index_or numbers i d ∷ []
          → behind done (rows_from b q (begun_by more lists)) ≡ Ok all → behind all (rows_from b q (begun_by chosen (drop (i + 1) numbers ∷ lists))) ≡ meant
      next_rows all d more inside begun comes =
          sym (rows_go_on (slice_index_or numbers i d) (drop (i + 1) numbers) all (ap (λ (ns : List ℕ). behind done (rows_from b q (begun_by ns lists))) (sym begun) ∙ comes))
          ∙ ap (λ (ns : List ℕ). behind done (rows_from b q (begun_by chosen (ns ∷ lists)))) (sym (drop_more numbers i d inside))
          ∙ so

      pub stop_rows : (d : ℕ) (more : List ℕ) (why : QueryError) → i < length numbers → more ≡ chosen ++ slice_index_or numbers i d ∷ []
          → Says (behind done (rows_from b q (begun_by more lists))) (Err why) → Says meant (Err why)
      stop_rows d more error.Memory inside begun says = tt
      stop_rows d more (error.TooManyRows count) inside begun says = absurd says
      stop_rows d more (error.Fault fault) inside begun says =
          sym so
          ∙ ap (λ (ns : List ℕ). behind done (rows_from b q (begun_by chosen (ns ∷ lists)))) (drop_more numbers i d inside)
          ∙ rows_end (slice_index_or numbers i d) (drop (i + 1) numbers) fault (ap (λ (ns : List ℕ). behind done (rows_from b q (begun_by ns lists))) (sym begun) ∙ says)
      stop_rows d more error.Output inside begun says = absurd says
      stop_rows d more error.DiskFault inside begun says = tt
      stop_rows d more (error.Damaged key) inside begun says = absurd says

      pub end_rows : length numbers ≤ i → meant ≡ Ok done
      end_rows end = sym so ∙ ap (λ (ns : List ℕ). behind done (rows_from b q (begun_by chosen (ns ∷ lists)))) (drop_all i numbers end) ∙ rows_done
