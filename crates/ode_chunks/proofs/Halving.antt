-- The last records close as a chunk, and a chunk is halved: all records stay.
use Rattle.std.proofs.Common.{◌≡◌, ◌<◌, ◌-◌, ℕ, suc, [], ◌∷◌, ◌++◌, Some, None, true, length, take, drop, get_or, sym, ap, subst, ◌∙◌, append_assoc, append-nil, length-drop, arith}
use Rattle.std.proofs.Math.Seq.{drop-cons, take-suc}
use Rattle.std.proofs.lemmas.List.{take-append-drop}
use Rattle.std.specs.BTreeMap.{insert_entry, is_at}
use Rattle.std.specs.List.{AllByRecursion}
use Rattle.std.specs.Map.{keys_of, lookup, set_value}
use Rattle.std.specs.Ordering.{is_le}
use Rattle.std.specs.declared.cmp.Ordering.TheVariants.{Less}
use Rattle.std.specs.declared.vec.Vec.{Vec}
use Rattle.ode_value.specs.declared.key.Key.{Key}
use Rattle.ode_value.specs.Keys.{key_cmp}
use Rattle.ode_value.specs.Records.{Row}
use Rattle.ode_keep.specs.Entries.{Entries, HasRisingKeys}
use Rattle.ode_keep.specs.Rising.{inserted_last}
use Rattle.ode_keep.proofs.Keys.{key_total}
use Rattle.ode_chunks.specs.Cuts.{AreAbove, AreBelow}
use Rattle.ode_chunks.specs.Chunked.{AreBounds, AreChunks, IsFirstFrom, Tree, rows_of}
use Rattle.ode_chunks.proofs.Chunking.{before_row, below_bound, bounds_through, chunk_bounds, chunk_found, chunk_rising, joined, last_behind, last_rising, same_chunks, same_rows, tail_bounds}
use Rattle.ode_chunks.proofs.Cutting.{all_less, found_behind, inserted_behind, keys_behind, keys_joined, last_split, less_le, rising_above, rising_below, set_behind, up_to}

module _ {Z : Type 0} where
  module _ (cs : Tree Z) (last : Entries) (chunks : AreChunks cs last) (r : Row) (some : 0 < length last) (at : r ≡ get_or last (length last - 1) r) (w : Vec Row Z) (own : w.items ≡ last) (new : Tree Z)
      (put : new ≡ insert_entry key_cmp cs r.0 w) (mine : Entries) (none : mine ≡ []) where
    -- the last record bounds the others, and the tree is below it
    split_last : last ≡ take (length last - 1) last ++ r ∷ []
    split_last = last_split last r some at

    below_last : AreBelow r.0 (keys_of cs)
    below_last =
        before_row cs [] last (take (length last - 1) last) r [] (subst (λ (l : Tree Z). AreBounds l last) (sym (append-nil cs)) chunks.bounds) split_last

    new_is : new ≡ cs ++ (r.0, w) ∷ []
    new_is = put ∙ inserted_last key_total cs r.0 w below_last

    -- all records are as they were
    pub closed_rows : rows_of new mine ≡ rows_of cs last
    closed_rows =
        ap (λ (l : Tree Z). rows_of l mine) new_is
        ∙ joined cs ((r.0, w) ∷ []) mine
        ∙ ap (λ (l : Entries). rows_of cs [] ++ (w.items ++ l)) none
        ∙ ap (λ (l : Entries). rows_of cs [] ++ l) (append-nil w.items ∙ own)
        ∙ sym (last_behind cs last)

    within_last : AllByRecursion (λ y. is_le (key_cmp y r.0) ≡ true) (keys_of w.items)
    within_last =
        let rising : HasRisingKeys (take (length last - 1) last ++ r ∷ []) = subst (λ (l : Entries). HasRisingKeys l) split_last (last_rising cs last r.0 chunks) in
        subst (λ (l : Entries). AllByRecursion (λ y. is_le (key_cmp y r.0) ≡ true) (keys_of l)) (sym (own ∙ split_last))
        (up_to (take (length last - 1) last) r (rising_below (take (length last - 1) last) r [] rising))

    closed_bounds : AreBounds (cs ++ (r.0, w) ∷ []) []
    closed_bounds =
        bounds_through r.0 cs [] ((r.0, w) ∷ []) last [] below_last
        (λ a less above. subst (λ (l : Entries). AreAbove a (keys_of l)) (sym (append-nil w.items ∙ own)) above)
        (subst (λ (l : Tree Z). AreBounds l last) (sym (append-nil cs)) chunks.bounds)
        (within_last, tt, tt)

    -- and they are chunks
    pub closed_chunks : AreChunks new mine
    closed_chunks = record {
      rising = subst (λ (l : Entries). HasRisingKeys l) (sym closed_rows) chunks.rising;
      bounds = subst (λ (l : Entries). AreBounds new l) (sym none) (subst (λ (l : Tree Z). AreBounds l []) (sym new_is) closed_bounds);
    }

  module _ (cs : Tree Z) (last : Entries) (k bound : Key) (chunks : AreChunks cs last) (f : IsFirstFrom cs k bound)
      (rows : Vec Row Z) (found : lookup (is_at (key_cmp bound)) cs ≡ Some rows) (n : ℕ) (r : Row) (at : r ≡ get_or rows.items n r) (long : suc n < length rows.items)
      (empty : Vec Row Z) (one : Tree Z) (put : one ≡ insert_entry key_cmp cs r.0 empty) where
    whole : f.chunk ≡ rows
    whole = cc (found, chunk_found cs last k bound chunks f)

    -- the chunk in three parts: the front, the middle record and what is behind it
    parts : f.chunk.items ≡ take n rows.items ++ r ∷ drop (suc n) rows.items
    parts =
        ap (λ (v : Vec Row Z). v.items) whole
        ∙ sym (take-append-drop n rows.items)
        ∙ ap (λ (l : Entries). take n rows.items ++ l) (drop-cons rows.items n r (omega arith) ∙ ap (λ (q : Row). q ∷ drop (suc n) rows.items) (sym at))

    rising : HasRisingKeys (take n rows.items ++ r ∷ drop (suc n) rows.items)
    rising = subst (λ (l : Entries). HasRisingKeys l) parts (chunk_rising cs last k bound chunks f)

    above : AreAbove r.0 (keys_of (drop (suc n) rows.items))
    above = rising_above (take n rows.items) r (drop (suc n) rows.items) rising

    within : AllByRecursion (λ y. is_le (key_cmp y bound) ≡ true) (keys_of (drop (suc n) rows.items))
    within =
        let all : AllByRecursion (λ y. is_le (key_cmp y bound) ≡ true) (keys_of (take n rows.items ++ r ∷ drop (suc n) rows.items)) =
        subst (λ (l : Entries). AllByRecursion (λ y. is_le (key_cmp y bound) ≡ true) (keys_of l)) parts (tail_bounds cs last k bound chunks f).0 in
        (keys_behind (λ y. is_le (key_cmp y bound) ≡ true) (take n rows.items) (r ∷ drop (suc n) rows.items) all).1

    -- the middle key is above the chunks before, and below the key of the chunk
    before_middle : AreBelow r.0 (keys_of f.before)
    before_middle =
        before_row f.before ((bound, f.chunk) ∷ f.behind) last (take n rows.items) r (drop (suc n) rows.items ++ rows_of f.behind last) (chunk_bounds cs last k bound chunks f)
        (ap (λ l. l ++ rows_of f.behind last) parts ∙ append_assoc (take n rows.items) (r ∷ drop (suc n) rows.items) (rows_of f.behind last))

    below_one : (ks : Entries) → 0 < length ks → AreAbove r.0 (keys_of ks) → AllByRecursion (λ y. is_le (key_cmp y bound) ≡ true) (keys_of ks) → key_cmp r.0 bound ≡ Less
    below_one [] some up to = absurd (omega arith)
    below_one (q ∷ ks) some up to = less_le r.0 q.0 bound up.0 to.0

    middle_below : key_cmp r.0 bound ≡ Less
    middle_below = below_one (drop (suc n) rows.items) (omega (arith, length-drop (suc n) rows.items)) above within

    -- the empty chunk stands in front of it
    one_is : one ≡ f.before ++ (r.0, empty) ∷ (bound, f.chunk) ∷ f.behind
    one_is = put ∙ ap (λ (l : Tree Z). insert_entry key_cmp l r.0 empty) f.whole ∙ inserted_behind f.before f.behind r.0 bound empty f.chunk before_middle middle_below

    one_joined : one ≡ (f.before ++ (r.0, empty) ∷ []) ++ (bound, f.chunk) ∷ f.behind
    one_joined = one_is ∙ sym (append_assoc f.before ((r.0, empty) ∷ []) ((bound, f.chunk) ∷ f.behind))

    below_both : AreBelow bound (keys_of (f.before ++ (r.0, empty) ∷ []))
    below_both = keys_joined (λ y. key_cmp y bound ≡ Less) f.before ((r.0, empty) ∷ []) (below_bound cs last k bound chunks f) (middle_below, tt)

    found_again : lookup (is_at (key_cmp bound)) one ≡ Some f.chunk
    found_again = ap (λ (l : Tree Z). lookup (is_at (key_cmp bound)) l) one_joined ∙ found_behind (f.before ++ (r.0, empty) ∷ []) f.behind bound f.chunk below_both

    -- the chunk is still there
    pub still_found : (more : Vec Row Z) → lookup (is_at (key_cmp bound)) one ≡ Some more → more ≡ rows
    still_found more again = cc (again, found_again, whole)

    module _ (more : Vec Row Z) (again : lookup (is_at (key_cmp bound)) one ≡ Some more) (w : Vec Row Z) (two : Tree Z) (moved : two ≡ set_value (is_at (key_cmp bound)) one w) where
      -- the chunk has its upper half
      two_is : two ≡ f.before ++ (r.0, empty) ∷ (bound, w) ∷ f.behind
      two_is =
          moved
          ∙ ap (λ (l : Tree Z). set_value (is_at (key_cmp bound)) l w) one_joined
          ∙ set_behind (f.before ++ (r.0, empty) ∷ []) f.behind bound f.chunk w below_both
          ∙ append_assoc f.before ((r.0, empty) ∷ []) ((bound, w) ∷ f.behind)

      -- and so is the empty one
      pub empty_there : lookup (is_at (key_cmp r.0)) two ≡ None → ⊥
      empty_there none =
          let there : lookup (is_at (key_cmp r.0)) two ≡ Some empty = ap (λ (l : Tree Z). lookup (is_at (key_cmp r.0)) l) two_is ∙ found_behind f.before ((bound, w) ∷ f.behind) r.0 empty before_middle in
          cc (none, there)

      module _ (first : Vec Row Z) (three : Tree Z) (set : three ≡ set_value (is_at (key_cmp r.0)) two first) (lower : first.items ≡ take (suc n) more.items) (upper : w.items ≡ drop (suc n) more.items) where
        -- and the empty one the lower half
        three_is : three ≡ f.before ++ (r.0, first) ∷ (bound, w) ∷ f.behind
        three_is = set ∙ ap (λ (l : Tree Z). set_value (is_at (key_cmp r.0)) l first) two_is ∙ set_behind f.before ((bound, w) ∷ f.behind) r.0 empty first before_middle

        first_is : first.items ≡ take n rows.items ++ r ∷ []
        first_is =
            lower
            ∙ ap (λ (v : Vec Row Z). take (suc n) v.items) (still_found more again)
            ∙ take-suc rows.items n r (omega arith)
            ∙ ap (λ (q : Row). take n rows.items ++ q ∷ []) (sym at)

        w_is : w.items ≡ drop (suc n) rows.items
        w_is = upper ∙ ap (λ (v : Vec Row Z). drop (suc n) v.items) (still_found more again)

        same_halves : rows_of ((bound, f.chunk) ∷ f.behind) last ≡ rows_of ((r.0, first) ∷ (bound, w) ∷ f.behind) last
        same_halves =
            ap (λ l. l ++ rows_of f.behind last) (parts ∙ sym (append_assoc (take n rows.items) (r ∷ []) (drop (suc n) rows.items)))
            ∙ append_assoc (take n rows.items ++ r ∷ []) (drop (suc n) rows.items) (rows_of f.behind last)
            ∙ ap (λ (l : Entries). l ++ (drop (suc n) rows.items ++ rows_of f.behind last)) (sym first_is)
            ∙ ap (λ (l : Entries). first.items ++ (l ++ rows_of f.behind last)) (sym w_is)

        halves_bounds : AreBounds ((r.0, first) ∷ (bound, w) ∷ f.behind) last
        halves_bounds =
            let tail = tail_bounds cs last k bound chunks f in
            let later : AreAbove r.0 (keys_of (rows_of f.behind last)) = all_less (λ y. key_cmp bound y ≡ Less) (λ y. key_cmp r.0 y ≡ Less) (λ y less. key_total.trans r.0 bound y middle_below less) (keys_of (rows_of f.behind last)) tail.1 in (
              subst (λ (l : Entries). AllByRecursion (λ y. is_le (key_cmp y r.0) ≡ true) (keys_of l)) (sym first_is) (up_to (take n rows.items) r (rising_below (take n rows.items) r (drop (suc n) rows.items) rising)),
              keys_joined (λ y. key_cmp r.0 y ≡ Less) w.items (rows_of f.behind last) (subst (λ (l : Entries). AreAbove r.0 (keys_of l)) (sym w_is) above) later,
              (subst (λ (l : Entries). AllByRecursion (λ y. is_le (key_cmp y bound) ≡ true) (keys_of l)) (sym w_is) within, tail.1, tail.2),
            )

        -- all records are as they were
        pub halved_rows : rows_of three last ≡ rows_of cs last
        halved_rows = ap (λ (l : Tree Z). rows_of l last) three_is ∙ same_rows cs last k bound chunks f ((r.0, first) ∷ (bound, w) ∷ f.behind) same_halves

        -- and they are chunks
        pub halved_chunks : AreChunks three last
        halved_chunks = subst (λ (l : Tree Z). AreChunks l last) (sym three_is) (same_chunks cs last k bound chunks f ((r.0, first) ∷ (bound, w) ∷ f.behind) same_halves halves_bounds)
