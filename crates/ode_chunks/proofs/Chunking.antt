-- Chunks of records: where a key belongs, and what a change of one chunk makes of all records.
use Rattle.std.proofs.Common.{arith, eqb-true, ◌≡◌, ℕ, List, [], ◌∷◌, ◌++◌, Bool, true, false, cond, Option, Some, None, refl, sym, ap, subst, ◌∙◌, append_assoc, append-nil}
use Rattle.std.specs.Prelude.{◌==◌}
use Rattle.std.specs.Vec.{vec_len}
use Rattle.std.specs.BTreeMap.{is_at}
use Rattle.std.specs.List.{AllByRecursion, filter}
use Rattle.std.specs.Map.{keys_of, lookup, remove_entry, set_value}
use Rattle.std.specs.Ordering.{is_le}
use Rattle.std.specs.declared.cmp.Ordering.TheVariants.{Less}
use Rattle.std.specs.declared.vec.Vec.{Vec}
use Rattle.ode_value.specs.declared.key.Key.{Key}
use Rattle.ode_value.specs.Keys.{key_cmp}
use Rattle.ode_value.specs.Records.{Row}
use Rattle.ode_keep.specs.Entries.{Entries, HasRisingKeys, changed, value_under}
use Rattle.ode_keep.specs.Rising.{rising_front}
use Rattle.ode_keep.proofs.Applying.{changed_rising}
use Rattle.ode_chunks.specs.Cuts.{AreAbove, AreBelow, BeginBy, IsCut}
use Rattle.ode_chunks.specs.Chunked.{AreBounds, AreChunks, IsFirstFrom, Tree, rows_of}
use Rattle.ode_chunks.proofs.Cutting.{all_less, below_if, changed_between, changed_keys, found_behind, keys_behind, keys_front, keys_joined, le_less, less_le, no_items, removed_behind, rising_behind, set_behind, value_between}

module _ {Z : Type 0} where
  -- ---- all records

  -- those of two lists of chunks
  pub joined : (bs cs : Tree Z) (last : Entries) → rows_of (bs ++ cs) last ≡ rows_of bs [] ++ rows_of cs last
  joined [] cs last = refl
  joined (b ∷ bs) cs last = ap (λ l. b.1.items ++ l) (joined bs cs last) ∙ sym (append_assoc b.1.items (rows_of bs []) (rows_of cs last))

  -- the last ones stand behind those of all chunks
  pub last_behind : (cs : Tree Z) (last : Entries) → rows_of cs last ≡ rows_of cs [] ++ last
  last_behind cs last = ap (λ (l : Tree Z). rows_of l last) (sym (append-nil cs)) ∙ joined cs [] last

  -- ---- where a key belongs

  first_at : (k : Key) (c : Key × Vec Row Z) (cs rest : Tree Z) (bound : Key) (v : Vec Row Z) → (filter (λ e. is_le (key_cmp k e.0)) cs ≡ (bound, v) ∷ rest → IsFirstFrom cs k bound) → (b : Bool) → is_le (key_cmp k c.0) ≡ b
      → cond b (c ∷ filter (λ e. is_le (key_cmp k e.0)) cs) (filter (λ e. is_le (key_cmp k e.0)) cs) ≡ (bound, v) ∷ rest → IsFirstFrom (c ∷ cs) k bound
  first_at k c cs rest bound v later true is found =
      let here : c ≡ (bound, v) = cc (found) in
      record {
        before = [];
        chunk = v;
        behind = cs;
        whole = ap (λ e. e ∷ cs) here;
        below = tt;
        reached = subst (λ (e : Key × Vec Row Z). is_le (key_cmp k e.0) ≡ true) here is;
      }
  first_at k c cs rest bound v later false is found =
      let more = later found in record {
        before = c ∷ more.before;
        chunk = more.chunk;
        behind = more.behind;
        whole = ap (λ l. c ∷ l) more.whole;
        below = (below_if k c.0 is, more.below);
        reached = more.reached;
      }

  -- the first chunk of those whose keys are at or above k
  pub first_from : (k : Key) (cs rest : Tree Z) (bound : Key) (v : Vec Row Z) → filter (λ e. is_le (key_cmp k e.0)) cs ≡ (bound, v) ∷ rest → IsFirstFrom cs k bound
  first_from k [] rest bound v found = absurd (cc)
  first_from k (c ∷ cs) rest bound v found = first_at k c cs rest bound v (first_from k cs rest bound v) (is_le (key_cmp k c.0)) refl found

  none_at : (k : Key) (c : Key × Vec Row Z) (cs : Tree Z) → (filter (λ e. is_le (key_cmp k e.0)) cs ≡ [] → AreBelow k (keys_of cs)) → (b : Bool) → is_le (key_cmp k c.0) ≡ b
      → cond b (c ∷ filter (λ e. is_le (key_cmp k e.0)) cs) (filter (λ e. is_le (key_cmp k e.0)) cs) ≡ [] → AreBelow k (keys_of (c ∷ cs))
  none_at k c cs later true is none = absurd (cc (none))
  none_at k c cs later false is none = (below_if k c.0 is, later none)

  -- where there is none, all keys are below
  pub none_from : (k : Key) (cs : Tree Z) → filter (λ e. is_le (key_cmp k e.0)) cs ≡ [] → AreBelow k (keys_of cs)
  none_from k [] none = tt
  none_from k (c ∷ cs) none = none_at k c cs (none_from k cs) (is_le (key_cmp k c.0)) refl none

  -- ---- the bounds of chunks

  -- chunks behind others have bounds as they had
  bounds_behind : (bs cs : Tree Z) (last : Entries) → AreBounds (bs ++ cs) last → AreBounds cs last
  bounds_behind [] cs last bounds = bounds
  bounds_behind (b ∷ bs) cs last bounds = bounds_behind bs cs last bounds.2

  -- chunks in front of a record have keys below its own
  pub before_row : (bs cs : Tree Z) (last front : Entries) (r : Row) (back : Entries) → AreBounds (bs ++ cs) last → rows_of cs last ≡ front ++ r ∷ back → AreBelow r.0 (keys_of bs)
  before_row [] cs last front r back bounds is = tt
  before_row (b ∷ bs) cs last front r back bounds is =
      let later : AreAbove b.0 (keys_of (rows_of bs [] ++ (front ++ r ∷ back))) = subst (λ (l : Entries). AreAbove b.0 (keys_of l)) (joined bs cs last ∙ ap (λ l. rows_of bs [] ++ l) is) bounds.1 in
      ((keys_behind (λ y. key_cmp b.0 y ≡ Less) front (r ∷ back) (keys_behind (λ y. key_cmp b.0 y ≡ Less) (rows_of bs []) (front ++ r ∷ back) later)).0, before_row bs cs last front r back bounds.2 is)

  -- records of chunks whose keys are below k have keys below it
  rows_below : (k : Key) (bs cs : Tree Z) (last : Entries) → AreBounds (bs ++ cs) last → AreBelow k (keys_of bs) → AreBelow k (keys_of (rows_of bs []))
  rows_below k [] cs last bounds below = tt
  rows_below k (b ∷ bs) cs last bounds below =
      keys_joined (λ y. key_cmp y k ≡ Less) b.1.items (rows_of bs [])
      (all_less (λ y. is_le (key_cmp y b.0) ≡ true) (λ y. key_cmp y k ≡ Less) (λ y le. le_less y b.0 k le below.0) (keys_of b.1.items) bounds.0)
      (rows_below k bs cs last bounds.2 below.1)

  -- what is above a key stays above it behind the same chunks
  above_through : (a : Key) (bs cs ds : Tree Z) (last mine : Entries) → (AreAbove a (keys_of (rows_of cs last)) → AreAbove a (keys_of (rows_of ds mine)))
      → AreAbove a (keys_of (rows_of (bs ++ cs) last)) → AreAbove a (keys_of (rows_of (bs ++ ds) mine))
  above_through a [] cs ds last mine carried above = carried above
  above_through a (b ∷ bs) cs ds last mine carried above =
      keys_joined (λ y. key_cmp a y ≡ Less) b.1.items (rows_of (bs ++ ds) mine)
      (keys_front (λ y. key_cmp a y ≡ Less) b.1.items (rows_of (bs ++ cs) last) above)
      (above_through a bs cs ds last mine carried (keys_behind (λ y. key_cmp a y ≡ Less) b.1.items (rows_of (bs ++ cs) last) above))

  -- other chunks behind the same ones, whose records are above what the old ones and a key k are above
  pub bounds_through : (k : Key) (bs cs ds : Tree Z) (last mine : Entries) → AreBelow k (keys_of bs) → ((a : Key) → key_cmp a k ≡ Less → AreAbove a (keys_of (rows_of cs last)) → AreAbove a (keys_of (rows_of ds mine)))
      → AreBounds (bs ++ cs) last → AreBounds ds mine → AreBounds (bs ++ ds) mine
  bounds_through k [] cs ds last mine below carried bounds new = new
  bounds_through k (b ∷ bs) cs ds last mine below carried bounds new =
      (bounds.0, above_through b.0 bs cs ds last mine (carried b.0 below.0) bounds.1, bounds_through k bs cs ds last mine below.1 carried bounds.2 new)

  -- ---- all records are cut where a key belongs

  -- the bounds of chunks that are split where a key belongs
  found_bounds : (cs : Tree Z) (last : Entries) (k bound : Key) → AreBounds cs last → (f : IsFirstFrom cs k bound) → AreBounds (f.before ++ (bound, f.chunk) ∷ f.behind) last
  found_bounds cs last k bound bounds f = subst (λ (l : Tree Z). AreBounds l last) f.whole bounds

  -- at a chunk of the tree
  cut_found : (cs : Tree Z) (last : Entries) (k bound : Key) → AreBounds cs last → (f : IsFirstFrom cs k bound) → IsCut (rows_of cs last) k (rows_of f.before []) f.chunk.items (rows_of f.behind last)
  cut_found cs last k bound bounds f =
      let here = found_bounds cs last k bound bounds f in
      let tail = bounds_behind f.before ((bound, f.chunk) ∷ f.behind) last here in
      record {
        whole = ap (λ (l : Tree Z). rows_of l last) f.whole ∙ joined f.before ((bound, f.chunk) ∷ f.behind) last;
        below = rows_below k f.before ((bound, f.chunk) ∷ f.behind) last here f.below;
        above = all_less (λ y. key_cmp bound y ≡ Less) (λ y. key_cmp k y ≡ Less) (λ y less. le_less k bound y f.reached less) (keys_of (rows_of f.behind last)) tail.1;
      }

  -- or among the last records
  pub cut_last : (cs : Tree Z) (last : Entries) (k : Key) → AreBounds cs last → AreBelow k (keys_of cs) → IsCut (rows_of cs last) k (rows_of cs []) last []
  cut_last cs last k bounds below =
      record {
        whole = last_behind cs last ∙ ap (λ l. rows_of cs [] ++ l) (sym (append-nil last));
        below = rows_below k cs [] last (subst (λ (l : Tree Z). AreBounds l last) (sym (append-nil cs)) bounds) below;
        above = tt;
      }

  -- ---- a change where a key belongs

  -- the chunks with this one where the key belongs
  abbrev with_chunk : {cs : Tree Z} {k bound : Key} → IsFirstFrom cs k bound → Vec Row Z → Tree Z
  with_chunk {bound = bound} f w = f.before ++ (bound, w) ∷ f.behind

  -- an empty chunk goes
  rows_dropped : (bs cs : Tree Z) (bound : Key) (w : Vec Row Z) (last : Entries) → w.items ≡ [] → rows_of (bs ++ cs) last ≡ rows_of (bs ++ (bound, w) ∷ cs) last
  rows_dropped [] cs bound w last is = ap (λ l. l ++ rows_of cs last) (sym is)
  rows_dropped (b ∷ bs) cs bound w last is = ap (λ l. b.1.items ++ l) (rows_dropped bs cs bound w last is)

  -- the others have bounds as they had
  bounds_dropped : (bs cs : Tree Z) (bound : Key) (w : Vec Row Z) (last : Entries) → w.items ≡ [] → AreBounds (bs ++ (bound, w) ∷ cs) last → AreBounds (bs ++ cs) last
  bounds_dropped [] cs bound w last is bounds = bounds.2
  bounds_dropped (b ∷ bs) cs bound w last is bounds =
      (bounds.0, subst (λ (l : Entries). AreAbove b.0 (keys_of l)) (sym (rows_dropped bs cs bound w last is)) bounds.1, bounds_dropped bs cs bound w last is bounds.2)

  -- and are chunks as they were
  chunks_dropped : (bs cs : Tree Z) (bound : Key) (w : Vec Row Z) (last : Entries) → w.items ≡ [] → AreChunks (bs ++ (bound, w) ∷ cs) last → AreChunks (bs ++ cs) last
  chunks_dropped bs cs bound w last is chunks = record {
    rising = subst (λ (l : Entries). HasRisingKeys l) (sym (rows_dropped bs cs bound w last is)) chunks.rising;
    bounds = bounds_dropped bs cs bound w last is chunks.bounds;
  }

  module _ (cs : Tree Z) (last : Entries) (k bound : Key) (chunks : AreChunks cs last) (f : IsFirstFrom cs k bound) where
    -- its chunk is found, set and removed under its key
    pub below_bound : AreBelow bound (keys_of f.before)
    below_bound = all_less (λ y. key_cmp y k ≡ Less) (λ y. key_cmp y bound ≡ Less) (λ y less. less_le y k bound less f.reached) (keys_of f.before) f.below

    pub chunk_found : lookup (is_at (key_cmp bound)) cs ≡ Some f.chunk
    chunk_found = ap (λ (l : Tree Z). lookup (is_at (key_cmp bound)) l) f.whole ∙ found_behind f.before f.behind bound f.chunk below_bound

    chunk_set : (w : Vec Row Z) → set_value (is_at (key_cmp bound)) cs w ≡ with_chunk f w
    chunk_set w = ap (λ (l : Tree Z). set_value (is_at (key_cmp bound)) l w) f.whole ∙ set_behind f.before f.behind bound f.chunk w below_bound

    chunk_removed : (w : Vec Row Z) → remove_entry (is_at (key_cmp bound)) (with_chunk f w) ≡ f.before ++ f.behind
    chunk_removed w = removed_behind f.before f.behind bound w below_bound

    -- its keys rise
    pub chunk_rising : HasRisingKeys f.chunk.items
    chunk_rising =
        let cut = cut_found cs last k bound chunks.bounds f in
        let all : HasRisingKeys (rows_of f.before [] ++ (f.chunk.items ++ rows_of f.behind last)) = subst (λ (l : Entries). HasRisingKeys l) cut.whole chunks.rising in
        rising_front key_cmp f.chunk.items (rows_of f.behind last) (rising_behind (rows_of f.before []) (f.chunk.items ++ rows_of f.behind last) all)

    -- the value under the key is there
    chunk_value : value_under (rows_of cs last) k ≡ value_under f.chunk.items k
    chunk_value = value_between (rows_of cs last) k (rows_of f.before []) f.chunk.items (rows_of f.behind last) (cut_found cs last k bound chunks.bounds f)

    -- the bounds of all chunks, and of it and those behind it
    pub chunk_bounds : AreBounds (f.before ++ (bound, f.chunk) ∷ f.behind) last
    chunk_bounds = found_bounds cs last k bound chunks.bounds f

    pub tail_bounds : AreBounds ((bound, f.chunk) ∷ f.behind) last
    tail_bounds = bounds_behind f.before ((bound, f.chunk) ∷ f.behind) last chunk_bounds

    -- other chunks in its place, of the same records
    pub same_rows : (ds : Tree Z) → rows_of ((bound, f.chunk) ∷ f.behind) last ≡ rows_of ds last → rows_of (f.before ++ ds) last ≡ rows_of cs last
    same_rows ds same = joined f.before ds last ∙ ap (λ l. rows_of f.before [] ++ l) (sym same) ∙ sym (cut_found cs last k bound chunks.bounds f).whole

    -- they are chunks then
    pub same_chunks : (ds : Tree Z) → rows_of ((bound, f.chunk) ∷ f.behind) last ≡ rows_of ds last → AreBounds ds last → AreChunks (f.before ++ ds) last
    same_chunks ds same bounds = record {
      rising = subst (λ (l : Entries). HasRisingKeys l) (sym (same_rows ds same)) chunks.rising;
      bounds = bounds_through k f.before ((bound, f.chunk) ∷ f.behind) ds last last f.below (λ a less above. subst (λ (l : Entries). AreAbove a (keys_of l)) same above) chunk_bounds bounds;
    }

    module _ (w : Vec Row Z) where
      -- the bounds hold after a change
      changed_bounds : (o : Option (List ℕ)) → w.items ≡ changed f.chunk.items k o → AreBounds (with_chunk f w) last
      changed_bounds o is =
          let rows : (P : Key → Type 0) → AllByRecursion P (keys_of f.chunk.items) → P k → AllByRecursion P (keys_of w.items) =
          λ P all own. subst (λ (l : Entries). AllByRecursion P (keys_of l)) (sym is) (changed_keys P f.chunk.items k o all own) in
          bounds_through k f.before ((bound, f.chunk) ∷ f.behind) ((bound, w) ∷ f.behind) last last f.below
          (λ a less above. keys_joined (λ y. key_cmp a y ≡ Less) w.items (rows_of f.behind last)
          (rows (λ y. key_cmp a y ≡ Less) (keys_front (λ y. key_cmp a y ≡ Less) f.chunk.items (rows_of f.behind last) above) less)
          (keys_behind (λ y. key_cmp a y ≡ Less) f.chunk.items (rows_of f.behind last) above))
          chunk_bounds
          (rows (λ y. is_le (key_cmp y bound) ≡ true) tail_bounds.0 f.reached, tail_bounds.1, tail_bounds.2)

      -- the chunk is changed, and so are all records
      rows_changed : (o : Option (List ℕ)) → w.items ≡ changed f.chunk.items k o → rows_of (with_chunk f w) last ≡ changed (rows_of cs last) k o
      rows_changed o is =
          joined f.before ((bound, w) ∷ f.behind) last
          ∙ ap (λ l. rows_of f.before [] ++ (l ++ rows_of f.behind last)) is
          ∙ sym (changed_between (rows_of cs last) k (rows_of f.before []) f.chunk.items (rows_of f.behind last) o (cut_found cs last k bound chunks.bounds f))

      -- and they are chunks
      chunks_changed : (o : Option (List ℕ)) → w.items ≡ changed f.chunk.items k o → AreChunks (with_chunk f w) last
      chunks_changed o is = record {
        rising = subst (λ (l : Entries). HasRisingKeys l) (sym (rows_changed o is)) (changed_rising (rows_of cs last) k o chunks.rising);
        bounds = changed_bounds o is;
      }

      -- the chunk has the same records
      kept_same : w.items ≡ f.chunk.items → rows_of ((bound, f.chunk) ∷ f.behind) last ≡ rows_of ((bound, w) ∷ f.behind) last
      kept_same is = ap (λ l. l ++ rows_of f.behind last) (sym is)

      rows_kept : w.items ≡ f.chunk.items → rows_of (with_chunk f w) last ≡ rows_of cs last
      rows_kept is = same_rows ((bound, w) ∷ f.behind) (kept_same is)

      chunks_kept : w.items ≡ f.chunk.items → AreChunks (with_chunk f w) last
      chunks_kept is = same_chunks ((bound, w) ∷ f.behind) (kept_same is)
          (subst (λ (l : Entries). AllByRecursion (λ y. is_le (key_cmp y bound) ≡ true) (keys_of l)) (sym is) tail_bounds.0, tail_bounds.1, tail_bounds.2)

    -- there is a chunk under its key
    pub not_missing : lookup (is_at (key_cmp bound)) cs ≡ None → ⊥
    not_missing none = cc (none, chunk_found)

    -- what is lent of it, and written back
    module _ (rows : Vec Row Z) (found : lookup (is_at (key_cmp bound)) cs ≡ Some rows) where
      lent : f.chunk ≡ rows
      lent = cc (found, chunk_found)

      -- its keys rise
      pub lent_rising : HasRisingKeys rows.items
      lent_rising = subst (λ (v : Vec Row Z). HasRisingKeys v.items) lent chunk_rising

      -- the value under the key is there
      pub lent_value : value_under rows.items k ≡ value_under (rows_of cs last) k
      lent_value = ap (λ (v : Vec Row Z). value_under v.items k) (sym lent) ∙ sym chunk_value

      module _ (w : Vec Row Z) (new : Tree Z) (set : new ≡ set_value (is_at (key_cmp bound)) cs w) where
        written : new ≡ with_chunk f w
        written = set ∙ chunk_set w

        -- a change
        module _ (o : Option (List ℕ)) (is : w.items ≡ changed rows.items k o) where
          own : w.items ≡ changed f.chunk.items k o
          own = is ∙ ap (λ (v : Vec Row Z). changed v.items k o) (sym lent)

          -- they are chunks
          pub changed_chunks : AreChunks new last
          changed_chunks = subst (λ (l : Tree Z). AreChunks l last) (sym written) (chunks_changed w o own)

          -- and all records are changed
          pub changed_rows : rows_of new last ≡ changed (rows_of cs last) k o
          changed_rows = ap (λ (l : Tree Z). rows_of l last) written ∙ rows_changed w o own

          -- that leaves nothing of the chunk, which goes
          module _ (rest : Tree Z) (removed : rest ≡ remove_entry (is_at (key_cmp bound)) new) (none : vec_len w == 0 ≡ true) where
            empty : w.items ≡ []
            empty = no_items w.items (omega (arith, w.ok, eqb-true (vec_len w) 0 none))

            left : rest ≡ f.before ++ f.behind
            left = removed ∙ ap (λ (l : Tree Z). remove_entry (is_at (key_cmp bound)) l) written ∙ chunk_removed w

            -- they are chunks
            pub emptied_chunks : AreChunks rest last
            emptied_chunks = subst (λ (l : Tree Z). AreChunks l last) (sym left) (chunks_dropped f.before f.behind bound w last empty (chunks_changed w o own))

            -- and all records are changed
            pub emptied_rows : rows_of rest last ≡ changed (rows_of cs last) k o
            emptied_rows = ap (λ (l : Tree Z). rows_of l last) left ∙ rows_dropped f.before f.behind bound w last empty ∙ rows_changed w o own

        -- no change
        module _ (is : w.items ≡ rows.items) where
          -- they are chunks
          pub kept_chunks : AreChunks new last
          kept_chunks = subst (λ (l : Tree Z). AreChunks l last) (sym written) (chunks_kept w (is ∙ ap (λ (v : Vec Row Z). v.items) (sym lent)))

          -- and all records are as they were
          pub kept_rows : rows_of new last ≡ rows_of cs last
          kept_rows = ap (λ (l : Tree Z). rows_of l last) written ∙ rows_kept w (is ∙ ap (λ (v : Vec Row Z). v.items) (sym lent))

  -- ---- a change behind the tree

  -- a key by which the last records begin belongs among them
  pub belongs_last : (cs : Tree Z) (last : Entries) (k : Key) → AreBounds cs last → BeginBy last k → AreBelow k (keys_of cs)
  belongs_last cs [] k bounds begin = absurd begin
  belongs_last cs (r ∷ last) k bounds begin =
      all_less (λ y. key_cmp y r.0 ≡ Less) (λ y. key_cmp y k ≡ Less) (λ y less. less_le y r.0 k less begin) (keys_of cs)
      (before_row cs [] (r ∷ last) [] r last (subst (λ (l : Tree Z). AreBounds l (r ∷ last)) (sym (append-nil cs)) bounds) refl)

  module _ (cs : Tree Z) (last : Entries) (k : Key) (chunks : AreChunks cs last) where
    -- the keys of the last records rise
    pub last_rising : HasRisingKeys last
    last_rising = rising_behind (rows_of cs []) last (subst (λ (l : Entries). HasRisingKeys l) (last_behind cs last) chunks.rising)

    module _ (below : AreBelow k (keys_of cs)) where
      -- what stands under a key above the tree stands among them
      pub last_value : value_under (rows_of cs last) k ≡ value_under last k
      last_value = value_between (rows_of cs last) k (rows_of cs []) last [] (cut_last cs last k chunks.bounds below)

      module _ (mine : Entries) (o : Option (List ℕ)) (is : mine ≡ changed last k o) where
        -- a change of them changes all records
        pub rows_changed_last : rows_of cs mine ≡ changed (rows_of cs last) k o
        rows_changed_last =
            last_behind cs mine
            ∙ ap (λ l. rows_of cs [] ++ l) (is ∙ sym (append-nil (changed last k o)))
            ∙ sym (changed_between (rows_of cs last) k (rows_of cs []) last [] o (cut_last cs last k chunks.bounds below))

        -- and leaves the tree its bounds
        pub chunks_changed_last : AreChunks cs mine
        chunks_changed_last = record {
          rising = subst (λ (l : Entries). HasRisingKeys l) (sym rows_changed_last) (changed_rising (rows_of cs last) k o chunks.rising);
          bounds = subst (λ (l : Tree Z). AreBounds l mine) (append-nil cs) (bounds_through k cs [] [] last mine below
              (λ a less above. subst (λ (l : Entries). AreAbove a (keys_of l)) (sym is) (changed_keys (λ y. key_cmp a y ≡ Less) last k o above less))
              (subst (λ (l : Tree Z). AreBounds l last) (sym (append-nil cs)) chunks.bounds) tt);
        }
