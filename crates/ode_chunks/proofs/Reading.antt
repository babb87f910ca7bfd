-- Chunks are read one behind the other: the records from a key on, and the bytes of all.
use Rattle.std.proofs.Common.{◌≡◌, ℕ, eqb-true, List, [], ◌∷◌, ◌++◌, Bool, true, false, cond, length, refl, sym, ap, subst, ◌∙◌, append_assoc, append-nil}
use Rattle.std.specs.Prelude.{◌==◌}
use Rattle.std.specs.List.{AllByRecursion, filter}
use Rattle.std.specs.Map.{keys_of}
use Rattle.std.specs.Ordering.{is_le}
use Rattle.std.specs.declared.vec.Vec.{Vec}
use Rattle.std.proofs.lemmas.List.Elements.{All-filter, All-from_recursion, filter-append, recursion_from_All}
use Rattle.std.proofs.lemmas.List.Concat.{flat_map-append}
use Rattle.ode_value.specs.declared.key.Key.{Key}
use Rattle.ode_value.specs.Keys.{key_cmp}
use Rattle.ode_value.specs.Records.{Row, row_bytes, snapshot}
use Rattle.ode_keep.specs.Entries.{Entries, HasRisingKeys, StartsOf, entries_from}
use Rattle.ode_keep.specs.Rising.{rising_front}
use Rattle.ode_keep.specs.Snapshots.{FitsRow}
use Rattle.ode_keep.proofs.Lists.{all_behind, all_front}
use Rattle.ode_chunks.specs.Cuts.{BeginBy}
use Rattle.ode_chunks.specs.Chunked.{AreBounds, AreChunks, Tree, rows_of}
use Rattle.ode_chunks.proofs.Chunking.{belongs_last, cut_last}
use Rattle.ode_chunks.proofs.Cutting.{all_less, below_if, from_between, gone, le_less, no_items, rising_behind, turned}

-- ---- the records from a key on

-- some records are the first of all
starts : (rows more all : Entries) → all ≡ rows ++ more → length rows == 0 ≡ false → StartsOf rows all
starts [] more all is some = absurd (cc (some))
starts (r ∷ rows) more all is some = (more, is)

-- all of them are
starts_whole : (rows all : Entries) → all ≡ rows → StartsOf rows all
starts_whole [] all is = is
starts_whole (r ∷ rows) all is = ([], is ∙ sym (append-nil (r ∷ rows)))

module _ {Z : Type 0} where
  -- the keys of each chunk rise
  abbrev RisesHere : Key × Vec Row Z → Type 0
  RisesHere c = HasRisingKeys c.1.items

  -- they do, where all keys rise
  each_rises : (cs : Tree Z) (last : Entries) → HasRisingKeys (rows_of cs last) → AllByRecursion (λ c. HasRisingKeys c.1.items) cs
  each_rises [] last rising = tt
  each_rises (c ∷ cs) last rising = (rising_front key_cmp c.1.items (rows_of cs last) rising, each_rises cs last (rising_behind c.1.items (rows_of cs last) rising))

  from_at : (k : Key) (c : Key × Vec Row Z) (cs : Tree Z) (last : Entries) → AllByRecursion (λ y. is_le (key_cmp y c.0) ≡ true) (keys_of c.1.items)
      → entries_from (rows_of cs last) k ≡ entries_from (rows_of (filter (λ e. is_le (key_cmp k e.0)) cs) last) k
      → (b : Bool) → is_le (key_cmp k c.0) ≡ b
      → entries_from (c.1.items ++ rows_of cs last) k ≡ entries_from (rows_of (cond b (c ∷ filter (λ e. is_le (key_cmp k e.0)) cs) (filter (λ e. is_le (key_cmp k e.0)) cs)) last) k
  from_at k c cs last within more true is =
      filter-append (λ e. is_le (key_cmp k e.0)) c.1.items (rows_of cs last)
      ∙ ap (λ l. entries_from c.1.items k ++ l) more
      ∙ sym (filter-append (λ e. is_le (key_cmp k e.0)) c.1.items (rows_of (filter (λ e. is_le (key_cmp k e.0)) cs) last))
  from_at k c cs last within more false is =
      filter-append (λ e. is_le (key_cmp k e.0)) c.1.items (rows_of cs last)
      ∙ ap (λ l. l ++ entries_from (rows_of cs last) k)
      (gone (λ y. is_le (key_cmp k y)) c.1.items
      (all_less (λ y. is_le (key_cmp y c.0) ≡ true) (λ y. is_le (key_cmp k y) ≡ false) (λ y le. ap is_le (turned y k (le_less y c.0 k le (below_if k c.0 is)))) (keys_of c.1.items) within))
      ∙ more

  -- they are in the chunks whose keys are at or above it, and in the last
  from_chunks : (k : Key) (cs : Tree Z) (last : Entries) → AreBounds cs last → entries_from (rows_of cs last) k ≡ entries_from (rows_of (filter (λ e. is_le (key_cmp k e.0)) cs) last) k
  from_chunks k [] last bounds = refl
  from_chunks k (c ∷ cs) last bounds = from_at k c cs last bounds.0 (from_chunks k cs last bounds.2) (is_le (key_cmp k c.0)) refl

  -- where the last records begin by the key, they are among these
  pub read_begun : (cs : Tree Z) (last : Entries) (k : Key) (found : Entries) → AreChunks cs last → BeginBy last k → found ≡ entries_from last k → StartsOf found (entries_from (rows_of cs last) k)
  read_begun cs last k found chunks begin is =
      starts_whole found (entries_from (rows_of cs last) k)
      (from_between (rows_of cs last) k (rows_of cs []) last [] (cut_last cs last k chunks.bounds (belongs_last cs last k chunks.bounds begin))
      ∙ append-nil (entries_from last k)
      ∙ sym is)

  -- these chunks are to be read yet
  pub record IsToRead (all last : Entries) (k : Key) (rest : Tree Z) : Type 0 where
    pub rising : AllByRecursion (λ (c : Key × Vec Row Z). HasRisingKeys c.1.items) rest
    pub from : entries_from all k ≡ entries_from (rows_of rest last) k

  -- before the first of them
  pub read_none : (cs : Tree Z) (last : Entries) (k : Key) (rest : Tree Z) → AreChunks cs last → rest ≡ filter (λ e. is_le (key_cmp k e.0)) cs → IsToRead (rows_of cs last) last k rest
  read_none cs last k rest chunks is =
      let some : AllByRecursion (λ (c : Key × Vec Row Z). HasRisingKeys c.1.items) (filter (λ e. is_le (key_cmp k e.0)) cs) =
      recursion_from_All RisesHere (filter (λ e. is_le (key_cmp k e.0)) cs) (All-filter (λ e. is_le (key_cmp k e.0)) RisesHere cs (All-from_recursion RisesHere cs (each_rises cs last chunks.rising))) in
      record {
        rising = subst (λ (l : Tree Z). AllByRecursion (λ (c : Key × Vec Row Z). HasRisingKeys c.1.items) l) (sym is) some;
        from = from_chunks k cs last chunks.bounds ∙ ap (λ (l : Tree Z). entries_from (rows_of l last) k) (sym is);
      }

  module _ (all last : Entries) (k : Key) (rest : Tree Z) (read : IsToRead all last k rest) where
    -- where none is left, the last records are the first
    pub read_last : (found : Entries) → rest ≡ [] → found ≡ entries_from last k → StartsOf found (entries_from all k)
    read_last found none is = starts_whole found (entries_from all k) (read.from ∙ ap (λ (l : Tree Z). entries_from (rows_of l last) k) none ∙ sym is)

    module _ (bound : Key) (rows : Vec Row Z) (next : Tree Z) (first : rest ≡ (bound, rows) ∷ next) where
      here : AllByRecursion (λ (c : Key × Vec Row Z). HasRisingKeys c.1.items) ((bound, rows) ∷ next)
      here = subst (λ (l : Tree Z). AllByRecursion (λ (c : Key × Vec Row Z). HasRisingKeys c.1.items) l) first read.rising

      -- the next has keys that rise
      pub first_rises : HasRisingKeys rows.items
      first_rises = here.0

      module _ (found : Entries) (is : found ≡ entries_from rows.items k) where
        -- its records from the key on come first
        split : entries_from all k ≡ found ++ entries_from (rows_of next last) k
        split =
            read.from
            ∙ ap (λ (l : Tree Z). entries_from (rows_of l last) k) first
            ∙ filter-append (λ e. is_le (key_cmp k e.0)) rows.items (rows_of next last)
            ∙ ap (λ l. l ++ entries_from (rows_of next last) k) (sym is)

        -- they are the first, if there are any
        pub read_first : length found == 0 ≡ false → StartsOf found (entries_from all k)
        read_first some = starts found (entries_from (rows_of next last) k) (entries_from all k) split some

        -- or else those behind it are to be read yet
        pub read_more : length found == 0 ≡ true → IsToRead all last k next
        read_more none = record {
          rising = here.1;
          from = split ∙ ap (λ l. l ++ entries_from (rows_of next last) k) (no_items found (eqb-true (length found) 0 none));
        }

  -- ---- the bytes of all

  -- before the first of them
  pub spelled_none : (all rest : Tree Z) (last : Entries) (start : List ℕ) → rest ≡ all → AllByRecursion FitsRow (rows_of all last)
      → AllByRecursion FitsRow (rows_of rest last) × (start ++ snapshot (rows_of rest last) ≡ start ++ snapshot (rows_of all last))
  spelled_none all rest last start is fits =
      (subst (λ (l : Tree Z). AllByRecursion FitsRow (rows_of l last)) (sym is) fits, ap (λ (l : Tree Z). start ++ snapshot (rows_of l last)) is)

  module _ (all rest : Tree Z) (last : Entries) (start now : List ℕ) where
    -- these chunks are to be spelled yet
    abbrev pub IsToSpell : Type 0
    IsToSpell = AllByRecursion FitsRow (rows_of all last) → AllByRecursion FitsRow (rows_of rest last) × (now ++ snapshot (rows_of rest last) ≡ start ++ snapshot (rows_of all last))

    -- one of them is spelled
    pub spelled_more : (bound : Key) (rows : Vec Row Z) (next : Tree Z) (new : List ℕ) → rest ≡ (bound, rows) ∷ next → (AllByRecursion FitsRow rows.items → new ≡ now ++ snapshot rows.items)
        → IsToSpell → AllByRecursion FitsRow (rows_of all last) → AllByRecursion FitsRow (rows_of next last) × (new ++ snapshot (rows_of next last) ≡ start ++ snapshot (rows_of all last))
    spelled_more bound rows next new first put was fits =
        let here : AllByRecursion FitsRow (rows.items ++ rows_of next last) = subst (λ (l : Tree Z). AllByRecursion FitsRow (rows_of l last)) first (was fits).0 in (
          all_behind FitsRow rows.items (rows_of next last) here,
          ap (λ l. l ++ snapshot (rows_of next last)) (put (all_front FitsRow rows.items (rows_of next last) here))
              ∙ append_assoc now (snapshot rows.items) (snapshot (rows_of next last))
              ∙ ap (λ l. now ++ l) (sym (flat_map-append row_bytes rows.items (rows_of next last)))
              ∙ ap (λ (l : Tree Z). now ++ snapshot (rows_of l last)) (sym first)
              ∙ (was fits).1,
        )

    -- and the last records behind them
    pub spelled_all : (new : List ℕ) → rest ≡ [] → (AllByRecursion FitsRow last → new ≡ now ++ snapshot last) → IsToSpell → AllByRecursion FitsRow (rows_of all last) → new ≡ start ++ snapshot (rows_of all last)
    spelled_all new none put was fits =
        let here : AllByRecursion FitsRow last = subst (λ (l : Tree Z). AllByRecursion FitsRow (rows_of l last)) none (was fits).0 in
        put here ∙ ap (λ (l : Tree Z). now ++ snapshot (rows_of l last)) (sym none) ∙ (was fits).1
