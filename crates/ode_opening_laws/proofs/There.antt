-- The tables that are held are there.
use Rattle.std.proofs.Common.{◌≡◌, ℕ, zero, suc, ◌+◌, ◌*◌, ◌<◌, ◌≤◌, ◌^◌, List, [], ◌∷◌, ◌++◌, map, length, Bool, true, false, cond, Some, refl, sym, ap, subst, ◌∙◌, arith}
use Rattle.std.specs.Prelude.{◌||◌}
use Rattle.std.specs.BTreeMap.{is_at}
use Rattle.std.specs.List.{AllByRecursion, AllZip, enumerate_from, flat_map, list_any, range_with_len}
use Rattle.std.specs.Ordering.{is_eq}
use Rattle.std.proofs.lemmas.Cmp.{tied_itself}
use Rattle.std.proofs.lemmas.Map.Entries.{lookup-filter-keys}
use Rattle.ode_codec.specs.Standing.{HasTables, IsTableOf}
use Rattle.ode_codec.specs.StoredRows.{head_row, piece_of, pieces_of, places_of, table_bytes, table_head, table_heads, table_pieces, table_row, table_rows, text_row, text_rows}
use Rattle.ode_codec.specs.declared.record.TheConstants.{TABLE_PLACES}
use Rattle.ode_keep.proofs.Keys.{key_total, same_key}
use Rattle.ode_keep.specs.Entries.{Entries, value_under}
use Rattle.ode_opening_tables.specs.Tables.{HasTable, IsAmong, IsStored, all_triggers}
use Rattle.ode_passes.specs.Walking.{is_from, within}
use Rattle.ode_value.specs.Classes.{Trigger, own_triggers, trigger_of}
use Rattle.ode_value.specs.Keys.{class_head_kind, key, key_cmp, table_piece_kind}
use Rattle.ode_value.specs.Lengths.{piece_count}
use Rattle.ode_value.specs.PrintedClasses.{decl_text}
use Rattle.ode_value.specs.Records.{Row}
use Rattle.ode_value.specs.Tables.{Table}
use Rattle.ode_value.specs.Worlds.{Declared}
use Rattle.ode_value.specs.declared.change.Added.{Added}
use Rattle.ode_value.specs.declared.key.Key.{Key}
use Rattle.ode_value.specs.declared.member.TriggerDecl.{TriggerDecl}
use Rattle.ode_opening_laws.specs.Holding.{HoldClasses, class_of, class_rows, stored_tables}
use Rattle.ode_opening_laws.proofs.Accepting.{are_storable}
use Rattle.ode_opening_laws.proofs.Each.{Any, all_any, all_append, all_before, all_behind, all_below, all_both, all_flat, all_map}
use Rattle.ode_opening_laws.proofs.Sections.{Passes, rows_pass}
use Rattle.ode_opening_laws.proofs.Sized.{IsSizedAt, whole_of}
use Rattle.ode_opening_laws.proofs.Storable.{IsStorable}

-- ---- what stands under the key of a record

-- a record of a key is there
abbrev has : Entries → Key → Bool
has es k = list_any (λ (e : Row). is_at (key_cmp k) e.0) es

-- under the key of a record stands its value alone
abbrev Only : Row → Row → Type 0
Only r e = is_at (key_cmp r.0) e.0 ≡ true → e.1 ≡ r.1

under : (es : Entries) (r : Row) → AllByRecursion (Only r) es → has es r.0 ≡ true → value_under es r.0 ≡ Some r.1
under [] r all is = absurd (cc)
under (e ∷ es) r all is = by (under es r all.1) (is_at (key_cmp r.0) e.0) refl is
  where
    by : (has es r.0 ≡ true → value_under es r.0 ≡ Some r.1) → (b : Bool) → is_at (key_cmp r.0) e.0 ≡ b → b || has es r.0 ≡ true → cond b (Some e.1) (value_under es r.0) ≡ Some r.1
    by rest true here some = ap (λ (v : List ℕ). Some v) (all.0 here)
    by rest false here some = rest some

-- each record of some has its own key
itself : (k : Key) → is_at (key_cmp k) k ≡ true
itself k = ap is_eq (tied_itself key_total k)

has_later : (e : Row) (es ds : Entries) → AllByRecursion (λ (r : Row). has es r.0 ≡ true) ds → AllByRecursion (λ (r : Row). has (e ∷ es) r.0 ≡ true) ds
has_later e es [] all = tt
has_later e es (r ∷ ds) all = (behind (is_at (key_cmp r.0) e.0) (has es r.0) all.0, has_later e es ds all.1)
  where
    behind : (a b : Bool) → b ≡ true → a || b ≡ true
    behind true b is = refl
    behind false b is = is

all_has : (es : Entries) → AllByRecursion (λ (r : Row). has es r.0 ≡ true) es
all_has [] = tt
all_has (e ∷ es) = (ap (λ b. b || has es e.0) (itself e.0), has_later e es es (all_has es))

-- what stands under a key of these kinds stands there among the records of these kinds
among : (es : Entries) (r : Row) → Passes r → value_under (within class_head_kind table_piece_kind es) r.0 ≡ value_under es r.0
among es r passes =
    lookup-filter-keys (is_at (key_cmp r.0)) (λ (k : Key). is_from (key class_head_kind 0 0) table_piece_kind k) true
    (λ k here. subst (λ (q : Key). is_from (key class_head_kind 0 0) table_piece_kind q ≡ true) (sym (same_key r.0 k here)) passes) es

-- ---- no other record has the key of a table's

-- records of two kinds
apart : (r e : Row) → (e.0.kind ≡ r.0.kind → ⊥) → Only r e
apart r e other here = absurd (other (ap (λ (k : Key). k.kind) (same_key r.0 e.0 here)))

same_place : (p i q j : ℕ) → i < 2 ^ 16 → j < 2 ^ 16 → q * TABLE_PLACES + j ≡ p * TABLE_PLACES + i → (q ≡ p) × (j ≡ i)
same_place p i q j low small is = (omega (arith, low, small, is), omega (arith, low, small, is))

module _ (tables : ℕ → ℕ → Table) where
  abbrev head_at : ℕ → ℕ → Row
  head_at class place = table_head class place (tables class place)

  abbrev bytes_at : ℕ → ℕ → List ℕ
  bytes_at class place = table_bytes (tables class place)

  abbrev piece_at : ℕ → ℕ → ℕ → Row
  piece_at class place i = table_row class place (piece_of (bytes_at class place) i)

  abbrev pieces_at : ℕ → ℕ → List Row
  pieces_at class place = table_pieces class place (tables class place)

  head_alone : (class place c p : ℕ) → Only (head_at class place) (head_at c p)
  head_alone class place c p here =
      let same : (head_at c p).0 ≡ (head_at class place).0 = same_key (head_at class place).0 (head_at c p).0 here in
      let a : c ≡ class = ap (λ (k : Key). k.a) same in
      let b : p ≡ place = ap (λ (k : Key). k.b) same in
      λ x. (head_at (a x) (b x)).1

  piece_alone : (class place i c p j : ℕ) → i < 2 ^ 16 → j < 2 ^ 16 → Only (piece_at class place i) (piece_at c p j)
  piece_alone class place i c p j low small here =
      let same : (piece_at c p j).0 ≡ (piece_at class place i).0 = same_key (piece_at class place i).0 (piece_at c p j).0 here in
      let a : c ≡ class = ap (λ (k : Key). k.a) same in
      let b = same_place place i p j low small (ap (λ (k : Key). k.b) same) in
      λ x. (piece_at (a x) (b.0 x) (b.1 x)).1

  -- among all records of classes
  abbrev S : Declared → Type 0
  S = IsStorable tables

  module _ (r : Row) (ds : List Declared) (all : AllByRecursion S ds)
      (no_head : (d : Declared) → Only r (head_row d)) (no_text : (d : Declared) (piece : ℕ × List ℕ) → Only r (text_row d.class.number piece))
      (heads : (c p : ℕ) → Only r (head_at c p)) (pieces : (c p j : ℕ) → j < 2 ^ 16 → Only r (piece_at c p j)) where
    pieces_alone : (c p : ℕ) → IsSizedAt tables c p → AllByRecursion (Only r) (pieces_at c p)
    pieces_alone c p is =
        let few = is.sized.few in
        let count = piece_count (length (bytes_at c p)) in
        all_map (Only r) (λ (piece : ℕ × List ℕ). Only r (table_row c p piece)) (table_row c p) (λ piece its. its) (pieces_of (bytes_at c p))
        (all_map (λ (piece : ℕ × List ℕ). Only r (table_row c p piece)) (λ j. j < 2 ^ 16) (piece_of (bytes_at c p)) (pieces c p) (range_with_len 0 count) (all_below 0 count (2 ^ 16) (omega (arith, few))))

    alone : AllByRecursion (Only r) (class_rows tables ds)
    alone =
        let O = Only r in
        let heads_ = all_map O S head_row (λ d is. no_head d) ds all in
        let texts_ = all_flat O S text_rows (λ (d : Declared) is. all_map O Any (text_row d.class.number) (λ piece any. no_text d piece) (pieces_of (decl_text d.tree)) (all_any (pieces_of (decl_text d.tree)))) ds all in
        let table_heads_ = all_flat O S (table_heads tables) (λ (d : Declared) is. all_map O Any (head_at d.class.number) (λ p any. heads d.class.number p) (places_of d) (all_any (places_of d))) ds all in
        let tables_ = all_flat O S (table_rows tables) (λ (d : Declared) is. all_flat O (IsSizedAt tables d.class.number) (pieces_at d.class.number) (pieces_alone d.class.number) (places_of d) is.sized) ds all in
        all_append O (map head_row ds ++ flat_map text_rows ds ++ flat_map (table_heads tables) ds) (flat_map (table_rows tables) ds)
        (all_append O (map head_row ds ++ flat_map text_rows ds) (flat_map (table_heads tables) ds) (all_append O (map head_row ds) (flat_map text_rows ds) heads_ texts_) table_heads_) tables_

  module _ (ds : List Declared) (all : AllByRecursion S ds) where
    heads_alone : (class place : ℕ) → AllByRecursion (Only (head_at class place)) (class_rows tables ds)
    heads_alone class place =
        let r = head_at class place in
        alone r ds all (λ d. apart r (head_row d) (λ same. omega (arith, same))) (λ d piece. apart r (text_row d.class.number piece) (λ same. omega (arith, same)))
        (head_alone class place) (λ c p j small. apart r (piece_at c p j) (λ same. omega (arith, same)))

    piece_is_alone : (class place i : ℕ) → i < 2 ^ 16 → AllByRecursion (Only (piece_at class place i)) (class_rows tables ds)
    piece_is_alone class place i low =
        let r = piece_at class place i in
        alone r ds all (λ d. apart r (head_row d) (λ same. omega (arith, same))) (λ d piece. apart r (text_row d.class.number piece) (λ same. omega (arith, same)))
        (λ c p. apart r (head_at c p) (λ same. omega (arith, same))) (λ c p j small. piece_alone class place i c p j low small)

-- ---- the tables

module _ (entries : Entries) (tables : ℕ → ℕ → Table) (added : List Added) (ds : List Declared) (held : HoldClasses entries tables added ds) where
  storable : AllByRecursion (IsStorable tables) ds
  storable = are_storable tables added ds held.classes held.mean

  abbrev rows : Entries
  rows = class_rows tables ds

  -- a record of classes
  abbrev IsRow : Row → Type 0
  IsRow r = (has rows r.0 ≡ true) × Passes r

  all_rows : AllByRecursion IsRow rows
  all_rows = all_both (λ (r : Row). has rows r.0 ≡ true) Passes rows (all_has rows) (rows_pass tables ds storable)

  stands : (r : Row) → IsRow r → AllByRecursion (Only r) rows → IsAmong entries r
  stands r is only = sym (among entries r is.1) ∙ ap (λ (es : Entries). value_under es r.0) held.rows ∙ under rows r only is.0

  pieces_stand : (class place first count : ℕ) → first + count ≤ 2 ^ 16
      → AllByRecursion IsRow (map (table_row class place) (map (piece_of (bytes_at tables class place)) (range_with_len first count)))
      → AllByRecursion (IsAmong entries) (map (table_row class place) (map (piece_of (bytes_at tables class place)) (range_with_len first count)))
  pieces_stand class place first zero few all = tt
  pieces_stand class place first (suc n) few all = (
    stands (piece_at tables class place first) all.0 (piece_is_alone tables ds storable class place first (omega (arith, few))),
    pieces_stand class place (first + 1) n (omega (arith, few)) all.1,
  )

  stored : (class place : ℕ) → IsSizedAt tables class place → IsRow (head_at tables class place) → AllByRecursion IsRow (pieces_at tables class place) → IsStored entries class place (tables class place)
  stored class place is head pieces =
      let few = is.sized.few in
      let all = pieces_stand class place 0 (piece_count (length (bytes_at tables class place))) (omega (arith, few)) pieces in
      record { states = is.sized.states; symbols = is.sized.symbols; rows = (stands (head_at tables class place) head (heads_alone tables ds storable class place), all) }

  -- a trigger has its table
  abbrev Has : Trigger → Type 0
  Has t = HasTable entries t (tables t.class t.place)

  own_tables : (class first : ℕ) (ts : List TriggerDecl) → AllByRecursion (IsTableOf tables) (map (trigger_of class) (enumerate_from first ts))
      → AllByRecursion (IsSizedAt tables class) (range_with_len first (length ts)) → AllByRecursion IsRow (map (head_at tables class) (range_with_len first (length ts)))
      → AllByRecursion IsRow (flat_map (pieces_at tables class) (range_with_len first (length ts))) → AllByRecursion Has (map (trigger_of class) (enumerate_from first ts))
  own_tables class first [] mean sized heads pieces = tt
  own_tables class first (t ∷ ts) mean sized heads pieces =
      let more = flat_map (pieces_at tables class) (range_with_len (first + 1) (length ts)) in (
        record {
          stored = stored class first sized.0 heads.0 (all_before IsRow (pieces_at tables class first) more pieces);
          whole = whole_of (tables class first) mean.0.whole;
          means = mean.0.means;
        },
        own_tables class (first + 1) ts mean.1 sized.1 heads.1 (all_behind IsRow (pieces_at tables class first) more pieces),
      )

  all_tables : (cs : List Declared) → AllByRecursion (HasTables tables) cs → AllByRecursion (IsStorable tables) cs → AllByRecursion IsRow (flat_map (table_heads tables) cs)
      → AllByRecursion IsRow (flat_map (table_rows tables) cs) → AllByRecursion Has (all_triggers (map class_of cs))
  all_tables [] mean all heads pieces = tt
  all_tables (d ∷ cs) mean all heads pieces =
      all_append Has (own_triggers d.class) (all_triggers (map class_of cs))
      (own_tables d.class.number 0 d.class.triggers mean.0 all.0.sized (all_before IsRow (table_heads tables d) (flat_map (table_heads tables) cs) heads)
      (all_before IsRow (table_rows tables d) (flat_map (table_rows tables) cs) pieces))
      (all_tables cs mean.1 all.1 (all_behind IsRow (table_heads tables d) (flat_map (table_heads tables) cs) heads) (all_behind IsRow (table_rows tables d) (flat_map (table_rows tables) cs) pieces))

  with_tables : (ts : List Trigger) → AllByRecursion Has ts → AllZip (HasTable entries) ts (map (λ (t : Trigger). tables t.class t.place) ts)
  with_tables [] all = tt
  with_tables (t ∷ ts) all = (all.0, with_tables ts all.1)

  pub tables_are_there : AllZip (HasTable entries) (all_triggers (map class_of ds)) (stored_tables tables ds)
  tables_are_there =
      let front = map head_row ds ++ flat_map text_rows ds in
      let heads = flat_map (table_heads tables) ds in
      let pieces = flat_map (table_rows tables) ds in
      with_tables (all_triggers (map class_of ds))
      (all_tables ds held.mean storable (all_behind IsRow front heads (all_before IsRow (front ++ heads) pieces all_rows)) (all_behind IsRow (front ++ heads) pieces all_rows))
