-- The keys of the records of classes are those that are expected.
use Rattle.std.proofs.Common.{◌≡◌, ℕ, zero, suc, ◌+◌, ◌*◌, List, [], ◌∷◌, ◌++◌, map, length, true, false, cond, Ok, Err, refl, sym, ap, ◌∙◌, arith, length-append}
use Rattle.std.specs.List.{AllByRecursion, flat_map, range_with_len}
use Rattle.std.specs.Ordering.{match_ordering}
use Rattle.std.proofs.lemmas.Cmp.{tied_itself}
use Rattle.std.proofs.lemmas.Grind.{flat_map-append}
use Rattle.std.proofs.lemmas.List.{append-nil, map-append}
use Rattle.std.proofs.lemmas.List.Sums.{sum_by-append, sum_by-cons}
use Rattle.ode_codec.specs.StoredRows.{places_of, table_bytes}
use Rattle.ode_codec.specs.declared.record.Record.{Record}
use Rattle.ode_codec.specs.declared.record.Record.TheVariants as of
use Rattle.ode_codec.specs.declared.record.TheConstants.{TABLE_PLACES}
use Rattle.ode_keep.proofs.Keys.{key_total}
use Rattle.ode_language.specs.Languages.{ode}
use Rattle.ode_passes.specs.Complete.{class_count, complete, expected, head_keys, is_head, keys_by, keys_of, next_are, none_left, run}
use Rattle.ode_passes.specs.Records.{Found}
use Rattle.ode_passes.specs.Rules.{◌>>=◌}
use Rattle.ode_passes.specs.declared.cause.Cause.TheVariants as cause
use Rattle.ode_passes.specs.declared.completeness.Part.{Part}
use Rattle.ode_passes.specs.declared.completeness.Part.TheVariants as part
use Rattle.ode_value.specs.GoodWorlds.{AreClasses}
use Rattle.ode_value.specs.Keys.{class_head_key, class_piece_kind, key, table_head_kind, table_piece_kind}
use Rattle.ode_value.specs.Lengths.{piece_count, table_length}
use Rattle.ode_value.specs.PrintedClasses.{decl_text}
use Rattle.ode_value.specs.Tables.{Table}
use Rattle.ode_value.specs.Worlds.{Declared}
use Rattle.ode_value.specs.declared.change.Added.{Added}
use Rattle.ode_value.specs.declared.key.Key.{Key}
use Rattle.ode_opening_laws.proofs.Founds.{found_of, head_at, head_found, heads_found, pieces_at, pieces_found, pieces_of_class, table_heads_found, table_heads_of, tables_found, tables_of}
use Rattle.ode_opening_laws.proofs.Pieces.{bytes_of, found_piece, found_pieces}
use Rattle.ode_opening_laws.proofs.Sized.{IsSized, IsSizedAt}
use Rattle.ode_opening_laws.proofs.Storable.{IsStorable}
use Rattle.ode_opening_laws.proofs.TablePieces as table

abbrev pub keys : Found → List Key
keys fs = map (λ (f : Key × Record). f.0) fs

-- records are there under their own keys
pub all_there : (fs rest : Found) → next_are (keys fs) (fs ++ rest) ≡ Ok rest
all_there [] rest = refl
all_there (f ∷ fs) rest =
    ap (λ o. match_ordering o (Err (cause.Missing f.0)) (Ok (fs ++ rest)) (Err (cause.Record f.0)) >>= λ more. next_are (keys fs) more) (tied_itself key_total f.0)
    ∙ all_there fs rest

-- ---- what brings nothing

module _ (p : Part) where
  no_keys : (class i : ℕ) (bytes : List ℕ) → keys_by p (of.ClassPiece class i bytes) ≡ []
  no_keys class i bytes = by p
    where
      by : (q : Part) → keys_by q (of.ClassPiece class i bytes) ≡ []
      by part.Texts = refl
      by part.TableHeads = refl
      by part.Tables = refl

  none_of_text : (class : ℕ) (text : List ℕ) (i count : ℕ) → keys_of p (found_pieces class text i count) ≡ []
  none_of_text class text i zero = refl
  none_of_text class text i (suc n) =
      ap (λ (ks : List Key). ks ++ keys_of p (found_pieces class text (i + 1) n)) (no_keys class i (bytes_of class text i))
      ∙ none_of_text class text (i + 1) n

  none_of_pieces : (ds : List Declared) → keys_of p (pieces_found ds) ≡ []
  none_of_pieces [] = refl
  none_of_pieces (d ∷ ds) =
      flat_map-append (λ (f : Key × Record). keys_by p f.1) (pieces_of_class d) (pieces_found ds)
      ∙ ap (λ (ks : List Key). ks ++ keys_of p (pieces_found ds)) (none_of_text d.class.number (decl_text d.tree) 0 (piece_count (length (decl_text d.tree))))
      ∙ none_of_pieces ds

  -- pieces of tables
  no_table_keys : (class place i : ℕ) (t : Table) → keys_by p (table.piece_record class place t i) ≡ []
  no_table_keys class place i t = by p
    where
      by : (q : Part) → keys_by q (table.piece_record class place t i) ≡ []
      by part.Texts = refl
      by part.TableHeads = refl
      by part.Tables = refl

  none_of_table : (class place : ℕ) (t : Table) (i count : ℕ) → keys_of p (table.found_pieces class place t i count) ≡ []
  none_of_table class place t i zero = refl
  none_of_table class place t i (suc n) =
      ap (λ (ks : List Key). ks ++ keys_of p (table.found_pieces class place t (i + 1) n)) (no_table_keys class place i t) ∙ none_of_table class place t (i + 1) n

-- what each of some lists brings nothing of
none_of_each : {X : Type 0} (p : Part) (f : X → Found) → ((x : X) → keys_of p (f x) ≡ []) → (xs : List X) → keys_of p (flat_map f xs) ≡ []
none_of_each p f none [] = refl
none_of_each p f none (x ∷ xs) =
    flat_map-append (λ (g : Key × Record). keys_by p g.1) (f x) (flat_map f xs) ∙ ap (λ (ks : List Key). ks ++ keys_of p (flat_map f xs)) (none x) ∙ none_of_each p f none xs

module _ (tables : ℕ → ℕ → Table) where
  none_of_tables : (p : Part) (ds : List Declared) → keys_of p (tables_found tables ds) ≡ []
  none_of_tables p ds =
      none_of_each p (tables_of tables)
      (λ (d : Declared). none_of_each p (pieces_at tables d.class.number)
      (λ place. none_of_table p d.class.number place (tables d.class.number place) 0 (piece_count (length (table_bytes (tables d.class.number place))))) (places_of d))
      ds

  -- heads of tables bring pieces of tables alone
  heads_bring : (class : ℕ) (places : List ℕ) → (keys_of part.Texts (map (head_at tables class) places) ≡ []) × (keys_of part.TableHeads (map (head_at tables class) places) ≡ [])
  heads_bring class [] = (refl, refl)
  heads_bring class (place ∷ places) = heads_bring class places

  no_texts : (ds : List Declared) → keys_of part.Texts (table_heads_found tables ds) ≡ []
  no_texts ds = none_of_each part.Texts (table_heads_of tables) (λ (d : Declared). (heads_bring d.class.number (places_of d)).0) ds

  no_table_heads : (ds : List Declared) → keys_of part.TableHeads (table_heads_found tables ds) ≡ []
  no_table_heads ds = none_of_each part.TableHeads (table_heads_of tables) (λ (d : Declared). (heads_bring d.class.number (places_of d)).1) ds

  -- so what all bring is brought by heads
  of_heads : (p : Part) (ds : List Declared) → keys_of p (found_of tables ds) ≡ keys_of p (heads_found ds) ++ keys_of p (table_heads_found tables ds)
  of_heads p ds =
      let each = λ (f : Key × Record). keys_by p f.1 in
      flat_map-append each (heads_found ds ++ pieces_found ds ++ table_heads_found tables ds) (tables_found tables ds)
      ∙ ap (λ (ks : List Key). keys_of p (heads_found ds ++ pieces_found ds ++ table_heads_found tables ds) ++ ks) (none_of_tables p ds)
      ∙ append-nil (keys_of p (heads_found ds ++ pieces_found ds ++ table_heads_found tables ds))
      ∙ flat_map-append each (heads_found ds ++ pieces_found ds) (table_heads_found tables ds)
      ∙ ap (λ (ks : List Key). ks ++ keys_of p (table_heads_found tables ds))
      (flat_map-append each (heads_found ds) (pieces_found ds) ∙ ap (λ (ks : List Key). keys_of p (heads_found ds) ++ ks) (none_of_pieces p ds) ∙ append-nil (keys_of p (heads_found ds)))

-- ---- heads bring the pieces of their texts

text_keys : (class : ℕ) (text : List ℕ) (i count : ℕ) → run class_piece_kind class i count ≡ keys (found_pieces class text i count)
text_keys class text i zero = refl
text_keys class text i (suc n) = ap (λ (ks : List Key). (found_piece class text i).0 ∷ ks) (text_keys class text (i + 1) n)

texts_of_heads : (ds : List Declared) → keys_of part.Texts (heads_found ds) ≡ keys (pieces_found ds)
texts_of_heads [] = refl
texts_of_heads (d ∷ ds) =
    let text = decl_text d.tree in
    ap (λ (ks : List Key). ks ++ keys_of part.Texts (heads_found ds)) (text_keys d.class.number text 0 (piece_count (length text)))
    ∙ ap (λ (ks : List Key). keys (pieces_of_class d) ++ ks) (texts_of_heads ds)
    ∙ sym (map-append (λ (f : Key × Record). f.0) (pieces_of_class d) (pieces_found ds))

-- ---- and the heads of the tables of their triggers

module _ (tables : ℕ → ℕ → Table) where
  head_keys_of : (class first count : ℕ) → run table_head_kind class first count ≡ keys (map (head_at tables class) (range_with_len first count))
  head_keys_of class first zero = refl
  head_keys_of class first (suc n) = ap (λ (ks : List Key). key table_head_kind class first ∷ ks) (head_keys_of class (first + 1) n)

  table_heads_of_heads : (ds : List Declared) → keys_of part.TableHeads (heads_found ds) ≡ keys (table_heads_found tables ds)
  table_heads_of_heads [] = refl
  table_heads_of_heads (d ∷ ds) =
      ap (λ (ks : List Key). ks ++ keys_of part.TableHeads (heads_found ds)) (head_keys_of d.class.number 0 (length d.class.triggers))
      ∙ ap (λ (ks : List Key). keys (table_heads_of tables d) ++ ks) (table_heads_of_heads ds)
      ∙ sym (map-append (λ (f : Key × Record). f.0) (table_heads_of tables d) (table_heads_found tables ds))

tables_of_heads : (ds : List Declared) → keys_of part.Tables (heads_found ds) ≡ []
tables_of_heads [] = refl
tables_of_heads (d ∷ ds) = tables_of_heads ds

-- ---- heads of tables bring their pieces

module _ (class place : ℕ) (t : Table) where
  piece_keys : (base i j count : ℕ) → base + i ≡ j → place * TABLE_PLACES ≡ base → run table_piece_kind class j count ≡ keys (table.found_pieces class place t i count)
  piece_keys base i j zero at is = refl
  piece_keys base i j (suc n) at is =
      let here : j ≡ place * TABLE_PLACES + i = omega (arith, at, is) in
      ap (λ (m : ℕ). key table_piece_kind class m ∷ run table_piece_kind class (j + 1) n) here
      ∙ ap (λ (ks : List Key). key table_piece_kind class (place * TABLE_PLACES + i) ∷ ks) (piece_keys base (i + 1) (j + 1) n (omega (arith, at)) is)

module _ (tables : ℕ → ℕ → Table) where
  pieces_by : (class place : ℕ) → IsSized (tables class place)
      → run table_piece_kind class (place * TABLE_PLACES) (piece_count (table_length (tables class place).states (tables class place).symbols)) ≡ keys (pieces_at tables class place)
  pieces_by class place is =
      let t = tables class place in
      let base = place * TABLE_PLACES in
      ap (λ (n : ℕ). run table_piece_kind class base (piece_count n)) (sym is.bytes)
      ∙ piece_keys class place t base 0 base (piece_count (length (table_bytes t))) (omega arith) refl

  pieces_brought : (class : ℕ) (places : List ℕ) → AllByRecursion (IsSizedAt tables class) places
      → keys_of part.Tables (map (head_at tables class) places) ≡ keys (flat_map (pieces_at tables class) places)
  pieces_brought class [] all = refl
  pieces_brought class (place ∷ places) all =
      ap (λ (ks : List Key). ks ++ keys_of part.Tables (map (head_at tables class) places)) (pieces_by class place all.0.sized)
      ∙ ap (λ (ks : List Key). keys (pieces_at tables class place) ++ ks) (pieces_brought class places all.1)
      ∙ sym (map-append (λ (f : Key × Record). f.0) (pieces_at tables class place) (flat_map (pieces_at tables class) places))

  tables_of_table_heads : (ds : List Declared) → AllByRecursion (IsStorable tables) ds → keys_of part.Tables (table_heads_found tables ds) ≡ keys (tables_found tables ds)
  tables_of_table_heads [] all = refl
  tables_of_table_heads (d ∷ ds) all =
      flat_map-append (λ (f : Key × Record). keys_by part.Tables f.1) (table_heads_of tables d) (table_heads_found tables ds)
      ∙ ap (λ (ks : List Key). ks ++ keys_of part.Tables (table_heads_found tables ds)) (pieces_brought d.class.number (places_of d) all.0.sized)
      ∙ ap (λ (ks : List Key). keys (tables_of tables d) ++ ks) (tables_of_table_heads ds all.1)
      ∙ sym (map-append (λ (f : Key × Record). f.0) (tables_of tables d) (tables_found tables ds))

-- ---- the heads are numbered from 1

head_is : (d : Declared) → is_head (head_found d) ≡ true
unfolding is_head
head_is d = refl

piece_is_none : (class : ℕ) (text : List ℕ) (i : ℕ) → is_head (found_piece class text i) ≡ false
unfolding is_head
piece_is_none class text i = refl

abbrev one : Key × Record → ℕ
one f = cond (is_head f) 1 0

count_text : (class : ℕ) (text : List ℕ) (i count : ℕ) → class_count (found_pieces class text i count) ≡ 0
count_text class text i zero = refl
count_text class text i (suc n) =
    sum_by-cons one (found_piece class text i) (found_pieces class text (i + 1) n)
    ∙ ap (λ b. cond b 1 0 + class_count (found_pieces class text (i + 1) n)) (piece_is_none class text i)
    ∙ ap (λ m. 0 + m) (count_text class text (i + 1) n)

count_pieces : (ds : List Declared) → class_count (pieces_found ds) ≡ 0
count_pieces [] = refl
count_pieces (d ∷ ds) =
    let here = count_text d.class.number (decl_text d.tree) 0 (piece_count (length (decl_text d.tree))) in
    let more = count_pieces ds in
    sum_by-append one (pieces_of_class d) (pieces_found ds) ∙ ap (λ m. m + class_count (pieces_found ds)) here ∙ ap (λ m. 0 + m) more

count_heads : (ds : List Declared) → class_count (heads_found ds) ≡ length ds
count_heads [] = refl
count_heads (d ∷ ds) =
    let more = count_heads ds in
    let last : 1 + length ds ≡ length (d ∷ ds) = omega arith in
    sum_by-cons one (head_found d) (heads_found ds) ∙ ap (λ b. cond b 1 0 + class_count (heads_found ds)) (head_is d) ∙ ap (λ m. 1 + m) more ∙ last

-- heads and pieces of tables are no class's heads
none_counted : {X : Type 0} (f : X → Found) → ((x : X) → class_count (f x) ≡ 0) → (xs : List X) → class_count (flat_map f xs) ≡ 0
none_counted f none [] = refl
none_counted f none (x ∷ xs) =
    let more = none_counted f none xs in
    sum_by-append one (f x) (flat_map f xs) ∙ ap (λ m. m + class_count (flat_map f xs)) (none x) ∙ ap (λ m. 0 + m) more

module _ (tables : ℕ → ℕ → Table) where
  head_is_none : (class place : ℕ) → is_head (head_at tables class place) ≡ false
  unfolding is_head
  head_is_none class place = refl

  table_piece_is_none : (class place i : ℕ) → is_head (table.found_piece class place (tables class place) i) ≡ false
  unfolding is_head
  table_piece_is_none class place i = refl

  count_table_heads : (class : ℕ) (places : List ℕ) → class_count (map (head_at tables class) places) ≡ 0
  count_table_heads class [] = refl
  count_table_heads class (place ∷ places) =
      sum_by-cons one (head_at tables class place) (map (head_at tables class) places)
      ∙ ap (λ b. cond b 1 0 + class_count (map (head_at tables class) places)) (head_is_none class place) ∙ ap (λ m. 0 + m) (count_table_heads class places)

  count_table : (class place i count : ℕ) → class_count (table.found_pieces class place (tables class place) i count) ≡ 0
  count_table class place i zero = refl
  count_table class place i (suc n) =
      let t = tables class place in
      sum_by-cons one (table.found_piece class place t i) (table.found_pieces class place t (i + 1) n)
      ∙ ap (λ b. cond b 1 0 + class_count (table.found_pieces class place t (i + 1) n)) (table_piece_is_none class place i)
      ∙ ap (λ m. 0 + m) (count_table class place (i + 1) n)

  count_tables : (ds : List Declared) → class_count (tables_found tables ds) ≡ 0
  count_tables ds =
      none_counted (tables_of tables)
      (λ (d : Declared). none_counted (pieces_at tables d.class.number)
      (λ place. count_table d.class.number place 0 (piece_count (length (table_bytes (tables d.class.number place))))) (places_of d)) ds

  pub count_is : (ds : List Declared) → class_count (found_of tables ds) ≡ length ds
  count_is ds =
      let heads = heads_found ds in
      let pieces = pieces_found ds in
      let table_heads = table_heads_found tables ds in
      omega (
        arith,
        sum_by-append one (heads ++ pieces ++ table_heads) (tables_found tables ds),
        sum_by-append one (heads ++ pieces) table_heads,
        sum_by-append one heads pieces,
        count_heads ds,
        count_pieces ds,
        none_counted (table_heads_of tables) (λ (d : Declared). count_table_heads d.class.number (places_of d)) ds,
        count_tables ds,
      )

heads_numbered : (added : List Added) (earlier ds : List Declared) → AreClasses ode added earlier ds → map class_head_key (range_with_len (length earlier + 1) (length ds)) ≡ keys (heads_found ds)
heads_numbered added earlier [] classes = refl
heads_numbered added earlier (d ∷ ds) classes =
    let next : length (earlier ++ d ∷ []) + 1 ≡ length earlier + 1 + 1 = ap (λ m. m + 1) (length-append earlier (d ∷ [])) in
    ap (λ m. class_head_key m ∷ map class_head_key (range_with_len (length earlier + 1 + 1) (length ds))) (sym classes.0.number)
    ∙ ap (λ m. class_head_key d.class.number ∷ map class_head_key (range_with_len m (length ds))) (sym next)
    ∙ ap (λ (ks : List Key). class_head_key d.class.number ∷ ks) (heads_numbered added (earlier ++ d ∷ []) ds classes.1)

-- ---- all keys

module _ (tables : ℕ → ℕ → Table) (added : List Added) (ds : List Declared) (classes : AreClasses ode added [] ds) (all : AllByRecursion (IsStorable tables) ds) where
  abbrev records : Found
  records = found_of tables ds

  heads_are : head_keys records ≡ keys (heads_found ds)
  heads_are = ap (λ m. map class_head_key (range_with_len 1 m)) (count_is tables ds) ∙ heads_numbered added [] ds classes

  texts_are : keys_of part.Texts records ≡ keys (pieces_found ds)
  texts_are =
      of_heads tables part.Texts ds ∙ ap (λ (ks : List Key). keys_of part.Texts (heads_found ds) ++ ks) (no_texts tables ds)
      ∙ append-nil (keys_of part.Texts (heads_found ds)) ∙ texts_of_heads ds

  table_heads_are : keys_of part.TableHeads records ≡ keys (table_heads_found tables ds)
  table_heads_are =
      of_heads tables part.TableHeads ds ∙ ap (λ (ks : List Key). keys_of part.TableHeads (heads_found ds) ++ ks) (no_table_heads tables ds)
      ∙ append-nil (keys_of part.TableHeads (heads_found ds)) ∙ table_heads_of_heads tables ds

  tables_are : keys_of part.Tables records ≡ keys (tables_found tables ds)
  tables_are =
      of_heads tables part.Tables ds ∙ ap (λ (ks : List Key). ks ++ keys_of part.Tables (table_heads_found tables ds)) (tables_of_heads ds)
      ∙ tables_of_table_heads tables ds all

  expected_is : expected records ≡ keys records
  expected_is =
      let key_in = λ (f : Key × Record). f.0 in
      let heads = heads_found ds in
      let pieces = pieces_found ds in
      let table_heads = table_heads_found tables ds in
      ap (λ (ks : List Key). ks ++ keys_of part.Texts records ++ keys_of part.TableHeads records ++ keys_of part.Tables records) heads_are
      ∙ ap (λ (ks : List Key). keys heads ++ ks ++ keys_of part.TableHeads records ++ keys_of part.Tables records) texts_are
      ∙ ap (λ (ks : List Key). keys heads ++ keys pieces ++ ks ++ keys_of part.Tables records) table_heads_are
      ∙ ap (λ (ks : List Key). keys heads ++ keys pieces ++ keys table_heads ++ ks) tables_are
      ∙ ap (λ (ks : List Key). ks ++ keys table_heads ++ keys (tables_found tables ds)) (sym (map-append key_in heads pieces))
      ∙ ap (λ (ks : List Key). ks ++ keys (tables_found tables ds)) (sym (map-append key_in (heads ++ pieces) table_heads))
      ∙ sym (map-append key_in (heads ++ pieces ++ table_heads) (tables_found tables ds))

  pub complete_is : complete records ≡ Ok tt
  unfolding complete
  complete_is =
      let there : next_are (keys records) records ≡ Ok [] =
      ap (λ (fs : Found). next_are (keys records) fs) (sym (append-nil records)) ∙ all_there records [] in
      ap (λ (ks : List Key). next_are ks records >>= none_left) expected_is ∙ ap (λ m. m >>= none_left) there
