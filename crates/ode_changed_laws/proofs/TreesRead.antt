-- From records that hold a world its classes are read as they were declared, and its added fields.
use Rattle.std.proofs.Common.{◌≡◌, ◌<◌, ◌≤◌, ◌^◌, ℕ, zero, suc, ◌+◌, ◌-◌, Bool, true, false, cond, List, [], ◌∷◌, ◌++◌, length, map, drop, codes, Option, Some, None, Ok, refl, ap, sym, ◌∙◌, arith, append_assoc, length-append}
use Rattle.std.specs.Prelude.{◌==◌, ◌&&◌, nat_le, slice_get}
use Rattle.std.specs.List.{AllByRecursion, flat_map}
use Rattle.std.specs.Option.{option_and_then}
use Rattle.std.specs.Ordering.{is_le}
use Rattle.std.proofs.Math.Seq.{drop-append_seam}
use Rattle.std.proofs.lemmas.Bool.{and_parts}
use Rattle.std.proofs.lemmas.Bool.Decides.{nat_tests}
use Rattle.std.proofs.lemmas.List.{append-nil, length-map, map-append}
use Rattle.std.proofs.lemmas.List.Elements.{filter-append}
use Rattle.std.proofs.lemmas.List.Sums.{sum_by-append, sum_by-cons}
use Rattle.ode_changed_laws.specs.Known.{class_by_class}
use Rattle.ode_codec.specs.Standing.{HoldsWorld}
use Rattle.ode_codec.specs.StoredRows.{head_row, pieces_of, places_of, table_bytes, table_head, table_heads, table_pieces, table_row, table_rows, text_row, text_rows}
use Rattle.ode_codec.specs.declared.record.Record.{Record}
use Rattle.ode_keep.specs.Entries.{Entries}
use Rattle.ode_language.specs.Languages.{ode}
use Rattle.ode_machine.specs.Refusals as machine
use Rattle.ode_opening.specs.Births.{added_in, name_in}
use Rattle.ode_opening.specs.Declaring.{class_in, read_in}
use Rattle.ode_opening.specs.Trees.{tree_next, trees_in, trees_of}
use Rattle.ode_opening_laws.specs.Holding.{HoldClasses, class_rows}
use Rattle.ode_opening_laws.proofs.Accepting.{are_storable}
use Rattle.ode_opening_laws.proofs.BornOnce.{blocks}
use Rattle.ode_opening_laws.proofs.Decoding.{Again, Decode, decode_append, decodes_all}
use Rattle.ode_opening_laws.proofs.Each.{Any, all_any, all_append, all_before, all_both, all_flat, all_map, all_then}
use Rattle.ode_opening_laws.proofs.Fields.{IsHead, few_classes, fields_are_read, numbers_rise}
use Rattle.ode_opening_laws.proofs.Founds.{head_found, heads_decode, heads_found, pieces_found, pieces_of_class}
use Rattle.ode_opening_laws.proofs.Limits.{short_of}
use Rattle.ode_opening_laws.proofs.Pieces.{all_pieces_cut, found_piece, found_pieces, pieces_decode}
use Rattle.ode_opening_laws.proofs.Sections.{Passes, rows_pass}
use Rattle.ode_opening_laws.proofs.Storable.{IsStorable}
use Rattle.ode_passes.specs.Complete.{class_count, is_head}
use Rattle.ode_passes.specs.Records.{Found, decoded}
use Rattle.ode_passes.specs.Rules.{Ruled, ◌>>=◌, found, through}
use Rattle.ode_passes.specs.Walking.{has_range, is_from, within}
use Rattle.ode_passes.specs.declared.cause.Cause.TheVariants as cause
use Rattle.ode_passes.proofs.Through.{through-append}
use Rattle.ode_value.specs.GoodWorlds.{AreClasses, IsClass}
use Rattle.ode_value.specs.Keys.{class_head_kind, class_piece_kind, key, key_cmp, table_piece_kind}
use Rattle.ode_value.specs.Language.{ListWorld}
use Rattle.ode_value.specs.Lengths.{piece_count}
use Rattle.ode_value.specs.PrintedClasses.{decl_text}
use Rattle.ode_value.specs.Records.{Row}
use Rattle.ode_value.specs.Tables.{Table}
use Rattle.ode_value.specs.Worlds.{Declared}
use Rattle.ode_value.specs.declared.change.Added.{Added}
use Rattle.ode_value.specs.declared.key.Key.{Key}
use Rattle.ode_value.specs.declared.statement.ClassDecl.{ClassDecl}

abbrev Trees : Type 0
Trees = List ClassDecl × Found

abbrev tree_of : Declared → ClassDecl
tree_of d = d.tree

-- ---- the records of heads and texts

abbrev of_trees : Entries → Entries
of_trees es = within class_head_kind class_piece_kind es

abbrev of_classes : Entries → Entries
of_classes es = within class_head_kind table_piece_kind es

abbrev begins_at : Key → Bool
begins_at k = is_le (key_cmp (key class_head_kind 0 0) k)

abbrev IsOfTrees : Row → Type 0
IsOfTrees e = is_from (key class_head_kind 0 0) class_piece_kind e.0 ≡ true

narrower : (e : Row) → Passes e → e.0.kind ≤ class_piece_kind → IsOfTrees e
narrower e is low =
    let first = and_parts (begins_at e.0) (nat_le e.0.kind table_piece_kind && has_range e.0) is in
    let second = and_parts (nat_le e.0.kind table_piece_kind) (has_range e.0) first.1 in
    let kind : nat_le e.0.kind class_piece_kind ≡ true = grind (arith, nat_tests, low) in
    λ i. first.0 i && (kind i && second.1 i)

wider : (k : Key) → is_from (key class_head_kind 0 0) class_piece_kind k ≡ true → is_from (key class_head_kind 0 0) table_piece_kind k ≡ true
wider k is =
    let first = and_parts (begins_at k) (nat_le k.kind class_piece_kind && has_range k) is in
    let second = and_parts (nat_le k.kind class_piece_kind) (has_range k) first.1 in
    let low = second.0 in
    let kind : nat_le k.kind table_piece_kind ≡ true = grind (arith, nat_tests, low) in
    λ i. first.0 i && (kind i && second.1 i)

not-wider : (k : Key) → is_from (key class_head_kind 0 0) table_piece_kind k ≡ false → is_from (key class_head_kind 0 0) class_piece_kind k ≡ false
not-wider k none = by (is_from (key class_head_kind 0 0) class_piece_kind k) refl
  where
    by : (t : Bool) → is_from (key class_head_kind 0 0) class_piece_kind k ≡ t → is_from (key class_head_kind 0 0) class_piece_kind k ≡ false
    by true is = absurd (cc (none, wider k is))
    by false is = is

trees-first : (es : Entries) → of_trees es ≡ of_trees (of_classes es)
trees-first [] = refl
trees-first (e ∷ es) = by (is_from (key class_head_kind 0 0) table_piece_kind e.0) refl (trees-first es)
  where
    by : (t : Bool) → is_from (key class_head_kind 0 0) table_piece_kind e.0 ≡ t → of_trees es ≡ of_trees (of_classes es)
        → of_trees (e ∷ es) ≡ of_trees (cond t (e ∷ of_classes es) (of_classes es))
    by true is rest = ap (λ (more : Entries). cond (is_from (key class_head_kind 0 0) class_piece_kind e.0) (e ∷ more) more) rest
    by false is rest = ap (λ (s : Bool). cond s (e ∷ of_trees es) (of_trees es)) (not-wider e.0 is) ∙ rest

all-kept : (es : Entries) → AllByRecursion IsOfTrees es → of_trees es ≡ es
all-kept [] all = refl
all-kept (e ∷ es) all = ap (λ (s : Bool). cond s (e ∷ of_trees es) (of_trees es)) all.0 ∙ ap (λ (more : Entries). e ∷ more) (all-kept es all.1)

abbrev IsBehind : Row → Type 0
IsBehind e = class_piece_kind < e.0.kind

behind-none : (k : Key) → class_piece_kind < k.kind → is_from (key class_head_kind 0 0) class_piece_kind k ≡ false
behind-none k less = grind (arith, nat_tests)

none-kept : (es : Entries) → AllByRecursion IsBehind es → of_trees es ≡ []
none-kept [] all = refl
none-kept (e ∷ es) all = ap (λ (s : Bool). cond s (e ∷ of_trees es) (of_trees es)) (behind-none e.0 all.0) ∙ none-kept es all.1

abbrev IsLow : Row → Type 0
IsLow e = e.0.kind ≤ class_piece_kind

module _ (tables : ℕ → ℕ → Table) (ds : List Declared) (all : AllByRecursion (IsStorable tables) ds) where
  abbrev heads : Entries
  heads = map head_row ds

  abbrev texts : Entries
  texts = flat_map text_rows ds

  abbrev tops : Entries
  tops = flat_map (table_heads tables) ds

  abbrev cells : Entries
  cells = flat_map (table_rows tables) ds

  are-low : AllByRecursion IsLow (heads ++ texts)
  are-low =
      all_append IsLow heads texts (all_map IsLow Any head_row (λ d _. omega arith) ds (all_any ds))
      (all_flat IsLow Any text_rows (λ (d : Declared) _. all_map IsLow Any (text_row d.class.number) (λ p _. omega arith) (pieces_of (decl_text d.tree)) (all_any (pieces_of (decl_text d.tree)))) ds (all_any ds))

  are-passing : AllByRecursion Passes (heads ++ texts)
  are-passing = all_before Passes (heads ++ texts) tops (all_before Passes (heads ++ texts ++ tops) cells (rows_pass tables ds all))

  first-kept : of_trees (heads ++ texts) ≡ heads ++ texts
  first-kept =
      all-kept (heads ++ texts)
      (all_then (λ e. Passes e × IsLow e) IsOfTrees (λ e is. narrower e is.0 is.1) (heads ++ texts) (all_both Passes IsLow (heads ++ texts) are-passing are-low))

  tops-none : of_trees tops ≡ []
  tops-none =
      none-kept tops
      (all_flat IsBehind Any (table_heads tables)
      (λ (d : Declared) _. all_map IsBehind Any (λ place. table_head d.class.number place (tables d.class.number place)) (λ place _. omega arith) (places_of d) (all_any (places_of d))) ds (all_any ds))

  cells-none : of_trees cells ≡ []
  cells-none =
      none-kept cells
      (all_flat IsBehind Any (table_rows tables)
      (λ (d : Declared) _. all_flat IsBehind Any (λ place. table_pieces d.class.number place (tables d.class.number place))
      (λ place _. all_map IsBehind Any (table_row d.class.number place) (λ p _. omega arith) (pieces_of (table_bytes (tables d.class.number place))) (all_any (pieces_of (table_bytes (tables d.class.number place)))))
      (places_of d) (all_any (places_of d))) ds (all_any ds))

  abbrev keeps : Row → Bool
  keeps e = is_from (key class_head_kind 0 0) class_piece_kind e.0

  pub trees-kept : of_trees (class_rows tables ds) ≡ heads ++ texts
  trees-kept =
      filter-append keeps (heads ++ texts ++ tops) cells ∙ ap (λ (xs : Entries). of_trees (heads ++ texts ++ tops) ++ xs) cells-none ∙ append-nil (of_trees (heads ++ texts ++ tops))
      ∙ filter-append keeps (heads ++ texts) tops ∙ ap (λ (xs : Entries). of_trees (heads ++ texts) ++ xs) tops-none ∙ append-nil (of_trees (heads ++ texts)) ∙ first-kept

-- ---- they are decoded

module _ (tables : ℕ → ℕ → Table) (again : Again) where
  texts-decode : (ds : List Declared) → AllByRecursion (IsStorable tables) ds → Decode (flat_map text_rows ds) (pieces_found ds)
  texts-decode [] all = tt
  texts-decode (d ∷ ds) all =
      decode_append (text_rows d) (flat_map text_rows ds) (pieces_of_class d) (pieces_found ds)
      (pieces_decode d.class.number (decl_text d.tree) again all.0.small.number all.0.small.pieces 0 (piece_count (length (decl_text d.tree))) (omega arith))
      (texts-decode ds all.1)

  pub trees-decode : (ds : List Declared) → AllByRecursion (IsStorable tables) ds → decoded (map head_row ds ++ flat_map text_rows ds) ≡ Ok (heads_found ds ++ pieces_found ds)
  trees-decode ds all =
      decodes_all (map head_row ds ++ flat_map text_rows ds) (heads_found ds ++ pieces_found ds) []
      (decode_append (map head_row ds) (flat_map text_rows ds) (heads_found ds) (pieces_found ds) (heads_decode tables again ds all) (texts-decode ds all))

-- ---- the heads among them

abbrev one : Key × Record → ℕ
one f = cond (is_head f) 1 0

head-is : (d : Declared) → is_head (head_found d) ≡ true
unfolding is_head
head-is d = refl

piece-is-none : (class : ℕ) (text : List ℕ) (i : ℕ) → is_head (found_piece class text i) ≡ false
unfolding is_head
piece-is-none class text i = refl

count-text : (class : ℕ) (text : List ℕ) (i count : ℕ) → class_count (found_pieces class text i count) ≡ 0
count-text class text i zero = refl
count-text class text i (suc n) =
    sum_by-cons one (found_piece class text i) (found_pieces class text (i + 1) n)
    ∙ ap (λ (b : Bool). cond b 1 0 + class_count (found_pieces class text (i + 1) n)) (piece-is-none class text i)
    ∙ ap (λ (m : ℕ). 0 + m) (count-text class text (i + 1) n)

count-pieces : (ds : List Declared) → class_count (pieces_found ds) ≡ 0
count-pieces [] = refl
count-pieces (d ∷ ds) =
    let here = count-text d.class.number (decl_text d.tree) 0 (piece_count (length (decl_text d.tree))) in
    sum_by-append one (pieces_of_class d) (pieces_found ds) ∙ ap (λ (m : ℕ). m + class_count (pieces_found ds)) here ∙ ap (λ (m : ℕ). 0 + m) (count-pieces ds)

count-heads : (ds : List Declared) → class_count (heads_found ds) ≡ length ds
count-heads [] = refl
count-heads (d ∷ ds) =
    let last : 1 + length ds ≡ length (d ∷ ds) = omega arith in
    sum_by-cons one (head_found d) (heads_found ds) ∙ ap (λ (b : Bool). cond b 1 0 + class_count (heads_found ds)) (head-is d) ∙ ap (λ (m : ℕ). 1 + m) (count-heads ds) ∙ last

get-behind : (front : List Declared) (d : Declared) (more : List Declared) (rest : Found) (i : ℕ) → i ≡ length front → slice_get (heads_found (front ++ d ∷ more) ++ rest) i ≡ Some (head_found d)
get-behind [] d more rest zero is = refl
get-behind [] d more rest (suc i) is = absurd (omega (arith, is))
get-behind (x ∷ front) d more rest zero is = absurd (omega (arith, is))
get-behind (x ∷ front) d more rest (suc i) is = get-behind front d more rest i (omega (arith, is))

module _ (added : List Added) (all : List Declared) where
  abbrev records : Found
  records = heads_found all ++ pieces_found all

  pub as-many : class_count records ≡ length all
  as-many =
      let heads = count-heads all in
      let none = count-pieces all in
      let both = sum_by-append one (heads_found all) (pieces_found all) in
      omega (arith, heads, none, both)

  head-there : (front : List Declared) (d : Declared) (more : List Declared) → front ++ d ∷ more ≡ all → IsClass ode added front d → IsHead records d.class
  head-there front d more is class =
      let number : d.class.number ≡ length front + 1 = class.number in
      let long : length front + length (d ∷ more) ≡ length all = sym (length-append front (d ∷ more)) ∙ ap length is in
      let count = as-many in
      let zero_not : (d.class.number == 0) ≡ false = grind (arith, nat_tests, number) in
      let there : slice_get records (d.class.number - 1) ≡ Some (head_found d) =
      ap (λ (ds : List Declared). slice_get (heads_found ds ++ pieces_found all) (d.class.number - 1)) (sym is)
      ∙ get-behind front d more (pieces_found all) (d.class.number - 1) (omega (arith, number)) in
      record {
        low = omega (arith, number);
        high = omega (arith, number, long, count);
        named =
            ap (λ (b : Bool). cond b None (option_and_then (λ (f : Key × Record). name_in f.1) (slice_get records (d.class.number - 1)))) zero_not
            ∙ ap (option_and_then (λ (f : Key × Record). name_in f.1)) there;
      }

  heads-there : (front more : List Declared) → front ++ more ≡ all → AreClasses ode added front more → AllByRecursion (λ (d : Declared). IsHead records d.class) more
  heads-there front [] is classes = tt
  heads-there front (d ∷ more) is classes =
      let behind : front ++ d ∷ [] ++ more ≡ all = (let same : front ++ d ∷ [] ++ more ≡ front ++ d ∷ more = simp append_assoc in same) ∙ is in
      (head-there front d more is classes.0, heads-there (front ++ d ∷ []) more behind classes.1)

-- ---- and read as trees

module _ (added : List Added) where
  read : (earlier : List Declared) (d : Declared) → IsClass ode added earlier d → read_in ode (decl_text d.tree) ≡ Some d.tree
  read earlier d is = ap (λ (b : Bool). cond b (class_in (ode.statement_of (decl_text d.tree ++ codes ";"))) None) (short_of d is.limits) ∙ ap class_in is.text

  one-read : (earlier : List Declared) (d : Declared) → IsClass ode added earlier d → (ts : List ClassDecl) (rest : Found)
      → tree_next ode (ts, pieces_of_class d ++ rest) (head_found d) ≡ Ok (ts ++ d.tree ∷ [], rest)
  one-read earlier d is ts rest =
      let then : List ℕ × Found → Ruled Trees = λ text. found (cause.Class d.class.number) (read_in ode text.0) >>= λ t. Ok (ts ++ t ∷ [], text.1) in
      ap (λ (m : Ruled (List ℕ × Found)). m >>= then) (all_pieces_cut d.class.number (decl_text d.tree) rest)
      ∙ ap (λ (o : Option ClassDecl). found (cause.Class d.class.number) o >>= λ t. Ok (ts ++ t ∷ [], rest)) (read earlier d is)

  heads-read : (earlier ds : List Declared) → AreClasses ode added earlier ds → (rest : Found)
      → through (tree_next ode) (map tree_of earlier, pieces_found ds ++ rest) (heads_found ds) ≡ Ok (map tree_of (earlier ++ ds), rest)
  heads-read earlier [] classes rest = ap (λ (ds : List Declared). Ok (map tree_of ds, rest)) (sym (append-nil earlier))
  heads-read earlier (d ∷ ds) classes rest =
      let split : pieces_of_class d ++ pieces_found ds ++ rest ≡ pieces_of_class d ++ (pieces_found ds ++ rest) = simp append_assoc in
      let same : earlier ++ d ∷ [] ++ ds ≡ earlier ++ d ∷ ds = simp append_assoc in
      ap (λ (fs : Found). through (tree_next ode) (map tree_of earlier, fs) (heads_found (d ∷ ds))) split
      ∙ ap (λ (m : Ruled Trees). m >>= λ t. through (tree_next ode) t (heads_found ds)) (one-read earlier d classes.0 (map tree_of earlier) (pieces_found ds ++ rest))
      ∙ ap (λ (ts : List ClassDecl). through (tree_next ode) (ts, pieces_found ds ++ rest) (heads_found ds)) (sym (map-append tree_of earlier (d ∷ [])))
      ∙ heads-read (earlier ++ d ∷ []) ds classes.1 rest
      ∙ ap (λ (all : List Declared). Ok (map tree_of all, rest)) same

-- pieces are no trees
text-silent : (s : Trees) (class : ℕ) (text : List ℕ) (i count : ℕ) → through (tree_next ode) s (found_pieces class text i count) ≡ Ok s
text-silent s class text i zero = refl
text-silent s class text i (suc n) = text-silent s class text (i + 1) n

pieces-silent : (s : Trees) (ds : List Declared) → through (tree_next ode) s (pieces_found ds) ≡ Ok s
pieces-silent s [] = refl
pieces-silent s (d ∷ ds) =
    through-append (tree_next ode) s (pieces_of_class d) (pieces_found ds)
    ∙ ap (λ (m : Ruled Trees). m >>= λ t. through (tree_next ode) t (pieces_found ds)) (text-silent s d.class.number (decl_text d.tree) 0 (piece_count (length (decl_text d.tree))))
    ∙ pieces-silent s ds

module _ (added : List Added) (ds : List Declared) (classes : AreClasses ode added [] ds) where
  abbrev all_found : Found
  all_found = heads_found ds ++ pieces_found ds

  starts : drop (class_count all_found) all_found ≡ pieces_found ds ++ []
  starts =
      ap (λ (n : ℕ). drop n all_found) (as-many added ds ∙ sym (length-map ds head_found)) ∙ drop-append_seam (heads_found ds) (pieces_found ds) ∙ sym (append-nil (pieces_found ds))

  trees-are : trees_of ode all_found ≡ Ok (map tree_of ds)
  unfolding trees_of
  trees-are =
      let first : Trees = ([], pieces_found ds ++ []) in
      let ends : Ruled Trees → Ruled (List ClassDecl) = λ m. m >>= λ s. Ok s.0 in
      ap (λ (fs : Found). ends (through (tree_next ode) ([], fs) all_found)) starts
      ∙ ap ends (through-append (tree_next ode) first (heads_found ds) (pieces_found ds)
      ∙ ap (λ (m : Ruled Trees). m >>= λ t. through (tree_next ode) t (pieces_found ds)) (heads-read added [] ds classes [])
      ∙ pieces-silent (map tree_of ds, []) ds)

trees-read : Again → (entries : Entries) (tables : ℕ → ℕ → Table) (added : List Added) (ds : List Declared) → HoldClasses entries tables added ds
    → trees_in ode (length added) entries ≡ Ok (map tree_of ds, blocks added ds)
unfolding trees_in
trees-read again entries tables added ds held =
    let all : AllByRecursion (IsStorable tables) ds = are_storable tables added ds held.classes held.mean in
    let records = heads_found ds ++ pieces_found ds in
    let rows : of_trees entries ≡ map head_row ds ++ flat_map text_rows ds = trees-first entries ∙ ap of_trees held.rows ∙ trees-kept tables ds all in
    let gives : Ruled (List Added) → List ClassDecl → Ruled (List ClassDecl × List Added) = λ m ts. m >>= λ fields. Ok (ts, fields) in
    let behind : Ruled Found → Ruled (List ClassDecl × List Added) = λ m. m >>= λ rs. trees_of ode rs >>= λ ts. gives (added_in rs (length added) entries) ts in
    let few : class_count records < 2 ^ 32 = let many = few_classes added [] ds (omega arith) held.classes in let count = as-many added ds in omega (arith, count, many) in
    ap (λ (es : Entries). behind (decoded es)) rows
    ∙ ap behind (trees-decode tables again ds all)
    ∙ ap (λ (m : Ruled (List ClassDecl)). m >>= λ ts. gives (added_in records (length added) entries) ts) (trees-are added ds held.classes)
    ∙ ap (λ (m : Ruled (List Added)). gives m (map tree_of ds))
    (fields_are_read again records ds added few held.few (heads-there added ds [] ds refl held.classes) held.born (numbers_rise added [] ds 0 (omega arith) held.classes) entries held.fields)

pub known-trees : Again → ((records : Entries) (w : ListWorld) (is : HoldsWorld ode records w) → HoldClasses records is.stored.tables w.bones.added w.bones.classes)
    → (entries : Entries) (w : ListWorld) → HoldsWorld ode entries w → trees_in ode (length w.bones.added) entries ≡ Ok (machine.trees_in w.bones, class_by_class w.bones)
known-trees again holds entries w held = trees-read again entries held.stored.tables w.bones.added w.bones.classes (holds entries w held)
