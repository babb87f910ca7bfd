-- The classes of records are read as the records say.
use Rattle.std.proofs.Common.{◌≡◌, ℕ, zero, suc, ◌+◌, ◌<◌, ◌≤◌, ◌^◌, List, [], ◌∷◌, ◌++◌, map, length, drop, Bool, true, false, cond, Ok, refl, sym, ap, ◌∙◌, append_assoc, length-append, arith}
use Rattle.std.specs.Prelude.{◌==◌}
use Rattle.std.proofs.Math.Seq.{drop-append_seam}
use Rattle.std.proofs.lemmas.Bool.{eqb-true}
use Rattle.std.proofs.lemmas.Bool.Decides.{nat_tests}
use Rattle.std.proofs.lemmas.List.{append-nil, length-map, map-append}
use Rattle.std.specs.List.{AllByRecursion, flat_map}
use Rattle.ode_codec.specs.StoredRows.{places_of, table_bytes}
use Rattle.ode_keep.specs.Entries.{Entries}
use Rattle.ode_language.specs.Languages.{ode}
use Rattle.ode_opening.specs.Births.{added_in, front_of}
use Rattle.ode_opening.specs.Classes.{classes_in}
use Rattle.ode_opening.specs.Declaring.{adds, declared_in, declares_next, declares_own}
use Rattle.ode_passes.specs.Complete.{class_count, complete}
use Rattle.ode_passes.specs.Records.{Found, decoded}
use Rattle.ode_passes.specs.Rules.{Ruled, ◌>>=◌, through}
use Rattle.ode_passes.proofs.Through.{through-append}
use Rattle.ode_value.specs.Changing.{added_to}
use Rattle.ode_value.specs.GoodWorlds.{AreClasses, IsClass}
use Rattle.ode_value.specs.Lengths.{piece_count}
use Rattle.ode_value.specs.PrintedClasses.{decl_text}
use Rattle.ode_value.specs.Tables.{Table}
use Rattle.ode_value.specs.Worlds.{Declared}
use Rattle.ode_value.specs.declared.change.Added.{Added}
use Rattle.ode_value.specs.declared.class.Class.{Class}
use Rattle.ode_opening_laws.specs.Holding.{HoldClasses, class_of, class_rows, head_of}
use Rattle.ode_opening_laws.proofs.Accepting.{are_storable, is_added}
use Rattle.ode_opening_laws.proofs.BornOnce.{blocks}
use Rattle.ode_opening_laws.proofs.Decoding.{Again}
use Rattle.ode_opening_laws.proofs.Each.{all_append, all_then}
use Rattle.ode_opening_laws.proofs.Expecting.{complete_is, count_is}
use Rattle.ode_opening_laws.proofs.Fields.{all_heads, few_classes, fields_are_read, numbers_rise}
use Rattle.ode_opening_laws.proofs.Founds.{classes_decode, found_of, head_at, head_found, heads_found, pieces_at, pieces_found, pieces_of_class, table_heads_found, table_heads_of, tables_found, tables_of}
use Rattle.ode_opening_laws.proofs.Pieces.{all_pieces_cut, found_pieces}
use Rattle.ode_opening_laws.proofs.Storable.{IsStorable}
use Rattle.ode_opening_laws.proofs.TablePieces as table

abbrev Turn : Type 0
Turn = (List Class × Found) × List Added

-- ---- the fields that were added to a class come first

front_append : (class : ℕ) (own others : List Added) → AllByRecursion (λ (a : Added). (a.class == class) ≡ true) own → AllByRecursion (λ (a : Added). (a.class == class) ≡ false) others
    → front_of class (own ++ others) ≡ own
front_append class [] [] mine none = refl
front_append class [] (a ∷ others) mine none = ap (λ (b : Bool). cond b (a ∷ front_of class others) []) none.0
front_append class (a ∷ own) others mine none =
    ap (λ (b : Bool). cond b (a ∷ front_of class (own ++ others)) []) mine.0 ∙ ap (λ (rest : List Added). a ∷ rest) (front_append class own others mine.1 none)

module _ (added : List Added) where
  own_class : (n : ℕ) (xs : List Added) → AllByRecursion (λ (a : Added). (a.class == n) ≡ true) (added_to n xs)
  own_class n [] = tt
  own_class n (a ∷ xs) = by (a.class == n) refl (own_class n xs)
    where
      by : (b : Bool) → (a.class == n) ≡ b → AllByRecursion (λ (x : Added). (x.class == n) ≡ true) (added_to n xs)
          → AllByRecursion (λ (x : Added). (x.class == n) ≡ true) (cond b (a ∷ added_to n xs) (added_to n xs))
      by true is rest = (is, rest)
      by false is rest = rest

  other_class : (class n : ℕ) (a : Added) → class < n → (a.class == n) ≡ true → (a.class == class) ≡ false
  other_class class n a less is = let same : a.class ≡ n = eqb-true a.class n is in grind (arith, nat_tests, same, less)

  others : (class : ℕ) (earlier ds : List Declared) → class ≤ length earlier → AreClasses ode added earlier ds → AllByRecursion (λ (a : Added). (a.class == class) ≡ false) (blocks added ds)
  others class earlier [] less classes = tt
  others class earlier (d ∷ ds) less classes =
      let number : d.class.number ≡ length earlier + 1 = classes.0.number in
      all_append (λ (a : Added). (a.class == class) ≡ false) (added_to d.class.number added) (blocks added ds)
      (all_then (λ (a : Added). (a.class == d.class.number) ≡ true) (λ (a : Added). (a.class == class) ≡ false) (λ a is. other_class class d.class.number a (omega (arith, number, less)) is)
      (added_to d.class.number added) (own_class d.class.number added))
      (others class (earlier ++ d ∷ []) ds (omega (arith, less, length-append earlier (d ∷ []))) classes.1)

  own_first : (earlier : List Declared) (d : Declared) (ds : List Declared) → AreClasses ode added earlier (d ∷ ds)
      → front_of d.class.number (blocks added (d ∷ ds)) ≡ added_to d.class.number added
  own_first earlier d ds classes =
      let number : d.class.number ≡ length earlier + 1 = classes.0.number in
      front_append d.class.number (added_to d.class.number added) (blocks added ds) (own_class d.class.number added)
      (others d.class.number (earlier ++ d ∷ []) ds (omega (arith, number, length-append earlier (d ∷ []))) classes.1)

  -- one class
  one_read : (earlier : List Declared) (d : Declared) → IsClass ode added earlier d → (rest : Found) (fields : List Added) → front_of d.class.number (added_to d.class.number added ++ fields) ≡ added_to d.class.number added
      → declares_next ode ((map class_of earlier, pieces_of_class d ++ rest), added_to d.class.number added ++ fields) (head_found d) ≡ Ok ((map class_of (earlier ++ d ∷ []), rest), fields)
  one_read earlier d is rest fields first =
      let own = added_to d.class.number added in
      let all = own ++ fields in
      let behind : List ℕ × Found → Ruled (List Class × Found) = λ t. adds ode (map class_of earlier) own d.class.number (head_of d) t.0 >>= λ cs. Ok (cs, t.1) in
      let then : Ruled (List Class × Found) → Ruled Turn = λ m. m >>= λ t. Ok (t, drop (length own) all) in
      ap (λ (mine : List Added). declares_own ode mine all (head_found d) (map class_of earlier, pieces_of_class d ++ rest)) first
      ∙ ap (λ (m : Ruled (List ℕ × Found)). then (m >>= behind)) (all_pieces_cut d.class.number (decl_text d.tree) rest)
      ∙ ap (λ (m : Ruled (List Class)). then (m >>= λ cs. Ok (cs, rest))) (is_added added earlier d is)
      ∙ ap (λ (more : List Added). Ok ((map class_of earlier ++ d.class ∷ [], rest), more)) (drop-append_seam own fields)
      ∙ ap (λ (cs : List Class). Ok ((cs, rest), fields)) (sym (map-append class_of earlier (d ∷ [])))

  -- the heads
  heads_read : (earlier ds : List Declared) → AreClasses ode added earlier ds → (rest : Found)
      → through (declares_next ode) ((map class_of earlier, pieces_found ds ++ rest), blocks added ds) (heads_found ds) ≡ Ok ((map class_of (earlier ++ ds), rest), [])
  heads_read earlier [] classes rest = ap (λ (ds : List Declared). Ok ((map class_of ds, rest), [])) (sym (append-nil earlier))
  heads_read earlier (d ∷ ds) classes rest =
      let split : pieces_of_class d ++ pieces_found ds ++ rest ≡ pieces_of_class d ++ (pieces_found ds ++ rest) = simp append_assoc in
      let same : earlier ++ d ∷ [] ++ ds ≡ earlier ++ d ∷ ds = simp append_assoc in
      ap (λ (fs : Found). through (declares_next ode) ((map class_of earlier, fs), blocks added (d ∷ ds)) (heads_found (d ∷ ds))) split
      ∙ ap (λ (m : Ruled Turn). m >>= λ t. through (declares_next ode) t (heads_found ds))
      (one_read earlier d classes.0 (pieces_found ds ++ rest) (blocks added ds) (own_first earlier d ds classes))
      ∙ heads_read (earlier ++ d ∷ []) ds classes.1 rest
      ∙ ap (λ (all : List Declared). Ok ((map class_of all, rest), [])) same

-- pieces declare nothing
text_silent : (s : Turn) (class : ℕ) (text : List ℕ) (i count : ℕ) → through (declares_next ode) s (found_pieces class text i count) ≡ Ok s
text_silent s class text i zero = refl
text_silent s class text i (suc n) = text_silent s class text (i + 1) n

pieces_silent : (s : Turn) (ds : List Declared) → through (declares_next ode) s (pieces_found ds) ≡ Ok s
pieces_silent s [] = refl
pieces_silent s (d ∷ ds) =
    through-append (declares_next ode) s (pieces_of_class d) (pieces_found ds)
    ∙ ap (λ (m : Ruled Turn). m >>= λ t. through (declares_next ode) t (pieces_found ds)) (text_silent s d.class.number (decl_text d.tree) 0 (piece_count (length (decl_text d.tree))))
    ∙ pieces_silent s ds

-- nor do the records of tables
none_silent : {X : Type 0} (s : Turn) (f : X → Found) → ((x : X) → through (declares_next ode) s (f x) ≡ Ok s) → (xs : List X) → through (declares_next ode) s (flat_map f xs) ≡ Ok s
none_silent s f none [] = refl
none_silent s f none (x ∷ xs) =
    through-append (declares_next ode) s (f x) (flat_map f xs)
    ∙ ap (λ (m : Ruled Turn). m >>= λ t. through (declares_next ode) t (flat_map f xs)) (none x) ∙ none_silent s f none xs

module _ (tables : ℕ → ℕ → Table) (s : Turn) where
  heads_silent : (class : ℕ) (places : List ℕ) → through (declares_next ode) s (map (head_at tables class) places) ≡ Ok s
  heads_silent class [] = refl
  heads_silent class (place ∷ places) = heads_silent class places

  table_silent : (class place : ℕ) (t : Table) (i count : ℕ) → through (declares_next ode) s (table.found_pieces class place t i count) ≡ Ok s
  table_silent class place t i zero = refl
  table_silent class place t i (suc n) = table_silent class place t (i + 1) n

  tables_silent : (ds : List Declared) → through (declares_next ode) s (table_heads_found tables ds ++ tables_found tables ds) ≡ Ok s
  tables_silent ds =
      through-append (declares_next ode) s (table_heads_found tables ds) (tables_found tables ds)
      ∙ ap (λ (m : Ruled Turn). m >>= λ t. through (declares_next ode) t (tables_found tables ds))
      (none_silent s (table_heads_of tables) (λ (d : Declared). heads_silent d.class.number (places_of d)) ds)
      ∙ none_silent s (tables_of tables)
      (λ (d : Declared). none_silent s (pieces_at tables d.class.number)
      (λ place. table_silent d.class.number place (tables d.class.number place) 0 (piece_count (length (table_bytes (tables d.class.number place))))) (places_of d)) ds

module _ (tables : ℕ → ℕ → Table) (added : List Added) (ds : List Declared) (classes : AreClasses ode added [] ds) where
  abbrev rest : Found
  rest = table_heads_found tables ds ++ tables_found tables ds

  abbrev fields : List Added
  fields = blocks added ds

  in_parts : found_of tables ds ≡ heads_found ds ++ (pieces_found ds ++ rest)
  in_parts = simp append_assoc

  start : drop (class_count (found_of tables ds)) (found_of tables ds) ≡ pieces_found ds ++ rest
  start =
      ap (λ n. drop n (found_of tables ds)) (count_is tables ds ∙ sym (length-map ds head_found))
      ∙ ap (drop (length (heads_found ds))) in_parts ∙ drop-append_seam (heads_found ds) (pieces_found ds ++ rest)

  all_read : through (declares_next ode) (([], pieces_found ds ++ rest), fields) (found_of tables ds) ≡ Ok ((map class_of ds, rest), [])
  all_read =
      let step = declares_next ode in
      let first : Turn = (([], pieces_found ds ++ rest), fields) in
      let turn : Turn = ((map class_of ds, rest), []) in
      ap (through step first) in_parts
      ∙ through-append step first (heads_found ds) (pieces_found ds ++ rest)
      ∙ ap (λ (m : Ruled Turn). m >>= λ t. through step t (pieces_found ds ++ rest)) (heads_read added [] ds classes rest)
      ∙ through-append step turn (pieces_found ds) rest
      ∙ ap (λ (m : Ruled Turn). m >>= λ t. through step t rest) (pieces_silent turn ds)
      ∙ tables_silent tables turn ds

  declared_is : declared_in ode fields (found_of tables ds) ≡ Ok (map class_of ds)
  unfolding declared_in
  declared_is =
      ap (λ (fs : Found). through (declares_next ode) (([], fs), fields) (found_of tables ds) >>= λ s. Ok s.0.0) start
      ∙ ap (λ (m : Ruled Turn). m >>= λ s. Ok s.0.0) all_read

pub classes_are_read : Again → (entries : Entries) (tables : ℕ → ℕ → Table) (added : List Added) (ds : List Declared) → HoldClasses entries tables added ds
    → classes_in ode (length added) entries ≡ Ok (map class_of ds)
unfolding classes_in
classes_are_read again entries tables added ds held =
    let all : AllByRecursion (IsStorable tables) ds = are_storable tables added ds held.classes held.mean in
    let records = found_of tables ds in
    let found : decoded (class_rows tables ds) ≡ Ok records = classes_decode tables again ds all in
    let declare : Ruled (List Added) → Ruled (List Class) = λ m. m >>= λ fields. declared_in ode fields records in
    let behind : Ruled Found → Ruled (List Class) = λ m. m >>= λ rs. complete rs >>= λ _. added_in rs (length added) entries >>= λ fields. declared_in ode fields rs in
    let few : class_count records < 2 ^ 32 = let many = few_classes added [] ds (omega arith) held.classes in omega (arith, count_is tables ds, many) in
    ap (λ (es : Entries). behind (decoded es)) held.rows
    ∙ ap behind found
    ∙ ap (λ (m : Ruled (Unit {0})). m >>= λ _. declare (added_in records (length added) entries)) (complete_is tables added ds held.classes all)
    ∙ ap declare (fields_are_read again records ds added few held.few (all_heads tables added ds held.classes) held.born (numbers_rise added [] ds 0 (omega arith) held.classes) entries held.fields)
    ∙ declared_is tables added ds held.classes
