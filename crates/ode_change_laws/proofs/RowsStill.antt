-- Where a class gets fields, all records stay but the counters, and those of the added fields come behind.
use Rattle.std.proofs.Common.{◌≡◌, ◌≤◌, ℕ, suc, ◌+◌, Bool, true, false, cond, List, [], ◌∷◌, ◌++◌, length, map, Option, Some, refl, ap, ◌∙◌}
use Rattle.std.specs.Prelude.{◌==◌}
use Rattle.std.proofs.lemmas.Bool.Decides.{Decides-eqb}
use Rattle.std.specs.List.{AllByRecursion, AllZip, flat_map, range_with_len}
use Rattle.std.specs.Option.{IsSome, option_map_or, unwrap_or}
use Rattle.ode_codec.specs.StoredRows.{Stored, activation_row, entry_row, head_row, object_row, pieces_of, rows, state_in, table_head, table_heads, table_pieces, table_rows, text_row, text_rows, u16, u32, version_rows}
use Rattle.ode_value.specs.declared.change.Change.{Change}
use Rattle.ode_value.specs.declared.class.Class.{Class}
use Rattle.ode_value.specs.declared.class.Field.{Field}
use Rattle.ode_value.specs.declared.member.TriggerDecl.{TriggerDecl}
use Rattle.ode_value.specs.Changing.{changed_bones, changed_number, changed_object, changed_place, changed_world, gets, literals_of, version_with}
use Rattle.ode_value.specs.Classes.{is_a}
use Rattle.ode_value.specs.Fields.{fields_of}
use Rattle.ode_value.specs.Keys.{class_head_key}
use Rattle.ode_value.specs.Objects.{Activation}
use Rattle.ode_value.specs.Pasts.{Kept, numbers}
use Rattle.ode_value.specs.PrintedClasses.{decl_text}
use Rattle.ode_value.specs.Records.{Row, byte, version_row}
use Rattle.ode_value.specs.Tables.{Table}
use Rattle.ode_value.specs.Versions.{Version}
use Rattle.ode_value.specs.Worlds.{Bones, Declared, Object, class_numbered, kept_at}
use Rattle.ode_change_laws.specs.Moves.{AreAnew, AreBehind, HasValues, IsAnew, IsClassAnew, event_where, fields_where, new_fields}
use Rattle.ode_change_laws.specs.Rows.{rows_behind, rows_between}
use Rattle.ode_change_laws.proofs.BornStill.{news, version-still}
use Rattle.ode_change_laws.proofs.MovedPasts.{numbers-stay}

-- ---- classes

module _ (at : ℕ) (new : List Field) where
  as-many : (gets : Bool) (ts us : List TriggerDecl) → AllZip (IsAnew (event_where at (length new) gets)) ts us → length us ≡ length ts
  as-many gets [] [] all = refl
  as-many gets [] (u ∷ us) all = absurd all
  as-many gets (t ∷ ts) [] all = absurd all
  as-many gets (t ∷ ts) (u ∷ us) all = ap suc (as-many gets ts us all.1)

  head-still : (gets : Bool) (c d : Declared) → IsClassAnew at new gets c d → head_row d ≡ head_row c
  head-still gets c d is =
      let many = as-many gets c.class.triggers d.class.triggers is.triggers in
      λ i. (
        class_head_key (is.number i),
        byte (length (is.name i)) ++ is.name i ++ u32 (unwrap_or (is.parent i) 0) ++ u32 (length (decl_text (is.tree i))) ++ u16 (many i),
      )

  texts-still : (gets : Bool) (c d : Declared) → IsClassAnew at new gets c d → text_rows d ≡ text_rows c
  texts-still gets c d is = λ i. map (text_row (is.number i)) (pieces_of (decl_text (is.tree i)))

  module _ (tables : ℕ → ℕ → Table) where
    abbrev heads_by : ℕ → ℕ → List Row
    heads_by number many = map (λ place. table_head number place (tables number place)) (range_with_len 0 many)

    abbrev rows_by : ℕ → ℕ → List Row
    rows_by number many = flat_map (λ place. table_pieces number place (tables number place)) (range_with_len 0 many)

    heads-still : (gets : Bool) (c d : Declared) → IsClassAnew at new gets c d → table_heads tables d ≡ table_heads tables c
    heads-still gets c d is = let many = as-many gets c.class.triggers d.class.triggers is.triggers in λ i. heads_by (is.number i) (many i)

    tables-still : (gets : Bool) (c d : Declared) → IsClassAnew at new gets c d → table_rows tables d ≡ table_rows tables c
    tables-still gets c d is = let many = as-many gets c.class.triggers d.class.triggers is.triggers in λ i. rows_by (is.number i) (many i)

  -- what each class gives by itself
  module _ {A : Type 0} (row : Declared → A) (still : (gets : Bool) (c d : Declared) → IsClassAnew at new gets c d → row d ≡ row c) (test : ℕ → Bool) where
    each-still : (cs ds : List Declared) → AreAnew at new test cs ds → map row ds ≡ map row cs
    each-still [] [] all = refl
    each-still [] (d ∷ ds) all = absurd all
    each-still (c ∷ cs) [] all = absurd all
    each-still (c ∷ cs) (d ∷ ds) all = λ i. still (test c.class.number) c d all.0 i ∷ each-still cs ds all.1 i

  module _ {A : Type 0} (list : Declared → List A) (still : (gets : Bool) (c d : Declared) → IsClassAnew at new gets c d → list d ≡ list c) (test : ℕ → Bool) where
    all-still : (cs ds : List Declared) → AreAnew at new test cs ds → flat_map list ds ≡ flat_map list cs
    all-still [] [] all = refl
    all-still [] (d ∷ ds) all = absurd all
    all-still (c ∷ cs) [] all = absurd all
    all-still (c ∷ cs) (d ∷ ds) all = λ i. still (test c.class.number) c d all.0 i ++ all-still cs ds all.1 i

  -- the fields of the class of a number
  module _ (test : ℕ → Bool) (n : ℕ) where
    abbrev fields_found : Option Class → List Field
    fields_found found = option_map_or (λ (c : Class). c.fields) found []

    pub fields-anew : (cs ds : List Declared) → AreAnew at new test cs ds → IsSome (class_numbered n cs) → fields_of ds n ≡ fields_where at new (test n) (fields_of cs n)
    fields-anew [] ds all some = absurd (cc (some))
    fields-anew (c ∷ cs) [] all some = absurd all
    fields-anew (c ∷ cs) (d ∷ ds) all some =
        ap (λ m. fields_found (cond (m == n) (Some d.class) (class_numbered n ds))) all.0.number ∙ by (c.class.number == n) refl some (fields-anew cs ds all.1)
      where
        by : (t : Bool) → (c.class.number == n) ≡ t → IsSome (cond t (Some c.class) (class_numbered n cs))
            → (IsSome (class_numbered n cs) → fields_of ds n ≡ fields_where at new (test n) (fields_of cs n))
            → fields_found (cond t (Some d.class) (class_numbered n ds)) ≡ fields_where at new (test n) (fields_found (cond t (Some c.class) (class_numbered n cs)))
        by true here some rest = all.0.fields ∙ ap (λ m. fields_where at new (test m) c.class.fields) ((Decides-eqb c.class.number n).0 here)
        by false here some rest = rest some

-- ---- objects

module _ (b : Bones) (c : Change) (classes : List Declared) where
  abbrev at : ℕ
  at = changed_place b c

  abbrev new : List Field
  new = new_fields b c classes

  each-version : (id : ℕ) (fields : List Field) (vs : List Version) → AllByRecursion (λ (v : Version). v.stamp ≤ length b.added) vs
      → AllByRecursion (λ (v : Version). length v.fields ≡ length fields) vs
      → map (version_row id (fields_where at new true fields)) (map (version_with at (literals_of c)) vs) ≡ map (version_row id fields) vs
  each-version id fields [] stamps values = refl
  each-version id fields (v ∷ vs) stamps values =
      λ i. version-still id at new (literals_of c) fields v (news (changed_number b c) v.stamp (length b.added) c stamps.0) values.0 i
      ∷ each-version id fields vs stamps.1 values.1 i

  versions-by : (o : Object) (t : Bool) → AllByRecursion (λ (v : Version). v.stamp ≤ length b.added) o.versions
      → AllByRecursion (λ (v : Version). length v.fields ≡ length (fields_of b.classes o.class)) o.versions
      → map (version_row o.id (fields_where at new t (fields_of b.classes o.class))) (cond t (map (version_with at (literals_of c)) o.versions) o.versions)
      ≡ map (version_row o.id (fields_of b.classes o.class)) o.versions
  versions-by o true stamps values = each-version o.id (fields_of b.classes o.class) o.versions stamps values
  versions-by o false stamps values = refl

  versions-still : (o : Object) → AreBehind b c classes → HasValues b c classes o → version_rows classes (changed_object b c o) ≡ version_rows b.classes o
  versions-still o behind has =
      ap (λ fields. map (version_row o.id fields) (changed_object b c o).versions) (fields-anew at new (λ number. is_a b.classes number c.class) o.class b.classes classes behind has.class)
      ∙ versions-by o (gets b c o) has.stamps has.values

  all-versions : (os : List Object) → AreBehind b c classes → AllByRecursion (HasValues b c classes) os
      → flat_map (version_rows classes) (map (changed_object b c) os) ≡ flat_map (version_rows b.classes) os
  all-versions [] behind has = refl
  all-versions (o ∷ os) behind has = λ i. versions-still o behind has.0 i ++ all-versions os behind has.1 i

  objects-still : (os : List Object) → map object_row (map (changed_object b c) os) ≡ map object_row os
  objects-still [] = refl
  objects-still (o ∷ os) = ap (λ rest. object_row o ∷ rest) (objects-still os)

  abbrev rows_in : List (ℕ × Kept (Unit {0}) ℕ) → Object → List Row
  rows_in pasts o = map (λ (a : Activation). activation_row o.id (option_map_or (state_in a.number) (kept_at o.id pasts) 0) a) o.activations

  activations-same : (pasts : List (ℕ × Kept (Unit {0}) ℕ)) (os : List Object) → flat_map (rows_in pasts) (map (changed_object b c) os) ≡ flat_map (rows_in pasts) os
  activations-same pasts [] = refl
  activations-same pasts (o ∷ os) = ap (λ rest. rows_in pasts o ++ rest) (activations-same pasts os)

-- ---- all records

pub rows-still : (s : Stored) (c : Change) (classes : List Declared) → AreBehind s.world.bones c classes → AllByRecursion (HasValues s.world.bones c classes) s.world.bones.objects
    → rows (record { world = changed_world (numbers s.tables) classes c s.world; tables = s.tables }) ≡ rows_behind (changed_bones s.world.bones c classes) (rows_between s)
rows-still s c classes behind has =
    let b = s.world.bones in
    let at = changed_place b c in
    let new = new_fields b c classes in
    let test = λ (number : ℕ). is_a b.classes number c.class in
    let heads = each-still at new head_row (head-still at new) test b.classes classes behind in
    let texts = all-still at new text_rows (texts-still at new) test b.classes classes behind in
    let tables = all-still at new (table_heads s.tables) (heads-still at new s.tables) test b.classes classes behind in
    let pieces = all-still at new (table_rows s.tables) (tables-still at new s.tables) test b.classes classes behind in
    let objects = objects-still b c classes b.objects in
    let versions = all-versions b c classes b.objects behind has in
    let activations =
    ap (λ pasts. flat_map (rows_in b c classes pasts) (map (changed_object b c) b.objects)) (numbers-stay s.tables b c classes s.world.pasts)
    ∙ activations-same b c classes s.world.pasts b.objects in
    λ i. rows_behind (changed_bones b c classes)
    (heads i ++ texts i ++ tables i ++ pieces i ++ objects i ++ versions i ++ activations i ++ map entry_row b.queue)
