-- The rows of a stored database with one more class.
use Rattle.std.proofs.Common.{◌≡◌, ◌<◌, ◌≤◌, ℕ, ◌+◌, ◌*◌, cond, Bool, true, false, List, [], ◌∷◌, ◌++◌, length, map, ◌==◌, Option, Some, None, length-append, refl, sym, ◌∙◌, ap, arith, append_assoc, subst}
use Rattle.std.proofs.lemmas.Bool.Decides.{Decides-eqb}
use Rattle.std.proofs.lemmas.Grind.{flat_map-append}
use Rattle.std.proofs.lemmas.List.{append-nil, map-append}
use Rattle.std.specs.Prelude.{slice_index_or}
use Rattle.std.specs.List.{AllByRecursion, enumerate_from, flat_map, range_with_len}
use Rattle.std.specs.Option.{IsSome, option_map_or}
use Rattle.ode_codec.specs.declared.record.TheConstants.{TABLE_PLACES}
use Rattle.ode_codec.specs.StoredRows.{Stored, activation_rows, added_row, added_rows, counters_row, entry_row, head_row, object_row, pieces_of, places_of, referred, rows, sort_number, table_bytes, table_head, table_heads, table_pieces, table_row, table_rows, text_row, text_rows, u32, version_rows, activation_row, state_of}
use Rattle.ode_keep.specs.Entries.{Entries, applied}
use Rattle.ode_laws.proofs.Each.{all-append}
use Rattle.ode_laws.proofs.Numbers.{apart}
use Rattle.ode_value.specs.Changing.{added_to}
use Rattle.ode_value.specs.Fields.{fields_of}
use Rattle.ode_value.specs.GoodWorlds.{AreAdded, IsAdded, IsKnownSort}
use Rattle.ode_value.specs.Keys.{added_key, class_head_kind, class_piece_kind, table_head_kind, table_piece_kind}
use Rattle.ode_value.specs.Lengths.{piece_count}
use Rattle.ode_value.specs.PrintedClasses.{decl_text}
use Rattle.ode_value.specs.Records.{Row, byte, spelled_value, version_row}
use Rattle.ode_value.specs.Tables.{Table}
use Rattle.ode_value.specs.Objects.{Activation}
use Rattle.ode_value.specs.Worlds.{Bones, Declared, Entry, Object, World, class_named, class_numbered}
use Rattle.ode_value.specs.declared.change.Added.{Added}
use Rattle.ode_value.specs.declared.class.Class.{Class}
use Rattle.ode_value.specs.declared.class.Field.{Field}
use Rattle.ode_value.specs.declared.statement.Sort.{Sort}
use Rattle.ode_value.specs.declared.statement.Sort.TheVariants as sort
use Rattle.ode_class_records.specs.ClassRows.{IsSized, IsStoredBy, class_rows, head_at, pieces_at}
use Rattle.ode_class_records.specs.Puts.{puts}
use Rattle.ode_class_records.proofs.ClimbLaws.{Climbs}
use Rattle.ode_class_records.proofs.RowLaws.{heads_climb, heads_stored, tables_climb, tables_stored, text_climbs}
use Rattle.ode_class_laws.specs.Declaring.{AreBefore, AreOf, bones_with, stored_with, tables_with}
use Rattle.ode_class_laws.proofs.GoodLaws.{found_more, low_number, named_more, some_of}
use Rattle.ode_class_laws.proofs.Insertion.{Earlier, Higher, Lower, applied_both, behind_earlier, higher_earlier, lower_climbs, lower_earlier}

-- ---- tables by class and place

-- another class has the tables that it had
pub other_table : (class : ℕ) (own : List Table) (tables : ℕ → ℕ → Table) (number place : ℕ) → number < class → tables_with class own tables number place ≡ tables number place
other_table class own tables number place less = ap (λ b. cond b (slice_index_or own place (tables number place)) (tables number place)) (apart number class less)

same_number : (n : ℕ) → (n == n) ≡ true
same_number n = (Decides-eqb n n).1 refl

-- the class itself has its own
own_from : (class : ℕ) (tables : ℕ → ℕ → Table) (front own : List Table)
    → map (tables_with class (front ++ own) tables class) (range_with_len (length front) (length own)) ≡ own
own_from class tables front [] = refl
own_from class tables front (t ∷ own) =
    let here : tables_with class (front ++ t ∷ own) tables class (length front) ≡ t =
    ap (λ b. cond b (slice_index_or (front ++ t ∷ own) (length front) (tables class (length front))) (tables class (length front))) (same_number class)
    ∙ index_behind front t own (tables class (length front)) in
    let longer : length (front ++ t ∷ []) ≡ length front + 1 = length-append front (t ∷ []) in
    let rest = own_from class tables (front ++ t ∷ []) own in
    ap (λ x. x ∷ map (tables_with class (front ++ t ∷ own) tables class) (range_with_len (length front + 1) (length own))) here
    ∙ ap (λ xs. t ∷ xs)
    (ap (λ n. map (tables_with class (front ++ t ∷ own) tables class) (range_with_len n (length own))) (sym longer)
    ∙ ap (λ all. map (tables_with class all tables class) (range_with_len (length (front ++ t ∷ [])) (length own))) (sym (append_assoc front (t ∷ []) own))
    ∙ rest)
  where
    index_behind : (xs : List Table) (y : Table) (ys : List Table) (d : Table) → slice_index_or (xs ++ y ∷ ys) (length xs) d ≡ y
    index_behind [] y ys d = refl
    index_behind (x ∷ xs) y ys d = index_behind xs y ys d

pub own_tables : (c : Declared) (own : List Table) (tables : ℕ → ℕ → Table) → length own ≡ length c.class.triggers
    → map (tables_with c.class.number own tables c.class.number) (places_of c) ≡ own
own_tables c own tables same =
    ap (λ n. map (tables_with c.class.number own tables c.class.number) (range_with_len 0 n)) (sym same) ∙ own_from c.class.number tables [] own

pub own_is : (s : Stored) (c : Declared) (own : List Table) → length own ≡ length c.class.triggers → IsStoredBy (stored_with c own s).tables c c.class (decl_text c.tree) own
own_is s c own same = record { class_is = refl; text_is = refl; tables_are = own_tables c own s.tables same }

-- ---- rows of the classes that are there

module _ {X : Type 0} (P : Row → Type 0) (f : X → List Row) where
  pub all_flat : (xs : List X) → AllByRecursion (λ x. AllByRecursion P (f x)) xs → AllByRecursion P (flat_map f xs)
  all_flat [] all = tt
  all_flat (x ∷ xs) all = all-append P (f x) (flat_map f xs) all.0 (all_flat xs all.1)

-- what holds of each row of a range
all_mapped : {X : Type 0} (P : Row → Type 0) (row : X → Row) → ((x : X) → P (row x)) → (xs : List X) → AllByRecursion P (map row xs)
all_mapped P row h [] = tt
all_mapped P row h (x ∷ xs) = (h x, all_mapped P row h xs)

module _ (n : ℕ) where
  abbrev IsEarlier : ℕ → Row → Type 0
  IsEarlier kind e = (e.0.kind ≡ kind) × (e.0.a < n)

  heads_earlier : (cs : List Declared) → AreBefore n cs → Earlier class_head_kind n (map head_row cs)
  heads_earlier [] all = tt
  heads_earlier (c ∷ cs) all = ((refl, all.0), heads_earlier cs all.1)

  texts_earlier : (cs : List Declared) → AreBefore n cs → Earlier class_piece_kind n (flat_map text_rows cs)
  texts_earlier [] all = tt
  texts_earlier (c ∷ cs) all =
      all-append (IsEarlier class_piece_kind) (text_rows c) (flat_map text_rows cs)
      (all_mapped (IsEarlier class_piece_kind) (text_row c.class.number) (λ piece. (refl, all.0)) (pieces_of (decl_text c.tree))) (texts_earlier cs all.1)

  module _ (tables : ℕ → ℕ → Table) where
    table_heads_earlier : (cs : List Declared) → AreBefore n cs → Earlier table_head_kind n (flat_map (table_heads tables) cs)
    table_heads_earlier [] all = tt
    table_heads_earlier (c ∷ cs) all =
        all-append (IsEarlier table_head_kind) (table_heads tables c) (flat_map (table_heads tables) cs)
        (all_mapped (IsEarlier table_head_kind) (λ place. table_head c.class.number place (tables c.class.number place)) (λ place. (refl, all.0)) (places_of c)) (table_heads_earlier cs all.1)

    own_pieces_earlier : (class : ℕ) → class < n → (places : List ℕ)
        → Earlier table_piece_kind n (flat_map (λ place. table_pieces class place (tables class place)) places)
    own_pieces_earlier class less [] = tt
    own_pieces_earlier class less (place ∷ places) =
        all-append (IsEarlier table_piece_kind) (table_pieces class place (tables class place)) (flat_map (λ place. table_pieces class place (tables class place)) places)
        (all_mapped (IsEarlier table_piece_kind) (table_row class place) (λ piece. (refl, less)) (pieces_of (table_bytes (tables class place))))
        (own_pieces_earlier class less places)

    tables_earlier : (cs : List Declared) → AreBefore n cs → Earlier table_piece_kind n (flat_map (table_rows tables) cs)
    tables_earlier [] all = tt
    tables_earlier (c ∷ cs) all =
        all-append (IsEarlier table_piece_kind) (table_rows tables c) (flat_map (table_rows tables) cs)
        (own_pieces_earlier c.class.number all.0 (places_of c)) (tables_earlier cs all.1)

  -- they are the same with tables of another class
  module _ (own : List Table) (tables : ℕ → ℕ → Table) where
    heads_same : (cs : List Declared) → AreBefore n cs → flat_map (table_heads (tables_with n own tables)) cs ≡ flat_map (table_heads tables) cs
    heads_same [] all = refl
    heads_same (c ∷ cs) all =
        let d = c.class.number in
        ap (λ b. map (λ place. table_head d place (cond b (slice_index_or own place (tables d place)) (tables d place))) (places_of c) ++ flat_map (table_heads (tables_with n own tables)) cs) (apart d n all.0)
        ∙ ap (λ rs. table_heads tables c ++ rs) (heads_same cs all.1)

    tables_same : (cs : List Declared) → AreBefore n cs → flat_map (table_rows (tables_with n own tables)) cs ≡ flat_map (table_rows tables) cs
    tables_same [] all = refl
    tables_same (c ∷ cs) all =
        let d = c.class.number in
        ap (λ b. flat_map (λ place. table_pieces d place (cond b (slice_index_or own place (tables d place)) (tables d place))) (places_of c) ++ flat_map (table_rows (tables_with n own tables)) cs) (apart d n all.0)
        ∙ ap (λ rs. table_rows tables c ++ rs) (tables_same cs all.1)

-- ---- rows behind those of classes

objects_high : (os : List Object) → Higher table_piece_kind (map object_row os)
objects_high os = all_mapped (λ (e : Row). table_piece_kind < e.0.kind) object_row (λ o. omega arith) os

versions_high : (cs : List Declared) (os : List Object) → Higher table_piece_kind (flat_map (version_rows cs) os)
versions_high cs [] = tt
versions_high cs (o ∷ os) =
    all-append (λ (e : Row). table_piece_kind < e.0.kind) (version_rows cs o) (flat_map (version_rows cs) os)
    (all_mapped (λ (e : Row). table_piece_kind < e.0.kind) (version_row o.id (fields_of cs o.class)) (λ v. omega arith) o.versions) (versions_high cs os)

activations_high : (w : World (Unit {0}) ℕ) (os : List Object) → Higher table_piece_kind (flat_map (activation_rows w) os)
activations_high w [] = tt
activations_high w (o ∷ os) =
    all-append (λ (e : Row). table_piece_kind < e.0.kind) (activation_rows w o) (flat_map (activation_rows w) os)
    (all_of w o o.activations) (activations_high w os)
  where
    all_of : (w : World (Unit {0}) ℕ) (o : Object) (as_ : List Activation)
        → Higher table_piece_kind (map (λ (a : Activation). activation_row o.id (state_of w o.id a.number) a) as_)
    all_of w o [] = tt
    all_of w o (a ∷ more) = (omega arith, all_of w o more)

entries_high : (qs : List (ℕ × Entry)) → Higher table_piece_kind (map entry_row qs)
entries_high [] = tt
entries_high (q ∷ qs) = (omega arith, entries_high qs)

-- ---- rows of objects, and of added fields

abbrev fields_in : Option Class → List Field
fields_in found = option_map_or (λ (k : Class). k.fields) found []

-- one more class leaves the fields of the others
fields_more : (cs : List Declared) (c : Declared) (n : ℕ) → IsSome (class_numbered n cs) → fields_of (cs ++ c ∷ []) n ≡ fields_of cs n
fields_more cs c n known = by_class (class_numbered n cs) refl known where
  by_class : (found : Option Class) → class_numbered n cs ≡ found → IsSome found → fields_of (cs ++ c ∷ []) n ≡ fields_of cs n
  by_class None is some = absurd (cc)
  by_class (Some k) is some = ap fields_in (found_more n cs (c ∷ []) k is) ∙ ap fields_in (sym is)

versions_same : (cs : List Declared) (c : Declared) (os : List Object) → AreOf cs os → flat_map (version_rows (cs ++ c ∷ [])) os ≡ flat_map (version_rows cs) os
versions_same cs c [] known = refl
versions_same cs c (o ∷ os) known =
    ap (λ (fields : List Field). map (version_row o.id fields) o.versions ++ flat_map (version_rows (cs ++ c ∷ [])) os) (fields_more cs c o.class known.0)
    ∙ ap (λ rs. version_rows cs o ++ rs) (versions_same cs c os known.1)

-- ---- added fields, whose classes are there

referred_more : (cs : List Declared) (c : Declared) (s : Sort) → IsKnownSort cs s → referred (cs ++ c ∷ []) s ≡ referred cs s
referred_more cs c (sort.Reference name) known =
    let it = some_of (class_named name cs) known in
    let number = λ (found : Option Class). option_map_or (λ (k : Class). k.number) found 0 in
    ap number (named_more name cs (c ∷ []) it.0 it.1) ∙ ap number (sym it.1)
referred_more cs c sort.Int known = refl
referred_more cs c sort.Bool known = refl
referred_more cs c sort.Text known = refl
referred_more cs c sort.Void known = refl

row_more : (cs : List Declared) (c : Declared) (a : Added) → IsAdded cs a → added_row (cs ++ c ∷ []) a ≡ added_row cs a
row_more cs c a is =
    ap (λ (n : ℕ). (added_key a.class a.birth, byte (length a.name) ++ a.name ++ byte (sort_number a.sort) ++ u32 n ++ spelled_value a.value)) (referred_more cs c a.sort is.sort)

own_more : (cs : List Declared) (c : Declared) (class birth : ℕ) (xs : List Added) → AreAdded cs birth xs → map (added_row (cs ++ c ∷ [])) (added_to class xs) ≡ map (added_row cs) (added_to class xs)
own_more cs c class birth [] are = refl
own_more cs c class birth (a ∷ xs) are = by (a.class == class) (own_more cs c class (birth + 1) xs are.2)
  where
    by : (b : Bool) → map (added_row (cs ++ c ∷ [])) (added_to class xs) ≡ map (added_row cs) (added_to class xs)
        → map (added_row (cs ++ c ∷ [])) (cond b (a ∷ added_to class xs) (added_to class xs)) ≡ map (added_row cs) (cond b (a ∷ added_to class xs) (added_to class xs))
    by true more =
        ap (λ (e : Row). e ∷ map (added_row (cs ++ c ∷ [])) (added_to class xs)) (row_more cs c a are.1)
        ∙ ap (λ (es : Entries). added_row cs a ∷ es) more
    by false more = more

fields_same : (b : Bones) (c : Declared) → AreAdded b.classes 1 b.added → (ds : List Declared) → flat_map (added_rows (bones_with c b)) ds ≡ flat_map (added_rows b) ds
fields_same b c are [] = refl
fields_same b c are (d ∷ ds) =
    ap (λ (es : Entries). es ++ flat_map (added_rows (bones_with c b)) ds) (own_more b.classes c d.class.number 1 b.added are)
    ∙ ap (λ (es : Entries). added_rows b d ++ es) (fields_same b c are ds)

-- a class that wasn't there has none
none_own : (cs : List Declared) (n birth : ℕ) (xs : List Added) → AreBefore n cs → AreAdded cs birth xs → added_to n xs ≡ []
none_own cs n birth [] before are = refl
none_own cs n birth (a ∷ xs) before are =
    let it = some_of (class_numbered a.class cs) are.1.class in
    ap (λ (b : Bool). cond b (a ∷ added_to n xs) (added_to n xs)) (apart a.class n (low_number n a.class cs it.0 before it.1)) ∙ none_own cs n (birth + 1) xs before are.2

fields_high : (b : Bones) (ds : List Declared) → Higher table_piece_kind (flat_map (added_rows b) ds)
fields_high b [] = tt
fields_high b (d ∷ ds) =
    all-append (λ (e : Row). table_piece_kind < e.0.kind) (added_rows b d) (flat_map (added_rows b) ds)
    (all_mapped (λ (e : Row). table_piece_kind < e.0.kind) (added_row b.classes) (λ a. omega arith) (added_to d.class.number b.added)) (fields_high b ds)

-- nine lists, grouped from the right
regroup : (a t h p o v x q r : Entries) → a ++ t ++ h ++ p ++ o ++ v ++ x ++ q ++ r ≡ a ++ (t ++ (h ++ (p ++ (o ++ (v ++ (x ++ (q ++ r)))))))
regroup a t h p o v x q r =
    append_assoc (a ++ t ++ h ++ p ++ o ++ v ++ x) q r
    ∙ append_assoc (a ++ t ++ h ++ p ++ o ++ v) x (q ++ r)
    ∙ append_assoc (a ++ t ++ h ++ p ++ o) v (x ++ (q ++ r))
    ∙ append_assoc (a ++ t ++ h ++ p) o (v ++ (x ++ (q ++ r)))
    ∙ append_assoc (a ++ t ++ h) p (o ++ (v ++ (x ++ (q ++ r))))
    ∙ append_assoc (a ++ t) h (p ++ (o ++ (v ++ (x ++ (q ++ r)))))
    ∙ append_assoc a t (h ++ (p ++ (o ++ (v ++ (x ++ (q ++ r))))))

raise : (low top : ℕ) (es : Entries) → low ≤ top → Higher top es → Higher low es
raise low top [] le all = tt
raise low top (e ∷ es) le all = (omega (arith, le, all.0), raise low top es le all.1)

one_flat : {X : Type 0} (f : X → List Row) (xs : List X) (x : X) → flat_map f (xs ++ x ∷ []) ≡ flat_map f xs ++ f x
one_flat f xs x = flat_map-append f xs (x ∷ []) ∙ ap (λ rs. flat_map f xs ++ rs) (append-nil (f x))

module _ (s : Stored) (c : Declared) (own : List Table) (same : length own ≡ length c.class.triggers) (sized : AllByRecursion IsSized own)
    (before : AreBefore c.class.number s.world.bones.classes) (known : AreOf s.world.bones.classes s.world.bones.objects) (fields : AreAdded s.world.bones.classes 1 s.world.bones.added) where
  abbrev n : ℕ
  n = c.class.number

  abbrev cs : List Declared
  cs = s.world.bones.classes

  abbrev by : ℕ → ℕ → Table
  by = tables_with n own s.tables

  abbrev F : Entries
  F = counters_row s.world.bones ∷ []

  abbrev H : Entries
  H = map head_row cs

  abbrev T : Entries
  T = flat_map text_rows cs

  abbrev I : Entries
  I = flat_map (table_heads s.tables) cs

  abbrev P : Entries
  P = flat_map (table_rows s.tables) cs

  abbrev O : Entries
  O = map object_row s.world.bones.objects

  abbrev V : Entries
  V = flat_map (version_rows cs) s.world.bones.objects

  abbrev A : Entries
  A = flat_map (activation_rows s.world) s.world.bones.objects

  abbrev Q : Entries
  Q = map entry_row s.world.bones.queue

  abbrev R : Entries
  R = flat_map (added_rows s.world.bones) cs

  abbrev Z : Entries
  Z = O ++ (V ++ (A ++ (Q ++ R)))

  abbrev h : List Row
  h = head_row c ∷ []

  abbrev t : List Row
  t = text_rows c

  abbrev i : List Row
  i = table_heads by c

  abbrev p : List Row
  p = table_rows by c

  behind_high : Higher table_piece_kind Z
  behind_high =
      let test = λ (e : Row). table_piece_kind < e.0.kind in
      all-append test O (V ++ (A ++ (Q ++ R))) (objects_high s.world.bones.objects)
      (all-append test V (A ++ (Q ++ R)) (versions_high cs s.world.bones.objects)
      (all-append test A (Q ++ R) (activations_high s.world s.world.bones.objects) (all-append test Q R (entries_high s.world.bones.queue) (fields_high s.world.bones cs))))

  tables_high : Higher table_head_kind (P ++ Z)
  tables_high =
      all-append (λ (e : Row). table_head_kind < e.0.kind) P Z (higher_earlier table_piece_kind n table_head_kind P (omega arith) (tables_earlier n s.tables cs before))
      (raise table_head_kind table_piece_kind Z (omega arith) behind_high)

  heads_high : Higher class_piece_kind (I ++ (P ++ Z))
  heads_high =
      all-append (λ (e : Row). class_piece_kind < e.0.kind) I (P ++ Z) (higher_earlier table_head_kind n class_piece_kind I (omega arith) (table_heads_earlier n s.tables cs before))
      (raise class_piece_kind table_head_kind (P ++ Z) (omega arith) tables_high)

  texts_high : Higher class_head_kind (T ++ (I ++ (P ++ Z)))
  texts_high =
      all-append (λ (e : Row). class_head_kind < e.0.kind) T (I ++ (P ++ Z)) (higher_earlier class_piece_kind n class_head_kind T (omega arith) (texts_earlier n cs before))
      (raise class_head_kind class_piece_kind (I ++ (P ++ Z)) (omega arith) heads_high)

  heads_are : Climbs table_head_kind n 0 (0 + length own) i
  heads_are =
      subst (Climbs table_head_kind n 0 (0 + length own))
      (ap (λ (ts : List Table). map (head_at n) (enumerate_from 0 ts)) (sym (own_tables c own s.tables same)) ∙ heads_stored by c) (heads_climb n 0 own)

  tables_are : Climbs table_piece_kind n 0 ((0 + length own) * TABLE_PLACES) p
  tables_are =
      subst (Climbs table_piece_kind n 0 ((0 + length own) * TABLE_PLACES))
      (ap (λ (ts : List Table). flat_map (pieces_at n) (enumerate_from 0 ts)) (sym (own_tables c own s.tables same)) ∙ tables_stored by c) (tables_climb n 0 own sized)

  abbrev F1 : Entries
  F1 = F ++ (H ++ h)

  abbrev F2 : Entries
  F2 = F1 ++ (T ++ t)

  abbrev F3 : Entries
  F3 = F2 ++ (I ++ i)

  low1 : Lower class_piece_kind F1
  low1 = all-append (λ (e : Row). e.0.kind < class_piece_kind) F (H ++ h) (omega arith, tt)
      (all-append (λ (e : Row). e.0.kind < class_piece_kind) H h (lower_earlier class_head_kind n class_piece_kind H (omega arith) (heads_earlier n cs before)) (omega arith, tt))

  lift : (low top : ℕ) (es : Entries) → low ≤ top → Lower low es → Lower top es
  lift low top [] le all = tt
  lift low top (e ∷ es) le all = (omega (arith, le, all.0), lift low top es le all.1)

  low2 : Lower table_head_kind F2
  low2 = all-append (λ (e : Row). e.0.kind < table_head_kind) F1 (T ++ t) (lift class_piece_kind table_head_kind F1 (omega arith) low1)
      (all-append (λ (e : Row). e.0.kind < table_head_kind) T t (lower_earlier class_piece_kind n table_head_kind T (omega arith) (texts_earlier n cs before))
      (lower_climbs class_piece_kind n 0 (piece_count (length (decl_text c.tree))) table_head_kind t (omega arith) (text_climbs n (decl_text c.tree))))

  low3 : Lower table_piece_kind F3
  low3 = all-append (λ (e : Row). e.0.kind < table_piece_kind) F2 (I ++ i) (lift table_head_kind table_piece_kind F2 (omega arith) low2)
      (all-append (λ (e : Row). e.0.kind < table_piece_kind) I i (lower_earlier table_head_kind n table_piece_kind I (omega arith) (table_heads_earlier n s.tables cs before))
      (lower_climbs table_head_kind n 0 (0 + length own) table_piece_kind i (omega arith) heads_are))

  with_head : applied (puts h) (F ++ (H ++ (T ++ (I ++ (P ++ Z))))) ≡ F1 ++ (T ++ (I ++ (P ++ Z)))
  with_head = behind_earlier class_head_kind n 1 h F H (T ++ (I ++ (P ++ Z))) (refl, refl, omega arith, omega arith) (omega arith, tt) (heads_earlier n cs before) texts_high

  with_texts : applied (puts t) (F1 ++ (T ++ (I ++ (P ++ Z)))) ≡ F2 ++ (I ++ (P ++ Z))
  with_texts = behind_earlier class_piece_kind n (piece_count (length (decl_text c.tree))) t F1 T (I ++ (P ++ Z)) (text_climbs n (decl_text c.tree)) low1 (texts_earlier n cs before) heads_high

  with_heads : applied (puts i) (F2 ++ (I ++ (P ++ Z))) ≡ F3 ++ (P ++ Z)
  with_heads = behind_earlier table_head_kind n (0 + length own) i F2 I (P ++ Z) heads_are low2 (table_heads_earlier n s.tables cs before) tables_high

  with_tables : applied (puts p) (F3 ++ (P ++ Z)) ≡ (F3 ++ (P ++ p)) ++ Z
  with_tables = behind_earlier table_piece_kind n ((0 + length own) * TABLE_PLACES) p F3 P Z tables_are low3 (tables_earlier n s.tables cs before) behind_high

  -- the rows with the class
  abbrev after : Stored
  after = stored_with c own s

  now_heads : map head_row (cs ++ c ∷ []) ≡ H ++ h
  now_heads = map-append head_row cs (c ∷ [])

  now_texts : flat_map text_rows (cs ++ c ∷ []) ≡ T ++ t
  now_texts = one_flat text_rows cs c

  now_table_heads : flat_map (table_heads by) (cs ++ c ∷ []) ≡ I ++ i
  now_table_heads = one_flat (table_heads by) cs c ∙ ap (λ rs. rs ++ i) (heads_same n own s.tables cs before)

  now_tables : flat_map (table_rows by) (cs ++ c ∷ []) ≡ P ++ p
  now_tables = one_flat (table_rows by) cs c ∙ ap (λ rs. rs ++ p) (tables_same n own s.tables cs before)

  now_versions : flat_map (version_rows (cs ++ c ∷ [])) s.world.bones.objects ≡ V
  now_versions = versions_same cs c s.world.bones.objects known

  now_fields : flat_map (added_rows after.world.bones) (cs ++ c ∷ []) ≡ R
  now_fields =
      let own_rows : added_rows after.world.bones c ≡ [] = ap (map (added_row (cs ++ c ∷ []))) (none_own cs n 1 s.world.bones.added before fields) in
      one_flat (added_rows after.world.bones) cs c
      ∙ ap (λ rs. flat_map (added_rows after.world.bones) cs ++ rs) own_rows
      ∙ append-nil (flat_map (added_rows after.world.bones) cs)
      ∙ fields_same s.world.bones c fields cs

  abbrev now_classes : Entries
  now_classes = F ++ map head_row (cs ++ c ∷ []) ++ flat_map text_rows (cs ++ c ∷ []) ++ flat_map (table_heads by) (cs ++ c ∷ []) ++ flat_map (table_rows by) (cs ++ c ∷ [])

  back : (F3 ++ (P ++ p)) ++ Z ≡ rows after
  back =
      ap (λ x. (F ++ x ++ (T ++ t) ++ (I ++ i) ++ (P ++ p)) ++ Z) (sym now_heads)
      ∙ ap (λ x. (F ++ map head_row (cs ++ c ∷ []) ++ x ++ (I ++ i) ++ (P ++ p)) ++ Z) (sym now_texts)
      ∙ ap (λ x. (F ++ map head_row (cs ++ c ∷ []) ++ flat_map text_rows (cs ++ c ∷ []) ++ x ++ (P ++ p)) ++ Z) (sym now_table_heads)
      ∙ ap (λ x. (F ++ map head_row (cs ++ c ∷ []) ++ flat_map text_rows (cs ++ c ∷ []) ++ flat_map (table_heads by) (cs ++ c ∷ []) ++ x) ++ Z) (sym now_tables)
      ∙ sym (to_right now_classes)
      ∙ ap (λ x. now_classes ++ O ++ x ++ A ++ Q ++ R) (sym now_versions)
      ∙ ap (λ x. now_classes ++ O ++ flat_map (version_rows (cs ++ c ∷ [])) s.world.bones.objects ++ A ++ Q ++ x) (sym now_fields)
    where
      to_right : (a : Entries) → a ++ O ++ V ++ A ++ Q ++ R ≡ a ++ Z
      to_right a =
          append_assoc (a ++ O ++ V ++ A) Q R ∙ append_assoc (a ++ O ++ V) A (Q ++ R) ∙ append_assoc (a ++ O) V (A ++ (Q ++ R)) ∙ append_assoc a O (V ++ (A ++ (Q ++ R)))

  abbrev plain : Entries
  plain = F ++ H ++ T ++ I ++ P ++ O ++ V ++ A ++ Q ++ R

  pub class_stored : applied (puts (class_rows by c)) (rows s) ≡ rows after
  class_stored =
      applied_both (head_row c ∷ t ++ i) p plain
      ∙ ap (applied (puts p)) (applied_both (head_row c ∷ t) i plain)
      ∙ ap (λ es. applied (puts p) (applied (puts i) es)) (applied_both h t plain)
      ∙ ap (λ es. applied (puts p) (applied (puts i) (applied (puts t) (applied (puts h) es)))) (regroup (F ++ H) T I P O V A Q R ∙ append_assoc F H (T ++ (I ++ (P ++ Z))))
      ∙ ap (λ es. applied (puts p) (applied (puts i) (applied (puts t) es))) with_head
      ∙ ap (λ es. applied (puts p) (applied (puts i) es)) with_texts
      ∙ ap (applied (puts p)) with_heads
      ∙ with_tables ∙ back
