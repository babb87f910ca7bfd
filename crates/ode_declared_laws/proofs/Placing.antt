-- A program with one more class: where the tables stand.
use Rattle.std.proofs.Common.{◌≡◌, ◌<◌, ℕ, zero, suc, ◌+◌, ◌==◌, ◌^◌, Bool, true, false, cond, List, [], ◌∷◌, ◌++◌, map, length, Option, Some, None, refl, sym, ap, ◌∙◌, subst, arith, length-append}
use Rattle.std.specs.Prelude.{slice_get, slice_index_or}
use Rattle.std.specs.List.{AllByRecursion, enumerate_from, flat_map}
use Rattle.std.specs.Option.{option_and_then, option_map, option_map_or, option_or}
use Rattle.std.proofs.lemmas.Bool.{eq-eqb, eqb-true}
use Rattle.std.proofs.lemmas.List.Folds.{find-append}
use Rattle.std.proofs.lemmas.Option.{get_or_from_slice_get, slice_get_within}
use Rattle.ode_accepted_laws.proofs.Lines.{IsLow, IsPlaced, kept_all}
use Rattle.ode_class_laws.proofs.StoredLaws.{other_table}
use Rattle.ode_class_laws.specs.Declaring.{tables_with}
use Rattle.ode_compile.specs.Compiling.{AreCompiled, IsCompiled}
use Rattle.ode_declared_laws.specs.Adding.{parts_with, tables_in}
use Rattle.ode_schema.specs.Parts.{AreAligned, AreFit, IsFit, Parts, places_from, table_by, table_place, trigger_count}
use Rattle.ode_laws.specs.Alike.{AgreesOn}
use Rattle.ode_states.specs.Advance.{no_table}
use Rattle.ode_types.proofs.CheckedClasses.{checked-next}
use Rattle.ode_types.specs.Checked.{AreChecked, IsChecked}
use Rattle.ode_types.specs.Families.{class_numbered}
use Rattle.ode_value.specs.Classes.{Trigger, trigger_of}
use Rattle.ode_value.specs.Symbols.{Alphabet, alphabet}
use Rattle.ode_value.specs.Tables.{Table}
use Rattle.ode_value.specs.Worlds.{Declared}
use Rattle.ode_value.specs.declared.class.Class.{Class}
use Rattle.ode_value.specs.declared.member.TriggerDecl.{TriggerDecl}

-- ---- lists, one behind the other

get_left : {X : Type 0} (xs ys : List X) (k : ℕ) (x : X) → slice_get xs k ≡ Some x → slice_get (xs ++ ys) k ≡ Some x
get_left [] ys k x is = absurd (cc)
get_left (y ∷ xs) ys zero x is = is
get_left (y ∷ xs) ys (suc k) x is = get_left xs ys k x is

get_right : {X : Type 0} (xs ys : List X) (k : ℕ) → slice_get (xs ++ ys) (length xs + k) ≡ slice_get ys k
get_right [] ys k = let same : 0 + k ≡ k = omega arith in ap (slice_get ys) same
get_right (x ∷ xs) ys k =
    let same : suc (length xs) + k ≡ suc (length xs + k) = omega arith in
    ap (slice_get (x ∷ (xs ++ ys))) same ∙ get_right xs ys k

-- ---- places

place_left : (maps more : List ℕ) (class place at : ℕ) → table_place maps class place ≡ Some at → table_place (maps ++ more) class place ≡ Some at
place_left maps more zero place at is = absurd (cc)
place_left maps more (suc n) place at is = by (slice_get maps n) refl is where
  by : (o : Option ℕ) → slice_get maps n ≡ o → option_map (λ first. first + place) o ≡ Some at → table_place (maps ++ more) (suc n) place ≡ Some at
  by None there e = absurd (cc)
  by (Some first) there e = ap (option_map (λ first. first + place)) (get_left maps more n first there) ∙ e

place_last : (maps : List ℕ) (first class place : ℕ) → class ≡ length maps + 1 → table_place (maps ++ first ∷ []) class place ≡ Some (first + place)
place_last maps first zero place is = absurd (omega (arith, is))
place_last maps first (suc n) place is =
    let here : n ≡ length maps + 0 = omega (arith, is) in
    ap (λ (k : ℕ). option_map (λ f. f + place) (slice_get (maps ++ first ∷ []) k)) here ∙ ap (option_map (λ f. f + place)) (get_right maps (first ∷ []) 0)

table_is : (tables : List Table) (maps : List ℕ) (class place at : ℕ) (table : Table) → table_place maps class place ≡ Some at → slice_get tables at ≡ Some table → table_by tables maps class place ≡ table
table_is tables maps class place at table is has =
    ap (λ (o : Option ℕ). option_map_or (λ n. slice_index_or tables n no_table) o no_table) is ∙ get_or_from_slice_get tables at table no_table has

-- each class has one
as_many_places : (at : ℕ) (cs : List Class) → length (places_from at cs) ≡ length cs
as_many_places at [] = refl
as_many_places at (c ∷ cs) = ap suc (as_many_places (at + length c.triggers) cs)

-- one class more begins behind the tables of the others
places_more : (at : ℕ) (cs : List Class) (c : Class) → places_from at (cs ++ c ∷ []) ≡ places_from at cs ++ (at + trigger_count cs) ∷ []
places_more at [] c = let same : at ≡ at + 0 = omega arith in ap (λ (n : ℕ). n ∷ []) same
places_more at (k ∷ cs) c =
    let long = length-append k.triggers (flat_map (λ (x : Class). x.triggers) cs) in
    let same : at + length k.triggers + trigger_count cs ≡ at + length (k.triggers ++ flat_map (λ (x : Class). x.triggers) cs) = omega (arith, long) in
    ap (λ (ns : List ℕ). at ∷ ns) (places_more (at + length k.triggers) cs c ∙ ap (λ (n : ℕ). places_from (at + length k.triggers) cs ++ n ∷ []) same)

triggers_more : (cs : List Class) (c : Class) → trigger_count (cs ++ c ∷ []) ≡ trigger_count cs + length c.triggers
triggers_more [] c = let none = length-append c.triggers [] in omega (arith, none)
triggers_more (k ∷ cs) c =
    let rest = triggers_more cs c in
    let before = length-append k.triggers (flat_map (λ (x : Class). x.triggers) cs) in
    let behind = length-append k.triggers (flat_map (λ (x : Class). x.triggers) (cs ++ c ∷ [])) in
    omega (arith, rest, before, behind)

-- a compiled trigger has its table and alphabet at its place
compiled_at : (ts : List TriggerDecl) (own : List Table) (alphabets : List Alphabet) → AreCompiled ts own alphabets → (k : ℕ) (t : TriggerDecl) → slice_get ts k ≡ Some t
    → (table : Table) × (rows : Alphabet) × (slice_get own k ≡ Some table) × (slice_get alphabets k ≡ Some rows) × IsCompiled t table rows
compiled_at [] own alphabets all k t is = absurd (cc)
compiled_at (u ∷ ts) [] alphabets all k t is = absurd all
compiled_at (u ∷ ts) (x ∷ xs) [] all k t is = absurd all
compiled_at (u ∷ ts) (x ∷ xs) (rows ∷ more) all zero t is =
    let same : u ≡ t = cc in (x, rows, refl, refl, subst (λ (v : TriggerDecl). IsCompiled v x rows) same all.0)
compiled_at (u ∷ ts) (x ∷ xs) (rows ∷ more) all (suc k) t is = compiled_at ts xs more all.1 k t is

as_many_triggers : (ts : List TriggerDecl) (own : List Table) (alphabets : List Alphabet) → AreCompiled ts own alphabets → length own ≡ length ts
as_many_triggers [] [] [] all = refl
as_many_triggers [] [] (rows ∷ more) all = absurd all
as_many_triggers [] (x ∷ xs) alphabets all = absurd all
as_many_triggers (t ∷ ts) [] alphabets all = absurd all
as_many_triggers (t ∷ ts) (x ∷ xs) [] all = absurd all
as_many_triggers (t ∷ ts) (x ∷ xs) (rows ∷ more) all = ap suc (as_many_triggers ts xs more all.1)

as_many_tables : (ts : List TriggerDecl) (own : List Table) (alphabets : List Alphabet) → AreCompiled ts own alphabets → length alphabets ≡ length own
as_many_tables [] [] [] all = refl
as_many_tables [] [] (rows ∷ more) all = absurd all
as_many_tables [] (x ∷ xs) alphabets all = absurd all
as_many_tables (t ∷ ts) [] alphabets all = absurd all
as_many_tables (t ∷ ts) (x ∷ xs) [] all = absurd all
as_many_tables (t ∷ ts) (x ∷ xs) (rows ∷ more) all = ap suc (as_many_tables ts xs more all.1)

module _ (p : Parts) (fit : AreFit p) (aligned : AreAligned p) (c : Class) (number : c.number ≡ length p.classes + 1) (own : List Table) (alphabets : List Alphabet)
    (made : AreCompiled c.triggers own alphabets) where
  abbrev after : Parts
  after = parts_with c own alphabets p

  -- ---- what a class and a trigger are behind it

  abbrev under : ℕ → Option Class → Option TriggerDecl
  under place o = option_and_then (λ (k : Class). slice_get k.triggers place) o

  found : (class : ℕ) → class_numbered after.classes class ≡ option_or (class_numbered p.classes class) (cond (c.number == class) (Some c) None)
  found class = find-append (λ (k : Class). k.number == class) p.classes (c ∷ [])

  -- ---- an earlier trigger keeps its table

  still_fit : (class place : ℕ) (t : TriggerDecl) → IsFit p class place t → IsFit after class place t
  still_fit class place t is = record {
    at = is.at;
    is = place_left p.maps (length p.tables ∷ []) class place is.at is.is;
    small = is.small;
    table = is.table;
    has_table = get_left p.tables own is.at is.table is.has_table;
    has_alphabet = get_left p.alphabets alphabets is.at (alphabet t.event) is.has_alphabet;
    symbols = is.symbols;
  }

  still_there : (class place : ℕ) (t : TriggerDecl) → IsFit p class place t → tables_in after class place ≡ tables_in p class place
  unfolding still_fit
  still_there class place t is =
      let now = still_fit class place t is in
      table_is after.tables after.maps class place now.at now.table now.is now.has_table ∙ sym (table_is p.tables p.maps class place is.at is.table is.is is.has_table)

  -- ---- one of the class has its own

  own_place : (place : ℕ) → table_place after.maps c.number place ≡ Some (length p.tables + place)
  own_place place = place_last p.maps (length p.tables) c.number place (let same = ap length aligned.places ∙ as_many_places 0 p.classes in omega (arith, same, number))

  own_there : (place : ℕ) (table : Table) → slice_get own place ≡ Some table → tables_in after c.number place ≡ table
  own_there place table has =
      table_is after.tables after.maps c.number place (length p.tables + place) table (own_place place) (get_right p.tables own place ∙ has)

  own_fit : length p.tables + length own < 2 ^ 32 → (place : ℕ) (t : TriggerDecl) → slice_get c.triggers place ≡ Some t → IsFit after c.number place t
  own_fit few place t is =
      let it = compiled_at c.triggers own alphabets made place t is in
      let table : Table = it.0 in
      let rows : Alphabet = it.1 in
      let compiled : IsCompiled t table rows = it.4 in
      let within : place < length own = slice_get_within own place table it.2 in
      let same : length p.tables + place ≡ length p.alphabets + place = let level = aligned.alphabets in omega (arith, level) in
      record {
        at = length p.tables + place;
        is = own_place place;
        small = omega (arith, few, within);
        table = table;
        has_table = get_right p.tables own place ∙ it.2;
        has_alphabet = ap (slice_get after.alphabets) same ∙ get_right p.alphabets alphabets place ∙ it.3 ∙ ap (λ (r : Alphabet). Some r) compiled.alphabet_is;
        symbols = compiled.means.symbols;
      }

  pub fits_with : length p.tables + length own < 2 ^ 32 → AreFit after
  fits_with few = λ class place t is. by_old class place t (class_numbered p.classes class) refl (ap (under place) (sym (found class)) ∙ is) where
    by_new : (class place : ℕ) (t : TriggerDecl) (b : Bool) → (b ≡ true → c.number ≡ class) → under place (cond b (Some c) None) ≡ Some t → IsFit after class place t
    by_new class place t true same e = subst (λ (n : ℕ). IsFit after n place t) (same refl) (own_fit few place t e)
    by_new class place t false same e = absurd (cc)

    by_old : (class place : ℕ) (t : TriggerDecl) (o : Option Class) → class_numbered p.classes class ≡ o → under place (option_or o (cond (c.number == class) (Some c) None)) ≡ Some t → IsFit after class place t
    by_old class place t (Some k) there e = still_fit class place t (fit class place t (ap (under place) there ∙ e))
    by_old class place t None there e = by_new class place t (c.number == class) (eqb-true c.number class) e

  -- ---- the tables of all triggers are those that are stored

  abbrev stored : ℕ → ℕ → Table
  stored = tables_with c.number own (tables_in p)

  abbrev Same : Trigger → Type 0
  Same t = tables_in after t.class t.place ≡ stored t.class t.place

  same_from : (class k : ℕ) (ts : List TriggerDecl) → ((j : ℕ) (t : TriggerDecl) → slice_get ts j ≡ Some t → tables_in after class (k + j) ≡ stored class (k + j))
      → AllByRecursion Same (map (trigger_of class) (enumerate_from k ts))
  same_from class k [] all = tt
  same_from class k (t ∷ ts) all = (
    let here : k + 0 ≡ k = omega arith in subst (λ (n : ℕ). tables_in after class n ≡ stored class n) here (all 0 t refl),
    same_from class (k + 1) ts
        (λ j u is. let next : k + suc j ≡ k + 1 + j = omega arith in subst (λ (n : ℕ). tables_in after class n ≡ stored class n) next (all (suc j) u is)),
  )

  zero_on : (class j : ℕ) → tables_in after class j ≡ stored class j → tables_in after class (0 + j) ≡ stored class (0 + j)
  zero_on class j same = let none : j ≡ 0 + j = omega arith in subst (λ (n : ℕ). tables_in after class n ≡ stored class n) none same

  old_agree : (ds : List Declared) → AllByRecursion (IsPlaced p.classes) (map (λ (d : Declared). d.class) ds) → AllByRecursion (IsLow (length p.classes)) (map (λ (d : Declared). d.class) ds)
      → AllByRecursion (AgreesOn stored (tables_in after)) ds
  old_agree [] placed low = tt
  old_agree (d ∷ ds) placed low = (
    same_from d.class.number 0 d.class.triggers
        (λ j t is. zero_on d.class.number j
        (still_there d.class.number j t (fit d.class.number j t (ap (under j) placed.0.numbered ∙ is))
        ∙ sym (other_table c.number own (tables_in p) d.class.number j (let below = low.0.number in omega (arith, below, number))))),
    old_agree ds placed.1 low.1,
  )

  own_stored : (place : ℕ) (table : Table) → slice_get own place ≡ Some table → stored c.number place ≡ table
  own_stored place table has =
      ap (λ (b : Bool). cond b (slice_index_or own place (tables_in p c.number place)) (tables_in p c.number place)) (eq-eqb c.number c.number refl)
      ∙ get_or_from_slice_get own place table (tables_in p c.number place) has

  own_agree : AllByRecursion Same (map (trigger_of c.number) (enumerate_from 0 c.triggers))
  own_agree =
      same_from c.number 0 c.triggers
      (λ j t is. let it = compiled_at c.triggers own alphabets made j t is in
      zero_on c.number j (own_there j it.0 it.2 ∙ sym (own_stored j it.0 it.2)))

pub program_fits : (p : Parts) (c : Class) (own : List Table) (alphabets : List Alphabet) → AreFit p → AreAligned p → IsChecked p.classes c → AreCompiled c.triggers own alphabets
    → length p.tables + length own < 2 ^ 32 → AreFit (parts_with c own alphabets p)
program_fits p c own alphabets fit aligned is made few = fits_with p fit aligned c (checked-next p.classes c is).number own alphabets made few

pub program_aligned : (p : Parts) (c : Class) (own : List Table) (alphabets : List Alphabet) → AreAligned p → AreCompiled c.triggers own alphabets → AreAligned (parts_with c own alphabets p)
program_aligned p c own alphabets aligned made =
    let same = as_many_tables c.triggers own alphabets made in
    let count = as_many_triggers c.triggers own alphabets made in
    let level = aligned.alphabets in
    let many = aligned.tables in
    let before = length-append p.tables own in
    let behind = triggers_more p.classes c in
    let first : length p.tables ≡ 0 + trigger_count p.classes = omega (arith, many) in
    record {
      places = ap (λ (ns : List ℕ). ns ++ length p.tables ∷ []) aligned.places ∙ ap (λ (n : ℕ). places_from 0 p.classes ++ n ∷ []) first ∙ sym (places_more 0 p.classes c);
      tables = omega (arith, many, count, before, behind);
      alphabets = length-append p.alphabets alphabets ∙ ap (λ (n : ℕ). n + length alphabets) level ∙ ap (λ (n : ℕ). length p.tables + n) same ∙ sym (length-append p.tables own);
    }

all_behind : (P : Declared → Type 0) (ds : List Declared) (d : Declared) → AllByRecursion P ds → P d → AllByRecursion P (ds ++ d ∷ [])
all_behind P [] d all here = (here, tt)
all_behind P (e ∷ ds) d all here = (all.0, all_behind P ds d all.1 here)

pub program_agrees : (p : Parts) (classes : List Declared) (c : Declared) (own : List Table) (alphabets : List Alphabet) → p.classes ≡ map (λ (d : Declared). d.class) classes → AreChecked p.classes
    → AreFit p → AreAligned p → IsChecked p.classes c.class → AreCompiled c.class.triggers own alphabets
    → AllByRecursion (AgreesOn (tables_with c.class.number own (tables_in p)) (tables_in (parts_with c.class own alphabets p))) (classes ++ c ∷ [])
program_agrees p classes c own alphabets same checked fit aligned is made =
    let kept = kept_all p.classes checked in
    let number = (checked-next p.classes c.class is).number in
    all_behind (AgreesOn (tables_with c.class.number own (tables_in p)) (tables_in (parts_with c.class own alphabets p))) classes c
    (old_agree p fit aligned c.class number own alphabets made classes (subst (AllByRecursion (IsPlaced p.classes)) same kept.placed) (subst (AllByRecursion (IsLow (length p.classes))) same kept.low))
    (own_agree p fit aligned c.class number own alphabets made)
