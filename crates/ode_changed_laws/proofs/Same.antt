-- What is found among the classes behind a change is what was found before it, and its records are those of the changed world.
use Rattle.std.proofs.Common.{◌≡◌, ℕ, ◌+◌, Bool, true, false, cond, List, [], ◌∷◌, ◌++◌, length, map, Option, Some, None, refl, ap, sym, ◌∙◌, append_assoc}
use Rattle.std.specs.List.{flat_map}
use Rattle.std.specs.Option.{option_map_or}
use Rattle.std.specs.Str.{bytes_eq}
use Rattle.ode_change_laws.specs.Moves.{AreAnew, AreBehind, new_fields}
use Rattle.ode_change_laws.specs.Rows.{bones_passed}
use Rattle.ode_changed_laws.specs.Records.{added_row_by, counters_behind, new_in, number_named, referred_by}
use Rattle.ode_codec.specs.Spelling.{key_of, spelled, value_of}
use Rattle.ode_codec.specs.StoredRows.{added_row, added_rows, counters_row, referred, sort_number, u32}
use Rattle.ode_codec.specs.declared.record.Record.TheVariants as of
use Rattle.ode_heap.specs.Answering.{class_of, counters_of}
use Rattle.ode_types.specs.Families as checked
use Rattle.ode_value.specs.Changing.{added_by, added_to, changed_bones, changed_number, changed_place}
use Rattle.ode_value.specs.Classes.{is_a}
use Rattle.ode_value.specs.Keys.{added_key, counters_key}
use Rattle.ode_value.specs.Records.{Row, byte, spelled_value}
use Rattle.ode_value.specs.Worlds.{Bones, Declared, Position, class_named}
use Rattle.ode_value.specs.declared.change.Added.{Added}
use Rattle.ode_value.specs.declared.change.Change.{Change}
use Rattle.ode_value.specs.declared.class.Class.{Class}
use Rattle.ode_value.specs.declared.class.Field.{Field}
use Rattle.ode_value.specs.declared.statement.Sort.{Sort}
use Rattle.ode_value.specs.declared.statement.Sort.TheVariants as sort

abbrev number_in : Option Class → ℕ
number_in o = option_map_or (λ (c : Class). c.number) o 0

-- ---- by names

pub named-checked : (ds : List Declared) (name : List ℕ) → checked.class_named (map class_of ds) name ≡ class_named name ds
named-checked [] name = refl
named-checked (d ∷ ds) name = by (bytes_eq d.class.name name) (named-checked ds name)
  where
    by : (t : Bool) → checked.class_named (map class_of ds) name ≡ class_named name ds → cond t (Some d.class) (checked.class_named (map class_of ds) name) ≡ cond t (Some d.class) (class_named name ds)
    by true rest = refl
    by false rest = rest

pub number-is : (ds : List Declared) (name : List ℕ) → number_named (map class_of ds) name ≡ number_in (class_named name ds)
number-is ds name = ap number_in (named-checked ds name)

number-anew : (at : ℕ) (new : List Field) (test : ℕ → Bool) (cs ds : List Declared) → AreAnew at new test cs ds → (name : List ℕ) → number_in (class_named name ds) ≡ number_in (class_named name cs)
number-anew at new test [] [] all name = refl
number-anew at new test [] (d ∷ ds) all name = absurd all
number-anew at new test (c ∷ cs) [] all name = absurd all
number-anew at new test (c ∷ cs) (d ∷ ds) all name =
    ap (λ (n : List ℕ). number_in (cond (bytes_eq n name) (Some d.class) (class_named name ds))) all.0.name ∙ by (bytes_eq c.class.name name) (number-anew at new test cs ds all.1 name)
  where
    by : (t : Bool) → number_in (class_named name ds) ≡ number_in (class_named name cs)
        → number_in (cond t (Some d.class) (class_named name ds)) ≡ number_in (cond t (Some c.class) (class_named name cs))
    by true rest = all.0.number
    by false rest = rest

-- ---- added fields

abbrev row_with : Added → ℕ → Row
row_with a n = (added_key a.class a.birth, byte (length a.name) ++ a.name ++ byte (sort_number a.sort) ++ u32 n ++ spelled_value a.value)

row-keyed : (a : Added) (n : ℕ) → key_of (of.Added a.class a.birth a.name (sort_number a.sort) n a.value) ≡ added_key a.class a.birth
unfolding key_of
row-keyed a n = refl

row-spelled : (a : Added) (n : ℕ) → value_of (of.Added a.class a.birth a.name (sort_number a.sort) n a.value) ≡ (row_with a n).1
unfolding value_of
row-spelled a n = simp append_assoc

refers-by : (ds : List Declared) (s : Sort) → referred_by (map class_of ds) s ≡ referred ds s
refers-by ds (sort.Reference name) = number-is ds name
refers-by ds sort.Int = refl
refers-by ds sort.Bool = refl
refers-by ds sort.Text = refl
refers-by ds sort.Void = refl

row-by : (ds : List Declared) (a : Added) → added_row_by (map class_of ds) a ≡ added_row ds a
row-by ds a =
    (λ i. (row-keyed a (referred_by (map class_of ds) a.sort) i, row-spelled a (referred_by (map class_of ds) a.sort) i)) ∙ ap (row_with a) (refers-by ds a.sort)

pub rows-by : (ds : List Declared) (xs : List Added) → map (added_row_by (map class_of ds)) xs ≡ map (added_row ds) xs
rows-by ds [] = refl
rows-by ds (a ∷ xs) = λ i. row-by ds a i ∷ rows-by ds xs i

module _ (at : ℕ) (new : List Field) (test : ℕ → Bool) (all others : List Declared) (anew : AreAnew at new test all others) where
  refers-anew : (s : Sort) → referred others s ≡ referred all s
  refers-anew (sort.Reference name) = number-anew at new test all others anew name
  refers-anew sort.Int = refl
  refers-anew sort.Bool = refl
  refers-anew sort.Text = refl
  refers-anew sort.Void = refl

  rows-anew : (xs : List Added) → map (added_row others) xs ≡ map (added_row all) xs
  rows-anew [] = refl
  rows-anew (a ∷ xs) = λ i. row_with a (refers-anew a.sort i) ∷ rows-anew xs i

  blocks-anew : (added : List Added) (cs ds : List Declared) → AreAnew at new test cs ds
      → flat_map (λ (d : Declared). map (added_row others) (added_to d.class.number added)) ds ≡ flat_map (λ (c : Declared). map (added_row all) (added_to c.class.number added)) cs
  blocks-anew added [] [] same = refl
  blocks-anew added [] (d ∷ ds) same = absurd same
  blocks-anew added (c ∷ cs) [] same = absurd same
  blocks-anew added (c ∷ cs) (d ∷ ds) same =
      let first : map (added_row others) (added_to d.class.number added) ≡ map (added_row all) (added_to c.class.number added) =
      ap (λ (n : ℕ). map (added_row others) (added_to n added)) same.0.number ∙ rows-anew (added_to c.class.number added) in
      let rest = blocks-anew added cs ds same.1 in
      λ i. first i ++ rest i

-- ---- of a change

module _ (b : Bones) (c : Change) (classes : List Declared) (behind : AreBehind b c classes) where
  abbrev test_of : ℕ → Bool
  test_of number = is_a b.classes number c.class

  pub number-stays : number_named (map class_of classes) c.class ≡ changed_number b c
  number-stays = number-is classes c.class ∙ number-anew (changed_place b c) (new_fields b c classes) test_of b.classes classes behind c.class

  pub new-is : (before : ℕ) → new_in (map class_of classes) before c ≡ added_by (changed_number b c) before c
  new-is before = ap (λ (n : ℕ). added_by n before c) number-stays

  -- the records of the fields that were there
  pub fields-stay : flat_map (λ (d : Declared). map (added_row classes) (added_to d.class.number b.added)) classes ≡ flat_map (added_rows b) b.classes
  fields-stay = blocks-anew (changed_place b c) (new_fields b c classes) test_of b.classes classes behind b.added b.classes classes behind

-- ---- the counters

counters-clocked : (b : Bones) (clock : Option Position) → (counters_row (record b { clock = clock })).1 ≡ value_of (of.Counters (counters_of (record b { clock = clock })))
unfolding value_of
counters-clocked b None = simp append_assoc
counters-clocked b (Some p) = simp append_assoc

counters-keyed : (b : Bones) → counters_key ≡ key_of (of.Counters (counters_of b))
unfolding key_of
counters-keyed b = refl

counters-spelled : (b : Bones) → counters_row b ≡ spelled (of.Counters (counters_of b))
counters-spelled b = λ i. (counters-keyed b i, counters-clocked b b.clock i)

pub counters-are : (b : Bones) (c : Change) (classes : List Declared) (n : ℕ) → n ≡ length (changed_bones b c classes).added
    → spelled (of.Counters (counters_behind (counters_of b) n)) ≡ counters_row (bones_passed (changed_bones b c classes))
counters-are b c classes n is =
    ap (λ (m : ℕ). spelled (of.Counters (counters_behind (counters_of b) m))) is ∙ sym (counters-spelled (bones_passed (changed_bones b c classes)))
