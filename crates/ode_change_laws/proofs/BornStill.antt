-- Where a class gets fields, the record of a version that was there has what it had, and its new fields have their literals.
use Rattle.std.proofs.Common.{◌≡◌, ◌<◌, ◌≤◌, ◌+◌, ℕ, zero, suc, Bool, true, false, cond, List, [], ◌∷◌, ◌++◌, length, map, Some, refl, ap, ◌∙◌, arith}
use Rattle.std.specs.List.{AllZip, enumerate_from}
use Rattle.std.specs.Option.{unwrap_or}
use Rattle.ode_value.specs.declared.class.Field.{Field}
use Rattle.ode_value.specs.declared.change.Change.{Change}
use Rattle.ode_value.specs.declared.statement.Sort.{Sort}
use Rattle.ode_value.specs.declared.value.Value.{Value}
use Rattle.ode_value.specs.Changing.{added_as, added_by, literals_of, version_with}
use Rattle.ode_value.specs.Fields.{HasLiterals, born_values, field_of, is_born, put_in}
use Rattle.ode_value.specs.Keys.{version_key}
use Rattle.ode_value.specs.Records.{version_bytes, version_row}
use Rattle.ode_value.specs.Versions.{Version}
use Rattle.ode_trees.proofs.CountLaws.{leb-above}
use Rattle.ode_change_laws.specs.Moves.{IsNew}

unborn : (stamp : ℕ) (f : Field) (v : Value) → IsNew stamp f v → is_born stamp f ≡ false
unborn stamp f v new = leb-above f.birth stamp new.later

module _ (stamp : ℕ) where
  new-skipped : (fields more : List Field) (values others : List Value) → AllZip (IsNew stamp) fields values
      → born_values stamp (fields ++ more) (values ++ others) ≡ born_values stamp more others
  new-skipped [] more [] others all = refl
  new-skipped [] more (v ∷ vs) others all = absurd all
  new-skipped (f ∷ fs) more [] others all = absurd all
  new-skipped (f ∷ fs) more (v ∷ vs) others all =
      ap (λ t. cond t (v ∷ born_values stamp (fs ++ more) (vs ++ others)) (born_values stamp (fs ++ more) (vs ++ others))) (unborn stamp f v all.0)
      ∙ new-skipped fs more vs others all.1

  pub born-still : (at : ℕ) (new : List Field) (literals : List Value) → AllZip (IsNew stamp) new literals
      → (fields : List Field) (values : List Value) → length values ≡ length fields
      → born_values stamp (put_in at new fields) (put_in at literals values) ≡ born_values stamp fields values
  born-still zero new literals all fields values same = new-skipped new fields literals values all
  born-still (suc at) new literals all [] [] same = refl
  born-still (suc at) new literals all [] (v ∷ vs) same = absurd (omega (arith, same))
  born-still (suc at) new literals all (f ∷ fs) [] same = absurd (omega (arith, same))
  born-still (suc at) new literals all (f ∷ fs) (v ∷ vs) same =
      ap (λ rest. cond (is_born stamp f) (v ∷ rest) rest) (born-still at new literals all fs vs (omega (arith, same)))

  literal-where : (f : Field) (v : Value) (t : Bool) → t ≡ false → f.literal ≡ Some v → cond t (Unit {0}) (f.literal ≡ Some v)
  literal-where f v true is literal = tt
  literal-where f v false is literal = literal

  new-literals : (new more : List Field) (literals others : List Value) → AllZip (IsNew stamp) new literals → HasLiterals stamp more others
      → HasLiterals stamp (new ++ more) (literals ++ others)
  new-literals [] more [] others all have = have
  new-literals [] more (v ∷ vs) others all have = absurd all
  new-literals (f ∷ fs) more [] others all have = absurd all
  new-literals (f ∷ fs) more (v ∷ vs) others all have =
      (literal-where f v (is_born stamp f) (unborn stamp f v all.0) all.0.literal, new-literals fs more vs others all.1 have)

  -- those that come later are literals
  pub literals-still : (at : ℕ) (new : List Field) (literals : List Value) → AllZip (IsNew stamp) new literals
      → (fields : List Field) (values : List Value) → HasLiterals stamp fields values
      → HasLiterals stamp (put_in at new fields) (put_in at literals values)
  literals-still zero new literals all fields values have = new-literals new fields literals values all have
  literals-still (suc at) new literals all [] [] have = tt
  literals-still (suc at) new literals all [] (v ∷ vs) have = absurd have
  literals-still (suc at) new literals all (f ∷ fs) [] have = absurd have
  literals-still (suc at) new literals all (f ∷ fs) (v ∷ vs) have = (have.0, literals-still at new literals all fs vs have.1)

pub version-still : (id at : ℕ) (new : List Field) (literals : List Value) (fields : List Field) (v : Version) → AllZip (IsNew v.stamp) new literals
    → length v.fields ≡ length fields
    → version_row id (put_in at new fields) (version_with at literals v) ≡ version_row id fields v
version-still id at new literals fields v all same =
    row_by (born-still v.stamp at new literals all fields v.fields same)
  where
    row_by : born_values v.stamp (put_in at new fields) (put_in at literals v.fields) ≡ born_values v.stamp fields v.fields
        → version_row id (put_in at new fields) (version_with at literals v) ≡ version_row id fields v
    row_by is = λ i. (version_key id v.number, version_bytes (unwrap_or v.parent 0) v.stamp (is i))

-- the fields that a change adds are new for each stamp that there is
module _ (class : ℕ) (stamp : ℕ) where
  news-from : (next : ℕ) → stamp < next → (fs : List (List ℕ × Sort × Value))
      → AllZip (IsNew stamp) (map field_of (map (added_as class) (enumerate_from next fs))) (map (λ (f : List ℕ × Sort × Value). f.2) fs)
  news-from next less [] = tt
  news-from next less (f ∷ fs) = (record { later = less; literal = refl }, news-from (next + 1) (omega (arith, less)) fs)

  pub news : (before : ℕ) (c : Change) → stamp ≤ before → AllZip (IsNew stamp) (map field_of (added_by class before c)) (literals_of c)
  news before c low = news-from (before + 1) (omega (arith, low)) c.fields
