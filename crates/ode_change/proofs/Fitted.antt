-- The tables of classes stand where the alphabets of classes that were checked anew do.
use Rattle.std.proofs.Common.{◌≡◌, ◌<◌, ◌^◌, ℕ, zero, suc, ◌+◌, ◌-◌, List, [], ◌∷◌, length, map, Some, None, refl, ap, sym, ◌∙◌, subst, arith}
use Rattle.std.specs.Prelude.{slice_get}
use Rattle.std.specs.List.{AllZip}
use Rattle.std.specs.Option.{option_map}
use Rattle.std.proofs.lemmas.List.{length-map}
use Rattle.std.proofs.lemmas.Option.{slice_get_within}
use Rattle.ode_change.specs.Fitting.{IsOver}
use Rattle.ode_schema.specs.Parts.{AreAligned, AreFit, IsFit, Parts, places_from, trigger_count}
use Rattle.ode_opening.specs.Building.{triggers_of}
use Rattle.ode_opening_tables.proofs.Placing.{are_numbered, found_class, placed}
use Rattle.ode_opening_tables.specs.Tables.{alphabets_of}
use Rattle.ode_types.proofs.Places.{none-numbered-0, numbered-at}
use Rattle.ode_types.specs.Checked.{AreChecked}
use Rattle.ode_types.specs.Families.{class_numbered}
use Rattle.ode_types.specs.Indexed.{AreNumbered}
use Rattle.ode_value.specs.Symbols.{Alphabet, alphabet}
use Rattle.ode_value.specs.Tables.{Table}
use Rattle.ode_value.specs.declared.class.Class.{Class}
use Rattle.ode_value.specs.declared.member.TriggerDecl.{TriggerDecl}

-- ---- lists place by place

zip-at : {X Y Z : Type 0} (R : X → Z → Type 0) (f : Y → Z) (xs : List X) (ys : List Y) → AllZip R xs (map f ys) → (k : ℕ) (y : Y) → slice_get ys k ≡ Some y → (x : X) × (slice_get xs k ≡ Some x) × R x (f y)
zip-at R f xs [] all k y is = absurd (cc)
zip-at R f [] (z ∷ ys) all k y is = absurd all
zip-at R f (x ∷ xs) (z ∷ ys) all zero y is = let same : z ≡ y = cc (is) in (x, refl, subst (λ v. R x (f v)) same all.0)
zip-at R f (x ∷ xs) (z ∷ ys) all (suc k) y is = zip-at R f xs ys all.1 k y is

get-mapped : {Y Z : Type 0} (f : Y → Z) (ys : List Y) (k : ℕ) (y : Y) → slice_get ys k ≡ Some y → slice_get (map f ys) k ≡ Some (f y)
get-mapped f [] k y is = absurd (cc)
get-mapped f (z ∷ ys) zero y is = let same : z ≡ y = cc (is) in ap (λ v. Some (f v)) same
get-mapped f (z ∷ ys) (suc k) y is = get-mapped f ys k y is

pub zip-length : {X Y : Type 0} (R : X → Y → Type 0) (xs : List X) (ys : List Y) → AllZip R xs ys → length xs ≡ length ys
zip-length R [] [] all = refl
zip-length R [] (y ∷ ys) all = absurd all
zip-length R (x ∷ xs) [] all = absurd all
zip-length R (x ∷ xs) (y ∷ ys) all = ap suc (zip-length R xs ys all.1)

abbrev symbols_of : TriggerDecl → Alphabet
symbols_of t = alphabet t.event

module _ (classes : List Class) (numbered : AreNumbered classes) (tables : List Table) (are : AllZip IsOver tables (alphabets_of classes)) (few : trigger_count classes < 2 ^ 32) where
  abbrev parts : Parts
  parts = record { classes = classes; tables = tables; alphabets = alphabets_of classes; maps = places_from 0 classes }

  fits-at : (n place : ℕ) (c : Class) (t : TriggerDecl) → slice_get classes n ≡ Some c → slice_get c.triggers place ≡ Some t → IsFit parts (suc n) place t
  fits-at n place c t is has =
      let at = placed classes 0 n place c t is has in
      let it = zip-at IsOver symbols_of tables (triggers_of classes) are (at.start + place) t at.there in
      let within : at.start + place < length (triggers_of classes) = slice_get_within (triggers_of classes) (at.start + place) t at.there in
      let first : 0 + at.start ≡ at.start = omega arith in
      record {
        at = at.start + place;
        is = ap (option_map (λ f. f + place)) (at.map_is ∙ ap Some first);
        small = omega (arith, few, within);
        table = it.0;
        has_table = it.1;
        has_alphabet = get-mapped symbols_of (triggers_of classes) (at.start + place) t at.there;
        symbols = it.2;
      }

  are-fit : AreFit parts
  are-fit zero place t is =
      let c = found_class classes 0 place t (class_numbered classes 0) refl is in
      let none : None ≡ class_numbered classes 0 = none-numbered-0 classes 0 numbered (omega arith) in
      absurd (cc (none, c.1))
  are-fit (suc n) place t is =
      let c = found_class classes (suc n) place t (class_numbered classes (suc n)) refl is in
      let spot : n ≡ suc n - 1 = omega arith in
      fits-at n place c.0 t (numbered-at classes (suc n) n numbered (omega arith) spot ∙ c.1) c.2

  are-aligned : AreAligned parts
  are-aligned =
      let long = zip-length IsOver tables (alphabets_of classes) are in
      let count : length (alphabets_of classes) ≡ trigger_count classes = length-map (triggers_of classes) symbols_of in
      record { places = refl; tables = long ∙ count; alphabets = sym long }

-- ---- what was made of classes

abbrev parts_of : List Class → List Table → List Alphabet → List ℕ → Parts
parts_of classes tables alphabets maps = record { classes = classes; tables = tables; alphabets = alphabets; maps = maps }

module _ (classes known : List Class) (tables seen : List Table) (alphabets own : List Alphabet) (maps : List ℕ) (all : known ≡ classes) (checked : AreChecked classes) (same : seen ≡ tables)
    (are : alphabets ≡ alphabets_of known) (shown : own ≡ alphabets) (at : maps ≡ places_from 0 known) (few : trigger_count known < 2 ^ 32) (over : AllZip IsOver seen own) where
  those : alphabets_of classes ≡ alphabets
  those = ap alphabets_of (sym all) ∙ sym are

  places : places_from 0 classes ≡ maps
  places = ap (places_from 0) (sym all) ∙ sym at

  over-those : AllZip IsOver tables (alphabets_of classes)
  over-those =
      subst (λ (rows : List Alphabet). AllZip IsOver tables rows) (shown ∙ sym those) (subst (λ (ts : List Table). AllZip IsOver ts own) same over)

  few-those : trigger_count classes < 2 ^ 32
  few-those = subst (λ (cs : List Class). trigger_count cs < 2 ^ 32) all few

  pub made-fit : AreFit (parts_of classes tables alphabets maps)
  made-fit =
      subst (λ (rows : List Alphabet). AreFit (parts_of classes tables rows maps)) those
      (subst (λ (ns : List ℕ). AreFit (parts_of classes tables (alphabets_of classes) ns)) places (are-fit classes (are_numbered classes checked) tables over-those few-those))

  pub made-aligned : AreAligned (parts_of classes tables alphabets maps)
  made-aligned =
      subst (λ (rows : List Alphabet). AreAligned (parts_of classes tables rows maps)) those
      (subst (λ (ns : List ℕ). AreAligned (parts_of classes tables (alphabets_of classes) ns)) places (are-aligned classes (are_numbered classes checked) tables over-those few-those))

  pub made-places : maps ≡ places_from 0 classes
  made-places = sym places
