-- Where the tables of triggers stand: classes, tables, alphabets and places fit each other.
use Rattle.std.proofs.Common.{◌≡◌, ◌<◌, ◌^◌, ℕ, zero, suc, ◌+◌, ◌-◌, List, [], ◌∷◌, ◌++◌, length, Option, Some, None, refl, sym, ap, subst, ◌∙◌, arith, append_assoc}
use Rattle.std.specs.Prelude.{slice_get}
use Rattle.std.specs.Option.{IsSomeAnd, option_and_then, option_map}
use Rattle.std.proofs.lemmas.List.{append-nil}
use Rattle.std.proofs.lemmas.Option.{slice_get_within}
use Rattle.ode_compile.specs.Compiling.{AreCompiled, IsCompiled}
use Rattle.ode_opening.specs.Building.{triggers_of}
use Rattle.ode_opening_tables.specs.Answers.{AreBeside}
use Rattle.ode_opening_tables.specs.Tables.{places_from}
use Rattle.ode_schema.specs.Parts.{AreFit, IsFit}
use Rattle.ode_types.proofs.Places.{none-numbered-0, numbered-at}
use Rattle.ode_types.proofs.CheckedClasses.{checked-next}
use Rattle.ode_types.proofs.ClassLists.{numbered-more}
use Rattle.ode_types.specs.Checked.{AreChecked, AreCheckedBehind}
use Rattle.ode_types.specs.Families.{class_numbered}
use Rattle.ode_types.specs.Indexed.{AreNumbered}
use Rattle.ode_value.specs.Symbols.{Alphabet}
use Rattle.ode_value.specs.Tables.{Table}
use Rattle.ode_value.specs.declared.class.Class.{Class}
use Rattle.ode_value.specs.declared.member.TriggerDecl.{TriggerDecl}

-- ---- lists, one behind the other

pub get_left : {X : Type 0} (xs ys : List X) (k : ℕ) (x : X) → slice_get xs k ≡ Some x → slice_get (xs ++ ys) k ≡ Some x
get_left [] ys k x is = absurd (cc)
get_left (y ∷ xs) ys zero x is = is
get_left (y ∷ xs) ys (suc k) x is = get_left xs ys k x is

pub get_right : {X : Type 0} (xs ys : List X) (k : ℕ) → slice_get (xs ++ ys) (length xs + k) ≡ slice_get ys k
get_right [] ys k = let same : 0 + k ≡ k = omega arith in ap (slice_get ys) same
get_right (x ∷ xs) ys k =
    let same : suc (length xs) + k ≡ suc (length xs + k) = omega arith in
    ap (slice_get (x ∷ (xs ++ ys))) same ∙ get_right xs ys k

-- ---- where a trigger stands

-- the place of the first trigger of a class, among all
pub record IsPlaced (cs : List Class) (first n place : ℕ) (t : TriggerDecl) : Type 0 where
  pub start : ℕ
  pub map_is : slice_get (places_from first cs) n ≡ Some (first + start)
  pub there : slice_get (triggers_of cs) (start + place) ≡ Some t

pub placed : (cs : List Class) (first n place : ℕ) (c : Class) (t : TriggerDecl) → slice_get cs n ≡ Some c → slice_get c.triggers place ≡ Some t → IsPlaced cs first n place t
placed [] first n place c t is has = absurd (cc)
placed (d ∷ cs) first zero place c t is has =
    let same : d ≡ c = cc (is) in
    let own : slice_get d.triggers place ≡ Some t = ap (λ (x : Class). slice_get x.triggers place) same ∙ has in
    let here : place ≡ 0 + place = omega arith in
    let at : first ≡ first + 0 = omega arith in
    record {
      start = 0;
      map_is = ap Some at;
      there = subst (λ (k : ℕ). slice_get (d.triggers ++ triggers_of cs) k ≡ Some t) here (get_left d.triggers (triggers_of cs) place t own);
    }
placed (d ∷ cs) first (suc n) place c t is has =
    let rest = placed cs (first + length d.triggers) n place c t is has in
    let sum : first + length d.triggers + rest.start ≡ first + (length d.triggers + rest.start) = omega arith in
    let inside : length d.triggers + (rest.start + place) ≡ length d.triggers + rest.start + place = omega arith in
    record {
      start = length d.triggers + rest.start;
      map_is = rest.map_is ∙ ap Some sum;
      there = subst (λ (k : ℕ). slice_get (d.triggers ++ triggers_of cs) k ≡ Some t) inside (get_right d.triggers (triggers_of cs) (rest.start + place) ∙ rest.there);
    }

-- a compiled trigger has its table and alphabet at its place
compiled_at : (ts : List TriggerDecl) (own : List Table) (alphabets : List Alphabet) → AreCompiled ts own alphabets → (k : ℕ) (t : TriggerDecl) → slice_get ts k ≡ Some t
    → (table : Table) × (rows : Alphabet) × (slice_get own k ≡ Some table) × (slice_get alphabets k ≡ Some rows) × IsCompiled t table rows
compiled_at [] own alphabets all k t is = absurd (cc)
compiled_at (u ∷ ts) [] alphabets all k t is = absurd all
compiled_at (u ∷ ts) (x ∷ xs) [] all k t is = absurd all
compiled_at (u ∷ ts) (x ∷ xs) (rows ∷ more) all zero t is =
    let same : u ≡ t = cc in (x, rows, refl, refl, subst (λ (v : TriggerDecl). IsCompiled v x rows) same all.0)
compiled_at (u ∷ ts) (x ∷ xs) (rows ∷ more) all (suc k) t is = compiled_at ts xs more all.1 k t is

-- as many stored tables as built ones: what stands at a place of these, stands there of those
there_too : (built stored : List Table) (k : ℕ) (b : Table) → length stored ≡ length built → slice_get built k ≡ Some b → (s : Table) × (slice_get stored k ≡ Some s)
there_too [] stored k b long is = absurd (cc)
there_too (x ∷ built) [] k b long is = absurd (omega (arith, long))
there_too (x ∷ built) (s ∷ stored) zero b long is = (s, refl)
there_too (x ∷ built) (s ∷ stored) (suc k) b long is = there_too built stored k b (omega (arith, long)) is

beside_same : (found : Option Table) (b s : Table) → found ≡ Some b → IsSomeAnd found (λ x. s.symbols ≡ x.symbols) → s.symbols ≡ b.symbols
beside_same None b s is same = absurd (cc)
beside_same (Some x) b s is same = let its : x ≡ b = cc (is) in same ∙ ap (λ (y : Table). y.symbols) its

-- a class that is found under a number stands at its place
pub found_class : (cs : List Class) (class place : ℕ) (t : TriggerDecl) (o : Option Class) → class_numbered cs class ≡ o → option_and_then (λ (c : Class). slice_get c.triggers place) o ≡ Some t
    → (c : Class) × (class_numbered cs class ≡ Some c) × (slice_get c.triggers place ≡ Some t)
found_class cs class place t None there is = absurd (cc)
found_class cs class place t (Some c) there is = (c, there, is)

-- classes that were checked one behind the other are numbered from 1
checked_numbered : (known cs : List Class) → AreNumbered known → AreCheckedBehind known cs → AreNumbered (known ++ cs)
checked_numbered known [] numbered checked = subst AreNumbered (sym (append-nil known)) numbered
checked_numbered known (c ∷ cs) numbered checked =
    let here : c.number ≡ 1 + length known = omega (arith, (checked-next known c checked.0).number) in
    let next : AreNumbered (known ++ c ∷ []) = numbered-more (λ (d : Class). d.number) 1 known c numbered here in
    subst AreNumbered (append_assoc known (c ∷ []) cs) (checked_numbered (known ++ c ∷ []) cs next checked.1)

pub are_numbered : (cs : List Class) → AreChecked cs → AreNumbered cs
are_numbered cs checked = checked_numbered [] cs refl checked

module _ (classes : List Class) (numbered : AreNumbered classes) (built stored : List Table) (alphabets : List Alphabet)
    (compiled : AreCompiled (triggers_of classes) built alphabets) (beside : AreBeside built stored) (as_many : length stored ≡ length built) (few : length built < 2 ^ 32) where
  fits_at : (n place : ℕ) (c : Class) (t : TriggerDecl) → slice_get classes n ≡ Some c → slice_get c.triggers place ≡ Some t
      → IsFit (record { classes = classes; tables = stored; alphabets = alphabets; maps = places_from 0 classes }) (suc n) place t
  fits_at n place c t is has =
      let at = placed classes 0 n place c t is has in
      let it = compiled_at (triggers_of classes) built alphabets compiled (at.start + place) t at.there in
      let own = there_too built stored (at.start + place) it.0 as_many it.2 in
      let within : at.start + place < length built = slice_get_within built (at.start + place) it.0 it.2 in
      let first : 0 + at.start ≡ at.start = omega arith in
      record {
        at = at.start + place;
        is = ap (option_map (λ f. f + place)) (at.map_is ∙ ap Some first);
        small = omega (arith, few, within);
        table = own.0;
        has_table = own.1;
        has_alphabet = it.3 ∙ ap (λ (r : Alphabet). Some r) it.4.alphabet_is;
        symbols = beside_same (slice_get built (at.start + place)) it.0 own.0 it.2 (beside (at.start + place) own.0 own.1) ∙ it.4.means.symbols;
      }

  -- so they fit
  pub are_fit : AreFit (record { classes = classes; tables = stored; alphabets = alphabets; maps = places_from 0 classes })
  are_fit zero place t is =
      let c = found_class classes 0 place t (class_numbered classes 0) refl is in
      let none : None ≡ class_numbered classes 0 = none-numbered-0 classes 0 numbered (omega arith) in
      absurd (cc (none, c.1))
  are_fit (suc n) place t is =
      let c = found_class classes (suc n) place t (class_numbered classes (suc n)) refl is in
      let spot : n ≡ suc n - 1 = omega arith in
      fits_at n place c.0 t (numbered-at classes (suc n) n numbered (omega arith) spot ∙ c.1) c.2
