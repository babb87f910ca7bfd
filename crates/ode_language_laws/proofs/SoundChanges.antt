-- A change of a class that was read and is accepted leaves a good world.
use Rattle.std.proofs.Common.{◌≡◌, ◌<◌, ◌≤◌, ℕ, ◌+◌, List, [], ◌∷◌, ◌++◌, map, length, Bool, true, false, cond, Option, Some, Result, Ok, Err, refl, ap, sym, ◌∙◌, subst, arith, length-append}
use Rattle.std.specs.List.{AllByRecursion, enumerate_from, list_any, position_from}
use Rattle.std.specs.Option.{IsSome, option_map_or}
use Rattle.std.specs.Str.{bytes_eq}
use Rattle.std.proofs.lemmas.Iterator.Adapters.{position_from-zero}
use Rattle.ode_value.specs.declared.change.Added.{Added}
use Rattle.ode_value.specs.declared.change.Change.{Change}
use Rattle.ode_value.specs.declared.class.Class.{Class}
use Rattle.ode_value.specs.declared.class.Field.{Field}
use Rattle.ode_value.specs.declared.reason.CheckError.{CheckError}
use Rattle.ode_value.specs.declared.statement.ClassDecl.{ClassDecl}
use Rattle.ode_value.specs.Answers.{◌>>=◌, checks}
use Rattle.ode_value.specs.Changing.{added_by, changed_bones, changed_object, changed_world, literals_of, version_with, changed_place, gets as gets_fields, added_to}
use Rattle.ode_value.specs.Classes.{is_a}
use Rattle.ode_value.specs.Fields.{field_of}
use Rattle.ode_value.specs.GoodWorlds.{AreAdded, AreClasses}
use Rattle.ode_value.specs.Language.{ListWorld}
use Rattle.ode_value.specs.Limits.{weight_limit}
use Rattle.ode_value.specs.Pasts.{lists}
use Rattle.ode_value.specs.Versions.{Version}
use Rattle.ode_value.specs.Weights.{weight}
use Rattle.ode_value.specs.Worlds.{Bones, Declared, Object, class_named, class_numbered}
use Rattle.ode_types.specs.Families.{class_named as named_class}
use Rattle.ode_laws.proofs.Each.{all-find, all-then}
use Rattle.ode_machine.specs.Refusals.{changed_in, declared_anew, trees_in}
use Rattle.ode_sound_laws.specs.Sound.{checked_classes}
use Rattle.ode_accepted_laws.proofs.Accepted.{line_is}
use Rattle.ode_accepted_laws.proofs.Lines.{AreKept, IsPlaced, kept_all}
use Rattle.ode_accepted_laws.proofs.Rules.{rules_sound}
use Rattle.ode_anew_laws.specs.Anew.{Way}
use Rattle.ode_anew_laws.proofs.AnewWays.{New, gets, way}
use Rattle.ode_anew_laws.proofs.WatchedChanges.{named_same, numbered_same, objects_watched}
use Rattle.ode_change_laws.specs.Behind.{IsBehind}
use Rattle.ode_change_laws.specs.Moves.{AreAnew as AreDeclaredAnew}
use Rattle.ode_change_laws.proofs.GoodStill.{good-anew}
use Rattle.ode_evolve.specs.Evolving.{is_named}
use Rattle.ode_evolve.proofs.ChangedLaws.{AreGrown, IsChanged, changed_is}
use Rattle.ode_good_laws.specs.Well.{IsWell}
use Rattle.ode_good_runs.specs.Reading.{IsReadField}
use Rattle.ode_good_runs.proofs.Declaring.{well_of}
use Rattle.ode_language.specs.Languages.{change_of, ode}
use Rattle.ode_language_laws.proofs.AnewAll.{Behind, births_low, classes_checked, grow}
use Rattle.ode_language_laws.proofs.ChangedFields.{AreNamed, KeepHeads, added_append, added_stay, name_is, new_added}
use Rattle.ode_language_laws.proofs.ReadChanges.{changes_fit}

-- ---- what was accepted

abbrev Split : Result (List Class) CheckError → (List Class → List Declared) → List Declared → Type 0
Split m made ds = (cs : List Class) × (m ≡ Ok cs) × (made cs ≡ ds)

split : (m : Result (List Class) CheckError) (made : List Class → List Declared) (ds : List Declared) → (checks m >>= λ cs. Ok (made cs)) ≡ Ok ds → Split m made ds
split (Ok cs) made ds h = let same : made cs ≡ ds = cc in (cs, refl, same)
split (Err e) made ds h = absurd (cc)

-- ---- the changed class

all_named : (added : List Added) (earlier ds : List Declared) → AreClasses ode added earlier ds → AreNamed ds
all_named added earlier [] all = tt
all_named added earlier (d ∷ ds) all = (name_is (checked_classes earlier) _ d.tree d.class all.0.checked, all_named added (earlier ++ d ∷ []) ds all.1)

record AtPlace (ds : List Declared) (name : List ℕ) (place : ℕ) : Type 0 where
  class : Class
  found : class_named name ds ≡ Some class
  number : class.number ≡ place + 1

at_place : (added : List Added) (earlier ds : List Declared) → AreClasses ode added earlier ds → AreNamed ds → (name : List ℕ) (k place : ℕ) → k ≡ length earlier
    → position_from (is_named name) k (map (λ (d : Declared). d.tree) ds) ≡ Some place → AtPlace ds name place
at_place added earlier [] all named name k place is h = absurd (cc)
at_place added earlier (d ∷ ds) all named name k place is h =
    by_name (bytes_eq d.tree.name name) (ap (λ n. bytes_eq n name) named.0) h
    (at_place added (earlier ++ d ∷ []) ds all.1 named.1 name (k + 1) place (ap (λ n. n + 1) is ∙ sym (length-append earlier (d ∷ []))))
  where
    by_name : (b : Bool) → bytes_eq d.class.name name ≡ b → cond b (Some k) (position_from (is_named name) (k + 1) (map (λ (e : Declared). e.tree) ds)) ≡ Some place
        → (position_from (is_named name) (k + 1) (map (λ (e : Declared). e.tree) ds) ≡ Some place → AtPlace ds name place) → AtPlace (d ∷ ds) name place
    by_name true same e rest =
        let here : k ≡ place = cc in
        let number : d.class.number ≡ length earlier + 1 = all.0.number in
        record { class = d.class; found = ap (λ b. cond b (Some d.class) (class_named name ds)) same; number = omega (arith, number, is, here) }
    by_name false same e rest =
        let r = rest e in record { class = r.class; found = ap (λ b. cond b (Some d.class) (class_named name ds)) same ∙ r.found; number = r.number }

-- ---- versions' numbers

from_one : (b : Bones) (c : Change) (os : List Object) → AllByRecursion (λ (o : Object). AllByRecursion (λ (v : Version). 0 < v.number) o.versions) os
    → AllByRecursion (λ (o : Object). AllByRecursion (λ (v : Version). 0 < v.number) o.versions) (map (changed_object b c) os)
from_one b c [] all = tt
from_one b c (o ∷ os) all = (by_class (gets_fields b c o), from_one b c os all.1) where
  all_with : (vs : List Version) → AllByRecursion (λ (v : Version). 0 < v.number) vs → AllByRecursion (λ (v : Version). 0 < v.number) (map (version_with (changed_place b c) (literals_of c)) vs)
  all_with [] some = tt
  all_with (v ∷ vs) some = (some.0, all_with vs some.1)

  by_class : (t : Bool) → AllByRecursion (λ (v : Version). 0 < v.number) (cond t (map (version_with (changed_place b c) (literals_of c)) o.versions) o.versions)
  by_class true = all_with o.versions all.0
  by_class false = all.0

-- ---- the classes behind it

all_back : (P : Class → Type 0) (ds : List Declared) → AllByRecursion P (checked_classes ds) → AllByRecursion (λ (d : Declared). P d.class) ds
all_back P [] all = tt
all_back P (d ∷ ds) all = (all.0, all_back P ds all.1)

heads_of : (at : ℕ) (new : List Field) (test : ℕ → Bool) (ds es : List Declared) → AreDeclaredAnew at new test ds es → KeepHeads ds es
heads_of at new test [] [] all = tt
heads_of at new test [] (e ∷ es) all = absurd all
heads_of at new test (d ∷ ds) [] all = absurd all
heads_of at new test (d ∷ ds) (e ∷ es) all = (record { number = all.0.number; name = all.0.name }, heads_of at new test ds es all.1)

own_heads : (ds : List Declared) → KeepHeads ds ds
own_heads [] = tt
own_heads (d ∷ ds) = (record { number = refl; name = refl }, own_heads ds)

abbrev number_in : Option Class → ℕ
number_in o = option_map_or (λ (k : Class). k.number) o 0

abbrev place_in : Option Class → ℕ
place_in o = option_map_or (λ (k : Class). length k.fields) o 0

-- what is said of the classes behind a change of a class
record Facts (b : Bones) (c : Change) (classes : List Declared) (o : Option Class) : Type 0 where
  behind : AreDeclaredAnew (place_in o) (map field_of (added_by (number_in o) (length b.added) c)) (λ n. is_a b.classes n c.class) b.classes classes
  good : AreClasses ode (b.added ++ added_by (number_in o) (length b.added) c) [] classes
  added : AreAdded classes 1 (b.added ++ added_by (number_in o) (length b.added) c)

module _ (piece : List ℕ) (c : Change) (read : change_of piece ≡ Some (Ok c)) (w : ListWorld) (well : IsWell ode w) (classes : List Declared) (accepted : changed_in ode w.bones c ≡ Ok classes) where
  abbrev b : Bones
  b = w.bones

  abbrev trees : List ClassDecl
  trees = trees_in b

  known : AreClasses ode b.added [] b.classes
  known = well.good.bones.classes

  named : AreNamed b.classes
  named = all_named b.added [] b.classes known

  parts : Split (ode.changed trees b.added c) (λ cs. declared_anew cs b.classes) classes
  parts = split (ode.changed trees b.added c) (λ cs. declared_anew cs b.classes) classes accepted

  is : IsChanged trees b.added c parts.0
  is = changed_is trees b.added c parts.0 parts.1

  fit : AllByRecursion IsReadField c.fields
  fit = changes_fit piece c read

  at : AtPlace b.classes c.class is.place
  at = at_place b.added [] b.classes known named c.class 0 is.place refl (sym (position_from-zero (is_named c.class) trees) ∙ is.found)

  abbrev whole : List Class
  whole = checked_classes b.classes

  kept : AreKept whole
  kept = kept_all whole (classes_checked b.added [] b.classes known)

  found : named_class whole c.class ≡ Some at.class
  found = named_same b.classes c.class ∙ at.found

  placed : IsPlaced whole at.class
  placed = all-find (IsPlaced whole) (λ (e : Class). bytes_eq e.name c.class) whole kept.placed at.class found

  abbrev fresh : List New
  fresh = enumerate_from (length b.added + 1) c.fields

  abbrev extra : List Added
  extra = added_by at.class.number (length b.added) c

  abbrev then : List Added
  then = b.added ++ extra

  grown : AreGrown then [] trees parts.0
  grown = subst (λ n. AreGrown (b.added ++ added_by n (length b.added) c) [] trees parts.0) (sym at.number) is.grown

  there : IsSome (class_numbered at.class.number b.classes)
  there = subst IsSome (sym (sym (numbered_same b.classes at.class.number) ∙ placed.numbered)) refl

  -- the added fields by the classes before: their births are low
  all_added : AreAdded b.classes 1 then
  all_added =
      let same : length b.added + 1 ≡ 1 + length b.added = omega arith in
      added_append b.classes 1 b.added extra well.good.bones.added
      (subst (λ k. AreAdded b.classes k extra) same (new_added b.classes b.classes (own_heads b.classes) named (is.place + 1) at.class.number there c.fields (length b.added + 1) is.fields fit))

  abbrev test : ℕ → Bool
  test = gets whole kept c.class at.class found placed

  same_test : (n : ℕ) → test n ≡ is_a b.classes n c.class
  same_test n = sym (ap (list_any (λ (e : Class). bytes_eq e.name c.class)) (line_is b.classes n))

  abbrev new : List Field
  new = map field_of extra

  all_ways : AllByRecursion (λ (d : Declared). Way (length at.class.fields) new test (added_to d.class.number b.added) (added_to d.class.number then) d.class) b.classes
  all_ways =
      all_back (λ (k : Class). Way (length at.class.fields) new test (added_to k.number b.added) (added_to k.number then) k) b.classes
      (all-then (IsPlaced whole) (λ (k : Class). Way (length at.class.fields) new test (added_to k.number b.added) (added_to k.number then) k)
      (way whole kept c.class at.class found placed b.added fresh) whole kept.placed)

  behind : Behind (length at.class.fields) new test b.added then (births_low b.classes 1 (length then) then all_added (omega arith)) [] b.classes parts.0
  behind =
      grow (length at.class.fields) new test b.added then (births_low b.classes 1 (length then) then all_added (omega arith)) [] [] b.classes parts.0 known all_ways grown
      (record { anew = tt; count = refl; fields = tt; others_fields = tt; born = tt })

  facts : Facts b c classes (Some at.class)
  facts =
      let anew = subst (λ es. AreDeclaredAnew (length at.class.fields) new test b.classes es) parts.2 behind.anew in
      record {
        behind = subst (λ (t : ℕ → Bool). AreDeclaredAnew (length at.class.fields) new t b.classes classes) (λ i n. same_test n i) anew;
        good = subst (AreClasses ode then []) parts.2 behind.good;
        added = added_stay b.classes classes (heads_of (length at.class.fields) new test b.classes classes anew) 1 then all_added;
      }

  these : Facts b c classes (class_named c.class b.classes)
  these = subst (Facts b c classes) (sym at.found) facts

  pub changed_behind : IsBehind ode b c classes
  changed_behind = record {
    named = subst IsSome (sym at.found) refl;
    behind = these.behind;
    watched = objects_watched b c classes (classes_checked b.added [] b.classes known) at.class found these.behind b.objects well.good.bones.objects;
    good = these.good;
    added = these.added;
  }

  pub changed_well : weight (changed_bones b c classes) ≤ weight_limit → IsWell ode (changed_world lists classes c w)
  changed_well light =
      let good = good-anew ode w c classes well.good these.behind these.good these.added light in
      well_of ode (rules_sound ode (record { class_of = refl; checked = refl })) (changed_world lists classes c w) good (from_one b c b.objects well.ones)
