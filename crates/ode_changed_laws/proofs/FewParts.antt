-- The classes behind a change have parts that a record can count, and the change has few fields.
use Rattle.std.proofs.Common.{◌≡◌, ◌<◌, ◌≤◌, ◌^◌, ℕ, zero, suc, ◌+◌, Bool, true, false, cond, List, [], ◌∷◌, length, map, Option, Some, None, refl, ap, sym, ◌∙◌, subst, arith, length-append}
use Rattle.std.specs.Prelude.{◌||◌, ◌==◌}
use Rattle.std.specs.List.{AllByRecursion, AllZip, enumerate_from, list_any}
use Rattle.std.specs.Option.{IsSome, option_map_or}
use Rattle.std.specs.Str.{bytes_eq}
use Rattle.std.proofs.lemmas.List.{length-map}
use Rattle.ode_accepted_laws.proofs.Accepted.{line_is}
use Rattle.ode_accepted_laws.proofs.Lines.{IsPlaced, kept_all}
use Rattle.ode_change_laws.specs.Behind.{IsBehind}
use Rattle.ode_change_laws.specs.Moves.{AreAnew, AreBehind, IsAnew, fields_where, new_fields}
use Rattle.ode_change_laws.proofs.GoodStill.{class-anew}
use Rattle.ode_changed_laws.proofs.Same.{named-checked}
use Rattle.ode_heap.specs.Answering.{class_of}
use Rattle.ode_heap_laws.specs.Few.{HasFewParams, HasFewParts}
use Rattle.ode_laws.proofs.Each.{all-find}
pub use Rattle.ode_opening_laws.proofs.Limits.{IsLimited, triggers_limited}
use Rattle.ode_types.specs.Checked.{AreChecked}
use Rattle.ode_types.specs.Families as checked
use Rattle.ode_types.specs.Limits.{field_limit}
use Rattle.ode_value.specs.Changing.{added_as, added_by, changed_number, changed_place}
use Rattle.ode_value.specs.Classes.{is_a}
use Rattle.ode_value.specs.Fields.{field_of, put_in}
use Rattle.ode_value.specs.Language.{Language}
use Rattle.ode_value.specs.Worlds.{Bones, Declared, class_named, class_numbered}
use Rattle.ode_value.specs.declared.change.Change.{Change}
use Rattle.ode_value.specs.declared.class.Class.{Class}
use Rattle.ode_value.specs.declared.class.Field.{Field}
use Rattle.ode_value.specs.declared.event.EventExpr.{EventExpr}
use Rattle.ode_value.specs.declared.member.TriggerDecl.{TriggerDecl}

-- ---- parts

abbrev HasFewFields : Class → Type 0
HasFewFields c = length c.fields ≤ field_limit

few-counted : (n : ℕ) → n ≤ field_limit → n < 2 ^ 15
unfolding field_limit
few-counted n few = omega (arith, few)

all-back : (P : Class → Type 0) (ds : List Declared) → AllByRecursion P (map class_of ds) → AllByRecursion (λ (d : Declared). P d.class) ds
all-back P [] all = tt
all-back P (d ∷ ds) all = (all.0, all-back P ds all.1)

params-anew : (f : EventExpr → EventExpr) (ts us : List TriggerDecl) → AllZip (IsAnew f) ts us → AllByRecursion HasFewParams ts → AllByRecursion HasFewParams us
params-anew f [] [] all few = tt
params-anew f [] (u ∷ us) all few = absurd all
params-anew f (t ∷ ts) [] all few = absurd all
params-anew f (t ∷ ts) (u ∷ us) all few = (subst (λ (n : ℕ). n < 2 ^ 8) (sym (ap length all.0.params)) few.0, params-anew f ts us all.1 few.1)

parts-anew : (at : ℕ) (new : List Field) (test : ℕ → Bool) (cs ds : List Declared) → AreAnew at new test cs ds → AllByRecursion (λ (d : Declared). HasFewFields d.class) ds → AllByRecursion HasFewParts cs
    → AllByRecursion HasFewParts ds
parts-anew at new test [] [] all fields few = tt
parts-anew at new test [] (d ∷ ds) all fields few = absurd all
parts-anew at new test (c ∷ cs) [] all fields few = absurd all
parts-anew at new test (c ∷ cs) (d ∷ ds) all fields few = (
  record { fields = few-counted (length d.class.fields) fields.0; params = params-anew _ c.class.triggers d.class.triggers all.0.triggers few.0.params },
  parts-anew at new test cs ds all.1 fields.1 few.1,
)

few-fields : (classes : List Declared) → AreChecked (map class_of classes) → AllByRecursion (λ (d : Declared). HasFewFields d.class) classes
few-fields classes checked = all-back HasFewFields classes (kept_all (map class_of classes) checked).few

pub parts-few : (b : Bones) (c : Change) (classes : List Declared) → AreBehind b c classes → AreChecked (map class_of classes) → AllByRecursion HasFewParts b.classes → AllByRecursion HasFewParts classes
parts-few b c classes behind checked few =
    parts-anew (changed_place b c) (new_fields b c classes) (λ n. is_a b.classes n c.class) b.classes classes behind (few-fields classes checked) few

-- ---- new fields

named-so : (name : List ℕ) (ds : List Declared) (k : Class) → class_named name ds ≡ Some k → bytes_eq k.name name ≡ true
named-so name [] k is = absurd (cc (is))
named-so name (d ∷ ds) k is = by (bytes_eq d.class.name name) refl is (named-so name ds k)
  where
    by : (t : Bool) → bytes_eq d.class.name name ≡ t → cond t (Some d.class) (class_named name ds) ≡ Some k → (class_named name ds ≡ Some k → bytes_eq k.name name ≡ true) → bytes_eq k.name name ≡ true
    by true here one rest = let same : d.class ≡ k = cc (one) in ap (λ (x : Class). bytes_eq x.name name) (sym same) ∙ here
    by false here one rest = rest one

numbered-checked : (ds : List Declared) (n : ℕ) → checked.class_numbered (map class_of ds) n ≡ class_numbered n ds
numbered-checked [] n = refl
numbered-checked (d ∷ ds) n = by (d.class.number == n) (numbered-checked ds n)
  where
    by : (t : Bool) → checked.class_numbered (map class_of ds) n ≡ class_numbered n ds → cond t (Some d.class) (checked.class_numbered (map class_of ds) n) ≡ cond t (Some d.class) (class_numbered n ds)
    by true rest = refl
    by false rest = rest

put-length : {X : Type 0} (at : ℕ) (new xs : List X) → at ≤ length xs → length (put_in at new xs) ≡ length new + length xs
put-length zero new xs within = length-append new xs
put-length (suc at) new [] within = absurd (omega (arith, within))
put-length (suc at) new (x ∷ xs) within = let rest = put-length at new xs (omega (arith, within)) in omega (arith, rest)

entered : {X : Type 0} (k : ℕ) (xs : List X) → length (enumerate_from k xs) ≡ length xs
entered k [] = refl
entered k (x ∷ xs) = ap suc (entered (k + 1) xs)

module _ (l : Language) (b : Bones) (c : Change) (classes : List Declared) (is : IsBehind l b c classes) (before : AreChecked (map class_of b.classes)) (after : AreChecked (map class_of classes)) where
  abbrev whole : List Class
  whole = map class_of b.classes

  abbrev test : ℕ → Bool
  test n = is_a b.classes n c.class

  new-counted : length (new_fields b c classes) ≡ length c.fields
  new-counted =
      length-map (added_by (changed_number b c) (length b.added) c) field_of ∙ length-map (enumerate_from (length b.added + 1) c.fields) (added_as (changed_number b c)) ∙ entered (length b.added + 1) c.fields

  module _ (k : Class) (found : class_named c.class b.classes ≡ Some k) where
    placed : IsPlaced whole k
    placed = all-find (IsPlaced whole) (λ (e : Class). bytes_eq e.name c.class) whole (kept_all whole before).placed k (named-checked b.classes c.class ∙ found)

    -- it is of its own line
    gets-own : test k.number ≡ true
    gets-own =
        ap (list_any (λ (e : Class). bytes_eq e.name c.class)) (line_is b.classes k.number ∙ placed.line)
        ∙ ap (λ (t : Bool). t || list_any (λ (e : Class). bytes_eq e.name c.class) (checked.ancestors_of whole k)) (named-so c.class b.classes k found)

    place-is : changed_place b c ≡ length k.fields
    place-is = ap (λ (x : Option Class). option_map_or (λ (e : Class). length e.fields) x 0) found

    few : length c.fields ≤ field_limit
    few =
        let it = class-anew (changed_place b c) (new_fields b c classes) test k.number b.classes classes is.behind k (sym (numbered-checked b.classes k.number) ∙ placed.numbered) in
        let j : Class = it.0 in
        let most : length j.fields ≤ field_limit =
        all-find HasFewFields (λ (e : Class). e.number == k.number) (map class_of classes) (kept_all (map class_of classes) after).few j (numbered-checked classes k.number ∙ it.1) in
        let fields : j.fields ≡ put_in (changed_place b c) (new_fields b c classes) k.fields = it.2 ∙ ap (λ (t : Bool). fields_where (changed_place b c) (new_fields b c classes) t k.fields) gets-own in
        let place = place-is in
        let long : length (put_in (changed_place b c) (new_fields b c classes) k.fields) ≡ length (new_fields b c classes) + length k.fields =
        put-length (changed_place b c) (new_fields b c classes) k.fields (omega (arith, place)) in
        let count = new-counted in
        let same = ap length fields in
        omega (arith, most, same, long, count)

  by-found : (x : Option Class) → class_named c.class b.classes ≡ x → IsSome x → length c.fields ≤ field_limit
  by-found None found some = absurd (cc (some))
  by-found (Some k) found some = few k found

  pub new-few : length c.fields ≤ field_limit
  new-few = by-found (class_named c.class b.classes) refl is.named
