-- Which classes get the fields of a change: the changed one, and those that inherit from it.
use Rattle.std.proofs.Common.{◌≡◌, ◌<◌, ◌≤◌, ℕ, List, [], ◌∷◌, ◌++◌, map, length, reverse, Bool, true, false, cond, Option, Some, None, refl, ap, sym, ◌∙◌, subst, arith, append-nil}
use Rattle.std.specs.Prelude.{◌==◌, ◌||◌}
use Rattle.std.specs.List.{AllByRecursion, list_any}
use Rattle.std.specs.Option.{unwrap_or}
use Rattle.std.specs.Str.{bytes_eq}
use Rattle.std.proofs.lemmas.Bool.{eq-eqb, eqb-true, false≢true}
use Rattle.std.proofs.lemmas.Option.{same_Some}
use Rattle.std.proofs.lemmas.Slice.Eq.{bytes_eq-Decides}
use Rattle.ode_value.specs.declared.change.Added.{Added}
use Rattle.ode_value.specs.declared.class.Class.{Class}
use Rattle.ode_value.specs.declared.class.Field.{Field}
use Rattle.ode_value.specs.declared.statement.Sort.{Sort}
use Rattle.ode_value.specs.declared.value.Value.{Value}
use Rattle.ode_value.specs.Changing.{added_as, added_to}
use Rattle.ode_value.specs.Fields.{field_of}
use Rattle.ode_types.specs.Families.{class_named, class_numbered, upward}
use Rattle.ode_laws.proofs.Each.{all-then}
use Rattle.ode_accepted_laws.proofs.Lines.{AreKept, IsLine, IsLow, IsPlaced, all-upward, line_from}
use Rattle.ode_accepted_laws.proofs.Lists.{all-reverse}
use Rattle.ode_anew_laws.specs.Anew.{Changed, Same, Way, flag_of}

-- ---- which added fields are a class's own

abbrev pub New : Type 0
New = ℕ × (List ℕ × Sort × Value)

added_append : (n : ℕ) (xs ys : List Added) → added_to n (xs ++ ys) ≡ added_to n xs ++ added_to n ys
added_append n [] ys = refl
added_append n (x ∷ xs) ys = by_class (x.class == n) (added_append n xs ys) where
  by_class : (b : Bool) → added_to n (xs ++ ys) ≡ added_to n xs ++ added_to n ys → cond b (x ∷ added_to n (xs ++ ys)) (added_to n (xs ++ ys)) ≡ cond b (x ∷ added_to n xs) (added_to n xs) ++ added_to n ys
  by_class true rest = ap (λ zs. x ∷ zs) rest
  by_class false rest = rest

all_own : (n : ℕ) (fs : List New) → added_to n (map (added_as n) fs) ≡ map (added_as n) fs
all_own n [] = refl
all_own n (f ∷ fs) = ap (λ b. cond b (added_as n f ∷ added_to n (map (added_as n) fs)) (added_to n (map (added_as n) fs))) (eq-eqb n n refl) ∙ ap (λ zs. added_as n f ∷ zs) (all_own n fs)

none_own : (m n : ℕ) → (m == n) ≡ false → (fs : List New) → added_to n (map (added_as m) fs) ≡ []
none_own m n other [] = refl
none_own m n other (f ∷ fs) = ap (λ b. cond b (added_as m f ∷ added_to n (map (added_as m) fs)) (added_to n (map (added_as m) fs))) other ∙ none_own m n other fs

-- ---- lines

found_named : (cs : List Class) (name : List ℕ) (c : Class) → class_named cs name ≡ Some c → c.name ≡ name
found_named [] name c h = absurd (cc)
found_named (d ∷ cs) name c h = by_name (bytes_eq d.name name) (λ is. (bytes_eq-Decides d.name name).0 is) h (found_named cs name c) where
  by_name : (b : Bool) → (b ≡ true → d.name ≡ name) → cond b (Some d) (class_named cs name) ≡ Some c → (class_named cs name ≡ Some c → c.name ≡ name) → c.name ≡ name
  by_name true same is rest = let it : d ≡ c = cc in ap (λ (x : Class). x.name) (sym it) ∙ same refl
  by_name false same is rest = rest is

-- no class has number 0
none_zero : (ds : List Class) → AllByRecursion (λ (d : Class). 1 ≤ d.number) ds → upward 0 ds ≡ []
none_zero [] all = refl
none_zero (d ∷ ds) all = by_number (d.number == 0) (eqb-true d.number 0) (none_zero ds all.1) where
  by_number : (b : Bool) → (b ≡ true → d.number ≡ 0) → upward 0 ds ≡ [] → cond b (d ∷ upward (unwrap_or d.parent 0) ds) (upward 0 ds) ≡ []
  by_number true same rest = let zero : d.number ≡ 0 = same refl in let some : 1 ≤ d.number = all.0 in absurd (omega (arith, zero, some))
  by_number false same rest = rest

module _ (whole : List Class) (kept : AreKept whole) (name : List ℕ) (changed : Class) (found : class_named whole name ≡ Some changed) (placed : IsPlaced whole changed) where
  abbrev is_named : Class → Bool
  is_named e = bytes_eq e.name name

  -- a class of this number gets the fields
  abbrev pub gets : ℕ → Bool
  gets n = list_any is_named (upward n (reverse whole))

  zero_gets : gets 0 ≡ false
  zero_gets =
      ap (list_any is_named)
      (none_zero (reverse whole) (all-reverse (λ (e : Class). 1 ≤ e.number) whole (all-then (IsLow (length whole)) (λ (e : Class). 1 ≤ e.number) (λ e low. low.some) whole kept.low)))

  parent_gets : (parent : Option ℕ) → flag_of gets parent ≡ gets (unwrap_or parent 0)
  parent_gets None = sym zero_gets
  parent_gets (Some n) = refl

  pub line_gets : (c : Class) → IsPlaced whole c → gets c.number ≡ (is_named c || gets (unwrap_or c.parent 0))
  line_gets c is = ap (list_any is_named) is.line

  -- there is one class of this name
  pub one_named : (c : Class) → IsPlaced whole c → is_named c ≡ true → c ≡ changed
  one_named c is named =
      let same : c.name ≡ name = (bytes_eq-Decides c.name name).0 named in
      same_Some c changed (sym is.named ∙ ap (class_named whole) same ∙ found)

  none_above : (es : List Class) → AllByRecursion (IsPlaced whole) es → AllByRecursion (λ (e : Class). e.number < changed.number) es → list_any is_named es ≡ false
  none_above [] all low = refl
  none_above (e ∷ es) all low = by_name (is_named e) (one_named e all.0) (none_above es all.1 low.1) where
    by_name : (b : Bool) → (b ≡ true → e ≡ changed) → list_any is_named es ≡ false → (b || list_any is_named es) ≡ false
    by_name true same rest =
        let it : e ≡ changed = same refl in
        let number : e.number ≡ changed.number = ap (λ (x : Class). x.number) it in
        let less : e.number < changed.number = low.0 in
        absurd (omega (arith, number, less))
    by_name false same rest = rest

  above_none : gets (unwrap_or changed.parent 0) ≡ false
  above_none =
      let above = upward (unwrap_or changed.parent 0) (reverse whole) in
      let line : IsLine (changed ∷ above) = subst IsLine placed.line (line_from changed.number (reverse whole) kept.family) in
      none_above above (all-upward (IsPlaced whole) (unwrap_or changed.parent 0) (reverse whole) (all-reverse (IsPlaced whole) whole kept.placed)) line.0.numbers

  changed_named : is_named changed ≡ true
  changed_named = (bytes_eq-Decides changed.name name).1 (found_named whole name changed found)

  -- ---- how each class is checked anew

  module _ (old : List Added) (fs : List New) where
    abbrev new : List Field
    new = map field_of (map (added_as changed.number) fs)

    abbrev then : List Added
    then = old ++ map (added_as changed.number) fs

    other_number : (c : Class) → IsPlaced whole c → is_named c ≡ false → (changed.number == c.number) ≡ false
    other_number c is not = by_number (changed.number == c.number) (eqb-true changed.number c.number) where
      by_number : (b : Bool) → (b ≡ true → changed.number ≡ c.number) → b ≡ false
      by_number false same = refl
      by_number true same =
          let it : changed ≡ c = same_Some changed c (sym placed.numbered ∙ ap (class_numbered whole) (same refl) ∙ is.numbered) in
          absurd (false≢true (sym not ∙ ap is_named (sym it) ∙ changed_named))

    pub way : (c : Class) → IsPlaced whole c → Way (length changed.fields) new gets (added_to c.number old) (added_to c.number then) c
    way c is = by_name (is_named c) refl where
      by_name : (b : Bool) → is_named c ≡ b → Way (length changed.fields) new gets (added_to c.number old) (added_to c.number then) c
      by_name false named =
          Same (added_append c.number old (map (added_as changed.number) fs) ∙ ap (λ zs. added_to c.number old ++ zs) (none_own changed.number c.number (other_number c is named) fs) ∙ append-nil (added_to c.number old))
          (line_gets c is ∙ ap (λ b. b || gets (unwrap_or c.parent 0)) named ∙ sym (parent_gets c.parent))
      by_name true named =
          let it : c ≡ changed = one_named c is named in
          let number : changed.number ≡ c.number = sym (ap (λ (x : Class). x.number) it) in
          Changed (map (added_as changed.number) fs)
          (added_append c.number old (map (added_as changed.number) fs)
          ∙ ap (λ zs. added_to c.number old ++ zs) (ap (λ n. added_to n (map (added_as changed.number) fs)) (sym number) ∙ all_own changed.number fs))
          refl (ap (λ (x : Class). length x.fields) (sym it)) (line_gets c is ∙ ap (λ b. b || gets (unwrap_or c.parent 0)) named)
          (parent_gets c.parent ∙ ap (λ (x : Class). gets (unwrap_or x.parent 0)) it ∙ above_none)
