-- One more class, and its place under its name.
use Rattle.std.proofs.Common.{◌≡◌, ℕ, ◌+◌, ◌-◌, List, [], ◌∷◌, ◌++◌, length, Bool, true, false, cond, Some, None, Option, refl, ap, sym, ◌∙◌, subst, ◌<◌, ◌≤◌, arith, zero-add}
use Rattle.std.specs.BTreeMap.{insert_entry}
use Rattle.std.specs.Cmp.Lexicographic.{slice_cmp}
use Rattle.std.specs.List.{position_from, remove, slice_get}
use Rattle.std.specs.Map.{lookup}
use Rattle.std.specs.Option.{option_or}
use Rattle.std.specs.Ordering.{is_eq, nat_cmp}
use Rattle.std.specs.Str.{bytes_eq}
use Rattle.std.specs.declared.cmp.Ordering.{Ordering}
use Rattle.std.specs.declared.cmp.Ordering.TheVariants.{Less, Equal, Greater}
use Rattle.std.proofs.lemmas.Grind.{common_steps}
use Rattle.std.proofs.lemmas.Map.Lookups.{exact_bytes}
use Rattle.std.proofs.lemmas.Map.Text.{is_eq-slice_cmp}
use Rattle.std.proofs.lemmas.Slice.Eq.{bytes_eq-Decides}
use Rattle.ode_value.specs.declared.class.Class.{Class}
use Rattle.ode_types.specs.Families.{class_named, class_numbered}
use Rattle.ode_types.specs.Indexed.{AreNumbered, place_named}
use Rattle.ode_types.proofs.CheckedClasses.{IsNext}
use Rattle.ode_types.proofs.ClassLists.{lookup-insert_entry, position_from-append, not_found, numbered-more, find-numbered, none-numbered}

-- the last one is taken out again
pub remove-last : {X : Type 0} (xs : List X) (x : X) → remove (xs ++ x ∷ []) (length xs) ≡ xs
remove-last xs x = grind (arith, common_steps)

-- a test for a name
abbrev has : List ℕ → List ℕ → Bool
has name other = is_eq (slice_cmp nat_cmp name other)

same_name : (a b : List ℕ) → bytes_eq a b ≡ true → a ≡ b
same_name a b h = (bytes_eq-Decides a b).0 h

is_same : (a b : List ℕ) → a ≡ b → has a b ≡ true
is_same a b h = is_eq-slice_cmp a b ∙ (bytes_eq-Decides a b).1 h

names_same : (a b : List ℕ) → has a b ≡ true → a ≡ b
names_same a b h = same_name a b (sym (is_eq-slice_cmp a b) ∙ h)

itself : (o : Ordering) → is_eq o ≡ true → o ≡ Equal
itself Less h = absurd (cc)
itself Equal h = refl
itself Greater h = absurd (cc)

bytes_eq-turned : (a b : List ℕ) → bytes_eq a b ≡ bytes_eq b a
bytes_eq-turned a b = grind (arith, bytes_eq-Decides)

or_none : {X : Type 0} (o : Option X) → o ≡ option_or o None
or_none None = refl
or_none (Some x) = refl

module _ {K : Type 0} (name_of : K → List ℕ) (cmp : K → K → Ordering) (order : (x y : K) → cmp x y ≡ slice_cmp nat_cmp (name_of x) (name_of y)) where
  equal_names : (x y : K) → cmp x y ≡ Equal → name_of x ≡ name_of y
  equal_names x y h = exact_bytes (name_of x) (name_of y) (sym (order x y) ∙ h)

  equal_keys : (x y : K) → name_of x ≡ name_of y → cmp x y ≡ Equal
  equal_keys x y h = order x y ∙ ap (slice_cmp nat_cmp (name_of x)) (sym h) ∙ itself (slice_cmp nat_cmp (name_of x) (name_of x)) (is_same (name_of x) (name_of x) refl)

  pub placed : (classes : List Class) (c : Class) (entries : List (K × ℕ)) (k : K) → class_named classes c.name ≡ None → name_of k ≡ c.name
      → ((name : List ℕ) → lookup (λ x. has name (name_of x)) entries ≡ position_from (λ (d : Class). bytes_eq d.name name) 0 classes)
      → (name : List ℕ) → lookup (λ x. has name (name_of x)) (insert_entry cmp entries k (length classes)) ≡ position_from (λ (d : Class). bytes_eq d.name name) 0 (classes ++ c ∷ [])
  placed classes c entries k fresh named places name =
      lookup-insert_entry (λ x. has name (name_of x)) cmp k (length classes)
      (λ x h. ap (has name) (equal_names k x h))
      (λ x a b. equal_keys k x (sym (names_same name (name_of k) a) ∙ names_same name (name_of x) b))
      entries
      ∙ by_test (bytes_eq c.name name) refl
      ∙ sym (position_from-append (λ (d : Class). bytes_eq d.name name) 0 classes c)
    where
      key_test : has name (name_of k) ≡ bytes_eq c.name name
      key_test = is_eq-slice_cmp name (name_of k) ∙ ap (bytes_eq name) named ∙ bytes_eq-turned name c.name

      by_test : (t : Bool) → bytes_eq c.name name ≡ t → cond (has name (name_of k)) (Some (length classes)) (lookup (λ x. has name (name_of x)) entries)
          ≡ option_or (position_from (λ (d : Class). bytes_eq d.name name) 0 classes) (cond (bytes_eq c.name name) (Some (0 + length classes)) None)
      by_test true h =
          let none : position_from (λ (d : Class). bytes_eq d.name name) 0 classes ≡ None =
          not_found (λ (d : Class). bytes_eq d.name name) classes 0 (ap (class_named classes) (sym (same_name c.name name h)) ∙ fresh) in
          rw (key_test, h, none, zero-add) refl
      by_test false h = rw (key_test, h) (places name ∙ or_none (position_from (λ (d : Class). bytes_eq d.name name) 0 classes))

  -- the lists behind an addition
  pub added : (classes : List Class) (c : Class) (entries : List (K × ℕ)) (k : K) (place : ℕ) (more : List Class) (under : List (K × ℕ)) → IsNext classes c → name_of k ≡ c.name → place ≡ length classes
      → more ≡ classes ++ c ∷ [] → under ≡ insert_entry cmp entries k place
      → AreNumbered classes × ((name : List ℕ) → lookup (λ x. has name (name_of x)) entries ≡ place_named classes name)
      → AreNumbered more × ((name : List ℕ) → lookup (λ x. has name (name_of x)) under ≡ place_named more name)
  added classes c entries k place more under next named last is now old =
      let numbers : AreNumbered (classes ++ c ∷ []) = numbered-more (λ (d : Class). d.number) 1 classes c old.0 (next.number ∙ omega arith) in
      let places : (name : List ℕ) → lookup (λ x. has name (name_of x)) (insert_entry cmp entries k (length classes)) ≡ place_named (classes ++ c ∷ []) name = placed classes c entries k next.fresh named old.1 in
      let entries_now : insert_entry cmp entries k (length classes) ≡ under = ap (insert_entry cmp entries k) (sym last) ∙ sym now in
      subst (λ (cs : List Class). AreNumbered cs × ((name : List ℕ) → lookup (λ x. has name (name_of x)) under ≡ place_named cs name)) (sym is)
      (numbers, subst (λ (es : List (K × ℕ)). (name : List ℕ) → lookup (λ x. has name (name_of x)) es ≡ place_named (classes ++ c ∷ []) name) entries_now places)

  -- the same lists
  pub kept : (classes : List Class) (entries : List (K × ℕ)) (more : List Class) (under : List (K × ℕ)) → more ≡ classes → under ≡ entries
      → AreNumbered classes × ((name : List ℕ) → lookup (λ x. has name (name_of x)) entries ≡ place_named classes name)
      → AreNumbered more × ((name : List ℕ) → lookup (λ x. has name (name_of x)) under ≡ place_named more name)
  kept classes entries more under is now old =
      subst (λ (cs : List Class). AreNumbered cs × ((name : List ℕ) → lookup (λ x. has name (name_of x)) under ≡ place_named cs name)) (sym is)
      (old.0, subst (λ (es : List (K × ℕ)). (name : List ℕ) → lookup (λ x. has name (name_of x)) es ≡ place_named classes name) (sym now) old.1)

-- the class at the place before its number
pub numbered-at : (classes : List Class) (number place : ℕ) → AreNumbered classes → 1 ≤ number → place ≡ number - 1 → slice_get classes place ≡ class_numbered classes number
numbered-at classes number place is low at = sym (find-numbered (λ (c : Class). c.number) 1 classes is place number (omega arith))

pub none-numbered-0 : (classes : List Class) (number : ℕ) → AreNumbered classes → number < 1 → None ≡ class_numbered classes number
none-numbered-0 classes number is low = sym (none-numbered (λ (c : Class). c.number) 1 classes is number low)
