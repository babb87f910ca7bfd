-- Look-ups along a line, by one class.
use Rattle.std.proofs.Common.{◌≡◌, ℕ, ◌-◌, ◌+◌, List, [], ◌∷◌, ◌++◌, Bool, true, false, cond, Some, refl, ap, sym, ◌∙◌, arith, append_assoc, length, take}
use Rattle.std.proofs.lemmas.List.{append-nil}
use Rattle.std.proofs.lemmas.Iterator.Adapters.{position_from-zero}
use Rattle.std.proofs.lemmas.List.Folds.{find-append}
use Rattle.std.specs.List.{find, enumerate_from, slice_get, position_from, position}
use Rattle.std.specs.Option.{option_or, option_and_then, option_map}
use Rattle.std.specs.Str.{bytes_eq}
use Rattle.ode_value.specs.declared.class.Class.{Class}
use Rattle.ode_value.specs.declared.class.Field.{Field}
use Rattle.ode_value.specs.declared.member.Constraint.{Constraint}
use Rattle.ode_value.specs.declared.member.Method.{Method}
use Rattle.ode_value.specs.declared.member.TriggerDecl.{TriggerDecl}
use Rattle.ode_types.proofs.ClassLists.{length-more, slice_get-behind}
use Rattle.ode_types.specs.Families.{constraint_named, field_named, method_named, trigger_named}
use Rattle.ode_types.specs.Limits.{slot_limit}

pub method_named-own : (c : Class) (name : List ℕ) → method_named (c ∷ []) name ≡ find (λ (m : Method). bytes_eq m.name name) c.methods
method_named-own c name = ap (find (λ (m : Method). bytes_eq m.name name)) (append-nil c.methods)

pub method_named-next : (c : Class) (line : List Class) (name : List ℕ) → method_named (c ∷ line) name ≡ option_or (method_named (c ∷ []) name) (method_named line name)
method_named-next c line name = find-append (λ (m : Method). bytes_eq m.name name) c.methods _ ∙ ap (λ o. option_or o (method_named line name)) (sym (method_named-own c name))

pub trigger_named-own : (c : Class) (name : List ℕ) → trigger_named (c ∷ []) name ≡ find (λ (t : TriggerDecl). bytes_eq t.name name) c.triggers
trigger_named-own c name = ap (find (λ (t : TriggerDecl). bytes_eq t.name name)) (append-nil c.triggers)

pub trigger_named-next : (c : Class) (line : List Class) (name : List ℕ) → trigger_named (c ∷ line) name ≡ option_or (trigger_named (c ∷ []) name) (trigger_named line name)
trigger_named-next c line name = find-append (λ (t : TriggerDecl). bytes_eq t.name name) c.triggers _ ∙ ap (λ o. option_or o (trigger_named line name)) (sym (trigger_named-own c name))

pub constraint_named-own : (c : Class) (name : List ℕ) → constraint_named (c ∷ []) name ≡ find (λ (x : Constraint). bytes_eq x.name name) c.constraints
constraint_named-own c name = ap (find (λ (x : Constraint). bytes_eq x.name name)) (append-nil c.constraints)

pub constraint_named-next : (c : Class) (line : List Class) (name : List ℕ) → constraint_named (c ∷ line) name ≡ option_or (constraint_named (c ∷ []) name) (constraint_named line name)
constraint_named-next c line name = find-append (λ (x : Constraint). bytes_eq x.name name) c.constraints _ ∙ ap (λ o. option_or o (constraint_named line name)) (sym (constraint_named-own c name))

-- the first of numbered ones, by its place
module _ {X : Type 0} (p : X → Bool) where
  numbered_behind : (front xs : List X) (i : ℕ) → i ≡ length front
      → find (λ (f : ℕ × X). p f.1) (enumerate_from i xs) ≡ option_and_then (λ k. option_map (λ (x : X). (k, x)) (slice_get (front ++ xs) k)) (position_from p i xs)
  numbered_behind front [] i h = refl
  numbered_behind front (x ∷ xs) i h =
      by_test
      (numbered_behind (front ++ x ∷ []) xs (i + 1) (omega (arith, length-more p x front))
      ∙ ap (λ (all : List X). option_and_then (λ k. option_map (λ (y : X). (k, y)) (slice_get all k)) (position_from p (i + 1) xs)) (append_assoc front (x ∷ []) xs))
      (p x) where
        here : Some x ≡ slice_get (front ++ x ∷ xs) i
        here = rw h (sym (slice_get-behind p front x xs))

        by_test : find (λ (f : ℕ × X). p f.1) (enumerate_from (i + 1) xs) ≡ option_and_then (λ k. option_map (λ (y : X). (k, y)) (slice_get (front ++ x ∷ xs) k)) (position_from p (i + 1) xs)
            → (t : Bool) → cond t (Some (i, x)) (find (λ (f : ℕ × X). p f.1) (enumerate_from (i + 1) xs)) ≡ option_and_then (λ k. option_map (λ (y : X). (k, y)) (slice_get (front ++ x ∷ xs) k)) (cond t (Some i) (position_from p (i + 1) xs))
        by_test next true = ap (option_map (λ (y : X). (i, y))) here
        by_test next false = next

pub field_named-place : (fields : List Field) (name : List ℕ) → field_named fields name ≡ option_and_then (λ k. option_map (λ (f : Field). (k, f)) (slice_get (take (slot_limit - 0) fields) k)) (position (λ (f : Field). bytes_eq f.name name) (take (slot_limit - 0) fields))
field_named-place fields name = by (take (slot_limit - 0) fields) where
  by : (first : List Field) → find (λ (f : ℕ × Field). bytes_eq f.1.name name) (enumerate_from 0 first) ≡ option_and_then (λ k. option_map (λ (f : Field). (k, f)) (slice_get first k)) (position (λ (f : Field). bytes_eq f.name name) first)
  by first =
      numbered_behind (λ (f : Field). bytes_eq f.name name) [] first 0 refl
      ∙ ap (option_and_then (λ k. option_map (λ (f : Field). (k, f)) (slice_get first k))) (sym (position_from-zero (λ (f : Field). bytes_eq f.name name) first))

pub ruleset fields_by_place = (field_named-place)

pub ruleset named_along = (method_named-next, trigger_named-next, constraint_named-next)
