-- No body of the classes is longer than the longest.
use Rattle.std.proofs.Common.{◌≡◌, ◌≤◌, ℕ, zero, suc, List, [], ◌∷◌, reverse, max, Bool, true, false, cond, Option, Some, None, refl, ap, sym, ◌∙◌, subst, arith}
use Rattle.std.specs.Prelude.{◌==◌, slice_get}
use Rattle.std.specs.List.{find, flat_map}
use Rattle.std.specs.Borrow.{Bor}
use Rattle.std.specs.Option.{IfSome, option_and_then, option_copied, unwrap_or}
use Rattle.std.specs.Str.{bytes_eq}
use Rattle.std.proofs.lemmas.List.{reverse-append}
use denote.Param.Weighed.{most, most-append}
use Rattle.ode_value.specs.declared.class.Class.{Class}
use Rattle.ode_value.specs.declared.member.Method.{Method}
use Rattle.ode_value.specs.declared.member.TriggerDecl.{TriggerDecl}
use Rattle.ode_value.specs.declared.statement.Stmt.{Stmt}
use Rattle.ode_types.specs.Families.{class_numbered, method_named, upward}
use Rattle.ode_schema.specs.Parts.{longest, tallest, trigger_under}

-- what is found in a list, and what stands at a place of it
found_most : {X : Type 0} (μ : X → ℕ) (p : X → Bool) (xs : List X) (x : X) → find p xs ≡ Some x → μ x ≤ most μ xs
found_most μ p [] x is = absurd (cc)
found_most μ p (y ∷ xs) x is = by_test (p y) is (found_most μ p xs x) where
  by_test : (b : Bool) → cond b (Some y) (find p xs) ≡ Some x → (find p xs ≡ Some x → μ x ≤ most μ xs) → μ x ≤ max (μ y) (most μ xs)
  by_test true e rest = let same : y ≡ x = cc in subst (λ z. μ z ≤ max (μ y) (most μ xs)) same (omega arith)
  by_test false e rest = let less : μ x ≤ most μ xs = rest e in omega arith

at_most : {X : Type 0} (μ : X → ℕ) (xs : List X) (k : ℕ) (x : X) → slice_get xs k ≡ Some x → μ x ≤ most μ xs
at_most μ [] k x is = absurd (cc)
at_most μ (y ∷ xs) zero x is = let same : y ≡ x = cc in subst (λ z. μ z ≤ max (μ y) (most μ xs)) same (omega arith)
at_most μ (y ∷ xs) (suc k) x is = let less : μ x ≤ most μ xs = at_most μ xs k x is in omega arith

most-reverse : {X : Type 0} (μ : X → ℕ) (xs : List X) → most μ (reverse xs) ≡ most μ xs
most-reverse μ [] = refl
most-reverse μ (x ∷ xs) =
    let rest : most μ (reverse xs) ≡ most μ xs = most-reverse μ xs in
    ap (most μ) (reverse-append (x ∷ []) xs) ∙ most-append μ (reverse xs) (x ∷ []) ∙ omega (arith, rest)

-- a line is among the classes
most-upward : (μ : Class → ℕ) (n : ℕ) (cs : List Class) → most μ (upward n cs) ≤ most μ cs
most-upward μ n [] = omega arith
most-upward μ n (c ∷ cs) = by_test (c.number == n) (most-upward μ (unwrap_or c.parent 0) cs) (most-upward μ n cs) where
  by_test : (b : Bool) → most μ (upward (unwrap_or c.parent 0) cs) ≤ most μ cs → most μ (upward n cs) ≤ most μ cs
      → most μ (cond b (c ∷ upward (unwrap_or c.parent 0) cs) (upward n cs)) ≤ max (μ c) (most μ cs)
  by_test true up rest = omega arith
  by_test false up rest = omega arith

module _ (size : Stmt → ℕ) where
  abbrev body : Method → ℕ
  body m = most size m.body

  abbrev action : TriggerDecl → ℕ
  action t = most size t.action

  -- the methods of a line
  methods_most : (line : List Class) → most body (flat_map (λ (c : Class). c.methods) line) ≤ most (tallest size) line
  methods_most [] = omega arith
  methods_most (c ∷ line) =
      let rest : most body (flat_map (λ (d : Class). d.methods) line) ≤ most (tallest size) line = methods_most line in
      let both = most-append body c.methods (flat_map (λ (d : Class). d.methods) line) in
      omega (arith, rest, both)

  pub method_fits : (cs : List Class) (n : ℕ) (name : List ℕ) (m : Method) → method_named (upward n (reverse cs)) name ≡ Some m → most size m.body ≤ longest size cs
  method_fits cs n name m found =
      let line = upward n (reverse cs) in
      let one : most size m.body ≤ most body (flat_map (λ (c : Class). c.methods) line) = found_most body (λ (k : Method). bytes_eq k.name name) (flat_map (λ (c : Class). c.methods) line) m found in
      let two : most body (flat_map (λ (c : Class). c.methods) line) ≤ most (tallest size) line = methods_most line in
      let three : most (tallest size) line ≤ most (tallest size) (reverse cs) = most-upward (tallest size) n (reverse cs) in
      let four : most (tallest size) (reverse cs) ≡ longest size cs = most-reverse (tallest size) cs in
      omega (arith, one, two, three, four)

  under : (cs : List Class) (place : ℕ) (t : TriggerDecl) (o : Option Class) → ((c : Class) → o ≡ Some c → tallest size c ≤ longest size cs)
      → option_and_then (λ (c : Class). slice_get c.triggers place) o ≡ Some t → most size t.action ≤ longest size cs
  under cs place t None found is = absurd (cc)
  under cs place t (Some c) found is =
      let one : most size t.action ≤ most action c.triggers = at_most action c.triggers place t is in
      let two : tallest size c ≤ longest size cs = found c refl in
      omega (arith, one, two)

  pub trigger_fits : (cs : List Class) (class place : ℕ) (t : TriggerDecl) → trigger_under cs class place ≡ Some t → most size t.action ≤ longest size cs
  trigger_fits cs class place t is = under cs place t (class_numbered cs class) (λ c found. found_most (tallest size) (λ (d : Class). d.number == class) cs c found) is

  -- of a method that was found
  pub method_fits_found : (cs : List Class) (n : ℕ) (name : List ℕ) (m : Option (Bor Method)) → option_copied m ≡ method_named (upward n (reverse cs)) name → IfSome m (λ k. most size k.now.body ≤ longest size cs)
  method_fits_found cs n name None is = tt
  method_fits_found cs n name (Some m) is = method_fits cs n name m.now (sym is)
