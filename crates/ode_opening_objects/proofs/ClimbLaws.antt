-- A step from a class to its parent.
use Rattle.std.proofs.Common.{◌≡◌, ℕ, suc, List, Bool, false, Option, Some, None, ap, ◌∙◌}
use Rattle.std.specs.Prelude.{◌||◌}
use Rattle.std.specs.Option.{option_map, option_map_or, unwrap_or}
use Rattle.ode_opening_objects.specs.Fitting.{climbs_to}
use Rattle.ode_types.specs.Families.{class_numbered}
use Rattle.ode_value.specs.declared.class.Class.{Class}

module _ (test : Class → Bool) (classes : List Class) (number : ℕ) where
  -- whether a class passes, and its parent's number
  abbrev looked : Class → Bool × ℕ
  looked c = (test c, unwrap_or c.parent 0)

  pub climbs_on : (left rest parent : ℕ) → left ≡ suc rest → option_map looked (class_numbered classes number) ≡ Some (false, parent) → climbs_to test left classes number ≡ climbs_to test rest classes parent
  climbs_on left rest parent one at = ap (λ (n : ℕ). climbs_to test n classes number) one ∙ by (class_numbered classes number) at
    where
      by : (o : Option Class) → option_map looked o ≡ Some (false, parent)
          → option_map_or (λ (c : Class). test c || climbs_to test rest classes (unwrap_or c.parent 0)) o false ≡ climbs_to test rest classes parent
      by None none = absurd (cc)
      by (Some c) some =
          let both : looked c ≡ (false, parent) = cc in
          ap (λ b. b || climbs_to test rest classes (unwrap_or c.parent 0)) (ap (λ (p : Bool × ℕ). p.0) both)
          ∙ ap (λ (n : ℕ). climbs_to test rest classes n) (ap (λ (p : Bool × ℕ). p.1) both)
