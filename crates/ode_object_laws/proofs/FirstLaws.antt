-- What holds of the objects that an abort leaves.
use Rattle.std.proofs.Common.{◌≡◌, ◌≤◌, ℕ, List, option_map, Option, Some, None, refl, sym, subst, ◌∙◌}
use Rattle.ode_laws.specs.Alike.{NumberTx}
use Rattle.ode_laws.specs.Numbered.{HasNumbers}
use Rattle.ode_object_laws.proofs.NumberLaws.{later_numbers}
use Rattle.ode_object_laws.specs.Objects.{HasTriggers, HaveNumbers, HaveTriggers}
use Rattle.ode_value.specs.Denoting.{object_numbered}
use Rattle.ode_value.specs.Keeping.{with_last}
use Rattle.ode_value.specs.Pasts.{numbers}
use Rattle.ode_value.specs.Settling.{aborted}
use Rattle.ode_value.specs.Tables.{Table}
use Rattle.ode_value.specs.Worlds.{Declared, Object}
use Rattle.ode_version_laws.proofs.RewoundRows.{numbered_left}

-- ---- behind an abort

module _ (tables : ℕ → ℕ → Table) (y : NumberTx) where
  left_each : (P Q : Object → Type 0) → ((o : Object) (n : ℕ) → P o → Q (record o { last = n })) → ((id : ℕ) (o : Object) → object_numbered id y.first.bones.objects ≡ Some o → P o)
      → (id : ℕ) (o : Object) → object_numbered id (aborted (numbers tables) y).now.bones.objects ≡ Some o → Q o
  left_each P Q then each id q is = by_first (object_numbered id y.first.bones.objects) refl (sym (numbered_left id y.now.bones y.first.bones.objects) ∙ is) where
    by_first : (f : Option Object) → object_numbered id y.first.bones.objects ≡ f → option_map (with_last y.now.bones) f ≡ Some q → Q q
    by_first None first left = absurd (cc)
    by_first (Some o) first left = let same : with_last y.now.bones o ≡ q = cc in subst Q same (then o (with_last y.now.bones o).last (each id o first))

  pub left_numbers : HaveNumbers y.first.bones → y.first.bones.next ≤ y.now.bones.next → HaveNumbers (aborted (numbers tables) y).now.bones
  left_numbers have up =
      left_each (HasNumbers y.first.bones.next) (HasNumbers y.now.bones.next)
      (λ o n has. let later = later_numbers y.first.bones.next y.now.bones.next o up has in record { drawn = later.drawn; rising = later.rising; activations = later.activations }) have

  pub left_triggers : (classes : List Declared) → HaveTriggers classes y.first.bones → HaveTriggers classes (aborted (numbers tables) y).now.bones
  left_triggers classes have = left_each (HasTriggers classes) (HasTriggers classes) (λ o n has. has) have
