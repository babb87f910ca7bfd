-- All numbers in a transaction's world and keys were drawn: so the keys of what is made next are new, whatever the next number is.
use Rattle.std.specs.Prelude.{◌<◌, ℕ, cond, ◌==◌, ◌||◌}
use Rattle.std.specs.List.{AllByRecursion}
use Rattle.ode_laws.specs.Numbered.{AreNumbered}
use Rattle.ode_value.specs.Keys.{activation_kind, object_kind, version_kind}
use Rattle.ode_value.specs.Language.{ListTx}
use Rattle.ode_value.specs.declared.key.Key.{Key}

-- the key of an object or a version, by its object's number; that of an activation, by its own
abbrev pub IsDrawnKey : ℕ → Key → Type 0
IsDrawnKey next k =
    cond (k.kind == object_kind || k.kind == version_kind) (k.a < next) (cond (k.kind == activation_kind) (k.b < next) (Unit {0}))

pub record AreDrawn (x : ListTx) : Type 0 where
  pub numbered : AreNumbered x.now.bones
  pub keys : AllByRecursion (IsDrawnKey x.now.bones.next) x.keys
