-- Classes that are added.
use Rattle.std.specs.Prelude.{◌≡◌, [], ◌∷◌, ◌++◌, length, None}
use Rattle.ode_value.specs.Fields.{AreBorn}
use Rattle.ode_value.specs.Worlds.{Bones, Declared, class_numbered}
use Rattle.ode_sound_laws.specs.Sound.{AreSound}

-- a class is sound behind the earlier ones, has a number that none of these has, and no field above the newest stamp
pub record AddsSoundly (b : Bones) (c : Declared) : Type 0 where
  pub sound : AreSound (b.classes ++ c ∷ [])
  pub new : class_numbered c.class.number b.classes ≡ None
  pub born : AreBorn (length b.added) c.class
