-- Good worlds of sound classes.
use Rattle.ode_value.specs.GoodWorlds.{IsGood}
use Rattle.ode_value.specs.Language.{Language, ListWorld}
use Rattle.ode_sound_laws.specs.Sound.{AreSound}
use Rattle.ode_sound_laws.specs.Typed.{AreFromOne}

-- a good world, whose classes are sound and whose versions' numbers begin at 1
pub record IsWell (l : Language) (w : ListWorld) : Type 0 where
  pub good : IsGood l w
  pub sound : AreSound w.bones.classes
  pub ones : AreFromOne w.bones
