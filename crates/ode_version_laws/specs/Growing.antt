-- What is known of the worlds of a transaction whose growth is told.
use Rattle.std.specs.Prelude.{◌≡◌, ◌≤◌}
use Rattle.ode_laws.specs.Alike.{NumberTx}
use Rattle.ode_laws.specs.Numbered.{AreNumbered}

-- in both worlds numbers tell parts apart, no number is given back, and classes stay
pub record GoesOnNumbered (y : NumberTx) : Type 0 where
  pub first : AreNumbered y.first.bones
  pub now : AreNumbered y.now.bones
  pub next : y.first.bones.next ≤ y.now.bones.next
  pub classes : y.now.bones.classes ≡ y.first.bones.classes
