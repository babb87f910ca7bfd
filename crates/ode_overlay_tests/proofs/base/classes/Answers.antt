use Rattle.ode_overlay_tests.proofs.OneClass.{is_watched}
use Rattle.ode_overlay_tests.proofs.base.classes.Goals as goal

pub add-requires : goal.add-requires
add-requires c = is_watched _ _ c.new-classes.ensures c.in_ok-class.ensures
