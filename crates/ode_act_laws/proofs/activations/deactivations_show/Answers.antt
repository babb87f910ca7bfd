use Rattle.ode_act_laws.proofs.ShownLaws.{off_shown}
use Rattle.ode_act_laws.proofs.activations.deactivations_show.Goals as goal
use Rattle.ode_view_laws.specs.Viewing.{running}

pub returns : goal.returns
returns c = λ classes first beside x viewed declared base r number new read is tables.
    off_shown classes first beside x viewed declared base r number new read is tables
    (c.deactivations_follow.ensures tables x (running classes first x beside) r number new (c.overlays_have_views.ensures.stands classes first x beside viewed.over) is)
