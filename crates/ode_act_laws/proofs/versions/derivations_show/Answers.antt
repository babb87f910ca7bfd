use Rattle.ode_act_laws.proofs.ShownLaws.{derive_shown}
use Rattle.ode_act_laws.proofs.versions.derivations_show.Goals as goal
use Rattle.ode_view_laws.specs.Viewing.{running}

pub returns : goal.returns
returns c = λ classes first beside x viewed declared base r read.
    derive_shown classes first beside x viewed declared base r
    (c.derivations_follow.ensures declared base x (running classes first x beside) r (c.overlays_have_views.ensures.stands classes first x beside viewed.over) read)
