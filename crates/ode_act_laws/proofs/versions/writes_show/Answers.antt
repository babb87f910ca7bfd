use Rattle.ode_act_laws.proofs.ShownLaws.{write_shown}
use Rattle.ode_act_laws.proofs.versions.writes_show.Goals as goal
use Rattle.ode_view_laws.specs.Viewing.{running}

pub returns : goal.returns
returns c = λ classes first beside x viewed declared base r slot v read has.
    write_shown classes first beside x viewed declared base r slot v
    (c.writes_follow.ensures declared base x (running classes first x beside) r slot v (c.overlays_have_views.ensures.stands classes first x beside viewed.over) read has)
