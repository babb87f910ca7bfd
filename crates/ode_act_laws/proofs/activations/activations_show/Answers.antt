use Rattle.ode_act_laws.proofs.ShownLaws.{initial_shown, named_shown}
use Rattle.ode_act_laws.proofs.activations.activations_show.Goals as goal
use Rattle.ode_view_laws.specs.Viewing.{running}

pub returns-clause-named : goal.returns-clause-named
returns-clause-named c = λ classes first beside x viewed declared base r new read is tables o name t args at found.
    named_shown classes first beside x viewed declared base r new read is tables name t args
    (c.activations_follow.ensures.named tables o name t args x (running classes first x beside) r new (c.overlays_have_views.ensures.stands classes first x beside viewed.over) is at found)

pub returns-clause-initial : goal.returns-clause-initial
returns-clause-initial c = λ classes first beside x viewed declared base id new read is tables t.
    initial_shown classes first beside x viewed declared base id new read is tables t
    (c.activations_follow.ensures.initial tables t x (running classes first x beside) id new (c.overlays_have_views.ensures.stands classes first x beside viewed.over) is)
