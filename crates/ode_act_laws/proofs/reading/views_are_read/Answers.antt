use Rattle.std.specs.Prelude.{map}
use Rattle.ode_heap.specs.Answering.{class_of}
use Rattle.ode_act_laws.proofs.ReadsLaws.{reads_bones}
use Rattle.ode_act_laws.proofs.reading.views_are_read.Goals as goal
use Rattle.ode_view_laws.specs.Viewing.{running}

pub returns : goal.returns
returns c = λ classes first beside x base over shows settled has.
    let y = running classes first x beside in
    let stands = c.overlays_have_views.ensures.stands classes first x beside over in
    reads_bones (map class_of first.bones.classes) base x y.now.bones
    (λ r slot. c.reads_follow.ensures.field base x y r slot stands shows (settled r.object) (has r.object))
    (λ r. c.reads_follow.ensures.number base x y r stands shows (settled r.object) (has r.object))
