use Rattle.std.proofs.Common.{⊎_elim, sym, ◌∙◌}
use Rattle.ode_host.proofs.Moments.{looks_joined}
use Rattle.ode_opening.proofs.Calm.{calm}
use Rattle.ode_opening.proofs.classes.read_classes.Goals as goal

pub returns-clause-usable : goal.returns-clause-usable
returns-clause-usable g c = c.in_ok-added.ensures.usable ∙ sym c.declare_all.ensures.usable

-- two walks that didn't fail
pub returns-clause-cause : goal.returns-clause-cause
returns-clause-cause g c =
    let second = ⊎_elim (λ err. absurd (cc (err))) (λ same. same) c.in_ok-added.ensures.cause.calm in
    let first = ⊎_elim (λ err. absurd (cc (err))) (λ same. same) c.in_ok-walk.ensures.cause.calm in
    calm _ _ _ (second ∙ first) c.declare_all.ensures.calm

pub returns-clause-looks : goal.returns-clause-looks
returns-clause-looks g c = looks_joined _ _ _ c.walk.ensures.looks c.read_added.ensures.looks
