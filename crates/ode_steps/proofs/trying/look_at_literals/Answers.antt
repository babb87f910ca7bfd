use Rattle.std.proofs.Common.{◌∙◌, ℕ, List, ap}
use Rattle.ode_overlay.specs.Layers.{looking}
use Rattle.ode_steps.proofs.trying.look_at_literals.Goals as goal

pub returns-clause-looked : goal.returns-clause-looked
returns-clause-looked g c =
    c.in_ok-look_at.ensures.looked ∙ ap (λ (ids : List ℕ). record c.args.ctx.now { overlay = looking ids c.args.ctx.now.overlay }) (c.as_slice.ensures ∙ c.in_ok-literals.ensures)
