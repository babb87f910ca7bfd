use Rattle.std.proofs.Common.{◌∙◌, sym}
use Rattle.ode_steps.proofs.OpenedLaws.{place_open}
use Rattle.ode_steps.proofs.stepping.is_open.Goals as goal

pub returns : goal.returns
returns c =
    c.is_some.ensures ∙ place_open c.args.session c.args.sessions.now c.place_of.result (sym c.place_of.ensures)
