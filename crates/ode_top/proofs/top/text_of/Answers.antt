use Rattle.ode_top.proofs.Inspecting.{on_broken}
use Rattle.ode_top.proofs.top.text_of.Goals as goal

pub returns-in-Check-clause-broken : goal.returns-in-Check-clause-broken
returns-in-Check-clause-broken g c = on_broken c.check_text.result _ _ (λ none entries holds records. none entries holds) c.check_text.ensures.broken
