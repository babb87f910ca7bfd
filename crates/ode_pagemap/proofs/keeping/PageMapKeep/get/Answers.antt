use Rattle.std.proofs.Common.{◌∙◌}
use Rattle.std.proofs.lemmas.Result.{IfOk-weaker}
use Rattle.ode_paging.proofs.Handled.{damaged_more}
use Rattle.ode_pagemap.proofs.Last.{unless_more}
use Rattle.ode_pagemap.proofs.keeping.PageMapKeep.get.Goals as goal

pub returns-clause-value : goal.returns-clause-value
returns-clause-value g c = IfOk-weaker c.get.result _ _ (λ found is entries h. is entries h.hold) c.get.ensures.value

pub returns-clause-holds : goal.returns-clause-holds
returns-clause-holds g c = unless_more c.get.result c.get.ensures.holds (λ still entries h. record { hold = still entries h.hold; last = c.get.ensures.format ∙ h.last })

pub returns-clause-damaged : goal.returns-clause-damaged
returns-clause-damaged g c = damaged_more _ c.get.result c.get.ensures.damaged (λ none entries h. none entries h.hold)
