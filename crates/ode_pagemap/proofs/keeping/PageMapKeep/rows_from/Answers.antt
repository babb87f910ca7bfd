use Rattle.std.proofs.Common.{◌∙◌}
use Rattle.std.proofs.lemmas.Result.{IfOk-weaker}
use Rattle.ode_paging.proofs.Handled.{damaged_more}
use Rattle.ode_pagemap.proofs.Last.{unless_more}
use Rattle.ode_pagemap.proofs.keeping.PageMapKeep.rows_from.Goals as goal

pub returns-clause-value : goal.returns-clause-value
returns-clause-value g c = IfOk-weaker c.rows_from.result _ _ (λ rows is entries h. is entries h.hold) c.rows_from.ensures.value

pub returns-clause-holds : goal.returns-clause-holds
returns-clause-holds g c = unless_more c.rows_from.result c.rows_from.ensures.holds (λ still entries h. record { hold = still entries h.hold; last = c.rows_from.ensures.format ∙ h.last })

pub returns-clause-damaged : goal.returns-clause-damaged
returns-clause-damaged g c = damaged_more _ c.rows_from.result c.rows_from.ensures.damaged (λ none entries h. none entries h.hold)
