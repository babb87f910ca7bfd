use Rattle.std.proofs.Common.{◌∙◌, ap}
use Rattle.std.proofs.lemmas.Result.{IfOk-weaker}
use Rattle.ode_paging.proofs.Handled.{damaged_more}
use Rattle.ode_pagemap.specs.Holding.{format_of}
use Rattle.ode_pagemap.proofs.Last.{unless_more}
use Rattle.ode_pagemap.proofs.keeping.PageMapKeep.queued.Goals as goal

pub returns-clause-value : goal.returns-clause-value
returns-clause-value g c = IfOk-weaker c.queued.result _ _ (λ count is entries h. is entries h.hold) c.queued.ensures.value

pub returns-clause-holds : goal.returns-clause-holds
returns-clause-holds g c = unless_more c.queued.result c.queued.ensures.holds (λ still entries h. record { hold = still entries h.hold; last = ap format_of c.queued.ensures.same ∙ h.last })

pub returns-clause-damaged : goal.returns-clause-damaged
returns-clause-damaged g c = damaged_more _ c.queued.result c.queued.ensures.damaged (λ none entries h. none entries h.hold)
