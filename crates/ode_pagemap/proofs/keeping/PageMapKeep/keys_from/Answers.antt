use Rattle.std.proofs.Common.{◌∙◌, ap}
use Rattle.std.proofs.lemmas.Result.{IfOk-weaker}
use Rattle.ode_paging.proofs.Handled.{damaged_more}
use Rattle.ode_pagemap.specs.Holding.{format_of}
use Rattle.ode_pagemap.proofs.Last.{unless_more}
use Rattle.ode_pagemap.proofs.keeping.PageMapKeep.keys_from.Goals as goal

pub returns-clause-value : goal.returns-clause-value
returns-clause-value g c = IfOk-weaker c.keys_from.result _ _ (λ found is entries h. is entries h.hold) c.keys_from.ensures.value

pub returns-clause-holds : goal.returns-clause-holds
returns-clause-holds g c = unless_more c.keys_from.result c.keys_from.ensures.holds (λ still entries h. record { hold = still entries h.hold; last = ap format_of c.keys_from.ensures.same ∙ h.last })

pub returns-clause-damaged : goal.returns-clause-damaged
returns-clause-damaged g c = damaged_more _ c.keys_from.result c.keys_from.ensures.damaged (λ none entries h. none entries h.hold)
