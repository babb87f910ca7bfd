use Rattle.std.proofs.Common.{◌∙◌, None, Some, sym}
use Rattle.ode_holders.proofs.HeldLaws.{held_nowhere, held_where}
use Rattle.ode_holders.specs.Opens.{opens_as}
use Rattle.ode_machine.specs.Interleaving.{Open, others_of}
use Rattle.ode_machine.specs.declared.owned.Owned.TheVariants as on
use Rattle.ode_holders.proofs.holding.queue_held.Goals as goal

pub returns-in-Some : goal.returns-in-Some
returns-in-Some c =
    held_where c.args.met_queue c.args.session on.Queue (λ (o : Open). o.held.queued) c.args.sessions.now (Some c.in-Some.other) c.if-met_queue.true (sym c.in-Some.is ∙ c.who_queued.ensures)

pub returns-in-None : goal.returns-in-None
returns-in-None c = held_where c.args.met_queue c.args.session on.Queue (λ (o : Open). o.held.queued) c.args.sessions.now None c.if-met_queue.true (sym c.in-None.is ∙ c.who_queued.ensures)

pub returns-else-met_queue : goal.returns-else-met_queue
returns-else-met_queue c = held_nowhere c.args.met_queue on.Queue (λ (o : Open). o.held.queued) (others_of c.args.session (opens_as c.args.sessions.now)) c.if-met_queue.false
