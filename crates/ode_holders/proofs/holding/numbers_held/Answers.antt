use Rattle.std.proofs.Common.{◌∙◌, None, Some, sym}
use Rattle.ode_holders.proofs.HeldLaws.{held_nowhere, held_where}
use Rattle.ode_holders.specs.Opens.{opens_as}
use Rattle.ode_machine.specs.Interleaving.{Open, others_of}
use Rattle.ode_machine.specs.declared.owned.Owned.TheVariants as on
use Rattle.ode_holders.proofs.holding.numbers_held.Goals as goal

pub returns-in-Some : goal.returns-in-Some
returns-in-Some c =
    held_where c.args.drew c.args.session on.Numbers (λ (o : Open). o.held.drew) c.args.sessions.now (Some c.in-Some.other) c.if-drew.true (sym c.in-Some.is ∙ c.who_drew.ensures)

pub returns-in-None : goal.returns-in-None
returns-in-None c = held_where c.args.drew c.args.session on.Numbers (λ (o : Open). o.held.drew) c.args.sessions.now None c.if-drew.true (sym c.in-None.is ∙ c.who_drew.ensures)

pub returns-else-drew : goal.returns-else-drew
returns-else-drew c = held_nowhere c.args.drew on.Numbers (λ (o : Open). o.held.drew) (others_of c.args.session (opens_as c.args.sessions.now)) c.if-drew.false
