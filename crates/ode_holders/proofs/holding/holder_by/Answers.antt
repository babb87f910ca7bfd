use Rattle.std.proofs.Common.{sym, ◌∙◌}
use Rattle.ode_holders.proofs.HeldLaws.{numbers_first, objects_second, queue_last}
use Rattle.ode_holders.specs.Opens.{opens_as}
use Rattle.ode_machine.specs.Interleaving.{others_of}
use Rattle.ode_holders.proofs.holding.holder_by.Goals as goal

pub returns-in-Some : goal.returns-in-Some
returns-in-Some c =
    numbers_first (record { looked = c.args.looked.now; drew = c.args.drew; queued = c.args.met_queue }) (others_of c.args.session (opens_as c.args.sessions.now)) c.in-Some.held
    (sym c.in-Some.is ∙ c.numbers_held.ensures)

pub returns-in-Some-object_held : goal.returns-in-Some-object_held
returns-in-Some-object_held c =
    objects_second (record { looked = c.args.looked.now; drew = c.args.drew; queued = c.args.met_queue }) (others_of c.args.session (opens_as c.args.sessions.now)) c.in-Some-object_held.held
    (sym c.in-None.is ∙ c.numbers_held.ensures) (sym c.in-Some-object_held.is ∙ c.object_held.ensures)

pub returns-in-None-object_held : goal.returns-in-None-object_held
returns-in-None-object_held c =
    queue_last (record { looked = c.args.looked.now; drew = c.args.drew; queued = c.args.met_queue }) (others_of c.args.session (opens_as c.args.sessions.now)) c.queue_held.result
    (sym c.in-None.is ∙ c.numbers_held.ensures) (sym c.in-None-object_held.is ∙ c.object_held.ensures) c.queue_held.ensures
