use Rattle.std.proofs.Common.{◌∙◌, ◌++◌, ◌∷◌, [], ap}
use Rattle.ode_holders.proofs.PlaceLaws.{on_ok}
use Rattle.ode_holders.specs.Opens.{open_as, opens_as, taken_as}
use Rattle.ode_machine.specs.Interleaving.{session_of, with_open, Open}
use Rattle.ode_steps.proofs.OpenedLaws.{more_is}
use Rattle.ode_interleaved_laws.specs.Serial.{taken_of}
use Rattle.ode_steps.proofs.stepping.keep_taken.Goals as goal

pub returns : goal.returns
returns g c =
    on_ok c.put.result _ _
    (λ put rise. put ∙ ap (λ (o : Open). with_open o (opens_as c.take_out-one.new.sessions)) (c.in_ok-more.ensures ∙ more_is c.args.session (opens_as c.args.sessions.now) (open_as c.take_out-one.result) (taken_as c.args.taken) c.args.ctx.now.overlay.footprint c.take_out-one.ensures.one)
    ∙ ap (with_open (record { session = c.args.session; taken = taken_of (session_of c.args.session (opens_as c.args.sessions.now)) ++ taken_as c.args.taken ∷ []; held = c.args.ctx.now.overlay.footprint })) (c.take_out-one.ensures.rest rise))
    c.put.ensures
