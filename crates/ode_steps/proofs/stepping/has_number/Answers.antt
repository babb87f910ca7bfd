use Rattle.std.proofs.Common.{◌∙◌, ℕ, Bool, length, refl, rules}
use Rattle.ode_language.specs.Languages.{ode}
use Rattle.ode_machine.specs.Interleaving.{Interleaved}
use Rattle.ode_steps.specs.Serving.{StandsIn}
use Rattle.ode_transact.specs.Resting.{IsAtRest}
use Rattle.ode_opened.specs.declared.opened.Opened.{Opened}
use Rattle.ode_transact.proofs.BeginLaws.{damaged_before}
use Rattle.ode_value.specs.Language.{Language, ListWorld}
use Rattle.ode_steps.proofs.NumberLaws.{number_left}
use Rattle.ode_steps.proofs.stepping.has_number.Goals as goal

pub returns-clause-is : goal.returns-clause-is
returns-clause-is g c =
    λ m here.
    let next = c.in_ok-rest.ensures.is ode m.world here.rests in
    (record { goes_on = here.goes_on; rests = next.0; same = here.same }, c.is_left.ensures ∙ number_left m c.args.sessions.now c.in_ok-rest.next (length c.args.sessions.now) next.1 refl here.same)

pub returns-in_err-rest-clause-undamaged : goal.returns-in_err-rest-clause-undamaged
returns-in_err-rest-clause-undamaged g c =
    let Before : Type 0 = (l : Language) (w : ListWorld) → IsAtRest g.H.Host.view g.K.Keep.holds g.K.Keep.live l w c.args.rest c.args.host.now → ⊥ in
    let Undamaged : Type 0 = (m : Interleaved) → StandsIn g.H.Host.view g.K.Keep.holds g.K.Keep.live ode m c.args.rest c.args.sessions.now c.args.host.now → ⊥ in
    damaged_before (Opened g.row.K.Denot × ℕ) (Opened g.row.K.Denot × Bool) c.from_residual.result c.in_err-rest.field-0.0 (search rules) Before Undamaged (λ damaged m here. damaged ode m.world here.rests) c.in_err-rest.ensures.undamaged
