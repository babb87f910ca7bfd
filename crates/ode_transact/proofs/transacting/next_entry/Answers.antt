use Rattle.std.proofs.Common.{rules, ◌∙◌, ℕ, Option}
use Rattle.ode_codec.specs.declared.record.Entry as stored
use Rattle.ode_host.proofs.Moments.{looks_joined}
use Rattle.ode_opened.specs.declared.opened.Opened.{Opened}
use Rattle.ode_transact.proofs.BeginLaws.{damaged_before}
use Rattle.ode_transact.proofs.FrontLaws.{front_passes, none_left, some_left}
use Rattle.ode_transact.proofs.transacting.next_entry.Goals as goal
use Rattle.ode_transact.specs.Resting.{IsAtRest}
use Rattle.ode_value.specs.Language.{Language, ListWorld}

pub returns-then-number-ge-NUMBER_LIMIT-clause-is : goal.returns-then-number-ge-NUMBER_LIMIT-clause-is
returns-then-number-ge-NUMBER_LIMIT-clause-is g c = λ l w rest.
    let at = c.in_ok-rest.ensures.is l w rest in
    (at.0, none_left w c.in_ok-rest.number c.if-number-ge-NUMBER_LIMIT.true at.1)

pub returns-clause-is : goal.returns-clause-is
returns-clause-is g c = λ l w rest.
    let at = c.in_ok-rest.ensures.is l w rest in
    let first = c.in_ok-rest-2.ensures.is l w at.0 in
    let passes = c.known_generation.ensures.same (front_passes l w c.in_ok-rest-2.found at.0.world.world.good first.1) in
    (first.0, some_left w c.in_ok-rest.number c.known_generation.result c.if-number-ge-NUMBER_LIMIT.false at.1 (passes ∙ first.1))

pub returns-clause-looks : goal.returns-clause-looks
returns-clause-looks g c = looks_joined _ _ _ c.next_number.ensures.looks c.first_entry.ensures.looks

pub returns-in_err-rest-clause-undamaged : goal.returns-in_err-rest-clause-undamaged
returns-in_err-rest-clause-undamaged g c =
    let Undamaged : Type 0 = (l : Language) (w : ListWorld) → IsAtRest g.H.Host.view g.K.Keep.holds g.K.Keep.live l w c.args.rest c.args.host.now → ⊥ in
    damaged_before (Opened g.row.K.Denot × ℕ) (Opened g.row.K.Denot × Option (ℕ × stored.Entry)) c.from_residual.result c.in_err-rest.field-0.0 (search rules) Undamaged Undamaged (λ damaged. damaged) c.in_err-rest.ensures.undamaged

pub returns-in_err-rest-2-clause-undamaged : goal.returns-in_err-rest-2-clause-undamaged
returns-in_err-rest-2-clause-undamaged g c =
    let Before : Type 0 = (l : Language) (w : ListWorld) → IsAtRest g.H.Host.view g.K.Keep.holds g.K.Keep.live l w c.in_ok-rest.rest c.next_number.new.host → ⊥ in
    let Undamaged : Type 0 = (l : Language) (w : ListWorld) → IsAtRest g.H.Host.view g.K.Keep.holds g.K.Keep.live l w c.args.rest c.args.host.now → ⊥ in
    damaged_before (Opened g.row.K.Denot × Option (ℕ × stored.Entry)) (Opened g.row.K.Denot × Option (ℕ × stored.Entry)) c.from_residual-in_err-rest-2.result c.in_err-rest-2.field-0.0 (search rules) Before Undamaged (λ damaged l w rest. damaged l w (c.in_ok-rest.ensures.is l w rest).0) c.in_err-rest-2.ensures.undamaged
