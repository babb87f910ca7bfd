use Rattle.std.proofs.Common.{rules, sym, ◌∙◌}
use Rattle.std.proofs.lemmas.Bool.{false≢true}
use Rattle.ode_ship.specs.Payloads.{AreShipped}
use Rattle.ode_ship.proofs.Frames.{not_told}
use Rattle.ode_ship.proofs.reading.read_payload.Goals as goal

pub returns-then-not-branch-clause-none : goal.returns-then-not-branch-clause-none
returns-then-not-branch-clause-none c =
    let shipped : AreShipped c.in-Some-2.batch c.split_at.result.1.now = rw c.in-Some-2.is at c.in_ok-batch.ensures.some in
    not_told c.in-Some.number c.in-Some-2.batch c.args.payload.now c.split_at.result.1.now (search rules) c.in-Some.ensures.spelled c.split_at.ensures.back shipped
    (λ told. false≢true (sym c.if-not-branch.true ∙ c.in_ok-tells_next.ensures.tells.1 told))
