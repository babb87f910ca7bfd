use Rattle.std.proofs.Common.{◌<◌, length, inr, ⊎_elim, arith}
use Rattle.std.proofs.lemmas.Result.{IfOk-weaker}
use Rattle.ode_host.proofs.Moments.{tells_looks}
use Rattle.ode_gate.specs.Slots.{HasOpenSlot}
use Rattle.ode_make.proofs.make.is_in_use.Goals as goal
use Rattle.ode_make.specs.declared.make.TheConstants.{MAX_TAKEN_OVER}

pub returns-clause-in_use : goal.returns-clause-in_use
returns-clause-in_use g c =
    IfOk-weaker c.has_open_slot.result _ _
    (λ b opened image tells.
    let some = opened image (tells_looks image _ _ c.size.ensures.looks tells) in (
      λ yes. inr (some.0 yes),
      λ in_use. ⊎_elim
          (λ (long : MAX_TAKEN_OVER < length image). absurd (omega (arith, c.in_ok-size.ensures.length image tells, c.if-branch-gt-MAX_TAKEN_OVER.false)))
          (λ (one : HasOpenSlot image). some.1 one)
          in_use,
    ))
    c.has_open_slot.ensures.is_open
