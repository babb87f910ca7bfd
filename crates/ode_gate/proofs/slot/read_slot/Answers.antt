use Rattle.std.proofs.Common.{◌∙◌, ℕ, ap, arith, take}
use Rattle.ode_gate.specs.Slots.{slot_at}
use Rattle.ode_gate.proofs.Slotted.{slot_is}
use Rattle.ode_gate.proofs.slot.read_slot.Goals as goal

pub returns-clause-slot : goal.returns-clause-slot
returns-clause-slot g c = (
  take c.in_ok-count.count c.read_whole.new.to,
  c.of_bytes.ensures,
  λ image tells.
      slot_is c.place_of.result c.in_ok-count.count c.read_whole.new.to image (omega (arith, c.in_ok-count.ensures.count image tells)) (c.in_ok-count.ensures.bytes image tells)
      ∙ ap (λ (k : ℕ). slot_at k image) c.place_of.ensures,
)
