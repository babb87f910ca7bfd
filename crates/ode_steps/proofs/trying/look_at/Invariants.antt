use Rattle.std.proofs.Common.{◌≡◌, drop}
use Rattle.ode_overlay.specs.Layers.{looking}
use Rattle.ode_transact.specs.Contexts.{parts_of}
use Rattle.ode_steps.proofs.trying.look_at.Given as goal

-- what is left is to be looked at behind what was
abbrev pub invariant-loop-id : goal.invariant-loop-id
invariant-loop-id g l = record {
  looked : record l.ctx { overlay = looking (drop l.id-index l.ids) l.ctx.overlay } ≡ record l.fn.ctx { overlay = looking l.ids l.fn.ctx.overlay };
  keeper : l.ctx.heap ≡ l.fn.ctx.heap;
  same : parts_of l.ctx ≡ parts_of l.fn.ctx;
}
