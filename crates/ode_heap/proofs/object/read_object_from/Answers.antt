use Rattle.std.proofs.Common.{◌∙◌, ℕ, Option, sym, ap}
use Rattle.ode_heap.proofs.Blocks.{object_is, stripped}
use Rattle.ode_heap.specs.Answers.{There}
use Rattle.ode_heap.proofs.object.read_object_from.Goals as goal

pub returns-in-Ok-clause-value : goal.returns-in-Ok-clause-value
returns-in-Ok-clause-value g c = λ entries holds.
    let law = g.met.K.Keep.stands c.args.keeper.now c.args.host.now entries holds in
    let least = stripped (c.in-Ok.ensures.value entries holds) in
    ap (λ (o : Option ℕ). There o) (object_is entries c.args.id c.in-Ok.found (g.met.K.Keep.rising law.0 entries law.2) (sym least) c.in-Ok.ensures.above ∙ sym c.object_number.ensures)
