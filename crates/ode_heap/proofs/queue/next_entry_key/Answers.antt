use Rattle.std.proofs.Common.{◌∙◌, Option, sym, ap}
use Rattle.ode_heap.proofs.Blocks.{entry_key_is, stripped}
use Rattle.ode_heap.specs.Answers.{There}
use Rattle.ode_value.specs.declared.key.Key.{Key}
use Rattle.ode_heap.proofs.queue.next_entry_key.Goals as goal

pub returns-in-Ok-clause-value : goal.returns-in-Ok-clause-value
returns-in-Ok-clause-value g c = λ entries holds.
    let law = g.met.K.Keep.stands c.args.keeper.now c.args.host.now entries holds in
    let least = stripped (c.in-Ok.ensures.value entries holds) in
    ap (λ (o : Option Key). There o) (entry_key_is entries c.args.number c.in-Ok.found (g.met.K.Keep.rising law.0 entries law.2) (sym least) c.in-Ok.ensures.above ∙ sym c.of_entry.ensures)
