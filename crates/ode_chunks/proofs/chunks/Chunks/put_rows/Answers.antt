use Rattle.std.proofs.Common.{◌∙◌}
use Rattle.ode_chunks.proofs.Reading.{spelled_all, spelled_more, spelled_none}
use Rattle.ode_chunks.proofs.chunks.Chunks.put_rows.Goals as goal

pub loop-rows-init : goal.loop-rows-init
loop-rows-init c =
    spelled_none c.self.inside.tree.entries c.into_iter-rows-iterator.result c.self.inside.last.items c.args.bytes.now.items
    (c.into_iter-rows-iterator.ensures.into_iter_gives ∙ c.iter-rows-items.ensures.rest)

pub loop-rows-preserved : goal.loop-rows-preserved
loop-rows-preserved c =
    spelled_more c.self.inside.tree.entries c.loop-rows.rows-iterator c.self.inside.last.items c.args.bytes.now.items c.loop-rows.bytes.items
    c.in-Some.field-0-0.now c.in-Some.rows.now c.next.new.self c.put_rows.new.bytes.items c.in-Some.ensures.steps
    (rw c.deref.ensures.value at c.in_ok-put_rows.ensures) c.loop-rows.invariant

pub returns : goal.returns
returns c =
    rw (← c.self.view_is)
    (spelled_all c.self.inside.tree.entries c.loop-rows.rows-iterator c.self.inside.last.items c.args.bytes.now.items c.loop-rows.bytes.items
    c.put_rows-2.new.bytes.items c.in-None.ensures.steps.0 (rw c.deref-2.ensures.value at c.in_ok-put_rows-2.ensures) c.loop-rows.invariant)
