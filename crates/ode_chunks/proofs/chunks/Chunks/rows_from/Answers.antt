use Rattle.std.proofs.Common.{sym, ◌∙◌}
use Rattle.ode_chunks.proofs.Chunking.{last_rising}
use Rattle.ode_chunks.proofs.Cutting.{range_from}
use Rattle.ode_chunks.proofs.Reading.{first_rises, read_begun, read_first, read_last, read_more, read_none}
use Rattle.ode_chunks.proofs.chunks.Chunks.rows_from.Goals as goal

pub loop-rows-init : goal.loop-rows-init
loop-rows-init c =
    rw (c.as_slice-last.ensures.value, ← c.self.view_is)
    (read_none c.self.inside.tree.entries c.self.inside.last.items c.args.key c.into_iter-rows-iterator.result c.self.invariant
    (c.into_iter-rows-iterator.ensures.into_iter_gives ∙ c.range-rows-items.ensures.between tt ∙ range_from c.args.key c.self.inside.tree.entries))

pub rows_at_or_above-found-requires : goal.rows_at_or_above-found-requires
rows_at_or_above-found-requires c =
    rw c.deref.ensures.value
    (first_rises c.args.self.now c.as_slice-last.result.now c.args.key c.loop-rows.rows-iterator c.loop-rows.invariant
    c.in-Some.field-0-0.now c.in-Some.rows.now c.next.new.self c.in-Some.ensures.steps)

pub returns-then-not-is_empty-clause-first : goal.returns-then-not-is_empty-clause-first
returns-then-not-is_empty-clause-first c =
    read_first c.args.self.now c.as_slice-last.result.now c.args.key c.loop-rows.rows-iterator c.loop-rows.invariant
    c.in-Some.field-0-0.now c.in-Some.rows.now c.next.new.self c.in-Some.ensures.steps c.rows_at_or_above-found.result.now (rw c.deref.ensures.value at c.rows_at_or_above-found.ensures)
    (sym c.if-not-is_empty.ensures)

pub loop-rows-preserved : goal.loop-rows-preserved
loop-rows-preserved c =
    read_more c.args.self.now c.as_slice-last.result.now c.args.key c.loop-rows.rows-iterator c.loop-rows.invariant
    c.in-Some.field-0-0.now c.in-Some.rows.now c.next.new.self c.in-Some.ensures.steps c.rows_at_or_above-found.result.now (rw c.deref.ensures.value at c.rows_at_or_above-found.ensures)
    (sym c.if-not-is_empty.ensures)

pub rows_at_or_above-requires : goal.rows_at_or_above-requires
rows_at_or_above-requires c =
    rw c.as_slice-last.ensures.value (last_rising c.self.inside.tree.entries c.self.inside.last.items c.args.key c.self.invariant)

pub returns-then-begin_by-clause-first : goal.returns-then-begin_by-clause-first
returns-then-begin_by-clause-first c =
    rw (← c.self.view_is)
    (read_begun c.self.inside.tree.entries c.self.inside.last.items c.args.key c.rows_at_or_above.result.now c.self.invariant
    (rw c.as_slice-last.ensures.value at c.if-begin_by.ensures) (rw c.as_slice-last.ensures.value at c.rows_at_or_above.ensures))

pub rows_at_or_above-requires-2 : goal.rows_at_or_above-requires-2
rows_at_or_above-requires-2 c =
    rw c.as_slice-last.ensures.value (last_rising c.self.inside.tree.entries c.self.inside.last.items c.args.key c.self.invariant)

pub returns-clause-first : goal.returns-clause-first
returns-clause-first c =
    read_last c.args.self.now c.as_slice-last.result.now c.args.key c.loop-rows.rows-iterator c.loop-rows.invariant
    c.rows_at_or_above-2.result.now c.in-None.ensures.steps.0 c.rows_at_or_above-2.ensures
