use Rattle.std.proofs.Common.{None, sym, ◌∙◌}
use Rattle.ode_chunks.proofs.Chunking.{changed_chunks, changed_rows, chunks_changed_last, emptied_chunks, emptied_rows, last_rising, last_value, lent_rising, lent_value, not_missing, rows_changed_last}
use Rattle.ode_chunks.proofs.chunks.Chunks.remove.Goals as goal

pub take-requires : goal.take-requires
take-requires c = last_rising c.self.inside.tree.entries c.self.inside.last.items c.args.key c.self.invariant

pub invariant_of-self : goal.invariant_of-self
invariant_of-self c =
    chunks_changed_last c.self.inside.tree.entries c.self.inside.last.items c.args.key c.self.invariant c.in_default.ensures.none
    c.take.new.rows.items None c.take.ensures.rest

pub returns-in_default-clause-rest : goal.returns-in_default-clause-rest
returns-in_default-clause-rest c =
    rw (← c.self.view_is)
    (rows_changed_last c.self.inside.tree.entries c.self.inside.last.items c.args.key c.self.invariant c.in_default.ensures.none
    c.take.new.rows.items None c.take.ensures.rest)

pub returns-in_default-clause-old : goal.returns-in_default-clause-old
returns-in_default-clause-old c =
    rw (← c.self.view_is)
    (c.take.ensures.old ∙ sym (last_value c.self.inside.tree.entries c.self.inside.last.items c.args.key c.self.invariant c.in_default.ensures.none))

pub returns-in_err-rows-clause-rest : goal.returns-in_err-rows-clause-rest
returns-in_err-rows-clause-rest c =
    absurd (not_missing c.self.inside.tree.entries c.self.inside.last.items c.args.key c.in-Some.bound c.self.invariant c.in-Some.ensures.found
    (sym c.in_err-rows.ensures.value))

pub returns-in_err-rows-clause-old : goal.returns-in_err-rows-clause-old
returns-in_err-rows-clause-old c =
    absurd (not_missing c.self.inside.tree.entries c.self.inside.last.items c.args.key c.in-Some.bound c.self.invariant c.in-Some.ensures.found
    (sym c.in_err-rows.ensures.value))

pub take-old-requires : goal.take-old-requires
take-old-requires c =
    lent_rising c.self.inside.tree.entries c.self.inside.last.items c.args.key c.in-Some.bound c.self.invariant c.in-Some.ensures.found
    c.in_ok-rows.rows.now (sym c.in_ok-rows.ensures.value)

pub invariant_of-self-then-is_empty : goal.invariant_of-self-then-is_empty
invariant_of-self-then-is_empty c =
    emptied_chunks c.self.inside.tree.entries c.self.inside.last.items c.args.key c.in-Some.bound c.self.invariant c.in-Some.ensures.found
    c.in_ok-rows.rows.now (sym c.in_ok-rows.ensures.value)
    c.take-old.new.rows (c.get_mut.follows.lender c.take-old.new.rows).entries (c.get_mut.follows.holds c.take-old.new.rows).0
    None c.take-old.ensures.rest c.remove_chunk.new.tree.entries c.remove_chunk.ensures (sym c.if-is_empty.ensures)

pub invariant_of-self-else-is_empty : goal.invariant_of-self-else-is_empty
invariant_of-self-else-is_empty c =
    changed_chunks c.self.inside.tree.entries c.self.inside.last.items c.args.key c.in-Some.bound c.self.invariant c.in-Some.ensures.found
    c.in_ok-rows.rows.now (sym c.in_ok-rows.ensures.value)
    c.take-old.new.rows (c.get_mut.follows.lender c.take-old.new.rows).entries (c.get_mut.follows.holds c.take-old.new.rows).0
    None c.take-old.ensures.rest

pub returns-then-is_empty-clause-rest : goal.returns-then-is_empty-clause-rest
returns-then-is_empty-clause-rest c =
    rw (← c.self.view_is)
    (emptied_rows c.self.inside.tree.entries c.self.inside.last.items c.args.key c.in-Some.bound c.self.invariant c.in-Some.ensures.found
    c.in_ok-rows.rows.now (sym c.in_ok-rows.ensures.value)
    c.take-old.new.rows (c.get_mut.follows.lender c.take-old.new.rows).entries (c.get_mut.follows.holds c.take-old.new.rows).0
    None c.take-old.ensures.rest c.remove_chunk.new.tree.entries c.remove_chunk.ensures (sym c.if-is_empty.ensures))

pub returns-then-is_empty-clause-old : goal.returns-then-is_empty-clause-old
returns-then-is_empty-clause-old c =
    rw (← c.self.view_is)
    (c.take-old.ensures.old
    ∙ lent_value c.self.inside.tree.entries c.self.inside.last.items c.args.key c.in-Some.bound c.self.invariant c.in-Some.ensures.found
    c.in_ok-rows.rows.now (sym c.in_ok-rows.ensures.value))

pub returns-else-is_empty-clause-rest : goal.returns-else-is_empty-clause-rest
returns-else-is_empty-clause-rest c =
    rw (← c.self.view_is)
    (changed_rows c.self.inside.tree.entries c.self.inside.last.items c.args.key c.in-Some.bound c.self.invariant c.in-Some.ensures.found
    c.in_ok-rows.rows.now (sym c.in_ok-rows.ensures.value)
    c.take-old.new.rows (c.get_mut.follows.lender c.take-old.new.rows).entries (c.get_mut.follows.holds c.take-old.new.rows).0
    None c.take-old.ensures.rest)

pub returns-else-is_empty-clause-old : goal.returns-else-is_empty-clause-old
returns-else-is_empty-clause-old c =
    rw (← c.self.view_is)
    (c.take-old.ensures.old
    ∙ lent_value c.self.inside.tree.entries c.self.inside.last.items c.args.key c.in-Some.bound c.self.invariant c.in-Some.ensures.found
    c.in_ok-rows.rows.now (sym c.in_ok-rows.ensures.value))
