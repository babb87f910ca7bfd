use Rattle.std.proofs.Common.{◌≡◌, None, Some, sym, ◌∙◌, rules}
use Rattle.ode_keep.specs.Entries.{value_under}
use Rattle.ode_chunks.proofs.Chunking.{changed_chunks, changed_rows, chunks_changed_last, kept_chunks, kept_rows, last_rising, last_value, lent_rising, lent_value, not_missing, rows_changed_last}
use Rattle.ode_chunks.proofs.chunks.Chunks.insert.Goals as goal
use Rattle.ode_chunks.proofs.chunks.Chunks.insert.Goals.{then-is_none, else-is_none, then-is_outgrown, else-is_outgrown}

pub put-requires : goal.put-requires
put-requires c = last_rising c.self.inside.tree.entries c.self.inside.last.items c.args.key c.self.invariant

pub returns-in_err-old-clause-absent : goal.returns-in_err-old-clause-absent
returns-in_err-old-clause-absent c =
    let none : value_under c.args.self.now c.args.key ≡ None =
    rw (← c.self.view_is) (last_value c.self.inside.tree.entries c.self.inside.last.items c.args.key c.self.invariant c.in_default.ensures.none ∙ c.in_err-old.ensures.absent) in
    search rules

pub invariant_of-self-then-is_none : goal.invariant_of-self-then-is_none
invariant_of-self-then-is_none c =
    chunks_changed_last c.self.inside.tree.entries c.self.inside.last.items c.args.key c.self.invariant c.in_default.ensures.none
    c.put.new.rows.items (Some c.args.value) c.in_ok-old.ensures.put

pub invariant_of-self-else-is_none : goal.invariant_of-self-else-is_none
invariant_of-self-else-is_none c =
    chunks_changed_last c.self.inside.tree.entries c.self.inside.last.items c.args.key c.self.invariant c.in_default.ensures.none
    c.put.new.rows.items (Some c.args.value) c.in_ok-old.ensures.put

pub returns-in_default-clause-put : goal.returns-in_default-clause-put
returns-in_default-clause-put c =
    let put =
    rows_changed_last c.self.inside.tree.entries c.self.inside.last.items c.args.key c.self.invariant c.in_default.ensures.none
    c.put.new.rows.items (Some c.args.value) c.in_ok-old.ensures.put in
    rw (← c.self.view_is) (elim c.if-is_none.branch [ then-is_none w ↦ w.self-is ∙ w.close_last.ensures ∙ put | else-is_none w ↦ w.self-is ∙ put ])

pub returns-in_default-clause-old : goal.returns-in_default-clause-old
returns-in_default-clause-old c =
    rw (← c.self.view_is) (c.in_ok-old.ensures.old ∙ sym (last_value c.self.inside.tree.entries c.self.inside.last.items c.args.key c.self.invariant c.in_default.ensures.none))

pub returns-in_default-get_mut-clause-absent : goal.returns-in_default-get_mut-clause-absent
returns-in_default-get_mut-clause-absent c =
    absurd (not_missing c.self.inside.tree.entries c.self.inside.last.items c.args.key c.in-Some.bound c.self.invariant c.in-Some.ensures.found
    (sym c.in_default-get_mut.ensures.value))

pub put-requires-2 : goal.put-requires-2
put-requires-2 c =
    lent_rising c.self.inside.tree.entries c.self.inside.last.items c.args.key c.in-Some.bound c.self.invariant c.in-Some.ensures.found
    c.in-Some-get_mut.rows.now (sym c.in-Some-get_mut.ensures.value)

pub invariant_of-self-in_err-old-2 : goal.invariant_of-self-in_err-old-2
invariant_of-self-in_err-old-2 c =
    kept_chunks c.self.inside.tree.entries c.self.inside.last.items c.args.key c.in-Some.bound c.self.invariant c.in-Some.ensures.found
    c.in-Some-get_mut.rows.now (sym c.in-Some-get_mut.ensures.value)
    c.put-2.new.rows (c.get_mut.follows.lender c.put-2.new.rows).entries (c.get_mut.follows.holds c.put-2.new.rows).0
    c.in_err-old-2.ensures.same

pub returns-in_err-old-2-clause-same : goal.returns-in_err-old-2-clause-same
returns-in_err-old-2-clause-same c =
    let same =
    kept_rows c.self.inside.tree.entries c.self.inside.last.items c.args.key c.in-Some.bound c.self.invariant c.in-Some.ensures.found
    c.in-Some-get_mut.rows.now (sym c.in-Some-get_mut.ensures.value)
    c.put-2.new.rows (c.get_mut.follows.lender c.put-2.new.rows).entries (c.get_mut.follows.holds c.put-2.new.rows).0
    c.in_err-old-2.ensures.same
    ∙ c.self.view_is in
    search rules

pub returns-in_err-old-2-clause-absent : goal.returns-in_err-old-2-clause-absent
returns-in_err-old-2-clause-absent c =
    let none : value_under c.args.self.now c.args.key ≡ None =
    rw (← c.self.view_is)
    (sym (lent_value c.self.inside.tree.entries c.self.inside.last.items c.args.key c.in-Some.bound c.self.invariant c.in-Some.ensures.found
    c.in-Some-get_mut.rows.now (sym c.in-Some-get_mut.ensures.value)) ∙ c.in_err-old-2.ensures.absent) in
    search rules

pub invariant_of-self-then-is_outgrown : goal.invariant_of-self-then-is_outgrown
invariant_of-self-then-is_outgrown c =
    changed_chunks c.self.inside.tree.entries c.self.inside.last.items c.args.key c.in-Some.bound c.self.invariant c.in-Some.ensures.found
    c.in-Some-get_mut.rows.now (sym c.in-Some-get_mut.ensures.value)
    c.put-2.new.rows (c.get_mut.follows.lender c.put-2.new.rows).entries (c.get_mut.follows.holds c.put-2.new.rows).0
    (Some c.args.value) c.in_ok-old-2.ensures.put

pub invariant_of-self-else-is_outgrown : goal.invariant_of-self-else-is_outgrown
invariant_of-self-else-is_outgrown c =
    changed_chunks c.self.inside.tree.entries c.self.inside.last.items c.args.key c.in-Some.bound c.self.invariant c.in-Some.ensures.found
    c.in-Some-get_mut.rows.now (sym c.in-Some-get_mut.ensures.value)
    c.put-2.new.rows (c.get_mut.follows.lender c.put-2.new.rows).entries (c.get_mut.follows.holds c.put-2.new.rows).0
    (Some c.args.value) c.in_ok-old-2.ensures.put

pub returns-clause-put : goal.returns-clause-put
returns-clause-put c =
    let put =
    changed_rows c.self.inside.tree.entries c.self.inside.last.items c.args.key c.in-Some.bound c.self.invariant c.in-Some.ensures.found
    c.in-Some-get_mut.rows.now (sym c.in-Some-get_mut.ensures.value)
    c.put-2.new.rows (c.get_mut.follows.lender c.put-2.new.rows).entries (c.get_mut.follows.holds c.put-2.new.rows).0
    (Some c.args.value) c.in_ok-old-2.ensures.put in
    rw (← c.self.view_is) (elim c.if-is_outgrown.branch [ then-is_outgrown w ↦ w.self-is ∙ w.split.ensures ∙ put | else-is_outgrown w ↦ w.self-is ∙ put ])

pub returns-clause-old : goal.returns-clause-old
returns-clause-old c =
    rw (← c.self.view_is)
    (c.in_ok-old-2.ensures.old
    ∙ lent_value c.self.inside.tree.entries c.self.inside.last.items c.args.key c.in-Some.bound c.self.invariant c.in-Some.ensures.found
    c.in-Some-get_mut.rows.now (sym c.in-Some-get_mut.ensures.value))
