use Rattle.std.proofs.Common.{ap, ◌∙◌, arith}
use Rattle.std.specs.declared.vec.Vec.{Vec}
use Rattle.std.proofs.Common.{Global}
use Rattle.ode_value.specs.Records.{Row}
use Rattle.ode_chunks.proofs.Halving.{closed_chunks, closed_rows}
use Rattle.ode_chunks.proofs.chunks.Chunks.close_last.Goals as goal

pub invariant_of-self-in_default-insert_chunk : goal.invariant_of-self-in_default-insert_chunk
invariant_of-self-in_default-insert_chunk c =
    closed_chunks c.self.inside.tree.entries c.self.inside.last.items c.self.invariant c.in-Some.field-0.now
    (omega (arith, c.len.ensures, c.self.inside.last.ok, c.if-len-lt-CHUNK.false))
    (rw c.deref.ensures.value at c.in-Some.ensures.item.1)
    c.replace-rows.result (ap (λ (v : Vec Row Global). v.items) c.replace-rows.ensures.value)
    c.insert_chunk.new.tree.entries
    c.in_default-insert_chunk.ensures.ok
    c.replace-rows.new.dest.items (ap (λ (v : Vec Row Global). v.items) c.replace-rows.ensures.after ∙ c.in_ok-fresh.ensures.items)

pub returns-in_default-insert_chunk : goal.returns-in_default-insert_chunk
returns-in_default-insert_chunk c =
    closed_rows c.self.inside.tree.entries c.self.inside.last.items c.self.invariant c.in-Some.field-0.now
    (omega (arith, c.len.ensures, c.self.inside.last.ok, c.if-len-lt-CHUNK.false))
    (rw c.deref.ensures.value at c.in-Some.ensures.item.1)
    c.replace-rows.result (ap (λ (v : Vec Row Global). v.items) c.replace-rows.ensures.value)
    c.insert_chunk.new.tree.entries
    c.in_default-insert_chunk.ensures.ok
    c.replace-rows.new.dest.items (ap (λ (v : Vec Row Global). v.items) c.replace-rows.ensures.after ∙ c.in_ok-fresh.ensures.items)
    ∙ c.self.view_is
