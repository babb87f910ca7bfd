use Rattle.ode_chunks.proofs.Reading.{IsToSpell}
use Rattle.ode_chunks.proofs.chunks.Chunks.put_rows.Given as goal

abbrev pub invariant-loop-rows : goal.invariant-loop-rows
invariant-loop-rows l = IsToSpell l.self-inside.tree.entries l.rows-iterator l.self-inside.last.items l.initial.bytes.items l.bytes.items
