use Rattle.ode_chunks.proofs.Reading.{IsToRead}
use Rattle.ode_chunks.proofs.chunks.Chunks.rows_from.Given as goal

abbrev pub invariant-loop-rows : goal.invariant-loop-rows
invariant-loop-rows l = IsToRead l.self l.last l.key l.rows-iterator
