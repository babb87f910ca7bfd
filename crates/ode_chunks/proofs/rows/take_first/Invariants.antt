use Rattle.std.proofs.Common.{◌≡◌, ◌++◌, ◌+◌, ◌≤◌, reverse}
use Rattle.std.specs.Vec.{vec_len, vec_capacity}
use Rattle.ode_chunks.proofs.rows.take_first.Given as goal

abbrev pub invariant-loop-rows : goal.invariant-loop-rows
invariant-loop-rows l = record {
  whole : l.rows.items ++ reverse l.rest.items ≡ l.initial.rows.items;
  count : l.count ≤ vec_len l.rows;
  room : vec_len l.rows + vec_len l.rest ≤ vec_capacity l.rest;
}

abbrev pub decreases-loop-rows : goal.decreases-loop-rows
decreases-loop-rows l = goal.left-loop-rows l
