use Rattle.std.proofs.Common.{◌≡◌, drop, fold}
use Rattle.std.specs.List.{enumerate_from}
use Rattle.ode_heap.specs.Looking.{literal_put}
use Rattle.ode_heap.proofs.fields.put_literals.Given as goal

abbrev pub invariant-loop-place : goal.invariant-loop-place
invariant-loop-place l =
    fold (literal_put l.stamp) l.values (enumerate_from l.place (drop l.place l.fields)) ≡ fold (literal_put l.stamp) l.initial.values (enumerate_from 0 l.fields)
