use Rattle.std.proofs.Common.{◌≡◌, ◌+◌, ◌-◌, ◌≤◌}
use Rattle.std.specs.List.{find, range_with_len}
use Rattle.ode_opening.proofs.BirthLaws.{is_missing}
use Rattle.ode_opening.proofs.births.first_missing.Given as goal

-- those so far are there
abbrev pub invariant-loop-birth : goal.invariant-loop-birth
invariant-loop-birth l = record {
  within : l.birth ≤ l.count;
  rest : find (is_missing l.births) (range_with_len 1 l.count) ≡ find (is_missing l.births) (range_with_len (l.birth + 1) (l.count - l.birth));
}

abbrev pub decreases-loop-birth : goal.decreases-loop-birth
decreases-loop-birth l = l.count - l.birth
