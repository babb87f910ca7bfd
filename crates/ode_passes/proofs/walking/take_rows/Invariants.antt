use Rattle.std.proofs.Common.{◌≡◌, None, length}
use Rattle.ode_keep.specs.Entries.{AreBytes}
use Rattle.ode_passes.specs.Rules.{through}
use Rattle.ode_passes.specs.Walking.{last_key, up_to}
use Rattle.ode_passes.proofs.walking.take_rows.Given as goal

abbrev pub invariant-loop-key : goal.invariant-loop-key
invariant-loop-key g l = record {
  rest : through g.P.Pass.takes l.pass (up_to l.last l.reader) ≡ through g.P.Pass.takes l.initial.pass (up_to l.last l.rows);
  at : last_key l.at l.reader ≡ last_key None l.rows;
  bytes : AreBytes (up_to l.last l.reader) → AreBytes (up_to l.last l.rows);
}

abbrev pub decreases-loop-key : goal.decreases-loop-key
decreases-loop-key g l = length l.reader
