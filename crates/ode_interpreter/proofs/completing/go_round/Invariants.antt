use Rattle.std.proofs.Common.{◌≡◌, ℕ, ◌+◌, ◌-◌, ◌≤◌, List}
use Rattle.ode_value.specs.Completing.{goes_round}
use Rattle.ode_value.specs.Pasts.{Past, numbers}
use Rattle.ode_value.specs.Worlds.{Declared}
use Rattle.ode_interpreter.specs.Seen.{with_classes}
use Rattle.ode_interpreter.proofs.completing.go_round.Given as goal

abbrev pub invariant-round : goal.invariant-round
invariant-round g l =
    let past : Past (Unit {0}) ℕ = numbers (g.S.Schema.tables l.schema) in
    record {
      room : l.at + l.ran ≤ l.counter;
      kept : (k : g.T.Acts.Known) → g.T.Acts.knows l.fn.tx l.schema k → g.T.Acts.knows l.tx l.schema k;
      serves : (b : g.T.Acts.Base) → g.T.Acts.usable l.fn.tx b → g.T.Acts.usable l.tx b;
      rest : (classes : List Declared) (k : g.T.Acts.Known) → g.S.Schema.declares l.schema classes → g.T.Acts.knows l.fn.tx l.schema k
          → goes_round past (l.rounds - l.counter) l.at l.ran (with_classes classes (g.T.Acts.view l.tx k))
          ≡ goes_round past l.rounds 0 0 (with_classes classes (g.T.Acts.view l.fn.tx k));
    }
