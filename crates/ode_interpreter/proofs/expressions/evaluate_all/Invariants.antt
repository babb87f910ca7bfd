use Rattle.std.proofs.Common.{◌≡◌, List, drop}
use Rattle.ode_value.specs.Expressions.{evaluates_all}
use Rattle.ode_value.specs.Worlds.{Declared}
use Rattle.ode_interpreter.specs.Seen.{scene, with_classes}
use Rattle.ode_interpreter.proofs.Values.{with_front}
use Rattle.ode_interpreter.proofs.expressions.evaluate_all.Given as goal

abbrev pub invariant-loop-e : goal.invariant-loop-e
invariant-loop-e g l =
    record {
      kept : (k : g.T.Acts.Known) → g.T.Acts.knows l.fn.tx l.schema k → g.T.Acts.knows l.tx l.schema k;
      serves : (b : g.T.Acts.Base) → g.T.Acts.usable l.fn.tx b → g.T.Acts.usable l.tx b;
      rest : (classes : List Declared) (k : g.T.Acts.Known) → g.S.Schema.declares l.schema classes → g.T.Acts.knows l.fn.tx l.schema k
          → with_front l.values (evaluates_all (drop l.e-index l.es) (scene l.on) (with_classes classes (g.T.Acts.view l.tx k)))
          ≡ evaluates_all l.fn.es (scene l.on) (with_classes classes (g.T.Acts.view l.fn.tx k));
    }
