use Rattle.std.proofs.Common.{◌≡◌, List, map, drop, true}
use Rattle.ode_value.specs.Acts.{each}
use Rattle.ode_value.specs.Posting.{collects}
use Rattle.ode_value.specs.Settling.{says}
use Rattle.ode_value.specs.Worlds.{Declared}
use Rattle.ode_interpreter.specs.Seen.{firing, with_classes}
use Rattle.ode_interpreter.proofs.settling.collect_all.Given as goal

abbrev pub invariant-loop-f : goal.invariant-loop-f
invariant-loop-f g l =
    record {
      kept : (k : g.T.Acts.Known) → g.T.Acts.knows l.fn.tx l.schema k → g.T.Acts.knows l.tx l.schema k;
      serves : (b : g.T.Acts.Base) → g.T.Acts.usable l.fn.tx b → g.T.Acts.usable l.tx b;
      rest : (classes : List Declared) (k : g.T.Acts.Known) → g.S.Schema.declares l.schema classes → g.T.Acts.knows l.fn.tx l.schema k
          → each (collects says true) (map (firing (g.S.Schema.trigger l.schema)) (drop l.f-index l.firings)) (with_classes classes (g.T.Acts.view l.tx k))
          ≡ each (collects says true) (map (firing (g.S.Schema.trigger l.schema)) l.fn.firings) (with_classes classes (g.T.Acts.view l.fn.tx k));
    }
