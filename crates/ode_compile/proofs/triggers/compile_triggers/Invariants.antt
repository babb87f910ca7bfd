use Rattle.std.proofs.Common.{◌≡◌, drop, take}
use Rattle.ode_value.specs.ClassLimits.{limits_triggers}
use Rattle.ode_compile.specs.Compiling.{AreCompiled, tree_counts}
use Rattle.ode_compile.proofs.triggers.compile_triggers.Given as goal

abbrev pub invariant-loop-trigger : goal.invariant-loop-trigger
invariant-loop-trigger l = record {
  limits : limits_triggers (drop l.trigger-index l.triggers) ≡ limits_triggers l.triggers;
  compiled : AreCompiled (take l.trigger-index l.triggers) l.tables l.alphabets;
  counts : l.counts ≡ tree_counts (take l.trigger-index l.triggers);
}
