use Rattle.std.proofs.Common.{◌≡◌, ◌++◌, map, take}
use Rattle.ode_change.proofs.Over.{symbols_of}
use Rattle.ode_change.proofs.anew.put_alphabets.Given as goal

-- those so far
abbrev pub invariant-loop-trigger : goal.invariant-loop-trigger
invariant-loop-trigger l = l.alphabets ≡ l.initial.alphabets ++ map symbols_of (take l.trigger-index l.triggers)
