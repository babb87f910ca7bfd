use Rattle.std.proofs.Common.{◌≡◌, map, take}
use Rattle.ode_value.specs.Tables.{says_yes}
use Rattle.ode_minimal.proofs.shrinking.answers_of.Given as goal

abbrev pub invariant-loop-q : goal.invariant-loop-q
invariant-loop-q l = l.yes ≡ map (says_yes l.t) (take l.q-index l.states)
