use Rattle.std.proofs.Common.{◌≡◌, take}
use Rattle.ode_opening_tables.specs.Tables.{alphabets_of}
use Rattle.ode_change.proofs.anew.alphabets_of.Given as goal

-- those so far
abbrev pub invariant-loop-class : goal.invariant-loop-class
invariant-loop-class l = l.alphabets ≡ alphabets_of (take l.class-index l.classes)
