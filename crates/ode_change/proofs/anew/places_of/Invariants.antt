use Rattle.std.proofs.Common.{◌≡◌, ◌<◌, ◌^◌, length, take}
use Rattle.ode_opening.specs.Building.{triggers_of}
use Rattle.ode_schema.specs.Parts.{places_from}
use Rattle.ode_change.proofs.anew.places_of.Given as goal

-- those so far
abbrev pub invariant-loop-class : goal.invariant-loop-class
invariant-loop-class l = record {
  maps : l.maps ≡ places_from 0 (take l.class-index l.classes);
  count : l.place ≡ length (triggers_of (take l.class-index l.classes));
  few : l.place < 2 ^ 32;
}
