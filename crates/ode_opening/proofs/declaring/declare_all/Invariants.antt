use Rattle.std.proofs.Common.{◌≡◌, [], drop}
use Rattle.ode_language.specs.Languages.{ode}
use Rattle.ode_opening.specs.Declaring.{declares_next}
use Rattle.ode_opening.specs.Building.{AreBuilt}
use Rattle.ode_passes.specs.Complete.{class_count}
use Rattle.ode_passes.specs.Rules.{through}
use Rattle.ode_opening.proofs.declaring.declare_all.Given as goal

abbrev pub invariant-loop-found : goal.invariant-loop-found
invariant-loop-found l =
    (through (declares_next ode) ((l.accepted.classes, drop l.at l.records), l.rest) (drop l.found-index l.records)
    ≡ through (declares_next ode) (([], drop (class_count l.records) l.records), l.added) l.records) × AreBuilt l.accepted
