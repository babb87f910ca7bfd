use Rattle.std.proofs.Common.{◌∙◌, ap}
use Rattle.ode_heights.specs.declared.height.TheConstants.{HEIGHT_LIMIT}
use Rattle.ode_terminals.specs.declared.seen.Place.TheVariants.{Class}
use Rattle.ode_value.specs.Numbers.{has_numbers}
use Rattle.ode_reread.proofs.InstantKinds.{instants_good}
use Rattle.ode_reread.proofs.Readings.{event_is_good}
use Rattle.ode_reread.proofs.laws.event_numbers_are_in_range.Goals as goal

pub returns : goal.returns
returns c = λ text e r.
    let g = event_is_good HEIGHT_LIMIT Class text r.0 (instants_good Class) r.1 in
    ap has_numbers r.2 ∙ g.good.numbers
