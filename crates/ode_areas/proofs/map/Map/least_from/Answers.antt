use Rattle.std.proofs.Common.{Option, ap, ◌∙◌}
use Rattle.std.specs.Option.{option_map}
use Rattle.ode_value.specs.Records.{Row}
use Rattle.ode_areas.proofs.InMemory.{least_of}
use Rattle.ode_areas.proofs.map.Map.least_from.Goals as goal

pub returns-in_err-least : goal.returns-in_err-least
returns-in_err-least c =
    let is = least_of c.self.inside.records c.rows_from.result.now c.args.key c.rows_from.ensures in
    rw (c.from_residual.ensures, ← c.self.view_is) (ap (λ (o : Option Row). option_map (λ e. e.0) o) c.in_err-least.ensures.value ∙ is)

pub returns : goal.returns
returns c =
    let is = least_of c.self.inside.records c.rows_from.result.now c.args.key c.rows_from.ensures in
    rw (← c.self.view_is) (ap (λ (o : Option Row). option_map (λ e. e.0) o) c.in_ok-least.ensures.value ∙ is)
