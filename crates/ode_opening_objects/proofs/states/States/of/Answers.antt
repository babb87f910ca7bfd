use Rattle.std.proofs.Common.{◌≡◌, ℕ, List, false, subst, ◌∙◌}
use Rattle.std.specs.List.{slice_get}
use Rattle.std.specs.Option.{option_map_or}
use Rattle.ode_value.specs.Tables.{Table}
use Rattle.ode_walk.specs.Reaching.{is_reached}
use Rattle.ode_opening_objects.specs.States.{is_flagged}
use Rattle.ode_opening_objects.proofs.StateLaws.{states_tell}
use Rattle.ode_opening_objects.proofs.states.States.of.Goals as goal

pub returns : goal.returns
returns c =
    states_tell (record { seen = c.in_ok-seen.seen; maps = c.in_ok-maps.maps }) c.args.tables.now c.args.maps.now (c.in_ok-maps.ensures ∙ c.as_slice-2.ensures)
    (subst (λ (ts : List Table). (at q : ℕ) → is_flagged c.in_ok-seen.seen at q ≡ option_map_or (λ t. is_reached t q) (slice_get ts at) false) c.as_slice.ensures c.in_ok-seen.ensures)
