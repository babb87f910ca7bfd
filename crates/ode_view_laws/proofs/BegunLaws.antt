-- The view at the start of a transaction.
use Rattle.std.proofs.Common.{◌≡◌, refl}
use Rattle.ode_laws.specs.Alike.{NumberWorld}
use Rattle.ode_overlay.specs.declared.origin.Origin.{Origin}
use Rattle.ode_overlay.specs.declared.origin.Origin.TheVariants as from
use Rattle.ode_overlay_laws.specs.Standing.{origin_as}
use Rattle.ode_value.specs.Transactions.{begun}
use Rattle.ode_view_laws.specs.Ordering.{IsOrdered}
use Rattle.ode_view_laws.specs.Showing.{IsViewed}
use Rattle.ode_view_laws.specs.Viewing.{began_over, nothing_beside, running, world_now}

module _ (origin : Origin) (w : NumberWorld) where
  pub begun_viewed : IsOrdered w → IsViewed w (began_over origin w)
  unfolding world_now
  begun_viewed ordered = record { over = record { counters = refl; queued = refl }; began = ordered; now = ordered; touched = tt }

pub begun_view : (origin : Origin) (w : NumberWorld) → running w.bones.classes w (began_over origin w) nothing_beside ≡ begun (origin_as origin) w
unfolding world_now
begun_view from.Script w = refl
begun_view (from.Entry number generation) w = refl
begun_view (from.Tick instant object place) w = refl
begun_view (from.Move instant) w = refl
