use Rattle.ode_standby.proofs.ShippedLaws.{leaves}
use Rattle.ode_standby.proofs.laws.stops_leave_records_of_the_primary.Goals as goal

pub returns : goal.returns
returns g call =
    λ most j entries fs places bytes c image out shipped behind on front left. leaves most entries fs shipped j places bytes c behind on front g.K.Keep.means image (g.H.Host.view call.args.host.now) out left
