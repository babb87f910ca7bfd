use Rattle.ode_standby.proofs.PieceLaws.{leaves_join}
use Rattle.ode_standby.proofs.laws.stops_in_pieces_are_stops_in_one_stream.Goals as goal

pub returns : goal.returns
returns g call = λ most c d came rest piece image out taken left. leaves_join most c d came rest piece taken g.K.Keep.means (g.H.Host.view call.args.host.now) image out left
