use Rattle.ode_start_laws.proofs.AtRest.{at_rest}
use Rattle.ode_start_laws.proofs.opened_files_are_at_rest.Goals as goal

pub returns : goal.returns
returns g c = λ image w entries first held meant kept opened usable fit.
    at_rest g.H.Host.view g.K.Keep.holds g.K.Keep.live g.K.Keep.means g.met.K.Keep.one_map c.args.host.now image w c.args.opened.now entries first
    c.opened_records_show_their_world.ensures held meant kept opened usable fit
