use Rattle.ode_pages.proofs.Decoding.{again}
use Rattle.ode_pages.proofs.laws.read_again.Goals as goal

pub returns : goal.returns
returns g c = again g.row.N c.args.page.now c.bytes.result.now c.read.result c.bytes.ensures c.read.ensures.some c.read.ensures.none
