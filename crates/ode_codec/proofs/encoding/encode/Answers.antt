use Rattle.ode_codec.proofs.Decodes.{encodes}
use Rattle.ode_codec.proofs.encoding.encode.Goals as goal

pub returns-clause-again : goal.returns-clause-again
returns-clause-again c = λ is. encodes c.encoded.result c.args.one.now is c.encoded.ensures
