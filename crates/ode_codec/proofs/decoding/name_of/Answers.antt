use Rattle.ode_codec.proofs.Names.{no_name}
use Rattle.ode_codec.proofs.decoding.name_of.Goals as goal

pub returns-in-Err-BadByte : goal.returns-in-Err-BadByte
returns-in-Err-BadByte c =
    let found = c.in-Err-BadByte.ensures.bad c.in-Err-BadByte.field-0-0 c.in-Err-BadByte.field-0-is in
    no_name c.args.bytes.now (λ text. let none = text.each in absurd cc)
