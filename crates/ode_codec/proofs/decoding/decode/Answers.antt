use Rattle.std.proofs.Common.{arith}
use Rattle.ode_codec.proofs.Decodes.{decodes, finds}
use Rattle.ode_codec.proofs.decoding.decode.Goals as goal

pub returns-clause-found : goal.returns-clause-found
returns-clause-found c =
    finds c.decoded.result c.args.key c.args.bytes.now (record { a = omega arith; b = omega arith }) (λ i. omega (arith, c.type_inv.bytes i)) c.decoded.ensures

pub returns-clause-only : goal.returns-clause-only
returns-clause-only c = λ r is e. decodes c.decoded.result c.args.key c.args.bytes.now r is e c.decoded.ensures
