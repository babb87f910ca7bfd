use Rattle.std.proofs.Common.{arith}
use Rattle.ode_journal.proofs.Ahead.{copied}
use Rattle.ode_journal.proofs.block.Block.copy.Goals as goal

pub returns-clause-bytes : goal.returns-clause-bytes
returns-clause-bytes c file is =
    copied c.args.at c.args.self.now.at c.args.self.now.filled c.copy_some.result c.args.self.now.bytes.items c.deref.result.now c.copy_some.new.to file c.deref.ensures.value
    c.if-at-self.false c.if-self-at.false is (omega (arith, c.copy_some.ensures.count)) c.copy_some.ensures.bytes
