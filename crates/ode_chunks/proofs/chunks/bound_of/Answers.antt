use Rattle.ode_chunks.proofs.Chunking.{belongs_last}
use Rattle.ode_chunks.proofs.chunks.bound_of.Goals as goal

pub returns-then-begin_by-clause-none : goal.returns-then-begin_by-clause-none
returns-then-begin_by-clause-none c = belongs_last c.args.tree.now.entries c.args.last.now c.args.key c.requires.bounds c.if-begin_by.ensures
