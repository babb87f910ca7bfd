-- The table is the list of reserved words.
use Rattle.ode_value.specs.Words.{reserved}
use Rattle.ode_value.proofs.words.is_reserved.Goals as goal

pub returns : goal.returns
unfolding reserved
returns c = c.is_among.ensures
