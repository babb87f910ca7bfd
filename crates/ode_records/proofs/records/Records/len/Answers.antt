use Rattle.ode_records.proofs.Kinding.{all_rising}
use Rattle.ode_records.proofs.records.Records.len.Goals as goal

pub returns-clause-rising : goal.returns-clause-rising
returns-clause-rising c = rw (← c.self.view_is) (all_rising c.self.inside.kinds.items c.self.invariant.0)
