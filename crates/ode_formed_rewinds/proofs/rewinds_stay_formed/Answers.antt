use Rattle.ode_formed_rewinds.proofs.RewoundLaws.{rewound_held}
use Rattle.ode_formed_rewinds.proofs.rewinds_stay_formed.Goals as goal

pub returns : goal.returns
returns c = rewound_held
