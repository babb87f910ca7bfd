use Rattle.ode_formed_versions.proofs.VersionLaws.{derive_stays, drop_stays, write_stays}
use Rattle.ode_formed_versions.proofs.versions_stay_formed.Goals as goal

pub returns-clause-write : goal.returns-clause-write
returns-clause-write c = λ classes base x r slot value new formed read. write_stays classes base x r new formed read slot value

pub returns-clause-derive : goal.returns-clause-derive
returns-clause-derive c = derive_stays

pub returns-clause-drop : goal.returns-clause-drop
returns-clause-drop c = drop_stays
