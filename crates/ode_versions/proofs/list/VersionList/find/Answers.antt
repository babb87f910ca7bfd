use Rattle.std.proofs.Common.{◌∙◌}
use Rattle.ode_versions.proofs.Current.{found_of}
use Rattle.ode_versions.proofs.list.VersionList.find.Goals as goal

pub returns-clause-denotes : goal.returns-clause-denotes
returns-clause-denotes c = λ versions same. c.found.ensures ∙ found_of c.args.version versions c.args.self.now same
