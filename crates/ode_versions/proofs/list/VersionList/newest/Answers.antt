use Rattle.std.proofs.Common.{◌∙◌, ap, sym}
use Rattle.ode_versions.specs.Versions.{newest_number}
use Rattle.ode_versions.proofs.Current.{newest_of}
use Rattle.ode_versions.proofs.list.VersionList.newest.Goals as goal

pub returns-clause-denotes : goal.returns-clause-denotes
returns-clause-denotes c = λ versions same. c.newest_in.ensures.newest ∙ ap newest_number (c.as_slice.ensures ∙ sym same) ∙ newest_of versions
