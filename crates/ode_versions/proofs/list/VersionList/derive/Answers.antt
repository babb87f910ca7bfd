use Rattle.std.proofs.Common.{◌+◌, subst, sym}
use Rattle.ode_versions.specs.Versions.{IsVersionList}
use Rattle.ode_versions.specs.declared.list.VersionList.{VersionList}
use Rattle.ode_versions.proofs.Growth.{derived_keeps}
use Rattle.ode_versions.proofs.list.VersionList.derive.Goals as goal

pub returns-clause-keeps : goal.returns-clause-keeps
returns-clause-keeps c =
    subst (λ vs. let l : VersionList = record { versions = vs; last = c.args.self.now.last + 1 } in IsVersionList l) (sym (c.in_ok-push.ensures.ok))
    (derived_keeps c.args.from c.args.self.now c.requires)
