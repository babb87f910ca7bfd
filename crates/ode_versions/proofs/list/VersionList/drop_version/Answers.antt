use Rattle.std.proofs.Common.{◌∙◌, List, refl, ap, subst, sym}
use Rattle.ode_versions.specs.Versions.{IsVersionList, has_number}
use Rattle.ode_versions.specs.declared.list.Version.{Version}
use Rattle.ode_versions.specs.declared.list.VersionList.{VersionList}
use Rattle.ode_versions.proofs.Removal.{absent, apart, removed, there, without_keeps}
use Rattle.ode_versions.proofs.list.VersionList.drop_version.Goals as goal

pub returns-in_default-clause-no_version : goal.returns-in_default-clause-no_version
returns-in_default-clause-no_version c = (λ _. absent c.args.number c.args.self.now.versions (sym c.in_default.ensures), λ _. refl)

pub returns-clause-ok : goal.returns-clause-ok
returns-clause-ok c =
    ap (λ (vs : List Version). let l : VersionList = record { versions = vs; last = c.args.self.now.last } in l)
    (c.remove.ensures.rest ∙ removed c.args.number c.in-Some.at c.args.self.now.versions c.requires.rising (sym c.in-Some.ensures))

pub returns-clause-no_version : goal.returns-clause-no_version
returns-clause-no_version c =
    (λ h. absurd (cc), λ h. absurd (apart (has_number c.args.number c.args.self.now.versions) (there c.args.number c.in-Some.at c.args.self.now.versions (sym c.in-Some.ensures)) h))

pub returns-clause-keeps : goal.returns-clause-keeps
returns-clause-keeps c =
    subst IsVersionList (sym (returns-clause-ok c))
    (without_keeps c.args.number c.in-Some.at c.args.self.now c.requires (sym c.in-Some.ensures) (λ one. c.if-len-eq1.false (c.len.ensures ∙ one)))
