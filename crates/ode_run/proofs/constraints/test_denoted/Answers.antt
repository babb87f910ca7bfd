use Rattle.std.proofs.Common.{rules, ◌≡◌, None, Some, true}
use Rattle.ode_objects.specs.Objects.{version_of}
use Rattle.ode_run.proofs.ConstraintLaws.{no_version_tested, version_tested}
use Rattle.ode_run.proofs.constraints.test_denoted.Goals as goal

pub returns-in-Some-clause-tests : goal.returns-in-Some-clause-tests
returns-in-Some-clause-tests c = λ y fits some there.
    let live : c.args.object.now.live ≡ true = search rules in
    let is : version_of c.args.of.version c.args.object.now.versions ≡ Some c.in-Some.version.now = search rules in
    version_tested c.args.of y some c.args.object.now there c.in-Some.version.now c.test_version.result live is (c.test_version.ensures.tests y fits)

pub returns-in-None-clause-tests : goal.returns-in-None-clause-tests
returns-in-None-clause-tests c = λ y fits some there.
    let live : c.args.object.now.live ≡ true = search rules in
    let is : version_of c.args.of.version c.args.object.now.versions ≡ None = search rules in
    no_version_tested c.args.of y some c.args.object.now there live is
