use Rattle.std.proofs.Common.{Ok, Err}
use Rattle.std.proofs.lemmas.Result.{err_from_is_err_and}
use Rattle.ode_host.proofs.Moments.{looks_joined}
use Rattle.ode_keep.specs.Entries.{Entries}
use Rattle.ode_passes.specs.Rules.{Ruled, ◌>>=◌}
use Rattle.ode_passes.specs.Walking.{within}
use Rattle.ode_passes.proofs.Through.{stops_through}
use Rattle.ode_value.specs.Keys.{activation_kind, entry_kind, version_kind}
use Rattle.ode_opening_objects.specs.Known.{Known}
use Rattle.ode_opening_objects.specs.Scenes.{passed, waited}
use Rattle.ode_opening_objects.specs.declared.scene.Course.{Course}
use Rattle.ode_opening_objects.specs.declared.scene.Rule.TheVariants as rule
use Rattle.ode_opening_objects.proofs.Checking.{next_is}
use Rattle.ode_opening_objects.proofs.objects.check_scene.Goals as goal

-- what comes last, and what is left behind the activations, and behind the versions
abbrev references : Course → Ruled (Unit {0})
references d = d.references

abbrev queue : Entries → Course → Ruled Course
queue entries d = waited (within entry_kind entry_kind entries) d

abbrev activations : Entries → Course → Ruled Course
activations entries d = passed rule.Activations (within activation_kind activation_kind entries) d

abbrev versions : Entries → Course → Ruled Course
versions entries d = passed rule.Versions (within version_kind version_kind entries) d

abbrev behind_activations : Entries → Course → Ruled (Unit {0})
behind_activations entries d = queue entries d >>= references

abbrev behind_versions : Entries → Course → Ruled (Unit {0})
behind_versions entries d = activations entries d >>= behind_activations entries

abbrev first : Known → Course
first s = record { scene = s; references = Ok tt }

pub returns-in_err-course-clause-meant : goal.returns-in_err-course-clause-meant
returns-in_err-course-clause-meant g c = λ entries holds.
    let p = err_from_is_err_and c.from_residual.result c.from_residual.ensures.1 in
    rw (p.1, p.2) (stops_through (versions entries (first c.args.scene)) (behind_versions entries) c.in_err-course.field-0.0 (c.in_err-course.ensures.meant entries holds))

pub returns-in_err-course-2-clause-meant : goal.returns-in_err-course-2-clause-meant
returns-in_err-course-2-clause-meant g c = λ entries holds.
    let p = err_from_is_err_and c.from_residual-in_err-course-2.result c.from_residual-in_err-course-2.ensures.1 in
    let e = c.in_err-course-2.field-0.0 in
    let s = c.in_ok-course.course in
    rw (p.1, p.2) (next_is (versions entries (first c.args.scene)) s (behind_versions entries) (c.in_ok-course.ensures.meant entries holds) (Err e)
    (stops_through (activations entries s) (behind_activations entries) e (c.in_err-course-2.ensures.meant entries (c.in_ok-course.ensures.holds entries holds))))

pub returns-in_err-course-3-clause-meant : goal.returns-in_err-course-3-clause-meant
returns-in_err-course-3-clause-meant g c = λ entries holds.
    let p = err_from_is_err_and c.from_residual-in_err-course-3.result c.from_residual-in_err-course-3.ensures.1 in
    let e = c.in_err-course-3.field-0.0 in
    let s = c.in_ok-course.course in
    let t = c.in_ok-course-2.course in
    let holds_1 = c.in_ok-course.ensures.holds entries holds in
    rw (p.1, p.2) (next_is (versions entries (first c.args.scene)) s (behind_versions entries) (c.in_ok-course.ensures.meant entries holds) (Err e)
    (next_is (activations entries s) t (behind_activations entries) (c.in_ok-course-2.ensures.meant entries holds_1) (Err e)
    (stops_through (queue entries t) references e (c.in_err-course-3.ensures.meant entries (c.in_ok-course-2.ensures.holds entries holds_1)))))

pub returns-clause-meant : goal.returns-clause-meant
returns-clause-meant g c = λ entries holds.
    let s = c.in_ok-course.course in
    let t = c.in_ok-course-2.course in
    let u = c.in_ok-course-3.course in
    let holds_1 = c.in_ok-course.ensures.holds entries holds in
    let holds_2 = c.in_ok-course-2.ensures.holds entries holds_1 in
    next_is (versions entries (first c.args.scene)) s (behind_versions entries) (c.in_ok-course.ensures.meant entries holds) (Ok tt)
    (next_is (activations entries s) t (behind_activations entries) (c.in_ok-course-2.ensures.meant entries holds_1) (Ok tt)
    (next_is (queue entries t) u references (c.in_ok-course-3.ensures.meant entries holds_2) (Ok tt) c.in_ok-course-4.was))

pub returns-in_err-course-2-clause-looks : goal.returns-in_err-course-2-clause-looks
returns-in_err-course-2-clause-looks g c = looks_joined _ _ _ c.in_ok-course.ensures.looks c.in_err-course-2.ensures.looks

pub returns-in_err-course-3-clause-looks : goal.returns-in_err-course-3-clause-looks
returns-in_err-course-3-clause-looks g c = looks_joined _ _ _ c.in_ok-course.ensures.looks (looks_joined _ _ _ c.in_ok-course-2.ensures.looks c.in_err-course-3.ensures.looks)

pub returns-in_err-course-4-clause-looks : goal.returns-in_err-course-4-clause-looks
returns-in_err-course-4-clause-looks g c = looks_joined _ _ _ c.in_ok-course.ensures.looks (looks_joined _ _ _ c.in_ok-course-2.ensures.looks c.in_ok-course-3.ensures.looks)

pub returns-clause-looks : goal.returns-clause-looks
returns-clause-looks g c = looks_joined _ _ _ c.in_ok-course.ensures.looks (looks_joined _ _ _ c.in_ok-course-2.ensures.looks c.in_ok-course-3.ensures.looks)
