use Rattle.std.proofs.Common.{◌≡◌, ℕ, [], None, Ok, Err, Some, sym, ap, subst, ◌∙◌}
use Rattle.ode_value.specs.Keys.{added_key, added_kind}
use Rattle.ode_passes.specs.Records.{Found, decoded, with_record}
use Rattle.ode_passes.specs.Rules.{through}
use Rattle.ode_passes.specs.Walking.{within}
use Rattle.ode_passes.specs.declared.cause.Cause.TheVariants as cause
use Rattle.ode_opening.specs.Births.{AreBirthsOf, Lists, first_missing, listed}
use Rattle.ode_opening.proofs.Calm.{calm_behind}
use Rattle.ode_opening.proofs.Listing.{lists_found, missing_stops}
use Rattle.ode_opening.proofs.births.read_added.Goals as goal

-- one birth is missing
pub returns-in-Some-clause-meant : goal.returns-in-Some-clause-meant
returns-in-Some-clause-meant g c = λ entries holds.
    let records : Found = c.walk.new.pass in
    let read : decoded (within added_kind added_kind entries) ≡ Ok records =
    ap (λ (fs : Found). through with_record fs (within added_kind added_kind entries)) (sym c.new-records.ensures) ∙ c.in_ok-walk.ensures.meant entries holds in
    let births : AreBirthsOf records c.in_ok-births.births = subst (λ (fs : Found). AreBirthsOf fs c.in_ok-births.births) c.as_slice.ensures c.in_ok-births.ensures in
    let missing : first_missing records c.args.count ≡ Some c.in-Some.birth = sym (c.first_missing.ensures records births) ∙ c.in-Some.is in
    missing_stops c.args.heads.now c.args.count entries records read c.in-Some.birth missing
    ∙ ap (λ (b : ℕ). Err (cause.Missing (added_key 0 b))) (sym c.from.ensures)

-- or none
pub returns-clause-meant : goal.returns-clause-meant
returns-clause-meant g c = λ entries holds.
    let records : Found = c.walk.new.pass in
    let read : decoded (within added_kind added_kind entries) ≡ Ok records =
    ap (λ (fs : Found). through with_record fs (within added_kind added_kind entries)) (sym c.new-records.ensures) ∙ c.in_ok-walk.ensures.meant entries holds in
    let births : AreBirthsOf records c.in_ok-births.births = subst (λ (fs : Found). AreBirthsOf fs c.in_ok-births.births) c.as_slice.ensures c.in_ok-births.ensures in
    let none : first_missing records c.args.count ≡ None = sym (c.first_missing.ensures records births) ∙ c.in_default.is in
    let lists = subst (λ (fs : Found). Lists (listed c.args.heads.now c.args.count [] fs) c.list_added.result) c.as_slice-2.ensures c.list_added.ensures.meant in
    lists_found c.args.heads.now c.args.count entries records read c.list_added.result none lists

-- behind the walk nothing is read
pub returns-clause-cause : goal.returns-clause-cause
returns-clause-cause g c = calm_behind _ _ _ _ c.in_ok-walk.ensures.cause (λ err. absurd (cc (err))) c.list_added.ensures.calm
