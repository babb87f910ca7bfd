use Rattle.std.proofs.Common.{◌∙◌, ℕ, List, ap, sym}
use Rattle.std.proofs.lemmas.Result.{err_from_is_err_and}
use Rattle.ode_class_records.specs.Weighing.{spare_beside}
use Rattle.ode_host.proofs.Moments.{looks_joined}
use Rattle.ode_opening_records.proofs.Chained.{all_opens, base_is, classes_fail, light_fails, objects_fail, tables_fail, tally_fails}
use Rattle.ode_opening_records.proofs.reading.open_records.Goals as goal

pub returns-in_err-counters-clause-meant : goal.returns-in_err-counters-clause-meant
returns-in_err-counters-clause-meant g c = λ entries holds.
    let p = err_from_is_err_and c.from_residual.result c.from_residual.ensures.1 in
    rw (p.1, p.2) (tally_fails c.args.first entries c.in_err-counters.field-0.0 (c.in_err-counters.ensures.meant entries holds))

pub returns-in_err-accepted-clause-meant : goal.returns-in_err-accepted-clause-meant
returns-in_err-accepted-clause-meant g c = λ entries holds.
    let p = err_from_is_err_and c.from_residual-in_err-accepted.result c.from_residual-in_err-accepted.ensures.1 in
    let holds_1 = c.in_ok-counters.ensures.holds entries holds in
    rw (p.1, p.2)
    (classes_fail c.args.first entries (c.in_ok-counters.counters, c.in_ok-counters.bytes) (c.in_ok-counters.ensures.meant entries holds) c.in_err-accepted.field-0.0 (c.in_err-accepted.ensures.meant entries holds_1))

pub returns-in_err-tables-clause-meant : goal.returns-in_err-tables-clause-meant
returns-in_err-tables-clause-meant g c = λ entries holds.
    let p = err_from_is_err_and c.from_residual-in_err-tables.result c.from_residual-in_err-tables.ensures.1 in
    let holds_1 = c.in_ok-counters.ensures.holds entries holds in
    let holds_2 = c.in_ok-accepted.ensures.holds entries holds_1 in
    rw (p.1, p.2)
    (tables_fail c.args.first entries (c.in_ok-counters.counters, c.in_ok-counters.bytes) (c.in_ok-counters.ensures.meant entries holds) c.in_ok-accepted.accepted.classes
    (c.in_ok-accepted.ensures.meant entries holds_1) c.in_err-tables.field-0.0 (c.in_err-tables.ensures.meant entries holds_2))

pub returns-in_err-check_objects-clause-meant : goal.returns-in_err-check_objects-clause-meant
returns-in_err-check_objects-clause-meant g c = λ entries holds.
    let p = err_from_is_err_and c.from_residual-in_err-check_objects.result c.from_residual-in_err-check_objects.ensures.1 in
    let holds_1 = c.in_ok-counters.ensures.holds entries holds in
    let holds_2 = c.in_ok-accepted.ensures.holds entries holds_1 in
    let holds_3 = c.in_ok-tables.ensures.holds entries holds_2 in
    rw (p.1, p.2)
    (objects_fail c.args.first entries (c.in_ok-counters.counters, c.in_ok-counters.bytes) (c.in_ok-counters.ensures.meant entries holds) c.in_ok-accepted.accepted.classes
    (c.in_ok-accepted.ensures.meant entries holds_1) c.in_ok-tables.tables (c.in_ok-tables.ensures.meant entries holds_2) c.in_ok-tables.maps c.in_ok-tables.ensures.maps c.in_err-check_objects.field-0.0
    (c.in_err-check_objects.ensures.meant entries holds_3))

pub returns-in_err-is_light-clause-meant : goal.returns-in_err-is_light-clause-meant
returns-in_err-is_light-clause-meant g c = λ entries holds.
    let p = err_from_is_err_and c.from_residual-in_err-is_light.result c.from_residual-in_err-is_light.ensures.1 in
    let holds_1 = c.in_ok-counters.ensures.holds entries holds in
    let holds_2 = c.in_ok-accepted.ensures.holds entries holds_1 in
    let holds_3 = c.in_ok-tables.ensures.holds entries holds_2 in
    rw (p.1, p.2)
    (light_fails c.args.first entries (c.in_ok-counters.counters, c.in_ok-counters.bytes) (c.in_ok-counters.ensures.meant entries holds) c.in_ok-accepted.accepted.classes
    (c.in_ok-accepted.ensures.meant entries holds_1) c.in_ok-tables.tables (c.in_ok-tables.ensures.meant entries holds_2) c.in_ok-tables.maps c.in_ok-tables.ensures.maps
    (c.in_ok-check_objects.ensures.meant entries holds_3) c.in_err-is_light.field-0.0 (sym c.in_err-is_light.ensures))

pub returns-clause-meant : goal.returns-clause-meant
returns-clause-meant g c = λ entries holds.
    let holds_1 = c.in_ok-counters.ensures.holds entries holds in
    let holds_2 = c.in_ok-accepted.ensures.holds entries holds_1 in
    let holds_3 = c.in_ok-tables.ensures.holds entries holds_2 in
    let spare =
    c.spare-spare.ensures.spare ∙ ap (λ (counts : List ℕ). spare_beside counts c.as_slice-2.result.now) c.as_slice.ensures
    ∙ ap (spare_beside c.in_ok-accepted.accepted.counts) c.as_slice-2.ensures ∙ c.in_ok-tables.ensures.spare in
    let is = base_is c.in_ok-accepted.accepted c.in_ok-tables.tables c.in_ok-tables.maps c.in_ok-counters.bytes c.spare-spare.result c.in_ok-accepted.ensures.built c.in_ok-tables.ensures.maps spare in
    rw is
    (all_opens c.args.first entries (c.in_ok-counters.counters, c.in_ok-counters.bytes) (c.in_ok-counters.ensures.meant entries holds) c.in_ok-accepted.accepted.classes
    (c.in_ok-accepted.ensures.meant entries holds_1) c.in_ok-tables.tables (c.in_ok-tables.ensures.meant entries holds_2) c.in_ok-tables.maps c.in_ok-tables.ensures.maps
    (c.in_ok-check_objects.ensures.meant entries holds_3) (sym c.in_ok-is_light.ensures))

-- ---- four passes only looked

pub returns-in_err-check_objects-clause-looks : goal.returns-in_err-check_objects-clause-looks
returns-in_err-check_objects-clause-looks g c =
    looks_joined _ _ _ (looks_joined _ _ _ (looks_joined _ _ _ c.read_tally.ensures.looks c.read_classes.ensures.looks) c.read_tables.ensures.looks) c.check_objects.ensures.looks

pub returns-in_err-is_light-clause-looks : goal.returns-in_err-is_light-clause-looks
returns-in_err-is_light-clause-looks g c =
    looks_joined _ _ _ (looks_joined _ _ _ (looks_joined _ _ _ c.read_tally.ensures.looks c.read_classes.ensures.looks) c.read_tables.ensures.looks) c.check_objects.ensures.looks

pub returns-clause-looks : goal.returns-clause-looks
returns-clause-looks g c =
    looks_joined _ _ _ (looks_joined _ _ _ (looks_joined _ _ _ c.read_tally.ensures.looks c.read_classes.ensures.looks) c.read_tables.ensures.looks) c.check_objects.ensures.looks
