use Rattle.std.proofs.Common.{rules, ◌≡◌, ◌∙◌, Err, ap, refl}
use Rattle.std.proofs.lemmas.Result.{err_from_is_err_and}
use Rattle.ode_change.proofs.Knowing.{known_is}
use Rattle.ode_changed_laws.specs.Known.{class_by_class}
use Rattle.ode_codec.specs.declared.record.Counters.{Counters}
use Rattle.ode_declare.proofs.TakeLaws.{damaged_as}
use Rattle.ode_language.specs.Languages.{ode}
use Rattle.ode_machine.specs.Refusals as machine
use Rattle.ode_opening.specs.Trees.{trees_in}
use Rattle.ode_change.proofs.reading.read_in.Goals as goal

pub returns-clause-known : goal.returns-clause-known
returns-clause-known g c = λ entries w held records.
    let counted = c.in_ok-read.ensures.counters entries w held records in
    let here = c.in_ok-read.ensures.holds entries records in
    known_is w.bones c.in_ok-read.read.1 c.in_ok-known.known.counters (λ n. trees_in ode n entries) c.in_ok-known.known.trees c.in_ok-known.known.added counted c.in_ok-known.ensures.counters
    (c.in_ok-known.ensures.trees entries here) (c.held_trees_are_read.ensures entries w held.world)

pub returns-clause-holds : goal.returns-clause-holds
returns-clause-holds g c = λ entries w held records. c.in_ok-known.ensures.holds entries (c.in_ok-read.ensures.holds entries records)

pub returns-in_err-read-clause-undamaged : goal.returns-in_err-read-clause-undamaged
returns-in_err-read-clause-undamaged g c =
    let p = err_from_is_err_and c.from_residual.result c.from_residual.ensures.1 in
    let same : c.from_residual.result ≡ Err c.in_err-read.field-0.0 = rw (p.1, p.2) refl in
    damaged_as c.read_counters.result c.from_residual.result c.in_err-read.field-0.0 _ _ (search rules) same c.read_counters.ensures.undamaged (λ damaged. damaged)

pub returns-in_err-known-clause-undamaged : goal.returns-in_err-known-clause-undamaged
returns-in_err-known-clause-undamaged g c =
    let p = err_from_is_err_and c.from_residual-in_err-known.result c.from_residual-in_err-known.ensures.1 in
    let same : c.from_residual-in_err-known.result ≡ Err c.in_err-known.field-0.0 = rw (p.1, p.2) refl in
    damaged_as c.read_rest.result c.from_residual-in_err-known.result c.in_err-known.field-0.0 _ _ (search rules) same c.read_rest.ensures.undamaged (λ damaged entries w held records.
    let counted = c.in_ok-read.ensures.counters entries w held records in
    damaged entries (machine.trees_in w.bones, class_by_class w.bones) (c.in_ok-read.ensures.holds entries records)
    (ap (λ (k : Counters). trees_in ode k.added entries) counted ∙ c.held_trees_are_read.ensures entries w held.world))
