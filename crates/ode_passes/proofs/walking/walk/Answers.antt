use Rattle.std.proofs.Common.{◌≡◌, ◌<◌, ◌≤◌, [], ◌∙◌, Option, Some, None, true, sym, ap, subst, ⊎_elim, arith}
use Rattle.std.specs.Option.{IfSome}
use Rattle.std.proofs.lemmas.Bool.Decides.{nat_tests}
use Rattle.std.proofs.lemmas.Result.{err_from_is_err_and}
use Rattle.ode_host.proofs.Moments.{looks_joined}
use Rattle.ode_keep.specs.Entries.{AreBytes}
use Rattle.ode_value.specs.declared.key.Key.{Key}
use Rattle.ode_passes.specs.Rules.{through}
use Rattle.ode_passes.specs.Walking.{has_range, last_key, rank, records_above, records_from, within}
use Rattle.ode_passes.proofs.Batches.{batch_bytes, batch_goes, batch_stops}
use Rattle.ode_passes.proofs.walking.walk.Goals as goal

pub records-preserved : goal.records-preserved
records-preserved g c = record {
  live = c.in_ok-rows.ensures.usable;
  looks = looks_joined _ _ _ c.records.invariant.looks c.in_ok-rows.ensures.looks;
  faults = ⊎_elim (λ err. cc (err)) (λ same. same ∙ c.records.invariant.faults) c.in_ok-rows.ensures.cause.calm;
  holds = λ entries holds. c.in_ok-rows.ensures.holds entries (c.records.invariant.holds entries holds);
  rest = λ entries holds.
      let holds_1 = c.records.invariant.holds entries holds in
      let at : Some c.in-Some.at ≡ last_key None c.in_ok-rows.rows = sym c.in-Some.is ∙ c.in_ok-at.ensures.at in
      let on = batch_goes c.records.from c.args.last entries c.in_ok-rows.rows (c.in_ok-rows.ensures.next c.args.last entries holds_1)
      g.P.Pass.takes c.records.pass c.take_rows.new.pass (Some c.in-Some.at) (through g.P.Pass.takes c.args.pass.now (within c.args.first c.args.last entries))
      at c.in_ok-at.ensures.meant (c.records.invariant.rest entries holds) in
      let next : records_above c.in-Some.at c.args.last entries ≡ records_from c.in-Some-place_behind.next c.args.last entries = c.in-Some-place_behind.ensures.on entries in
      ap (through g.P.Pass.takes c.take_rows.new.pass) (sym next) ∙ on;
  bytes = λ entries holds more.
      let holds_1 = c.records.invariant.holds entries holds in
      let at : Some c.in-Some.at ≡ last_key None c.in_ok-rows.rows = sym c.in-Some.is ∙ c.in_ok-at.ensures.at in
      let next : records_above c.in-Some.at c.args.last entries ≡ records_from c.in-Some-place_behind.next c.args.last entries = c.in-Some-place_behind.ensures.on entries in
      c.records.invariant.bytes entries holds (
      batch_bytes c.records.from c.args.last entries c.in_ok-rows.rows (c.in_ok-rows.ensures.next c.args.last entries holds_1)
      (Some c.in-Some.at) at c.in_ok-at.ensures.bytes (subst AreBytes (sym next) more)
      );
}

pub records-smaller : goal.records-smaller
records-smaller g c =
    let at : last_key None c.in_ok-rows.rows ≡ Some c.in-Some.at = sym c.in_ok-at.ensures.at ∙ c.in-Some.is in
    let range : has_range c.in-Some.at ≡ true = grind (arith, nat_tests) in
    let up : rank c.records.from ≤ rank c.in-Some.at = subst (λ (o : Option Key). IfSome o (λ q. has_range q ≡ true → rank c.records.from ≤ rank q)) at c.in_ok-rows.ensures.above range in
    let more : rank c.in-Some.at < rank c.in-Some-place_behind.next = c.in-Some-place_behind.ensures.later in
    omega arith

pub returns-in_err-at-clause-meant : goal.returns-in_err-at-clause-meant
returns-in_err-at-clause-meant g c = λ entries holds.
    let holds_1 = c.records.invariant.holds entries holds in
    let p = err_from_is_err_and c.from_residual-in_err-at.result c.from_residual-in_err-at.ensures.1 in
    rw (p.1, p.2) (
    batch_stops c.records.from c.args.last entries c.in_ok-rows.rows (c.in_ok-rows.ensures.next c.args.last entries holds_1) (Option Key) (Unit {0})
    g.P.Pass.takes c.records.pass c.take_rows.new.pass (through g.P.Pass.takes c.args.pass.now (within c.args.first c.args.last entries))
    c.take_rows.new.pass c.in_err-at.field-0.0 c.in_err-at.ensures.meant (c.records.invariant.rest entries holds)
    )

pub returns-in_default-clause-meant : goal.returns-in_default-clause-meant
returns-in_default-clause-meant g c = λ entries holds.
    let holds_1 = c.records.invariant.holds entries holds in
    sym (
    batch_goes c.records.from c.args.last entries c.in_ok-rows.rows (c.in_ok-rows.ensures.next c.args.last entries holds_1)
    g.P.Pass.takes c.records.pass c.take_rows.new.pass None (through g.P.Pass.takes c.args.pass.now (within c.args.first c.args.last entries))
    (sym c.in_default.is ∙ c.in_ok-at.ensures.at) c.in_ok-at.ensures.meant (c.records.invariant.rest entries holds)
    )

pub returns-in_default-clause-bytes : goal.returns-in_default-clause-bytes
returns-in_default-clause-bytes g c = λ entries holds.
    let holds_1 = c.records.invariant.holds entries holds in
    c.records.invariant.bytes entries holds (
    batch_bytes c.records.from c.args.last entries c.in_ok-rows.rows (c.in_ok-rows.ensures.next c.args.last entries holds_1)
    None (sym c.in_default.is ∙ c.in_ok-at.ensures.at) c.in_ok-at.ensures.bytes tt
    )

pub returns-in_default-place_behind-clause-meant : goal.returns-in_default-place_behind-clause-meant
returns-in_default-place_behind-clause-meant g c = λ entries holds.
    let holds_1 = c.records.invariant.holds entries holds in
    let at : Some c.in-Some.at ≡ last_key None c.in_ok-rows.rows = sym c.in-Some.is ∙ c.in_ok-at.ensures.at in
    let on = batch_goes c.records.from c.args.last entries c.in_ok-rows.rows (c.in_ok-rows.ensures.next c.args.last entries holds_1)
    g.P.Pass.takes c.records.pass c.take_rows.new.pass (Some c.in-Some.at) (through g.P.Pass.takes c.args.pass.now (within c.args.first c.args.last entries))
    at c.in_ok-at.ensures.meant (c.records.invariant.rest entries holds) in
    let none : records_above c.in-Some.at c.args.last entries ≡ [] = c.in_default-place_behind.ensures.on entries in
    sym on ∙ ap (through g.P.Pass.takes c.take_rows.new.pass) none

pub returns-in_default-place_behind-clause-bytes : goal.returns-in_default-place_behind-clause-bytes
returns-in_default-place_behind-clause-bytes g c = λ entries holds.
    let holds_1 = c.records.invariant.holds entries holds in
    let at : Some c.in-Some.at ≡ last_key None c.in_ok-rows.rows = sym c.in-Some.is ∙ c.in_ok-at.ensures.at in
    let none : records_above c.in-Some.at c.args.last entries ≡ [] = c.in_default-place_behind.ensures.on entries in
    c.records.invariant.bytes entries holds (
    batch_bytes c.records.from c.args.last entries c.in_ok-rows.rows (c.in_ok-rows.ensures.next c.args.last entries holds_1)
    (Some c.in-Some.at) at c.in_ok-at.ensures.bytes (subst AreBytes (sym none) tt)
    )
