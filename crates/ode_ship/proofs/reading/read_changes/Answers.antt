use Rattle.std.proofs.Common.{◌≡◌, sym, subst, ◌∙◌, arith}
use Rattle.std.proofs.lemmas.Bool.{false≢true}
use Rattle.std.specs.Option.{option_map}
use Rattle.ode_keep.proofs.Firsts.{same_change_first}
use Rattle.ode_ship.specs.Frames.{IsStored}
use Rattle.ode_ship.proofs.Taking.{Change, not_all, not_shipped, none_left, read_more}
use Rattle.ode_ship.proofs.reading.read_changes.Goals as goal

pub returns-in_default-next_change-clause-none : goal.returns-in_default-next_change-clause-none
returns-in_default-next_change-clause-none c changes form =
    let none = (rw c.in_default-next_change.is at c.next_change.ensures.none) in
    not_shipped c.args.bytes.now c.in-Some.count c.changes.taken c.changes.batch c.changes.rest.now c.changes.last c.changes.invariant.read (omega (arith, c.changes.invariant.few)) c.changes-test.true
    (λ x more fits after is. none x more fits.fits after is) changes form

pub returns-then-not-is_stored-clause-none : goal.returns-then-not-is_stored-clause-none
returns-then-not-is_stored-clause-none c changes form =
    let change = c.in-Some-next_change.change in
    let d : Change = (change.key, option_map (λ v. v.now) change.value) in
    not_shipped c.args.bytes.now c.in-Some.count c.changes.taken c.changes.batch c.changes.rest.now c.changes.last c.changes.invariant.read (omega (arith, c.changes.invariant.few)) c.changes-test.true
    (λ x more fits after is.
    let some = c.in-Some-next_change.ensures.some in
    let same : x ≡ d = (same_change_first x d more change.rest.now fits.fits some.0 (sym is ∙ some.1)).0 in
    let stored : IsStored d.0 d.1 = subst (λ (y : Change). IsStored y.0 y.1) same fits.stored in
    absurd (false≢true (sym c.if-not-is_stored.true ∙ c.is_stored.ensures.1 stored))) changes form

pub changes-preserved : goal.changes-preserved
changes-preserved c =
    let change = c.in-Some-next_change.change in
    let d : Change = (change.key, option_map (λ v. v.now) change.value) in
    let some = c.in-Some-next_change.ensures.some in
    record {
      read =
          read_more c.args.bytes.now c.in-Some.count c.changes.taken c.changes.batch c.changes.rest.now c.changes.last c.changes.invariant.read d change.rest.now c.add.new.batch
          (record { fits = some.0; stored = c.is_stored.ensures.0 c.if-not-is_stored.false }) c.in-Some-next_change.ensures.follows some.1 c.in_ok-add.ensures c.changes-test.true;
      few = c.changes.invariant.few;
    }

pub returns-else-is_empty-clause-none : goal.returns-else-is_empty-clause-none
returns-else-is_empty-clause-none c changes form =
    let so_far = c.changes.invariant in
    not_all c.args.bytes.now c.in-Some.count c.changes.taken c.changes.batch c.changes.rest.now c.changes.last so_far.read (omega (arith, so_far.few)) (omega (arith, so_far.read.within, c.changes-test.false))
    (none_left c.changes.rest.now (sym c.is_empty.ensures ∙ c.if-is_empty.false)) changes form
