use Rattle.std.proofs.Common.{◌≡◌, ◌+◌, true, false, sym, ◌∙◌, arith}
use Rattle.std.specs.BTreeMap.{get}
use Rattle.std.specs.Option.{is_some}
use Rattle.std.specs.Ordering.{nat_cmp}
use Rattle.ode_opening.proofs.BirthLaws.{missing_ends, missing_here, missing_is, missing_on}
use Rattle.ode_opening.proofs.births.first_missing.Goals as goal

pub loop-birth-preserved : goal.loop-birth-preserved
loop-birth-preserved c =
    let births = c.args.births.now in
    let birth = c.loop-birth.birth in
    let there : is_some (get nat_cmp births (birth + 1)) ≡ true = sym c.contains_key.ensures ∙ c.if-not-contains_key.false in
    record {
      within = omega (arith, c.loop-birth-test.true);
      rest = c.loop-birth.invariant.rest ∙ missing_on births birth c.args.count c.loop-birth-test.true there;
    }

pub returns-then-not-contains_key : goal.returns-then-not-contains_key
returns-then-not-contains_key c = λ records are.
    let births = c.args.births.now in
    let birth = c.loop-birth.birth in
    let gone : is_some (get nat_cmp births (birth + 1)) ≡ false = sym c.contains_key.ensures ∙ c.if-not-contains_key.true in
    sym (missing_here births birth c.args.count c.loop-birth-test.true gone) ∙ sym c.loop-birth.invariant.rest ∙ missing_is records births c.args.count are

pub returns : goal.returns
returns c = λ records are.
    let births = c.args.births.now in
    sym (missing_ends births c.loop-birth.birth c.args.count (omega (arith, c.loop-birth.invariant.within, c.loop-birth-test.false)))
    ∙ sym c.loop-birth.invariant.rest ∙ missing_is records births c.args.count are
