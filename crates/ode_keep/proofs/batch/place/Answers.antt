use Rattle.std.proofs.Common.{◌≡◌, ◌∙◌, suc, ◌-◌, ℕ, ap, arith, drop, get_or, subst, sym}
use Rattle.std.specs.Ordering.{is_lt}
use Rattle.ode_value.specs.Keys.{key_cmp}
use Rattle.ode_keep.specs.Batches.{changes_of}
use Rattle.ode_keep.specs.Placing.{IsPlace}
use Rattle.ode_keep.proofs.Placing.{AreFrom, behind_less, from_more, less_at, none_from}
use Rattle.ode_keep.proofs.batch.place.Goals as goal

pub above-init : goal.above-init
above-init c = record { within = omega arith; from = none_from c.args.changes.now c.args.key }

pub returns-then-is_lt-clause-place : goal.returns-then-is_lt-clause-place
returns-then-is_lt-clause-place c =
    let at = c.above.at in
    let key = c.args.key in
    let cs = c.args.changes.now in
    let next : suc (at - 1) ≡ at = omega (arith, c.above-test.true) in
    let r = c.index-changes-at.result in
    let less = less_at (key_cmp (get_or cs (at - 1) r).key key) (ap is_lt (sym c.cmp.ensures) ∙ sym c.is_lt.ensures ∙ c.if-is_lt.true) in
    subst (λ (n : ℕ). IsPlace (changes_of cs) key n) next
    (behind_less cs key (at - 1) r c.requires (omega (arith, c.above-test.true, c.above.invariant.within))
    less
    (subst (λ (n : ℕ). AreFrom key (drop n (changes_of cs))) (sym next) c.above.invariant.from))

pub above-preserved : goal.above-preserved
above-preserved c =
    let at = c.above.at in
    let key = c.args.key in
    let cs = c.args.changes.now in
    let next : suc (at - 1) ≡ at = omega (arith, c.above-test.true) in
    let r = c.index-changes-at.result in
    let other = ap is_lt (sym c.cmp.ensures) ∙ sym c.is_lt.ensures ∙ c.if-is_lt.false in
    record {
      within = omega (arith, c.above.invariant.within);
      from =
          from_more cs key (at - 1) r (omega (arith, c.above-test.true, c.above.invariant.within))
          other
          (subst (λ (n : ℕ). AreFrom key (drop n (changes_of cs))) (sym next) c.above.invariant.from);
    }
