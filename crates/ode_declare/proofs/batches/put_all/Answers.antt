use Rattle.std.proofs.Common.{◌≡◌, ◌∷◌, None, Some, ap, arith, length, subst, sym, ◌∙◌}
use Rattle.std.specs.List.{AllByRecursion}
use Rattle.ode_keep.proofs.Lengths.{IsShortChange, short_each}
use Rattle.ode_keep.specs.Batches.{changes_of}
use Rattle.ode_keep.specs.Entries.{Changes, applied, value_under}
use Rattle.ode_declare.proofs.BatchLaws.{copied, one_more, short_first, short_more, still_few}
use Rattle.ode_declare.proofs.batches.put_all.Goals as goal

pub loop-change-init : goal.loop-change-init
loop-change-init c =
    let ahead = changes_of c.into_iter-change-iterator.result.rest.now in
    let same : ahead ≡ c.args.more.now = cc in
    record {
      both = λ base q. ap (λ (cs : Changes). value_under (applied cs (applied c.args.batch.now base)) q) same;
      short = λ first more. first;
      left = λ more. subst (AllByRecursion IsShortChange) (sym same) (short_each c.args.more.now more);
      few = let count : length ahead ≡ length c.args.more.now = ap (λ (cs : Changes). length cs) same in omega (arith, count);
    }

pub loop-change-preserved-in_ok-put-in-Some-value : goal.loop-change-preserved-in_ok-put-in-Some-value
loop-change-preserved-in_ok-put-in-Some-value c =
    let ahead = changes_of c.loop-change.change-iterator.rest.now in
    let next = changes_of c.next.new.self.rest.now in
    let change = c.in-Some.change.now in
    let k = change.key in
    let w = Some c.in_ok-from_slice-in-Some-value.field-0 in
    let value : change.value ≡ w = copied change.value _ _ _ c.in-Some-value.is c.as_slice.ensures c.in_ok-from_slice-in-Some-value.ensures in
    let split : ahead ≡ (k, w) ∷ next = ap changes_of c.in-Some.ensures.steps ∙ ap (λ v. (k, v) ∷ next) value in
    let made = c.in_ok-put-in-Some-value.ensures in
    record {
      both = one_more k w ahead next c.loop-change.batch c.put.new.self c.args.more.now c.args.batch.now split made.counts c.loop-change.invariant.both;
      short = λ first more. short_more k w c.loop-change.batch c.put.new.self made.ok (short_first k w ahead next split (c.loop-change.invariant.left more)).0 (c.loop-change.invariant.short first more);
      left = λ more. (short_first k w ahead next split (c.loop-change.invariant.left more)).1;
      few = still_few k w ahead next c.loop-change.batch c.put.new.self _ split made.ok c.loop-change.invariant.few;
    }

pub loop-change-preserved : goal.loop-change-preserved
loop-change-preserved c =
    let ahead = changes_of c.loop-change.change-iterator.rest.now in
    let next = changes_of c.next.new.self.rest.now in
    let change = c.in-Some.change.now in
    let k = change.key in
    let value : change.value ≡ None = cc in
    let split : ahead ≡ (k, None) ∷ next = ap changes_of c.in-Some.ensures.steps ∙ ap (λ v. (k, v) ∷ next) value in
    let made = c.in_ok-remove-in-None-value.ensures in
    record {
      both = one_more k None ahead next c.loop-change.batch c.remove.new.self c.args.more.now c.args.batch.now split made.counts c.loop-change.invariant.both;
      short = λ first more. short_more k None c.loop-change.batch c.remove.new.self made.ok (short_first k None ahead next split (c.loop-change.invariant.left more)).0 (c.loop-change.invariant.short first more);
      left = λ more. (short_first k None ahead next split (c.loop-change.invariant.left more)).1;
      few = still_few k None ahead next c.loop-change.batch c.remove.new.self _ split made.ok c.loop-change.invariant.few;
    }
