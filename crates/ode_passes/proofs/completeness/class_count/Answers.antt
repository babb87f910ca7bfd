use Rattle.std.proofs.Common.{◌≡◌, ◌+◌, ◌≤◌, ℕ, Bool, true, false, cond, take, sym, ap, ◌∙◌, arith}
use Rattle.std.specs.List.{count_by}
use Rattle.std.proofs.lemmas.List.{take_all}
use Rattle.ode_passes.specs.Complete.{is_head}
use Rattle.ode_passes.proofs.Completing.{count_more}
use Rattle.ode_passes.proofs.completeness.class_count.Goals as goal

at_most : (b : Bool) (m n i : ℕ) → m ≤ i → n ≡ m + cond b 1 0 → n ≤ i + 1
at_most true m n i le is = omega arith
at_most false m n i le is = omega arith

pub loop-found-preserved : goal.loop-found-preserved
loop-found-preserved c = record {
  counted =
      c.counted-count.ensures
      ∙ ap (λ (n : ℕ). n + cond (is_head c.found-item.result) 1 0) c.loop-found.invariant.counted
      ∙ ap (λ f. count_by is_head (take c.loop-found.found-index c.args.records.now) + cond (is_head f) 1 0) c.found-item.is
      ∙ sym (count_more c.args.records.now c.loop-found.found-index c.found-item.result c.loop-found-test.true);
  few = at_most (is_head c.found-item.result) c.loop-found.count c.counted-count.result c.loop-found.found-index c.loop-found.invariant.few c.counted-count.ensures;
}

pub returns : goal.returns
returns c = c.loop-found.invariant.counted ∙ ap (count_by is_head) (take_all c.loop-found.found-index c.args.records.now (omega arith))
