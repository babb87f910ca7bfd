use Rattle.std.proofs.Common.{arith, rules, ◌≡◌, ◌+◌, ◌++◌, ◌∙◌, List, [], ◌∷◌, ap, drop, length, subst, sym, ⊎_elim}
use Rattle.std.proofs.lemmas.List.{length_push}
use Rattle.ode_host.proofs.Moments.{looks_joined}
use Rattle.ode_query.proofs.RangeLaws.{list_rises, made_range, numbers_all, numbers_more, range_more}
use Rattle.ode_query.proofs.lookup.ranges_of.Goals as goal
use Rattle.ode_query.specs.Lookups.{AreRanges, numbers_of}
use Rattle.ode_query.specs.declared.lookup.Range.{Range}

pub loop-numbers-preserved : goal.loop-numbers-preserved
loop-numbers-preserved g c =
    let lists = c.args.lists.now in
    let index = c.loop-numbers.numbers-index in
    let ranges = c.loop-numbers.ranges in
    let range : Range = record { numbers = c.in_ok-numbers.numbers; lookup = c.in_ok-lookup.lookup } in
    let pushed : c.push.new.self ≡ ranges ++ range ∷ [] = c.in_ok-push.ensures.ok in
    record {
      live = c.in_ok-lookup.ensures.usable;
      looks = looks_joined _ _ _ c.loop-numbers.invariant.looks c.in_ok-lookup.ensures.looks;
      faults = ⊎_elim (λ err. cc (err)) (λ same. same ∙ c.loop-numbers.invariant.faults) c.in_ok-lookup.ensures.cause.calm;
      holds = λ base b held reads. c.in_ok-lookup.ensures.holds base b (c.loop-numbers.invariant.holds base b held reads) reads;
      place =
          let next : c.in_ok-variable.variable ≡ c.loop-numbers.variable + 1 = search (rules, arith) in
          next ∙ ap (λ n. n + 1) c.loop-numbers.invariant.place ∙ sym (ap (λ (rs : List Range). length rs) pushed ∙ length_push ranges range);
      same = ap (λ (rs : List Range). numbers_of rs ++ drop (index + 1) lists) pushed
          ∙ numbers_more lists index ranges c.numbers-item.result range c.loop-numbers-test.true c.numbers-item.is (c.in_ok-numbers.ensures ∙ c.as_slice-numbers.ensures) c.loop-numbers.invariant.same;
      ranges = λ base b held reads rise.
          let rises = list_rises lists index c.numbers-item.result rise c.loop-numbers-test.true c.numbers-item.is in
          let is = made_range b c.args.test.now c.loop-numbers.variable (0 + length ranges) c.numbers-item.result c.as_slice-numbers.result.now c.in_ok-numbers.numbers c.in_ok-lookup.lookup
          (omega (arith, c.loop-numbers.invariant.place)) c.as_slice-numbers.ensures c.in_ok-numbers.ensures rises
          (c.in_ok-lookup.ensures.value base b (c.loop-numbers.invariant.holds base b held reads) reads) in
          subst (AreRanges b c.args.test.now 0) (sym pushed) (range_more b c.args.test.now 0 ranges range (c.loop-numbers.invariant.ranges base b held reads rise) is);
    }

pub returns-clause-value : goal.returns-clause-value
returns-clause-value g c = λ base b held reads rise.
    (numbers_all c.args.lists.now c.loop-numbers.numbers-index c.loop-numbers.ranges (omega arith) c.loop-numbers.invariant.same, c.loop-numbers.invariant.ranges base b held reads rise)
