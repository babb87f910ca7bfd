use Rattle.std.proofs.Common.{arith, rules, ◌≡◌, ◌<◌, ◌≤◌, ◌∙◌, Err, Ok, ⊎_elim, List, length, slice_index_or, subst, sym, ℕ}
use Rattle.ode_host.proofs.Moments.{looks_joined}
use Rattle.ode_query.proofs.InstanceLaws.{list_stops, lists_end, lists_next}
use Rattle.ode_query.proofs.instances.read_all.Goals as goal
use Rattle.ode_query.specs.Answers.{Says}
use Rattle.ode_query.specs.Rows.{all_instances, instances}

pub returns-in_err-numbers-clause-value : goal.returns-in_err-numbers-clause-value
returns-in_err-numbers-clause-value g c = λ by entries w held records classes.
    let why = c.in_err-numbers.field-0.0 in
    let is : c.from_residual.result ≡ Err why = search rules in
    let says = c.in_err-numbers.ensures.value by entries w held (c.loop-range.invariant.holds entries records) classes in
    subst (Says (Ok (all_instances w.bones c.args.q.now))) (sym is) (list_stops (instances w.bones c.range-item.result.1) (all_instances w.bones c.args.q.now) why says)

pub loop-range-preserved : goal.loop-range-preserved
loop-range-preserved g c = record {
  live = c.in_ok-numbers.ensures.usable;
  looks = looks_joined _ _ _ c.loop-range.invariant.looks c.in_ok-numbers.ensures.looks;
  faults = ⊎_elim (λ err. cc (err)) (λ same. same ∙ c.loop-range.invariant.faults) c.in_ok-numbers.ensures.cause.calm;
  holds = λ entries held. c.in_ok-numbers.ensures.holds entries (c.loop-range.invariant.holds entries held);
  rest = λ by entries w held records classes.
      let says = c.in_ok-numbers.ensures.value by entries w held (c.loop-range.invariant.holds entries records) classes in
      let numbers : instances w.bones c.range-item.result.1 ≡ c.in_ok-numbers.numbers = cc (says) in
      let whole = c.as_slice-range-items.ensures in
      let inside = subst (λ (vs : List (List ℕ × List ℕ)). c.loop-range.range-index < length vs) whole c.loop-range-test.true in
      let item = subst (λ (vs : List (List ℕ × List ℕ)). c.range-item.result ≡ slice_index_or vs c.loop-range.range-index c.range-item.result) whole c.range-item.is in
      lists_next w.bones c.args.q.now c.loop-range.lists c.push.new.self c.in_ok-numbers.numbers c.loop-range.range-index c.range-item.result inside item numbers c.in_ok-push.ensures.ok
      (c.loop-range.invariant.rest by entries w held records classes);
}

pub returns-clause-value : goal.returns-clause-value
returns-clause-value g c = λ by entries w held records classes.
    lists_end w.bones c.args.q.now c.loop-range.lists c.loop-range.range-index (subst (λ (vs : List (List ℕ × List ℕ)). length vs ≤ c.loop-range.range-index) c.as_slice-range-items.ensures (omega arith)) (c.loop-range.invariant.rest by entries w held records classes)
