use Rattle.std.proofs.Common.{arith, rules, ◌≡◌, ◌∷◌, ◌∙◌, ◌-◌, Err, List, ap, drop, length, take, ⊎_elim, subst, sym, ℕ}
use Rattle.ode_host.proofs.Moments.{looks_joined}
use Rattle.ode_query.proofs.RangeLaws.{behind_one, first_range, same_rows}
use Rattle.ode_query.proofs.RowLaws.{end_rows, next_rows, stop_rows}
use Rattle.ode_query.proofs.gathering.+gather.Goals as goal
use Rattle.ode_query.specs.Answers.{Says, behind, leaving}
use Rattle.ode_query.specs.Lookups.{AreRanges, numbers_of}
use Rattle.ode_query.specs.Rows.{begun_by, rows_from}
use Rattle.ode_query.specs.declared.lookup.Range.{Range}

pub gather_from-loop-number-preserved : goal.gather_from-loop-number-preserved
gather_from-loop-number-preserved g t c = record {
  live = c.in_ok-gather.ensures.usable;
  looks = looks_joined _ _ _ c.loop-number.invariant.looks c.in_ok-gather.ensures.looks;
  faults = ⊎_elim (λ err. cc (err)) (λ same. same ∙ c.loop-number.invariant.faults) c.in_ok-gather.ensures.cause.calm;
  holds = λ base b held reads. c.in_ok-gather.ensures.holds base b (c.loop-number.invariant.holds base b held reads) reads;
  rest = λ base b held reads are.
      let whole = rows_from b c.args.q.now (begun_by c.args.chosen.now (c.args.numbers.now ∷ numbers_of c.args.ranges.now)) in
      let more = c.as_slice-more.result.now in
      next_rows b c.args.q.now c.loop-number.rows c.args.chosen.now (numbers_of c.args.ranges.now) (behind c.args.rows.now whole) c.args.numbers.now c.loop-number.number-index (c.loop-number.invariant.rest base b held reads are)
      c.gather.new.rows 0 more c.loop-number-test.true (c.as_slice-more.ensures ∙ c.in_ok-more.ensures)
      (c.in_ok-gather.ensures.value base b (c.loop-number.invariant.holds base b held reads) reads
      (behind_one b c.args.q.now.test c.args.chosen.now more _ c.args.ranges.now (c.as_slice-more.ensures ∙ c.in_ok-more.ensures) are));
}

pub gather_from-returns-in_err-gather-clause-value : goal.gather_from-returns-in_err-gather-clause-value
gather_from-returns-in_err-gather-clause-value g t c = λ base b held reads are.
    let why = c.in_err-gather.field-0.0 in
    let is : c.from_residual-in_err-gather.result ≡ Err why = search rules in
    let whole = behind c.args.rows.now (rows_from b c.args.q.now (begun_by c.args.chosen.now (c.args.numbers.now ∷ numbers_of c.args.ranges.now))) in
    let more = c.as_slice-more.result.now in
    subst (λ r. Says whole (leaving c.gather.new.rows r)) (sym is)
    (stop_rows b c.args.q.now c.loop-number.rows c.args.chosen.now (numbers_of c.args.ranges.now) whole c.args.numbers.now c.loop-number.number-index (c.loop-number.invariant.rest base b held reads are)
    0 more why c.loop-number-test.true (c.as_slice-more.ensures ∙ c.in_ok-more.ensures)
    (c.in_err-gather.ensures.value base b (c.loop-number.invariant.holds base b held reads) reads
    (behind_one b c.args.q.now.test c.args.chosen.now more _ c.args.ranges.now (c.as_slice-more.ensures ∙ c.in_ok-more.ensures) are)))

pub gather_from-returns-clause-value : goal.gather_from-returns-clause-value
gather_from-returns-clause-value g t c = λ base b held reads are.
    let whole = rows_from b c.args.q.now (begun_by c.args.chosen.now (c.args.numbers.now ∷ numbers_of c.args.ranges.now)) in
    end_rows b c.args.q.now c.loop-number.rows c.args.chosen.now (numbers_of c.args.ranges.now) (behind c.args.rows.now whole) c.args.numbers.now c.loop-number.number-index (c.loop-number.invariant.rest base b held reads are) (omega arith)

pub gather-returns-in_ok-found-in-len1-up-clause-value : goal.gather-returns-in_ok-found-in-len1-up-clause-value
gather-returns-in_ok-found-in-len1-up-clause-value g t c = λ base b held reads are.
    let chosen = c.args.chosen.now in
    let ranges = c.args.ranges.now in
    let range = c.range-item.result in
    let rest = take (length ranges - 1) (drop 1 ranges) in
    let done = c.args.rows.now in
    let split : ranges ≡ range ∷ rest = first_range ranges range (omega (arith, c.in-len1-up.len_at_least)) c.range-item.is in
    let all = subst (λ (rs : List Range). AreRanges b c.args.q.now.test (length chosen) rs) split are in
    let enough = c.in_ok-found-in-len1-up.ensures.value base b c.args.q.now.test held reads all.0 in
    let after = c.gather_from.ensures.value base b (c.in_ok-found-in-len1-up.ensures.holds base b held reads) reads all.1 in
    let few : behind done (rows_from b c.args.q.now (begun_by chosen (c.as_slice-found.result.now ∷ numbers_of rest))) ≡ behind done (rows_from b c.args.q.now (begun_by chosen (c.in_ok-found-in-len1-up.found ∷ numbers_of rest))) =
    ap (λ (ns : List ℕ). behind done (rows_from b c.args.q.now (begun_by chosen (ns ∷ numbers_of rest)))) c.as_slice-found.ensures in
    let same = same_rows b c.args.q.now chosen c.in_ok-found-in-len1-up.found range.numbers (numbers_of rest) done enough in
    let whole : behind done (rows_from b c.args.q.now (begun_by chosen (range.numbers ∷ numbers_of rest))) ≡ behind done (rows_from b c.args.q.now (begun_by chosen (numbers_of ranges))) =
    ap (λ (rs : List Range). behind done (rows_from b c.args.q.now (begun_by chosen (numbers_of rs)))) (sym split) in
    subst (λ m. Says m (leaving c.gather_from.new.rows c.gather_from.result)) (few ∙ same ∙ whole) after
