use Rattle.std.proofs.Common.{rules, refl, ◌≡◌, ◌∙◌, ap, Err, List, subst, sym, ℕ}
use Rattle.ode_query.proofs.RangeLaws.{nothing_given}
use Rattle.ode_query.proofs.RowLaws.{from_nothing}
use Rattle.ode_query.proofs.answering.gather_all.Goals as goal
use Rattle.ode_query.specs.Answers.{Says, UnlessFault}
use Rattle.ode_query.specs.Lookups.{AreRanges, numbers_of}
use Rattle.ode_query.specs.Rows.{combinations, rows_from}
use Rattle.ode_query.specs.declared.lookup.Range.{Range}

pub returns-in_err-ranges-clause-value : goal.returns-in_err-ranges-clause-value
returns-in_err-ranges-clause-value g c = λ l entries w held records classes rises.
    let why = c.in_err-ranges.field-0.0 in
    let is : c.from_residual.result ≡ Err why = search rules in
    let reads = c.reading-overlay.ensures l entries w held c.args.classes.now classes in
    let meant = rows_from w.bones c.args.q.now (combinations c.args.lists.now) in
    let Made : List Range → Type 0 = λ ranges. (numbers_of ranges ≡ c.args.lists.now) × AreRanges w.bones c.args.q.now.test 0 ranges in
    subst (Says meant) (sym is) (nothing_given {X = List Range} Made meant why (c.in_err-ranges.ensures.value entries w.bones records reads rises))

pub returns-in_err-ranges-clause-holds : goal.returns-in_err-ranges-clause-holds
returns-in_err-ranges-clause-holds g c = λ l entries w held records classes.
    let why = c.in_err-ranges.field-0.0 in
    let is : c.from_residual.result ≡ Err why = search rules in
    let reads = c.reading-overlay.ensures l entries w held c.args.classes.now classes in
    let Holds : Type 0 = g.K.Keep.holds c.ranges_of.new.heap (g.H.Host.view c.ranges_of.new.host) entries in
    subst (λ r. UnlessFault r Holds) (sym is) (c.in_err-ranges.ensures.holds entries w.bones records reads)

pub returns-in_err-gather-clause-value : goal.returns-in_err-gather-clause-value
returns-in_err-gather-clause-value g c = λ l entries w held records classes rises.
    let why = c.in_err-gather.field-0.0 in
    let is : c.from_residual-in_err-gather.result ≡ Err why = search rules in
    let reads = c.reading-overlay.ensures l entries w held c.args.classes.now classes in
    let made = c.in_ok-ranges.ensures.value entries w.bones records reads rises in
    let here = c.in_ok-ranges.ensures.holds entries w.bones records reads in
    let ranges = c.as_slice.result.now in
    let all = subst (λ (rs : List Range). AreRanges w.bones c.args.q.now.test 0 rs) (sym c.as_slice.ensures) made.1 in
    let lists : numbers_of ranges ≡ c.args.lists.now = ap numbers_of c.as_slice.ensures ∙ made.0 in
    subst (Says (rows_from w.bones c.args.q.now (combinations c.args.lists.now))) (sym is)
    (subst (λ (ls : List (List ℕ)). Says (rows_from w.bones c.args.q.now (combinations ls)) (Err why)) lists
    (subst (λ m. Says m (Err why)) (from_nothing w.bones c.args.q.now (numbers_of ranges) _ c.new-rows.result refl c.new-rows.ensures) (c.in_err-gather.ensures.value entries w.bones here reads all)))

pub returns-in_err-gather-clause-holds : goal.returns-in_err-gather-clause-holds
returns-in_err-gather-clause-holds g c = λ l entries w held records classes.
    let why = c.in_err-gather.field-0.0 in
    let is : c.from_residual-in_err-gather.result ≡ Err why = search rules in
    let reads = c.reading-overlay.ensures l entries w held c.args.classes.now classes in
    let here = c.in_ok-ranges.ensures.holds entries w.bones records reads in
    let Holds : Type 0 = g.K.Keep.holds c.gather.new.heap (g.H.Host.view c.gather.new.host) entries in
    subst (λ r. UnlessFault r Holds) (sym is) (c.in_err-gather.ensures.holds entries w.bones here reads)

pub returns-clause-value : goal.returns-clause-value
returns-clause-value g c = λ l entries w held records classes rises.
    let reads = c.reading-overlay.ensures l entries w held c.args.classes.now classes in
    let made = c.in_ok-ranges.ensures.value entries w.bones records reads rises in
    let here = c.in_ok-ranges.ensures.holds entries w.bones records reads in
    let ranges = c.as_slice.result.now in
    let all = subst (λ (rs : List Range). AreRanges w.bones c.args.q.now.test 0 rs) (sym c.as_slice.ensures) made.1 in
    let lists : numbers_of ranges ≡ c.args.lists.now = ap numbers_of c.as_slice.ensures ∙ made.0 in
    ap (λ (ls : List (List ℕ)). rows_from w.bones c.args.q.now (combinations ls)) (sym lists)
    ∙ sym (from_nothing w.bones c.args.q.now (numbers_of ranges) _ c.new-rows.result refl c.new-rows.ensures)
    ∙ c.in_ok-gather.ensures.value entries w.bones here reads all

pub returns-clause-holds : goal.returns-clause-holds
returns-clause-holds g c = λ l entries w held records classes.
    let reads = c.reading-overlay.ensures l entries w held c.args.classes.now classes in
    c.in_ok-gather.ensures.holds entries w.bones (c.in_ok-ranges.ensures.holds entries w.bones records reads) reads
