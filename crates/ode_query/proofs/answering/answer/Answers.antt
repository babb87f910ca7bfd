use Rattle.std.proofs.Common.{arith, rules, ◌≡◌, ◌≤◌, ◌∙◌, Err, List, ap, length, map, subst, sym, true, false, ℕ}
use Rattle.ode_query.proofs.AnswerLaws.{answers, rows_stop, stops, too_long, too_many}
use Rattle.ode_query.proofs.RangeLaws.{lists_rise}
use Rattle.ode_query.proofs.answering.answer.Goals as goal
use Rattle.ode_query.specs.Answers.{IsAnswer, Says, UnlessFault}
use Rattle.ode_query.specs.Rows.{all_instances, combinations, product, rows_from}
use Rattle.ode_query.specs.Texts.{answered, fits}
use Rattle.ode_query.specs.declared.answering.TheConstants.{COMBINATION_LIMIT}
use Rattle.ode_query.specs.declared.error.QueryError.TheVariants as error

abbrev counted : List (List ℕ) → ℕ
counted lists = product (map (λ (ns : List ℕ). length ns) lists)

pub returns-in_err-lists-clause-rows : goal.returns-in_err-lists-clause-rows
returns-in_err-lists-clause-rows g c = λ l entries w held records classes.
    let why = c.in_err-lists.field-0.0 in
    let is : c.from_residual.result ≡ Err why = search rules in
    let meant = answered w.bones c.args.q.now in
    subst (IsAnswer meant) (sym is) (stops (all_instances w.bones c.args.q.now) why meant (c.in_err-lists.ensures.value l entries w held records classes))

pub returns-then-count-gt-COMBINATION_LIMIT-clause-rows : goal.returns-then-count-gt-COMBINATION_LIMIT-clause-rows
returns-then-count-gt-COMBINATION_LIMIT-clause-rows g c = λ l entries w held records classes.
    too_many w.bones c.args.q.now c.in_ok-lists.lists c.in-Some.count (c.in_ok-lists.ensures.value l entries w held records classes) (c.in-Some.ensures ∙ ap counted c.as_slice.ensures)
    (omega (arith, c.if-count-gt-COMBINATION_LIMIT.true))

pub returns-in_err-found-clause-rows : goal.returns-in_err-found-clause-rows
returns-in_err-found-clause-rows g c = λ l entries w held records classes.
    let rises = lists_rise w.bones c.args.q.now c.in_ok-lists.lists c.as_slice-2.result.now held.world.good.bones.rising (c.in_ok-lists.ensures.value l entries w held records classes) c.as_slice-2.ensures in
    let why = c.in_err-found.field-0.0 in
    let is : c.from_residual-in_err-found.result ≡ Err why = search rules in
    let few : c.in-Some.count ≤ COMBINATION_LIMIT = omega (arith, c.if-count-gt-COMBINATION_LIMIT.false) in
    let says = c.in_err-found.ensures.value l entries w held (c.in_ok-lists.ensures.holds entries records) classes rises in
    subst (IsAnswer (answered w.bones c.args.q.now)) (sym is)
    (rows_stop w.bones c.args.q.now c.in_ok-lists.lists c.in-Some.count (c.in_ok-lists.ensures.value l entries w held records classes) (c.in-Some.ensures ∙ ap counted c.as_slice.ensures) few why
    (subst (λ (lists : List (List ℕ)). Says (rows_from w.bones c.args.q.now (combinations lists)) (Err why)) c.as_slice-2.ensures says))

pub returns-then-branch-clause-rows : goal.returns-then-branch-clause-rows
returns-then-branch-clause-rows g c = λ l entries w held records classes.
    let rises = lists_rise w.bones c.args.q.now c.in_ok-lists.lists c.as_slice-2.result.now held.world.good.bones.rising (c.in_ok-lists.ensures.value l entries w held records classes) c.as_slice-2.ensures in
    let few : c.in-Some.count ≤ COMBINATION_LIMIT = omega (arith, c.if-count-gt-COMBINATION_LIMIT.false) in
    let found = c.in_ok-found.ensures.value l entries w held (c.in_ok-lists.ensures.holds entries records) classes rises in
    let short : true ≡ fits c.in_ok-rows.rows = cc (c.if-branch.true, c.in_ok-fits.ensures, c.as_slice-3.ensures) in
    answers w.bones c.args.q.now c.in_ok-lists.lists c.in-Some.count (c.in_ok-lists.ensures.value l entries w held records classes) (c.in-Some.ensures ∙ ap counted c.as_slice.ensures) few
    c.in_ok-found.found c.in_ok-rows.rows (ap (λ (lists : List (List ℕ)). rows_from w.bones c.args.q.now (combinations lists)) (sym c.as_slice-2.ensures) ∙ found) c.in_ok-rows.ensures short

pub returns-clause-rows : goal.returns-clause-rows
returns-clause-rows g c = λ l entries w held records classes.
    let rises = lists_rise w.bones c.args.q.now c.in_ok-lists.lists c.as_slice-2.result.now held.world.good.bones.rising (c.in_ok-lists.ensures.value l entries w held records classes) c.as_slice-2.ensures in
    let few : c.in-Some.count ≤ COMBINATION_LIMIT = omega (arith, c.if-count-gt-COMBINATION_LIMIT.false) in
    let found = c.in_ok-found.ensures.value l entries w held (c.in_ok-lists.ensures.holds entries records) classes rises in
    let long : false ≡ fits c.in_ok-rows.rows = cc (c.if-branch.false, c.in_ok-fits.ensures, c.as_slice-3.ensures) in
    too_long w.bones c.args.q.now c.in_ok-lists.lists c.in-Some.count (c.in_ok-lists.ensures.value l entries w held records classes) (c.in-Some.ensures ∙ ap counted c.as_slice.ensures) few
    c.in_ok-found.found c.in_ok-rows.rows (ap (λ (lists : List (List ℕ)). rows_from w.bones c.args.q.now (combinations lists)) (sym c.as_slice-2.ensures) ∙ found) c.in_ok-rows.ensures long

-- ---- the heap holds the records

pub returns-in_err-found-clause-holds : goal.returns-in_err-found-clause-holds
returns-in_err-found-clause-holds g c = λ l entries w held records classes.
    let why = c.in_err-found.field-0.0 in
    let is : c.from_residual-in_err-found.result ≡ Err why = search rules in
    let Holds : Type 0 = g.K.Keep.holds c.gather_all.new.heap (g.H.Host.view c.gather_all.new.host) entries in
    subst (λ r. UnlessFault r Holds) (sym is) (c.in_err-found.ensures.holds l entries w held (c.in_ok-lists.ensures.holds entries records) classes)

pub returns-in_err-rows-clause-holds : goal.returns-in_err-rows-clause-holds
returns-in_err-rows-clause-holds g c = λ l entries w held records classes.
    let is : c.from_residual-in_err-rows.result ≡ Err error.Memory = search rules in
    let Holds : Type 0 = g.K.Keep.holds c.gather_all.new.heap (g.H.Host.view c.gather_all.new.host) entries in
    subst (λ r. UnlessFault r Holds) (sym is) (c.in_ok-found.ensures.holds l entries w held (c.in_ok-lists.ensures.holds entries records) classes)

pub returns-in_err-fits-clause-holds : goal.returns-in_err-fits-clause-holds
returns-in_err-fits-clause-holds g c = λ l entries w held records classes.
    let is : c.from_residual-in_err-fits.result ≡ Err error.Memory = search rules in
    let Holds : Type 0 = g.K.Keep.holds c.gather_all.new.heap (g.H.Host.view c.gather_all.new.host) entries in
    subst (λ r. UnlessFault r Holds) (sym is) (c.in_ok-found.ensures.holds l entries w held (c.in_ok-lists.ensures.holds entries records) classes)

pub returns-then-branch-clause-holds : goal.returns-then-branch-clause-holds
returns-then-branch-clause-holds g c = λ l entries w held records classes. c.in_ok-found.ensures.holds l entries w held (c.in_ok-lists.ensures.holds entries records) classes

pub returns-clause-holds : goal.returns-clause-holds
returns-clause-holds g c = λ l entries w held records classes. c.in_ok-found.ensures.holds l entries w held (c.in_ok-lists.ensures.holds entries records) classes
