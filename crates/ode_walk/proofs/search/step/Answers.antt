use Rattle.std.proofs.Common.{rules, ◌≢◌, ◌≡◌, ◌+◌, ◌*◌, refl, sym, ◌∙◌, ap}
use Rattle.ode_value.specs.Tables.{says_yes}
use Rattle.ode_walk.specs.declared.visit.Visit.{Visit}
use Rattle.ode_walk.specs.Search.{visit_at}
use Rattle.ode_walk.proofs.RelationLaws.{shortest}
use Rattle.ode_walk.proofs.SearchLaws.{search_step}
use Rattle.ode_walk.proofs.search.step.Goals as goal

pub returns-then-yes-clause-err : goal.returns-then-yes-clause-err
returns-then-yes-clause-err c =
    let stored = c.args.stored.now in
    let built = c.args.built.now in
    let h = c.requires.search in
    let v = visit_at c.args.search.now.visits c.args.head in
    let leads = rw c.as_slice-then-yes.ensures at c.in_ok-word.ensures.leads in
    let long = rw c.as_slice-then-yes.ensures at c.in_ok-word.ensures.length in
    let longer = rw c.as_slice-then-yes.ensures at c.in_ok-word.ensures.longer in
    let differ : c.yes.result ≢ c.yes-2.result = search rules in
    let is_p = rw c.as_slice.ensures at c.next-p.ensures.value in
    let is_q = rw c.as_slice.ensures at c.next-q.ensures.value in
    shortest stored built c.args.search.now.visits c.args.search.now.seen c.args.head c.args.symbol _ _ c.in_ok-word.word c.requires.head h
    (leads stored built h.tree c.requires.symbol) (long stored built h.tree) longer
    (λ same. differ (c.yes.ensures ∙ ap (says_yes stored) is_p ∙ same ∙ sym (ap (says_yes built) is_q) ∙ sym c.yes-2.ensures))

pub returns-clause-ok : goal.returns-clause-ok
returns-clause-ok c =
    let stored = c.args.stored.now in
    let built = c.args.built.now in
    let h = c.requires.search in
    let u = visit_at c.args.search.now.visits c.args.head in
    let v : Visit = record { stored = c.next-p.result; built = c.next-q.result; from = c.args.head; symbol = c.args.symbol; length = u.length + 1 } in
    let equal : c.yes.result ≡ c.yes-2.result = search rules in
    let pair = c.from.result * c.from-2.result + c.from-3.result in
    search_step stored built c.args.search.now.visits c.args.search.now.seen c.args.head c.args.symbol pair v c.add.new.search.visits c.add.new.search.seen
    c.requires.head h refl refl record { symbol = c.requires.symbol; stored_next = rw c.as_slice.ensures at c.next-p.ensures.value; built_next = rw c.as_slice.ensures at c.next-q.ensures.value; length = refl }
    c.next-p.ensures.state c.next-q.ensures.state (sym c.yes.ensures ∙ equal ∙ c.yes-2.ensures)
    (λ i. c.from.ensures i * (c.from-2.ensures ∙ c.states.ensures.value) i + c.from-3.ensures i) c.in_ok-add.ensures.known (rw c.as_slice.ensures at c.in_ok-add.ensures.new)
