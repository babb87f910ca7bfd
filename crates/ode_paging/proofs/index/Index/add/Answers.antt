use Rattle.std.proofs.Common.{sym, ◌∙◌}
use Rattle.std.proofs.lemmas.Bool.{false≢true}
use Rattle.ode_paging.proofs.Indexed.{added_more, not_apart}
use Rattle.ode_paging.proofs.index.Index.add.Goals as goal

pub returns-then-not-branch-clause-other : goal.returns-then-not-branch-clause-other
returns-then-not-branch-clause-other c =
    not_apart c.args.number c.args.page.now c.args.self.now c.entries.self c.entries.entries c.entries.invariant
    (c.in-Some.key, c.in-Some.field-0-1.now) c.next.new.self c.in-Some.ensures.some
    (λ none. false≢true (sym c.if-not-branch.true ∙ c.in_ok-lead.ensures.new.1 none))

pub entries-preserved : goal.entries-preserved
entries-preserved c =
    added_more c.args.number c.args.page.now c.args.self.now c.entries.self c.entries.entries c.entries.invariant
    (c.in-Some.key, c.in-Some.field-0-1.now) c.next.new.self c.in-Some.ensures.some
    c.lead.new.self (c.in_ok-lead.ensures.new.0 c.if-not-branch.false) c.in_ok-lead.ensures.ok
