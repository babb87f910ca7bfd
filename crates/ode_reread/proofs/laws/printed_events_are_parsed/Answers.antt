use Rattle.std.proofs.Common.{◌≡◌, ℕ, List, sym, ◌∙◌, ap, subst}
use Rattle.ode_grammar.specs.declared.reader.Start.TheVariants as start
use Rattle.ode_heights.specs.declared.height.TheConstants.{HEIGHT_LIMIT}
use Rattle.ode_terminals.specs.declared.seen.Place.TheVariants.{Class}
use Rattle.ode_value.specs.Printing.{event_text}
use Rattle.ode_value.specs.declared.event.EventExpr.{EventExpr}
use Rattle.ode_syntax.specs.declared.trees.Trees.{Trees}
use Rattle.ode_syntax.specs.Built.{event_tree}
use Rattle.ode_reread.specs.Rereading.{IsRead, IsEventOf}
use Rattle.ode_reread.proofs.InstantKinds.{instants_good}
use Rattle.ode_reread.proofs.Longest.{longest_again, not_refused}
use Rattle.ode_reread.proofs.Readings.{event_again}
use Rattle.ode_reread.proofs.laws.printed_events_are_parsed.Goals as goal

-- the printed text is read as the tree
read : (text : List ℕ) (e : EventExpr) → IsEventOf text e → (again : Trees) × IsRead HEIGHT_LIMIT start.Event Class (event_text e) again × (event_tree again.events ≡ e)
read text e r =
    subst (λ x. (again : Trees) × IsRead HEIGHT_LIMIT start.Event Class (event_text x) again × (event_tree again.events ≡ x)) (sym r.2) (event_again HEIGHT_LIMIT Class text r.0 (instants_good Class) r.1)

pub returns-clause-tokens : goal.returns-clause-tokens
returns-clause-tokens c = λ text e r. let x = read text e r in (x.1.tokens, x.1.lexed_as)

pub returns-clause-found : goal.returns-clause-found
returns-clause-found c = λ text e tokens end made r l h.
    let x = read text e r in
    let y = longest_again start.Event Class (event_text e) tokens x.0 l x.1 end made h in
    (ap (λ (v : Trees). event_tree v.events) y.0 ∙ x.2, y.1)

pub returns-clause-not_refused : goal.returns-clause-not_refused
returns-clause-not_refused c = λ text e tokens why r l h.
    let x = read text e r in
    not_refused start.Event Class (event_text e) tokens x.0 l x.1 why h
