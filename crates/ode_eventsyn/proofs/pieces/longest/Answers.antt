use Rattle.std.proofs.Common.{◌≡◌, take, List, map, ◌∙◌, ap, subst}
use Rattle.ode_lex.specs.declared.token.Token.{Token}
use Rattle.ode_grammar.specs.Texts.{IsText, IsExtent}
use Rattle.ode_grammar.specs.declared.terminal.Terminal.{Terminal}
use Rattle.ode_heights.specs.declared.height.TheConstants.{HEIGHT_LIMIT}
use Rattle.ode_heights.specs.Depths.{IsTextWithin}
use Rattle.ode_syntax.specs.declared.trees.Trees.{Trees}
use Rattle.ode_syntax.specs.Kept.{spelled}
use Rattle.ode_syntax.specs.Trees.{Makes}
use Rattle.ode_eventsyn.proofs.Fronts.{is_longest, is_true}
use Rattle.ode_eventsyn.proofs.pieces.longest.Goals as goal

pub returns-clause-ok : goal.returns-clause-ok
returns-clause-ok c =
    let seen_first = c.as_slice.ensures.value ∙ c.in_ok-seen.ensures in
    let seen_again = c.as_slice-2.ensures.value ∙ c.in_ok-seen.ensures in
    let front = c.split_at.ensures.front ∙ ap (take c.in_ok-extent.extent.end) seen_again in
    is_longest c.args.start c.args.place c.args.text.now c.args.tokens.now c.in_ok-extent.extent c.in_ok-made.made
    (subst (λ (ts : List Terminal). IsExtent c.args.start ts c.in_ok-extent.extent) seen_first c.in_ok-extent.ensures) (is_true c.in_ok-extent.extent.is_text c.if-not-extent.false)
    (subst (λ (ts : List Terminal). IsText c.args.start ts → IsTextWithin HEIGHT_LIMIT c.args.start ts) front (rw c.in_default.is at c.in_ok-at.ensures.none))
    (subst (λ (ts : List Token). (out : Trees) → Makes c.args.start (map (spelled c.args.place c.args.text.now) ts) out → c.in_ok-made.made ≡ out) c.split_at-2.ensures.front c.in_ok-made.ensures)
