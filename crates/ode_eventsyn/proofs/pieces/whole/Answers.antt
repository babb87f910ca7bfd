use Rattle.std.proofs.Common.{length, List, sym, ◌∙◌, subst}
use Rattle.ode_grammar.specs.Texts.{IsText, IsExtent}
use Rattle.ode_grammar.specs.declared.terminal.Terminal.{Terminal}
use Rattle.ode_heights.specs.declared.height.TheConstants.{HEIGHT_LIMIT}
use Rattle.ode_heights.specs.Depths.{IsTextWithin}
use Rattle.ode_eventsyn.proofs.Fronts.{are_tree, is_wrong_whole, length_seen, whole_text}
use Rattle.ode_eventsyn.specs.Parsing.{seen}
use Rattle.ode_eventsyn.proofs.pieces.whole.Goals as goal

pub returns-then-not-is_whole-clause-err : goal.returns-then-not-is_whole-clause-err
returns-then-not-is_whole-clause-err c =
    let seen_first = c.as_slice.ensures.value ∙ c.in_ok-seen.ensures in (
      c.in_ok-extent.extent.end,
      is_wrong_whole c.args.start (seen c.args.place c.args.text.now c.args.tokens.now) (length c.args.tokens.now) c.in_ok-extent.extent
          (subst (λ (ts : List Terminal). IsExtent c.args.start ts c.in_ok-extent.extent) seen_first c.in_ok-extent.ensures)
          (length_seen c.args.place c.args.text.now c.args.tokens.now) (sym c.is_whole.ensures ∙ c.if-not-is_whole.true),
      c.byte_of.ensures,
    )

pub returns-clause-ok : goal.returns-clause-ok
returns-clause-ok c =
    let seen_first = c.as_slice.ensures.value ∙ c.in_ok-seen.ensures in
    let seen_again = c.as_slice-2.ensures.value ∙ c.in_ok-seen.ensures in
    are_tree c.args.start c.args.place c.args.text.now c.args.tokens.now c.in_ok-made.made
    (whole_text c.args.start (seen c.args.place c.args.text.now c.args.tokens.now) (length c.args.tokens.now) c.in_ok-extent.extent
    (subst (λ (ts : List Terminal). IsExtent c.args.start ts c.in_ok-extent.extent) seen_first c.in_ok-extent.ensures)
    (length_seen c.args.place c.args.text.now c.args.tokens.now) (sym c.is_whole.ensures ∙ c.if-not-is_whole.false))
    (subst (λ (ts : List Terminal). IsText c.args.start ts → IsTextWithin HEIGHT_LIMIT c.args.start ts) seen_again (rw c.in_default.is at c.in_ok-at.ensures.none))
    c.in_ok-made.ensures
