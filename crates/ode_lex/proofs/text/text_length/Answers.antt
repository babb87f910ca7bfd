use Rattle.std.proofs.Common.{drop, arith, sym, ◌∙◌}
use Rattle.ode_lex.specs.Texts.{content, text_length}
use Rattle.ode_lex.proofs.Contents.{behind_none, behind_closed, behind_spelled, behind_full}
use Rattle.ode_lex.proofs.text.text_length.Goals as goal

pub loop-init : goal.loop-init
loop-init c = (omega arith, behind_none (content c.args.bytes.now))

pub returns-then-begins_with_quote-clause-found : goal.returns-then-begins_with_quote-clause-found
unfolding text_length
returns-then-begins_with_quote-clause-found c =
    let quoted = rw c.split_at.ensures.back at c.begins_with_quote.ensures in
    sym (c.loop.invariant.1 ∙ behind_closed c.loop.counter c.loop.at (drop c.loop.at c.args.bytes.now) (omega arith) (sym quoted ∙ c.if-begins_with_quote.true))

pub loop-preserved : goal.loop-preserved
loop-preserved c =
    let spelled = rw c.split_at.ensures.back at c.in_ok-at.ensures.some in
    (omega (arith, c.in_ok-at.ensures.within), c.loop.invariant.1 ∙ behind_spelled c.loop.counter c.loop.at c.in_ok-at.field-0 c.args.bytes.now spelled)

pub returns-clause-found : goal.returns-clause-found
unfolding text_length
returns-clause-found c = sym (c.loop.invariant.1 ∙ behind_full c.loop.counter c.loop.at (content (drop c.loop.at c.args.bytes.now)) c.loop-test.false)
