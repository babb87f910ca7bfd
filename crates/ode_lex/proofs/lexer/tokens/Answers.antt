use Rattle.std.proofs.Common.{◌≡◌, arith, sym, ◌∙◌, ap}
use Rattle.ode_lex.specs.Tokens.{NoToken}
use Rattle.ode_lex.proofs.Lexing.{cut_none, cut_gap, cut_token, cut_all, cut_stray}
use Rattle.ode_lex.proofs.lexer.tokens.Goals as goal

pub loop-at-init : goal.loop-at-init
loop-at-init c = rw c.new-found.ensures (cut_none c.args.text.now)

pub loop-at-preserved-then-gap-gt0 : goal.loop-at-preserved-then-gap-gt0
loop-at-preserved-then-gap-gt0 c =
    let gap = rw c.split_at.ensures.back at c.gap_at-gap.ensures in
    cut_gap c.args.text.now c.loop-at.at c.gap_at-gap.result c.loop-at.found c.loop-at.invariant c.loop-at-test.true (sym gap.gap) (omega arith) gap.within

pub loop-at-preserved : goal.loop-at-preserved
loop-at-preserved c =
    let gap = rw c.split_at.ensures.back at c.gap_at-gap.ensures in
    let found = rw c.split_at.ensures.back at c.in-Some.ensures in
    let none : c.gap_at-gap.result ≡ 0 = omega arith in
    rw c.in_ok-push.ensures.ok
    (cut_token c.args.text.now c.loop-at.at c.in-Some.length c.in-Some.kind c.loop-at.found c.loop-at.invariant c.loop-at-test.true (sym gap.gap ∙ none) (sym found.token) found.within.0 found.within.1)

pub returns-in_default-clause-no_token : goal.returns-in_default-clause-no_token
returns-in_default-clause-no_token c at e =
    let gap = rw c.split_at.ensures.back at c.gap_at-gap.ensures in
    let found = rw c.split_at.ensures.back at c.in_default.ensures in
    let none : c.gap_at-gap.result ≡ 0 = omega arith in
    let same : c.loop-at.at ≡ at = cc in
    cut_stray c.args.text.now c.loop-at.at c.loop-at.found c.loop-at.invariant c.loop-at-test.true (sym gap.gap ∙ none) (sym found.token) ∙ ap NoToken same

pub returns-clause-ok : goal.returns-clause-ok
returns-clause-ok c = cut_all c.args.text.now c.loop-at.at c.loop-at.found c.loop-at.invariant c.loop-at-test.false
