use Rattle.std.proofs.Common.{arith}
use Rattle.ode_syntax.proofs.Readings.{read_token, refused_token, all_read}
use Rattle.ode_syntax.proofs.reader.read_into.Goals as goal

pub returns-then-not-branch : goal.returns-then-not-branch
returns-then-not-branch c = λ made w.
    absurd (refused_token c.args.start c.args.place c.args.text.now c.args.tokens.now c.loop-at.at _ c.terminal_of-terminal.result c.slice_of-bytes.result.now c.loop-at.items c.loop-at.made made
    (omega arith) c.terminal_of-terminal.ensures c.slice_of-bytes.ensures c.loop-at.invariant (c.in_ok-advance.ensures.refused c.if-not-branch.true) w)

pub loop-at-preserved : goal.loop-at-preserved
loop-at-preserved c =
    read_token c.args.start c.args.place c.args.text.now c.args.tokens.now c.loop-at.at _ c.terminal_of-terminal.result c.slice_of-bytes.result.now c.loop-at.items c.advance.new.items c.loop-at.made c.advance.new.made
    (omega arith) c.terminal_of-terminal.ensures c.slice_of-bytes.ensures c.loop-at.invariant (c.in_ok-advance.ensures.next c.if-not-branch.false) (c.in_ok-advance.ensures.made c.if-not-branch.false)

pub returns : goal.returns
returns c = λ made w.
    all_read c.args.start c.args.place c.args.text.now c.args.tokens.now c.loop-at.at c.loop-at.items c.loop-at.made c.finish.new.made made (omega arith) c.loop-at.invariant c.in_ok-finish.ensures w
