use Rattle.std.proofs.Common.{◌+◌, drop, sym, ◌∙◌, ap}
use Rattle.ode_lex.specs.Texts.{content}
use Rattle.ode_syntax.proofs.Contents.{prefixed, prefixed_spelled}
use Rattle.ode_syntax.proofs.content.content_of.Goals as goal

pub loop-at-preserved : goal.loop-at-preserved
loop-at-preserved c =
    let spelled = rw c.split_at.ensures.back at c.in-Some.ensures.some in
    c.loop-at.invariant
    ∙ (prefixed_spelled c.loop-at.content c.in-Some.byte c.in-Some.length c.loop-at.at c.args.quoted.now spelled
    ∙ ap (λ bs. prefixed bs (content (drop (c.loop-at.at + c.in-Some.length) c.args.quoted.now))) (sym c.in_ok-push.ensures.ok))
