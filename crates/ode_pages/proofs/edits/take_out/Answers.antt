use Rattle.std.proofs.Common.{◌≡◌, ◌+◌, ◌-◌, List, ℕ, ◌++◌, length, take, drop, replicate, refl, sym, ap, ◌∙◌, arith, append_assoc}
use Rattle.ode_pages.proofs.Moving.{fills_end, moved_down}
use Rattle.ode_pages.proofs.edits.take_out.Goals as goal

pub returns : goal.returns
returns c =
    let old = c.args.bytes.now in
    let kept = c.args.start + (length old - c.args.end) in
    let moved = c.copy_over.new.bytes in
    let gap = c.args.end - c.args.start in
    let front : take kept moved ≡ take c.args.start old ++ drop c.args.end old =
    ap (λ (l : List ℕ). take kept l) (c.copy_over.ensures ∙ sym (append_assoc (take c.args.start old) (take (length old - c.args.end) (drop c.args.end old)) (drop kept old)))
    ∙ moved_down old c.args.start c.args.end kept c.requires.order c.requires.within refl in
    let left : length moved - kept ≡ gap = omega (arith, c.copy_over.auto.bytes, c.requires.order, c.requires.within) in
    fills_end (take c.args.start old ++ drop c.args.end old) moved c.fill.new.self kept gap front (c.fill.ensures.after (λ y is. is)) left
    ∙ append_assoc (take c.args.start old) (drop c.args.end old) (replicate gap 0)
