use Rattle.std.proofs.Common.{arith, sym, ap, ◌∙◌, ◌++◌, [], Some, false, true}
use Rattle.ode_grammar.specs.Grammar.{items_of}
use Rattle.ode_grammar.proofs.Runs.{append_nil}
use Rattle.ode_grammar.proofs.Places.{no_token, reached_step, stopped_here, stopped_end}
use Rattle.ode_grammar.proofs.reader.extent_of.Goals as goal

pub loop-end-init : goal.loop-end-init
loop-end-init c =
    ap Some (sym (append_nil (items_of c.args.start)) ∙ (ap (λ xs. xs ++ []) (sym c.items_of.ensures)
    ∙ (ap (λ ys. c.items_of.result.now ++ ys) (sym c.new-items.ensures) ∙ sym c.in_ok-push_all.ensures)))

pub returns-in-Over : goal.returns-in-Over
returns-in-Over c =
    let h = c.in_ok-advance.ensures.over c.in-Over.is in
    stopped_here c.args.start c.args.tokens.now c.loop-end.end no_token c.loop-end.items true (omega arith) c.loop-end.invariant h.0 h.1

pub returns-in-Wrong : goal.returns-in-Wrong
returns-in-Wrong c =
    let h = c.in_ok-advance.ensures.wrong c.in-Wrong.is in
    stopped_here c.args.start c.args.tokens.now c.loop-end.end no_token c.loop-end.items false (omega arith) c.loop-end.invariant h.0 h.1

pub loop-end-preserved : goal.loop-end-preserved
loop-end-preserved c =
    reached_step _ c.args.tokens.now c.loop-end.end no_token c.loop-end.items c.advance.new.items (omega arith) c.loop-end.invariant (c.in_ok-advance.ensures.taken c.in-Taken.is)

pub returns : goal.returns
returns c = stopped_end c.args.start c.args.tokens.now c.loop-end.end c.loop-end.items _ (omega arith) (omega arith) c.loop-end.invariant c.may_stop-is_text.ensures
