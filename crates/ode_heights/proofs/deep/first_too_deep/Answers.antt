use Rattle.std.proofs.Common.{◌≤◌, ◌++◌, [], arith, sym, ◌∙◌, ap, subst}
use Rattle.ode_grammar.specs.Grammar.{items_of}
use Rattle.ode_grammar.proofs.Runs.{append_nil}
use Rattle.ode_grammar.proofs.Steps.{run_step, run_all}
use Rattle.ode_heights.specs.declared.height.TheConstants.{HEIGHT_LIMIT}
use Rattle.ode_heights.specs.declared.height.Heights.{Heights}
use Rattle.ode_heights.specs.Heights.{heights, highest, none}
use Rattle.ode_heights.proofs.Depths.{no_token, starts_reading, step_within, too_deep_here, refused_no_text, text_within}
use Rattle.ode_heights.proofs.deep.first_too_deep.Goals.{in-Level, in-Raised+in_ok-fits-in-Raised+else-not-branch}
use Rattle.ode_heights.proofs.deep.first_too_deep.Goals as goal

pub loop-at-init : goal.loop-at-init
loop-at-init c =
    let e = c.in_ok-push_all.ensures ∙ (ap (λ ys. c.items_of.result.now ++ ys) c.new-items.ensures ∙ (ap (λ xs. xs ++ []) c.items_of.ensures ∙ append_nil (items_of c.args.start))) in
    let s = starts_reading c.args.start c.push_all.new.self c.new-made.result e c.new-made.ensures in
    record { reads = s.reads; within = s.within }

pub fits-requires : goal.fits-requires
fits-requires c = let h = c.in_ok-advance.ensures.raised c.in-Raised.is in step_within c.loop-at.items c.loop-at.made c.advance.new.made _ h.1 c.loop-at.invariant.within

pub returns-then-not-branch-clause-some : goal.returns-then-not-branch-clause-some
returns-then-not-branch-clause-some c =
    let h = c.in_ok-advance.ensures.raised c.in-Raised.is in
    too_deep_here c.args.start c.args.tokens.now c.loop-at.at c.loop-at.items c.advance.new.items c.loop-at.made c.advance.new.made (omega arith)
    c.loop-at.invariant.reads c.loop-at.invariant.within
    (run_step heights (items_of c.args.start) none c.args.tokens.now c.loop-at.at no_token c.loop-at.items c.loop-at.made c.advance.new.items c.advance.new.made (omega arith)
    c.loop-at.invariant.reads h.0 h.1)
    (c.in_ok-fits-in-Raised.ensures.no c.if-not-branch.true)

pub returns-in-Refused-clause-none : goal.returns-in-Refused-clause-none
returns-in-Refused-clause-none c = λ t.
    absurd (refused_no_text c.args.start c.args.tokens.now c.loop-at.at no_token c.loop-at.items c.loop-at.made (omega arith) c.loop-at.invariant.reads
    (c.in_ok-advance.ensures.refused c.in-Refused.is) t)

pub loop-at-preserved : goal.loop-at-preserved
loop-at-preserved c = elim c.match-branch-3.branch [
  | in-Level w ↦
      let h = c.in_ok-advance.ensures.level w.in-Level.is in
      record {
        reads = run_step heights (items_of c.args.start) none c.args.tokens.now c.loop-at.at no_token c.loop-at.items c.loop-at.made c.advance.new.items c.advance.new.made (omega arith)
            c.loop-at.invariant.reads h.0 h.1;
        within = subst (λ (k : Heights). highest k ≤ HEIGHT_LIMIT) (sym (c.in_ok-advance.ensures.same w.in-Level.is)) c.loop-at.invariant.within;
      }
  | in-Raised+in_ok-fits-in-Raised+else-not-branch w ↦
      let h = c.in_ok-advance.ensures.raised w.in-Raised.is in
      record {
        reads = run_step heights (items_of c.args.start) none c.args.tokens.now c.loop-at.at no_token c.loop-at.items c.loop-at.made c.advance.new.items c.advance.new.made (omega arith)
            c.loop-at.invariant.reads h.0 h.1;
        within = w.in_ok-fits-in-Raised.ensures.yes w.if-not-branch.false;
      }
]

pub returns-clause-none : goal.returns-clause-none
returns-clause-none c = λ t.
    text_within c.args.start c.args.tokens.now c.loop-at.items c.loop-at.made
    (run_all heights (items_of c.args.start) none c.args.tokens.now c.loop-at.at c.loop-at.items c.loop-at.made (omega arith) c.loop-at.invariant.reads) c.loop-at.invariant.within t
