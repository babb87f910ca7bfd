use Rattle.std.proofs.Common.{◌<◌, ◌≤◌, ◌≡◌, [], ◌∷◌, ◌+◌, arith, length, get_or, take, sym, ap, ◌∙◌, subst, inl, inr}
use Rattle.std.specs.Prelude.{Some, flat_map}
use Rattle.std.specs.List.{slice_get}
use Rattle.ode_value.specs.Limits.{state_limit}
use Rattle.ode_value.specs.Trees.{first_tree}
use Rattle.ode_trees.specs.Found.{IsMade, Leads}
use Rattle.ode_trees.specs.ListMachines.{each_step}
use Rattle.ode_trees.proofs.FoundLaws.{more-made, more-steps, not-shorter, first-stays, count-found}
use Rattle.ode_trees.proofs.growth.explore.Goals as goal
use Rattle.ode_trees.proofs.growth.explore.Goals.{then-loop-q-test+else-len-le-STATE_LIMIT, else-loop-q-test}

pub loop-q-preserved : goal.loop-q-preserved
loop-q-preserved c =
    let e = c.args.e.now in
    let marks = c.args.marks.now in
    let q = c.loop-q.q in
    let trees = c.loop-q.found.trees in
    let first = first_tree e in
    let new = each_step e marks (get_or trees q first) in
    let within : q < length trees = omega (arith, c.len.ensures, c.loop-q-test.true) in
    let few : length trees ≤ state_limit = omega (arith, c.len-in-loop-q.ensures, c.if-len-le-STATE_LIMIT.true) in
    let after = c.in_ok-add_row.ensures.trees in
    record {
      covers = c.in_ok-add_row.ensures.covers;
      within = subst (λ l. q + 1 ≤ length l) (sym after) (omega (arith, not-shorter trees new));
      few = omega arith;
      first = subst (λ l. slice_get l 0 ≡ Some first) (sym after) (first-stays trees new first c.loop-q.invariant.first);
      made = subst (λ l. IsMade (first ∷ []) (each_step e marks) (q + 1) l) (sym after) (more-made (first ∷ []) (each_step e marks) q trees first within c.loop-q.invariant.made);
      next =
          subst (λ l. Leads c.add_row.new.found.trees c.add_row.new.found.next l) (more-steps (each_step e marks) q trees new first within ∙ ap (λ l. flat_map (each_step e marks) (take (q + 1) l)) (sym after))
          (c.in_ok-add_row.ensures.next (flat_map (each_step e marks) (take q trees)) c.loop-q.invariant.next);
    }

pub returns-clause-count : goal.returns-clause-count
returns-clause-count c =
    let e = c.args.e.now in
    let marks = c.args.marks.now in
    let i = c.loop-q.invariant in
    elim c.loop-q-test.branch [
      | then-loop-q-test+else-len-le-STATE_LIMIT w ↦ count-found e marks c.loop-q.q c.loop-q.found.trees i.made i.within i.few (inr (let more = w.if-len-le-STATE_LIMIT.false in omega (arith, w.len-in-loop-q.ensures)))
      | else-loop-q-test w ↦ count-found e marks c.loop-q.q c.loop-q.found.trees i.made i.within i.few (inl (let done = w.loop-q-test.false in omega (arith, c.len.ensures)))
    ]
