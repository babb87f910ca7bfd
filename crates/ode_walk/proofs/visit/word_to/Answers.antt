use Rattle.std.proofs.Common.{◌<◌, ◌≡◌, [], ◌∷◌, ◌++◌, append_assoc, append-nil, ap, refl, sym, ◌∙◌, subst, arith}
use Rattle.std.specs.Prelude.{reverse}
use Rattle.std.proofs.lemmas.List.{reverse-reverse}
use Rattle.ode_walk.specs.Search.{IsWordBack, visit_at}
use Rattle.ode_walk.proofs.VisitLaws.{IsBehind, behind_more, reverse_push, leads_all, length_all}
use Rattle.ode_walk.proofs.visit.word_to.Goals as goal

pub loop-place-preserved : goal.loop-place-preserved
loop-place-preserved c =
    let place = c.loop-place.place in
    let visits = c.args.visits.now in
    let v = visit_at visits place in
    let after : 0 < place = omega arith in
    let back = c.requires.back place after c.loop-place.invariant.within in
    record {
      within = omega (arith, c.loop-place.invariant.within);
      behind = λ stored built tree.
          let turned : reverse c.push.new.self.items ≡ v.symbol ∷ reverse c.loop-place.word.items = ap reverse (c.in_ok-push.ensures.items) ∙ reverse_push c.loop-place.word.items v.symbol in
          subst (λ word. IsBehind stored built visits c.args.at v.from word) (sym turned)
          (behind_more stored built visits c.args.at place (reverse c.loop-place.word.items) tree after c.loop-place.invariant.within (c.loop-place.invariant.behind stored built tree));
      back = λ rest of.
          let items = c.loop-place.word.items in
          let joined : c.push.new.self.items ++ rest ≡ items ++ (v.symbol ∷ rest) = ap (λ l. l ++ rest) c.in_ok-push.ensures.items ∙ append_assoc items (v.symbol ∷ []) rest in
          subst (IsWordBack visits c.args.at) (sym joined) (c.loop-place.invariant.back (v.symbol ∷ rest) (after, c.loop-place.invariant.within, refl, of));
    }

pub returns-clause-leads : goal.returns-clause-leads
returns-clause-leads c = λ stored built tree.
    let visits = c.args.visits.now in
    let start : IsBehind stored built visits c.args.at 0 (reverse c.loop-place.word.items) =
    subst (λ k. IsBehind stored built visits c.args.at k (reverse c.loop-place.word.items)) c.loop-place-test.false (c.loop-place.invariant.behind stored built tree) in
    leads_all stored built visits c.args.at c.reverse.new.self.items tree (subst (IsBehind stored built visits c.args.at 0) (sym c.reverse.ensures.items) start)

pub returns-clause-length : goal.returns-clause-length
returns-clause-length c = λ stored built tree.
    let visits = c.args.visits.now in
    let start : IsBehind stored built visits c.args.at 0 (reverse c.loop-place.word.items) =
    subst (λ k. IsBehind stored built visits c.args.at k (reverse c.loop-place.word.items)) c.loop-place-test.false (c.loop-place.invariant.behind stored built tree) in
    length_all stored built visits c.args.at c.reverse.new.self.items tree (subst (IsBehind stored built visits c.args.at 0) (sym c.reverse.ensures.items) start)

pub returns-clause-back : goal.returns-clause-back
returns-clause-back c =
    let items = c.loop-place.word.items in
    let turned : items ++ [] ≡ reverse c.reverse.new.self.items = append-nil items ∙ sym (reverse-reverse items) ∙ sym (ap reverse c.reverse.ensures.items) in
    subst (IsWordBack c.args.visits.now c.args.at) turned (c.loop-place.invariant.back [] c.loop-place-test.false)
