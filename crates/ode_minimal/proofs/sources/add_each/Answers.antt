use Rattle.std.proofs.Common.{◌≡◌, ◌+◌, ◌*◌, ◌<◌, ◌++◌, ◌∷◌, [], set, get_or, sym, ap, ◌∙◌, subst, arith}
use Rattle.ode_value.specs.Tables.{next_state}
use Rattle.ode_minimal.specs.Sources.{IsFilled}
use Rattle.ode_minimal.proofs.SourceLaws.{filled_more, filled_next}
use Rattle.ode_minimal.proofs.sources.add_each.Goals as goal

pub loop-s-preserved : goal.loop-s-preserved
loop-s-preserved c =
    let t = c.args.t.now in
    let q = c.args.q in
    let s = c.loop-s.s in
    let lists = c.loop-s.lists.items in
    let below : s < t.symbols = omega (arith, c.loop-s-test.true, c.symbols-s-end.ensures) in
    let to_state : next_state t q s < t.states = subst (λ n. n < t.states) c.next.ensures.value c.next.ensures.state in
    let is_place : c.from.result * c.from-in-loop-s.result + c.from-in-loop-s-2.result ≡ next_state t q s * t.symbols + s =
    λ i. (c.from.ensures ∙ c.next.ensures.value) i * (c.from-in-loop-s.ensures ∙ c.symbols.ensures) i + c.from-in-loop-s-2.ensures i in
    subst (λ l. IsFilled t l q (s + 1)) (sym (c.in_ok-add.ensures ∙ ap (λ n. set lists n (get_or lists n [] ++ q ∷ [])) is_place))
    (filled_more t lists q s c.requires.below below to_state c.loop-s.invariant)

pub returns : goal.returns
returns c = filled_next c.args.t.now c.loop-s.lists.items c.args.q c.loop-s.s (omega (arith, c.loop-s-test.false, c.loop-s.auto.s-end, c.symbols-s-end.ensures)) c.loop-s.invariant
