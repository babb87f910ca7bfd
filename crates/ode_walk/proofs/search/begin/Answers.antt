use Rattle.std.proofs.Common.{◌*◌, ◌∙◌, subst, ◌<◌}
use Rattle.ode_walk.proofs.SearchLaws.{search_begin}
use Rattle.ode_walk.proofs.search.begin.Goals as goal

pub returns : goal.returns
returns c =
    let stored = c.args.stored.now in
    let built = c.args.built.now in
    let pairs = c.from.result * c.from-2.result in
    search_begin stored built pairs c.new.result c.in_ok-none_seen.field-0 c.add.new.search.visits c.add.new.search.seen
    (λ i. (c.from.ensures ∙ c.states.ensures.value) i * (c.from-2.ensures ∙ c.states-2.ensures.value) i)
    (subst (λ n. 0 < n) c.states.ensures.value c.states.ensures.some) (subst (λ n. 0 < n) c.states-2.ensures.value c.states-2.ensures.some)
    c.new.ensures c.in_ok-none_seen.ensures c.in_ok-add.ensures.new
