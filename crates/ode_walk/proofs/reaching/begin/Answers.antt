use Rattle.std.proofs.Common.{◌≡◌, ◌<◌, subst, false}
use Rattle.std.specs.Prelude.{replicate}
use Rattle.ode_walk.proofs.FrontLaws.{front_begin}
use Rattle.ode_walk.proofs.reaching.begin.Goals as goal

pub returns : goal.returns
returns c =
    front_begin c.args.table.now (subst (λ n. 0 < n) c.states.ensures.value c.states.ensures.some) c.new.result c.in_ok-none_seen.field-0 c.add.new.front.states c.add.new.front.seen
    c.new.ensures (subst (λ n. c.in_ok-none_seen.field-0 ≡ replicate n false) c.states.ensures.value c.in_ok-none_seen.ensures) c.in_ok-add.ensures.new
