use Rattle.ode_held_laws.proofs.FreshLaws.{fresh_read}
use Rattle.ode_held_laws.proofs.objects_are_read_fresh.Goals as goal

pub returns : goal.returns
returns c = λ l records w x y id held stands first.
    let shown = c.heaps_show_held_worlds.ensures in
    fresh_read l records w held (c.held_worlds_can_be_read.ensures l records w held) (λ n. shown.object l records w n held)
    (λ n number o class there its. shown.stamped l records w n number o class held there its) (λ n. shown.activations l records w n held) x y id stands first
