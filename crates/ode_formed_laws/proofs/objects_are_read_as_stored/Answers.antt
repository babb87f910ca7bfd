use Rattle.ode_formed_laws.proofs.StoredLaws.{read_stored}
use Rattle.ode_formed_laws.proofs.objects_are_read_as_stored.Goals as goal

pub returns : goal.returns
returns c = λ l records w x id new held given.
    let shown = c.heaps_show_held_worlds.ensures in
    read_stored l records w held (c.held_worlds_can_be_read.ensures l records w held) (λ n. shown.object l records w n held)
    (λ n number o class there its. shown.stamped l records w n number o class held there its) (λ n. shown.activations l records w n held) x id new given
