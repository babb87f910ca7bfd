use Rattle.std.proofs.Common.{ℕ, List, length, Option, ap, ◌∙◌}
use Rattle.std.specs.Prelude.{nat_le}
use Rattle.std.specs.List.{find}
use Rattle.std.specs.Option.{option_map}
use Rattle.ode_heap.specs.Answering.{counters_of, entry_of, head_of_object, stamped_of}
use Rattle.ode_heap.specs.Answers.{There}
use Rattle.ode_heap.specs.Looking.{counters_in, entry_from, object_from, stamped_in, version_in}
use Rattle.ode_heap.specs.Objects.{object_in}
use Rattle.ode_heap.specs.Queue.{queued_in}
use Rattle.ode_value.specs.Denoting.{object_numbered}
use Rattle.ode_value.specs.Records.{Row}
use Rattle.ode_value.specs.Versions.{Version}
use Rattle.ode_value.specs.Worlds.{Bones, Entry, Object}
use Rattle.ode_heap_laws.proofs.Shown.{activations_shown, of_class, shown, version_at}
use Rattle.ode_heap_laws.proofs.heaps_show_held_worlds.Goals as goal

pub returns-clause-counters : goal.returns-clause-counters
returns-clause-counters c = λ l records w held.
    shown l records w held.world _ (λ (r : List Row). counters_in r) (λ (b : Bones). There (counters_of b))
    (c.stored_databases_answer.ensures.counters held.world.stored (c.held_worlds_can_be_read.ensures l records w held))

pub returns-clause-object : goal.returns-clause-object
returns-clause-object c = λ l records w id held.
    shown l records w held.world _ (λ (r : List Row). object_in r id) (λ (b : Bones). There (option_map head_of_object (object_numbered id b.objects)))
    (c.stored_databases_answer.ensures.object held.world.stored id (c.held_worlds_can_be_read.ensures l records w held))

pub returns-clause-stamped : goal.returns-clause-stamped
returns-clause-stamped c = λ l records w id number o class held there its.
    shown l records w held.world _ (λ (r : List Row). stamped_in r id number class) (λ (b : Bones). There (option_map stamped_of (version_at number (object_numbered id b.objects))))
    (c.stored_databases_answer.ensures.stamped held.world.stored id number class (c.held_worlds_can_be_read.ensures l records w held)
    (of_class l records w held.world c.values_that_fit_have_their_sorts.ensures.fields id number o class there its))
    ∙ ap (λ (f : Option Object). There (option_map stamped_of (version_at number f))) there

pub returns-clause-version : goal.returns-clause-version
returns-clause-version c = λ l records w id number o class held there its.
    shown l records w held.world _ (λ (r : List Row). version_in r id number class) (λ (b : Bones). There (option_map (λ (v : Version). v.fields) (version_at number (object_numbered id b.objects))))
    (c.stored_databases_answer.ensures.version held.world.stored id number class (c.held_worlds_can_be_read.ensures l records w held)
    (of_class l records w held.world c.values_that_fit_have_their_sorts.ensures.fields id number o class there its))
    ∙ ap (λ (f : Option Object). There (option_map (λ (v : Version). v.fields) (version_at number f))) there

pub returns-clause-activations : goal.returns-clause-activations
returns-clause-activations c = λ l records w id held.
    activations_shown l records w held.world id (c.stored_databases_answer.ensures.activations held.world.stored id (c.held_worlds_can_be_read.ensures l records w held))

pub returns-clause-next_object : goal.returns-clause-next_object
returns-clause-next_object c = λ l records w id held.
    shown l records w held.world _ (λ (r : List Row). object_from r id)
    (λ (b : Bones). option_map (λ (o : Object). o.id) (find (λ (o : Object). nat_le id o.id) b.objects))
    (c.stored_databases_answer.ensures.next_object held.world.stored id)

pub returns-clause-next_entry : goal.returns-clause-next_entry
returns-clause-next_entry c = λ l records w number held.
    shown l records w held.world _ (λ (r : List Row). entry_from r number)
    (λ (b : Bones). There (option_map (λ (q : ℕ × Entry). (q.0, entry_of q.1)) (find (λ (q : ℕ × Entry). nat_le number q.0) b.queue)))
    (c.stored_databases_answer.ensures.next_entry held.world.stored number (c.held_worlds_can_be_read.ensures l records w held))

pub returns-clause-queued : goal.returns-clause-queued
returns-clause-queued c = λ l records w held.
    shown l records w held.world _ (λ (r : List Row). queued_in r) (λ (b : Bones). length b.queue)
    (c.stored_databases_answer.ensures.queued held.world.stored (c.held_worlds_can_be_read.ensures l records w held))
