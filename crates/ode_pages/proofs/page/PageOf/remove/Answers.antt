use Rattle.ode_pages.proofs.Keeping.{count_within, end_within, gap_within, kept_removed, there}
use Rattle.ode_pages.proofs.page.PageOf.remove.Goals as goal

pub overflow_sub-count : goal.overflow_sub-count
overflow_sub-count g c = count_within c.self.invariant c.self.view_is c.place-place.ensures

pub take_entry-requires-clause-within : goal.take_entry-requires-clause-within
take_entry-requires-clause-within g c = end_within c.self.invariant c.self.view_is c.place-place.ensures

pub overflow_sub-self-2 : goal.overflow_sub-self-2
overflow_sub-self-2 g c = gap_within c.self.invariant c.self.view_is c.place-place.ensures

pub invariant_of-self : goal.invariant_of-self
invariant_of-self g c = (kept_removed c.self.invariant c.self.view_is c.place-place.ensures c.take_entry.new.bytes (c.take_entry.ensures c.args.self.now c.args.key)).1

pub returns-clause-removed : goal.returns-clause-removed
returns-clause-removed g c = (kept_removed c.self.invariant c.self.view_is c.place-place.ensures c.take_entry.new.bytes (c.take_entry.ensures c.args.self.now c.args.key)).0

pub returns-clause-there : goal.returns-clause-there
returns-clause-there g c = there c.self.invariant c.self.view_is c.place-place.ensures
