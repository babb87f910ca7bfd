use Rattle.std.proofs.Common.{None, refl}
use Rattle.ode_keep.specs.Entries.{Entries, changed}
use Rattle.ode_paging.proofs.Handed.{changed_hand, written_few}
use Rattle.ode_paging.proofs.hand.Hand.remove_from.Goals as goal

pub returns-in-Some-clause-changed : goal.returns-in-Some-clause-changed
returns-in-Some-clause-changed c = λ held pages now covers.
    changed_hand c.args.self.now.pages.entries (c.get_mut.follows.lender c.remove.new.self).entries c.args.self.now.count c.args.self.now.count pages now c.args.page
    c.in-Some.entries.now c.remove.new.self (λ (es : Entries). changed es c.args.key None) covers c.in-Some.ensures.value c.remove.ensures.removed
    (c.get_mut.follows.holds c.remove.new.self).0 refl

pub returns-in-Some-clause-few : goal.returns-in-Some-clause-few
returns-in-Some-clause-few c =
    written_few c.args.self.now.pages.entries (c.get_mut.follows.lender c.remove.new.self).entries c.args.page c.remove.new.self (c.get_mut.follows.holds c.remove.new.self).0
