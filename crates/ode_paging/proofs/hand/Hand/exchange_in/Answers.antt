use Rattle.std.proofs.Common.{None, Some, ap, refl, ◌∙◌}
use Rattle.ode_keep.specs.Entries.{Entries, changed}
use Rattle.ode_paging.proofs.Handed.{changed_hand, written_few}
use Rattle.ode_paging.proofs.hand.Hand.exchange_in.Goals as goal

pub returns-in-Ok-clause-put : goal.returns-in-Ok-clause-put
returns-in-Ok-clause-put c = λ pages now covers.
    changed_hand c.args.self.now.pages.entries (c.get_mut.follows.lender c.put.new.self).entries c.args.self.now.count c.args.self.now.count pages now c.args.page
    c.in-Some.entries.now c.put.new.self (λ (es : Entries). changed es c.args.key (Some c.args.value.now)) covers c.in-Some.ensures.value c.in-Ok.ensures.ok
    (c.get_mut.follows.holds c.put.new.self).0 refl

pub returns-in-Ok-clause-few : goal.returns-in-Ok-clause-few
returns-in-Ok-clause-few c =
    written_few c.args.self.now.pages.entries (c.get_mut.follows.lender c.put.new.self).entries c.args.page c.put.new.self (c.get_mut.follows.holds c.put.new.self).0

pub returns-in-Err-clause-out : goal.returns-in-Err-clause-out
returns-in-Err-clause-out c = λ held pages now covers.
    changed_hand c.args.self.now.pages.entries (c.get_mut.follows.lender c.remove.new.self).entries c.args.self.now.count c.args.self.now.count pages now c.args.page
    c.in-Some.entries.now c.remove.new.self (λ (es : Entries). changed es c.args.key None) covers c.in-Some.ensures.value
    (c.remove.ensures.removed ∙ ap (λ (es : Entries). changed es c.args.key None) c.in-Err.ensures.err)
    (c.get_mut.follows.holds c.remove.new.self).0 refl

pub returns-in-Err-clause-few : goal.returns-in-Err-clause-few
returns-in-Err-clause-few c =
    written_few c.args.self.now.pages.entries (c.get_mut.follows.lender c.remove.new.self).entries c.args.page c.remove.new.self (c.get_mut.follows.holds c.remove.new.self).0
