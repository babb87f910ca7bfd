use Rattle.std.proofs.Common.{Some, refl}
use Rattle.ode_keep.specs.Entries.{Entries, changed}
use Rattle.ode_paging.proofs.Handed.{changed_hand, written_few}
use Rattle.ode_paging.proofs.Handled.{told_ok}
use Rattle.ode_paging.proofs.hand.Hand.put_in.Goals as goal

pub returns-in-Some-clause-put : goal.returns-in-Some-clause-put
returns-in-Some-clause-put c =
    told_ok c.is_ok.result c.put.result c.is_ok.ensures.value
    (λ made pages now covers. changed_hand c.args.self.now.pages.entries (c.get_mut.follows.lender c.put.new.self).entries c.args.self.now.count c.args.self.now.count pages now c.args.page
    c.in-Some.entries.now c.put.new.self (λ (es : Entries). changed es c.args.key (Some c.args.value.now)) covers c.in-Some.ensures.value made
    (c.get_mut.follows.holds c.put.new.self).0 refl)
    c.put.ensures.ok

pub returns-in-Some-clause-few : goal.returns-in-Some-clause-few
returns-in-Some-clause-few c =
    written_few c.args.self.now.pages.entries (c.get_mut.follows.lender c.put.new.self).entries c.args.page c.put.new.self (c.get_mut.follows.holds c.put.new.self).0
