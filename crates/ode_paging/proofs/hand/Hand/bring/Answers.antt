use Rattle.ode_keep.specs.Entries.{Entries}
use Rattle.ode_paging.specs.Hands.{entries_of}
use Rattle.ode_paging.proofs.Handed.{one_there}
use Rattle.ode_paging.proofs.Handled.{absent, brought_hand, damaged_hand}
use Rattle.std.proofs.Common.{rules}
use Rattle.ode_paging.proofs.hand.Hand.bring.Goals as goal

pub returns-in_err-entries-clause-damaged : goal.returns-in_err-entries-clause-damaged
returns-in_err-entries-clause-damaged g c =
    damaged_hand (g.H.Host.view c.args.host.now) c.args.header.now c.args.images.now c.args.self.now c.args.page
    (absent c.contains_key.result (entries_of c.args.self.now.pages.entries c.args.page) c.contains_key.ensures c.if-not-contains_key.true)
    Entries _ c.from_residual.result c.in_err-entries.field-0.0 (search rules) c.in_err-entries.ensures.damaged

pub returns-in_ok-take-clause-held : goal.returns-in_ok-take-clause-held
returns-in_ok-take-clause-held g c =
    one_there c.args.self.now.pages.entries c.take.new.self.pages.entries c.args.page c.in_ok-entries.entries c.in_ok-take.ensures.taken

pub returns-in_ok-take-clause-covers : goal.returns-in_ok-take-clause-covers
returns-in_ok-take-clause-covers g c =
    brought_hand (g.H.Host.view c.args.host.now) c.args.header.now c.args.images.now c.args.self.now (g.H.Host.view c.page_of_file.new.host) c.take.new.self c.args.page
    c.page_of_file.ensures.looks c.in_ok-entries.entries c.in_ok-entries.ensures.page
    (absent c.contains_key.result (entries_of c.args.self.now.pages.entries c.args.page) c.contains_key.ensures c.if-not-contains_key.true)
    c.in_ok-take.ensures.many c.in_ok-take.ensures.taken
