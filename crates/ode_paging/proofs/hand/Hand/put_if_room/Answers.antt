use Rattle.std.proofs.Common.{Some, arith, rules}
use Rattle.ode_keep.specs.Entries.{Entries, changed}
use Rattle.ode_paging.specs.Hands.{entries_of}
use Rattle.ode_paging.proofs.Handled.{absent, damaged_room, not_err, put_hand}
use Rattle.ode_paging.proofs.hand.Hand.put_if_room.Goals as goal

pub returns-in_err-entries-clause-damaged : goal.returns-in_err-entries-clause-damaged
returns-in_err-entries-clause-damaged g c =
    damaged_room (g.H.Host.view c.args.host.now) c.args.header.now c.args.images.now c.args.self.now c.args.page
    (absent c.contains_key.result (entries_of c.args.self.now.pages.entries c.args.page) c.contains_key.ensures c.if-contains_key.false)
    Entries _ c.from_residual.result c.in_err-entries.field-0.0 (search rules) (omega (arith, c.if-from-self.false, c.from.ensures)) c.in_err-entries.ensures.damaged

pub returns-clause-put : goal.returns-clause-put
returns-clause-put g c = λ pages now has.
    put_hand (g.H.Host.view c.args.host.now) c.args.header.now c.args.images.now c.args.self.now (g.H.Host.view c.page_of_file.new.host) c.take.new.self c.args.page
    c.page_of_file.ensures.looks c.in_ok-entries.entries c.in_ok-entries.ensures.page
    (absent c.contains_key.result (entries_of c.args.self.now.pages.entries c.args.page) c.contains_key.ensures c.if-contains_key.false)
    c.in_ok-take.ensures.many (λ (es : Entries). changed es c.args.key (Some c.args.value.now)) c.put.new.self
    (not_err c.is_err.result c.put.result c.is_err.ensures.value c.if-is_err.false c.put.ensures.ok) c.in_ok-take.ensures.taken
    pages now (omega (arith, has.covers.many, c.if-from-self.false, c.from.ensures)) has
