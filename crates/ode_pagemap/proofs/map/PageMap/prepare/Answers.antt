use Rattle.std.proofs.Common.{◌≡◌, [], refl, subst}
use Rattle.ode_paging.specs.Making.{Moves, all_pointed}
use Rattle.ode_pagemap.specs.Steps.{images_after}
use Rattle.ode_pagemap.proofs.Committing.{on_err_any, ready_of, short_of, still_holds}
use Rattle.ode_pagemap.proofs.Least.{least_of}
use Rattle.ode_pagemap.proofs.map.PageMap.prepare.Goals as goal

pub returns-in_err-moves-clause-refused : goal.returns-in_err-moves-clause-refused
returns-in_err-moves-clause-refused g c =
    on_err_any c.from_residual.result (λ entries h. still_holds c.args.self.now c.args.self.now _ _ entries [] refl refl refl c.plan.ensures.looks h)

pub take_over-requires-clause-short : goal.take_over-requires-clause-short
take_over-requires-clause-short g c = short_of c.in_ok-moves.field-0 c.in_ok-moves.ensures.formed

pub returns-in_err-due-clause-refused : goal.returns-in_err-due-clause-refused
returns-in_err-due-clause-refused g c =
    on_err_any c.from_residual-in_err-due.result
    (λ entries h. still_holds c.args.self.now _ _ _ entries c.in_ok-moves.field-0.images refl c.in_err-due.ensures.err c.forget_all.ensures.rest c.plan.ensures.looks h)

pub returns-clause-ready : goal.returns-clause-ready
returns-clause-ready g c = λ entries h.
    let keeper = c.args.self.now in
    let plan = c.in_ok-moves.field-0 in
    let due = c.in_ok-due.due in
    let opened = c.take_over.new.opened in
    let same : c.deref.result.now ≡ plan.moves.items = cc in
    let made = subst (λ (ms : Moves). opened ≡ record keeper.opened { images = images_after due plan.images keeper.opened.images; index = all_pointed ms keeper.opened.index }) same c.in_ok-due.ensures.ok in
    ready_of keeper _ plan due opened c.in_ok-moves.ensures.formed made refl refl c.forget_all.new.self.pages.entries c.forget_all.ensures.rest c.forget_all.ensures.gone
    c.take_all.ensures.among c.in_ok-due.ensures.due _ entries c.args.batch.now
    (c.in_ok-moves.ensures.planned entries h)

pub returns-clause-least : goal.returns-clause-least
returns-clause-least g c =
    least_of c.args.self.now c.in_ok-moves.field-0 c.in_ok-moves.ensures.formed c.args.batch.now c.in_ok-due.due c.in_ok-moves.ensures.two_each c.in_ok-due.ensures.due c.in_ok-due.ensures.room
