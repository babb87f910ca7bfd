use Rattle.std.proofs.Common.{List, None, Option, ap, rules, sym, ℕ, ◌∙◌}
use Rattle.ode_keep.specs.Growth.{bytes_of}
use Rattle.ode_paging.specs.Replacing.{page_at}
use Rattle.ode_paging.proofs.Handed.{page_in_hand}
use Rattle.ode_paging.proofs.Handled.{changed_in_hand, damaged_by}
use Rattle.ode_paging.proofs.Made.{leads_within, made_in, made_nothing, no_value, value_led}
use Rattle.ode_paging.proofs.hand.Hand.take_out.Goals as goal

pub returns-in_err-bring-clause-damaged : goal.returns-in_err-bring-clause-damaged
returns-in_err-bring-clause-damaged g c =
    damaged_by (Unit {0}) _ c.from_residual.result c.in_err-bring.field-0.0 (search rules) c.in_err-bring.ensures.damaged
    (λ bad pages now are led has. bad pages now (leads_within now c.args.key c.in-Some.page are (sym c.in-Some.is ∙ led)) has)

pub returns-clause-out : goal.returns-clause-out
returns-clause-out g c = λ pages now are led has.
    let view = g.H.Host.view c.bring.new.host in
    let there = sym c.in-Some.is ∙ led in
    let mid = c.in_ok-bring.ensures.covers pages now (leads_within now c.args.key c.in-Some.page are there) has in
    made_in view c.args.source.header.now c.args.source.images.now c.remove_from.new.self pages now c.args.key are None c.in-Some.page there
    (changed_in_hand view c.args.source.header.now c.args.source.images.now c.bring.new.self c.remove_from.new.self pages now mid c.in-Some.page c.args.key None
    (c.remove_from.ensures.changed c.in_ok-bring.ensures.held)).1

pub returns-in_default-clause-out : goal.returns-in_default-clause-out
returns-in_default-clause-out g c = λ pages now are led has.
    made_nothing (g.H.Host.view c.args.host.now) c.args.source.header.now c.args.source.images.now c.args.self.now pages now c.args.key are (sym c.in_default.is ∙ led) has

pub returns-clause-counted : goal.returns-clause-counted
returns-clause-counted g c = λ pages now are led has.
    let there = sym c.in-Some.is ∙ led in
    let mid = c.in_ok-bring.ensures.covers pages now (leads_within now c.args.key c.in-Some.page are there) has in
    c.counted-taken.ensures (page_at now c.in-Some.page)
    (page_in_hand c.bring.new.self.pages.entries c.bring.new.self.count pages now c.in-Some.page mid.covers c.in_ok-bring.ensures.held)
    ∙ ap (λ (v : Option (List ℕ)). bytes_of v)
    (sym (value_led (g.H.Host.view c.args.host.now) c.args.source.header.now c.args.source.images.now c.args.self.now pages now c.args.key are c.in-Some.page there))

pub returns-in_default-clause-counted : goal.returns-in_default-clause-counted
returns-in_default-clause-counted g c = λ pages now are led has.
    ap (λ (v : Option (List ℕ)). bytes_of v)
    (sym (no_value (g.H.Host.view c.args.host.now) c.args.source.header.now c.args.source.images.now c.args.self.now pages now c.args.key are (sym c.in_default.is ∙ led)))
