use Rattle.std.proofs.Common.{◌≡◌, List, ℕ, Option, Some, ap, rules, subst, sym, ◌∙◌}
use Rattle.std.specs.Option.{option_copied}
use Rattle.ode_paging.specs.Making.{IsMade}
use Rattle.ode_paging.proofs.Handled.{damaged_by}
use Rattle.ode_paging.proofs.Made.{made_put}
use Rattle.ode_paging.proofs.hand.Hand.change.Goals as goal

pub returns-in-Some-own-clause-made : goal.returns-in-Some-own-clause-made
returns-in-Some-own-clause-made g c = λ pages now are led has.
    let view = g.H.Host.view c.exchange.new.host in
    let page = c.in-Some-own.page in
    let same : Some c.as_slice-bytes.result.now ≡ option_copied c.args.value = ap (λ (v : List ℕ). Some v) c.as_slice-bytes.ensures ∙ sym (ap (λ o. option_copied o) c.in-Some.is) in
    subst (λ (o : Option (List ℕ)). IsMade view c.args.source.header.now c.args.source.images.now c.exchange.new.self pages now c.args.key o (Some page)) same
    ((rw c.in-Some-own.is at c.in_ok-taken-2.ensures.put) pages now are led has)

pub returns-in_err-page-clause-damaged : goal.returns-in_err-page-clause-damaged
returns-in_err-page-clause-damaged g c =
    damaged_by ℕ _ c.from_residual-in_err-page.result c.in_err-page.field-0.0 (search rules) c.in_err-page.ensures.damaged
    (λ bad pages now are led has. let out = (rw c.in_default-own.is at c.in_ok-taken-2.ensures.out) pages now are led has in bad pages out.after out.has)

pub returns-clause-made : goal.returns-clause-made
returns-clause-made g c = λ pages now are led has.
    let view = g.H.Host.view c.put_somewhere.new.host in
    let header = c.args.source.header.now in
    let images = c.args.source.images.now in
    let page = c.in_ok-page.page in
    let out = (rw c.in_default-own.is at c.in_ok-taken-2.ensures.out) pages now are led has in
    let put = c.in_ok-page.ensures.put pages out.after out.has in
    let same : Some c.as_slice-bytes.result.now ≡ option_copied c.args.value = ap (λ (v : List ℕ). Some v) c.as_slice-bytes.ensures ∙ sym (ap (λ o. option_copied o) c.in-Some.is) in
    subst (λ (o : Option (List ℕ)). IsMade view header images c.put_somewhere.new.self pages now c.args.key o (Some page)) same
    (made_put view header images c.put_somewhere.new.self pages now c.args.key are c.as_slice-bytes.result.now page (g.H.Host.view c.exchange.new.host) c.exchange.new.self out put.0 put.1)
