use Rattle.std.proofs.Common.{◌≡◌, ℕ, List, Option, None, nat_eq, refl, sym, ap, subst, ◌∙◌}
use Rattle.std.specs.Prelude.{IsSome}
use Rattle.std.specs.List.{AllByRecursion}
use Rattle.std.specs.Map.{lookup}
use Rattle.std.specs.Option.{option_copied}
use Rattle.std.proofs.lemmas.Result.{err_from_is_err_and}
use Rattle.ode_gate.specs.Headers.{IsOfPages}
use Rattle.ode_host.proofs.Moments.{looks_none}
use Rattle.ode_host.specs.Host.{Fetched, Tells}
use Rattle.ode_keep.specs.Entries.{Entries, value_under}
use Rattle.ode_paging.specs.Standing.{HasPage}
use Rattle.ode_pagemap.specs.declared.cache.Cache.{Cache}
use Rattle.ode_pagemap.specs.Cached.{most_of}
use Rattle.ode_pagemap.specs.Holding.{PagesHold}
use Rattle.ode_pagemap.proofs.Caching.{all_promoted, all_taken}
use Rattle.ode_pagemap.proofs.InPages.{Stands, damaged_as, holds_with, near_unread, none_fetched, own_fetched, own_held, own_lacks, own_value}
use Rattle.ode_pagemap.proofs.map.PageMap.read_value.Goals as goal

-- ---- a page that is held

pub returns-in_err-value-clause-damaged : goal.returns-in_err-value-clause-damaged
returns-in_err-value-clause-damaged g c =
    let keeper = c.args.self.now in
    let view = g.H.Host.view c.args.host.now in
    let p = err_from_is_err_and c.from_residual.result c.from_residual.ensures.1 in
    rw (p.1, p.2) (damaged_as (List ℕ) (List ℕ) c.in_err-value.field-0.0 (value_under c.in-Some.page.now c.args.key ≡ None) ((entries : Entries) → PagesHold keeper view entries → ⊥)
    (own_lacks keeper view c.args.number c.args.key c.requires c.in-Some.page.now (own_held keeper view c.args.number c.in-Some.page.now c.in-Some.ensures))
    c.in_err-value.ensures.damaged)

pub returns-in-Some-clause-value : goal.returns-in-Some-clause-value
returns-in-Some-clause-value g c =
    let keeper = c.args.self.now in
    let view = g.H.Host.view c.args.host.now in
    own_value keeper view c.args.number c.args.key c.requires c.in-Some.page.now (own_held keeper view c.args.number c.in-Some.page.now c.in-Some.ensures) c.in_ok-value.value c.in_ok-value.ensures.value

pub returns-in-Some-clause-holds : goal.returns-in-Some-clause-holds
returns-in-Some-clause-holds g c entries h =
    let keeper = c.args.self.now in
    let view = g.H.Host.view c.args.host.now in
    let some : IsSome (lookup (nat_eq c.args.number) keeper.cache.pages.entries) = subst (λ (o : Option Entries). IsSome o) c.in-Some.ensures refl in
    holds_with keeper view entries h c.touch.new.self view
    (subst (λ (l : List (ℕ × Entries)). AllByRecursion (Stands keeper view entries h) l) (sym c.touch.ensures.promoted)
    (all_promoted c.args.number (Stands keeper view entries h) keeper.cache.pages.entries some h.cached))
    (looks_none view)

-- ---- a page that isn't held

pub returns-in_err-page-clause-holds : goal.returns-in_err-page-clause-holds
returns-in_err-page-clause-holds g c entries h =
    let keeper = c.args.self.now in
    let view = g.H.Host.view c.args.host.now in
    holds_with keeper view entries h keeper.cache (g.H.Host.view c.fetch.new.host) h.cached c.fetch.ensures.looks

pub returns-in_err-page-clause-damaged : goal.returns-in_err-page-clause-damaged
returns-in_err-page-clause-damaged g c =
    let keeper = c.args.self.now in
    let view = g.H.Host.view c.args.host.now in
    let p = err_from_is_err_and c.from_residual-in_err-page.result c.from_residual-in_err-page.ensures.1 in
    rw (p.1, p.2) (damaged_as Entries (List ℕ) c.in_err-page.field-0.0
    (IsOfPages keeper.header → (file : List ℕ) (entries : Entries) → Tells view file → HasPage keeper.header keeper.opened.images file c.args.number entries → ⊥)
    ((entries : Entries) → PagesHold keeper view entries → ⊥)
    (none_fetched keeper view c.args.number c.args.key c.requires) c.in_err-page.ensures.damaged)

pub returns-in_err-page-clause-near : goal.returns-in_err-page-clause-near
returns-in_err-page-clause-near g c =
    let keeper = c.args.self.now in
    let view = g.H.Host.view c.args.host.now in
    near_unread keeper view c.args.number (Fetched 0 view (g.H.Host.view c.fetch.new.host)) (ap option_copied (sym c.in_default.is) ∙ c.get.ensures) c.fetch.ensures.by_image

pub returns-in_err-value-2-clause-holds : goal.returns-in_err-value-2-clause-holds
returns-in_err-value-2-clause-holds g c entries h =
    let keeper = c.args.self.now in
    let view = g.H.Host.view c.args.host.now in
    holds_with keeper view entries h keeper.cache (g.H.Host.view c.fetch.new.host) h.cached c.fetch.ensures.looks

pub returns-in_err-value-2-clause-damaged : goal.returns-in_err-value-2-clause-damaged
returns-in_err-value-2-clause-damaged g c =
    let keeper = c.args.self.now in
    let view = g.H.Host.view c.args.host.now in
    let p = err_from_is_err_and c.from_residual-in_err-value-2.result c.from_residual-in_err-value-2.ensures.1 in
    rw (p.1, p.2) (damaged_as (List ℕ) (List ℕ) c.in_err-value-2.field-0.0 (value_under c.in_ok-page.page c.args.key ≡ None) ((entries : Entries) → PagesHold keeper view entries → ⊥)
    (own_lacks keeper view c.args.number c.args.key c.requires c.in_ok-page.page (own_fetched keeper view c.args.number c.in_ok-page.page c.in_ok-page.ensures.page))
    c.in_err-value-2.ensures.damaged)

pub returns-in_err-value-2-clause-near : goal.returns-in_err-value-2-clause-near
returns-in_err-value-2-clause-near g c =
    let keeper = c.args.self.now in
    let view = g.H.Host.view c.args.host.now in
    near_unread keeper view c.args.number (Fetched 0 view (g.H.Host.view c.fetch.new.host)) (ap option_copied (sym c.in_default.is) ∙ c.get.ensures) c.fetch.ensures.by_image

pub returns-in_err-take_in-clause-holds : goal.returns-in_err-take_in-clause-holds
returns-in_err-take_in-clause-holds g c entries h =
    let keeper = c.args.self.now in
    let view = g.H.Host.view c.args.host.now in
    holds_with keeper view entries h c.take_in.new.self (g.H.Host.view c.fetch.new.host)
    (subst (λ (k : Cache). AllByRecursion (Stands keeper view entries h) k.pages.entries) (sym c.in_err-take_in.ensures.err) h.cached) c.fetch.ensures.looks

pub returns-in_err-take_in-clause-near : goal.returns-in_err-take_in-clause-near
returns-in_err-take_in-clause-near g c =
    let keeper = c.args.self.now in
    let view = g.H.Host.view c.args.host.now in
    near_unread keeper view c.args.number (Fetched 0 view (g.H.Host.view c.fetch.new.host)) (ap option_copied (sym c.in_default.is) ∙ c.get.ensures) c.fetch.ensures.by_image

pub returns-clause-value : goal.returns-clause-value
returns-clause-value g c =
    let keeper = c.args.self.now in
    let view = g.H.Host.view c.args.host.now in
    own_value keeper view c.args.number c.args.key c.requires c.in_ok-page.page (own_fetched keeper view c.args.number c.in_ok-page.page c.in_ok-page.ensures.page) c.in_ok-value-2.value c.in_ok-value-2.ensures.value

pub returns-clause-holds : goal.returns-clause-holds
returns-clause-holds g c entries h =
    let keeper = c.args.self.now in
    let view = g.H.Host.view c.args.host.now in
    let own = own_fetched keeper view c.args.number c.in_ok-page.page c.in_ok-page.ensures.page entries h in
    holds_with keeper view entries h c.take_in.new.self (g.H.Host.view c.fetch.new.host)
    (subst (λ (l : List (ℕ × Entries)). AllByRecursion (Stands keeper view entries h) l) (sym c.in_ok-take_in.ensures.taken)
    (all_taken c.args.number (Stands keeper view entries h) (most_of keeper.cache) c.in_ok-page.page keeper.cache.pages.entries own h.cached))
    c.fetch.ensures.looks

pub returns-clause-near : goal.returns-clause-near
returns-clause-near g c =
    let keeper = c.args.self.now in
    let view = g.H.Host.view c.args.host.now in
    near_unread keeper view c.args.number (Fetched 0 view (g.H.Host.view c.fetch.new.host)) (ap option_copied (sym c.in_default.is) ∙ c.get.ensures) c.fetch.ensures.by_image
