use Rattle.std.proofs.Common.{true, ◌∙◌, ap}
use Rattle.std.proofs.lemmas.Result.{err_from_is_err_and}
use Rattle.ode_host.proofs.Moments.{stands_looks}
use Rattle.ode_keep.specs.Entries.{Entries, record_bytes}
use Rattle.ode_keep.specs.declared.error.StartError.TheVariants.{BadJournal, BadPage}
use Rattle.ode_paging.specs.OneMap.{has_not_bad_journal, has_not_bad_page, one_has}
use Rattle.ode_pagemap.proofs.Paged.{paged}
use Rattle.ode_pagemap.proofs.Starts.{holds_map, same_refuses, same_starts}
use Rattle.ode_pagemap.proofs.map.PageMap.start.Goals as goal

pub returns-in_err-opened-clause-whole : goal.returns-in_err-opened-clause-whole
returns-in_err-opened-clause-whole g c =
    let p = err_from_is_err_and c.from_residual-in_err-opened.result c.from_residual-in_err-opened.ensures.1 in
    rw (p.1, p.2) (λ file entries tells has. same_starts c.in_err-opened.field-0.0 (c.in_err-opened.ensures.whole file entries tells has))

pub returns-in_err-opened-clause-broken_journal : goal.returns-in_err-opened-clause-broken_journal
returns-in_err-opened-clause-broken_journal g c =
    let p = err_from_is_err_and c.from_residual-in_err-opened.result c.from_residual-in_err-opened.ensures.1 in
    rw (p.1, p.2) (λ file at tells is. same_refuses c.in_err-opened.field-0.0 (BadJournal at) (c.in_err-opened.ensures.broken_journal file at tells is))

pub returns-in_err-opened-clause-broken_page : goal.returns-in_err-opened-clause-broken_page
returns-in_err-opened-clause-broken_page g c =
    let p = err_from_is_err_and c.from_residual-in_err-opened.result c.from_residual-in_err-opened.ensures.1 in
    rw (p.1, p.2) (λ file page tells is. same_refuses c.in_err-opened.field-0.0 (BadPage page) (c.in_err-opened.ensures.broken_page file page tells is))

pub returns-clause-holds : goal.returns-clause-holds
returns-clause-holds g c file entries stands counts has =
    let own = c.in_ok-opened.ensures.found file stands.tells in
    holds_map (record { header = c.args.h.now; opened = c.in_ok-opened.opened; cache = c.in_ok-cache.cache; rooms = c.open.new.rooms; is_live = true; alloc = c.args.alloc; form = c.result-2-1.given.0 })
    file own.0 entries (g.H.Host.view c.open.new.host) c.requires (stands_looks file _ _ c.open.ensures.looks stands) counts own.1 c.in_ok-cache.ensures.empty has

pub returns-clause-bytes : goal.returns-clause-bytes
returns-clause-bytes g c file entries tells has =
    let own = c.in_ok-opened.ensures.found file tells in
    own.1.bytes ∙ ap (λ (l : Entries). record_bytes l) (one_has c.args.h.now file own.0 entries own.1.has has)

pub returns-clause-found : goal.returns-clause-found
returns-clause-found g c file tells = let own = c.in_ok-opened.ensures.found file tells in (own.0, own.1.has)

pub returns-clause-broken_journal : goal.returns-clause-broken_journal
returns-clause-broken_journal g c file at tells is =
    let own = c.in_ok-opened.ensures.found file tells in
    absurd (has_not_bad_journal c.args.h.now file own.0 at own.1.has is)

pub returns-clause-broken_page : goal.returns-clause-broken_page
returns-clause-broken_page g c file page tells is =
    let own = c.in_ok-opened.ensures.found file tells in
    absurd (has_not_bad_page c.args.h.now file own.0 page own.1.has is)

pub invariant_of-result : goal.invariant_of-result
invariant_of-result g c = record { form = paged c.args.h.now c.requires }
