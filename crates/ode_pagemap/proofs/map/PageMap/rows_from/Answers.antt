use Rattle.std.proofs.Common.{◌≡◌, [], ◌∷◌, ⊎_elim, Some, None, sym, ap, subst, ◌∙◌}
use Rattle.ode_keep.specs.Entries.{Entries, StartsOf, entries_from, least_from}
use Rattle.ode_paging.specs.Indexing.{Leads, lead_from}
use Rattle.ode_paging.proofs.Firsts.{first_above, first_least, first_row, no_rows}
use Rattle.ode_pagemap.specs.Holding.{index}
use Rattle.ode_pagemap.specs.Running.{RunsOn}
use Rattle.ode_pagemap.proofs.InPages.{same_keys}
use Rattle.ode_pagemap.proofs.Running.{run_above, run_starts}
use Rattle.ode_pagemap.proofs.map.PageMap.rows_from.Goals as goal

pub returns-in_ok-copy-in-None-clause-value : goal.returns-in_ok-copy-in-None-clause-value
returns-in_ok-copy-in-None-clause-value g c entries h =
    let keeper = c.args.self.now in
    let none : None ≡ least_from entries c.args.key =
    first_least (index keeper) entries c.args.key None (same_keys keeper (g.H.Host.view c.args.host.now) entries h) c.in-None.ensures.first in
    subst (λ (l : Entries). StartsOf l (entries_from entries c.args.key)) (sym c.in_ok-copy-in-None.ensures) (no_rows entries c.args.key (sym none))

pub returns-in_ok-rows_with-in-Some-clause-value : goal.returns-in_ok-rows_with-in-Some-clause-value
returns-in_ok-rows_with-in-Some-clause-value g c entries h =
    let keeper = c.args.self.now in
    let key = c.args.key in
    let q = c.in-Some.least in
    let number = c.in-Some.number in
    let read = c.in_ok-value-in-Some in
    let rows = c.in_ok-rows_with-in-Some.field-0 in
    let least : Some q ≡ least_from entries key =
    first_least (index keeper) entries key (Some (q, number)) (same_keys keeper (g.H.Host.view c.args.host.now) entries h) c.in-Some.ensures.first in
    let lead : Some (q, number) ≡ lead_from (index c.value_in.new.self) key = c.in-Some.ensures.first ∙ ap (λ (l : Leads). lead_from l key) (sym read.ensures.index) in
    ⊎_elim
    (λ (same : rows ≡ (q, read.value) ∷ []).
    subst (λ (l : Entries). StartsOf l (entries_from entries key)) (sym same)
    (first_row key q read.value (first_above (index keeper) key q number c.in-Some.ensures.first) entries (sym least) (read.ensures.value entries h)))
    (λ (is : RunsOn c.value_in.new.self key number ((q, read.value) ∷ []) rows).
    run_starts c.value_in.new.self (g.H.Host.view c.value_in.new.host) entries (read.ensures.holds entries h) key q number read.value lead (read.ensures.value entries h) rows is)
    c.in_ok-rows_with-in-Some.ensures

pub returns-in_ok-rows_with-in-Some-clause-above : goal.returns-in_ok-rows_with-in-Some-clause-above
returns-in_ok-rows_with-in-Some-clause-above g c =
    run_above c.value_in.new.self c.args.key c.in-Some.least c.in-Some.number c.in_ok-value-in-Some.value c.in_ok-rows_with-in-Some.field-0
    (first_above (index c.args.self.now) c.args.key c.in-Some.least c.in-Some.number c.in-Some.ensures.first) c.in_ok-rows_with-in-Some.ensures
