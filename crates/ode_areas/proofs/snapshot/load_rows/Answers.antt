use Rattle.std.proofs.Common.{Some, ap, ◌∙◌}
use Rattle.ode_keep.specs.Entries.{changed}
use Rattle.ode_areas.proofs.Loading.{read_none, read_more, read_broken}
use Rattle.ode_areas.proofs.snapshot.load_rows.Goals as goal

pub rows-init : goal.rows-init
rows-init c = read_none c.args.bytes.now c.args.map.now c.requires.empty

pub returns-in_default-clause-broken : goal.returns-in_default-clause-broken
returns-in_default-clause-broken c =
    read_broken c.args.bytes.now c.rows.map c.rows.rest.now c.rows.last c.rows.at c.rows.invariant c.args.size c.rows-test.true
    (rw c.in_default.is at c.next_row.ensures.none)

pub rows-preserved : goal.rows-preserved
rows-preserved c =
    let row = c.in-Some.row in
    read_more c.args.bytes.now c.rows.map c.rows.rest.now c.rows.last c.rows.at c.rows.invariant
    (row.key, row.value.now) row.rest.now c.put.new.self
    c.in-Some.ensures.some.0 c.in-Some.ensures.follows c.in-Some.ensures.some.1
    (c.in_ok-put.ensures.ok ∙ ap (λ v. changed c.rows.map row.key (Some v)) c.in_ok-value.ensures)
