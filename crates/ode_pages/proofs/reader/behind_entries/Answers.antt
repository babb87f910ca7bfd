use Rattle.std.proofs.Common.{◌<◌, length, arith}
use Rattle.ode_pages.proofs.Loading.{not_other, read_more, read_none}
use Rattle.ode_pages.proofs.reader.behind_entries.Goals as goal

pub entries-init : goal.entries-init
entries-init c = read_none c.args.bytes.now

pub returns-in_err-row-clause-none : goal.returns-in_err-row-clause-none
returns-in_err-row-clause-none c =
    rw c.from_residual.ensures (λ entries rest fits many spelled.
    let within : c.entries._read < length entries = omega (arith, c.entries-test.true, many) in
    not_other c.args.bytes.now c.entries._read c.entries.rest.now c.entries.last c.entries.invariant entries rest fits spelled within c.in_err-row.ensures.none)

pub entries-preserved : goal.entries-preserved
entries-preserved c =
    let row = c.in_ok-row.row in
    read_more c.args.bytes.now c.entries._read c.entries.rest.now c.entries.last c.entries.invariant
    (row.key, row.value.now) row.rest.now c.in_ok-row.ensures.some.0 c.in_ok-row.ensures.follows c.in_ok-row.ensures.some.1
