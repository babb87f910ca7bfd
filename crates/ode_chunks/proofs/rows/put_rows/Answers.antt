use Rattle.std.proofs.Common.{◌++◌}
use Rattle.ode_value.specs.Records.{snapshot}
use Rattle.ode_chunks.proofs.Spelling.{row_more}
use Rattle.ode_chunks.proofs.rows.put_rows.Goals as goal

pub loop-key-preserved : goal.loop-key-preserved
loop-key-preserved c fits =
    row_more c.args.rows.now c.loop-key.key-index c.loop-key-item.result c.as_slice.result.now c.loop-key.bytes.items c.put_row.new.to.items
    (c.args.bytes.now.items ++ snapshot c.args.rows.now)
    c.loop-key-test.true c.loop-key-item.is c.as_slice.ensures c.in_ok-put_row.ensures (c.loop-key.invariant fits)
