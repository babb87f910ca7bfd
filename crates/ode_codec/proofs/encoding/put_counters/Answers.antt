use Rattle.ode_codec.specs.Spelling.{nexts_value}
use Rattle.ode_value.specs.Records.{stamp_bytes}
use Rattle.ode_codec.proofs.Joins.{joins}
use Rattle.ode_codec.proofs.encoding.put_counters.Goals as goal

pub returns : goal.returns
returns c =
    let k = c.args.counters.now in
    joins c.put_stamp.result c.args.out.now.items (nexts_value k) c.put_numbers_and_clock.new.out.items (stamp_bytes k.added) c.put_stamp.new.out.items c.in_ok-put_numbers_and_clock.ensures c.put_stamp.ensures
