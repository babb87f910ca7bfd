use Rattle.std.proofs.Common.{◌++◌}
use Rattle.ode_codec.specs.Spelling.{clock_value, u64}
use Rattle.ode_codec.proofs.Joins.{joins}
use Rattle.ode_codec.proofs.encoding.put_numbers_and_clock.Goals as goal

pub returns : goal.returns
returns c =
    let k = c.args.counters.now in
    let end = c.put_clock.new.out.items in
    let clock = clock_value k in
    joins c.put_clock.result c.args.out.now.items (u64 k.next_number) c.put_u64.new.to.items (u64 k.next_transaction ++ (u64 k.next_entry ++ clock)) end c.in_ok-put_u64.ensures.ok
    (joins c.put_clock.result c.put_u64.new.to.items (u64 k.next_transaction) c.put_u64-2.new.to.items (u64 k.next_entry ++ clock) end c.in_ok-put_u64-2.ensures.ok
    (joins c.put_clock.result c.put_u64-2.new.to.items (u64 k.next_entry) c.put_u64-3.new.to.items clock end c.in_ok-put_u64-3.ensures.ok c.put_clock.ensures))
