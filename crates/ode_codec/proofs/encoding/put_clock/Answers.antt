use Rattle.std.proofs.Common.{◌++◌}
use Rattle.std.specs.Int.{w64, cast_unsigned}
use Rattle.ode_codec.specs.Spelling.{truth, u32, u64}
use Rattle.ode_codec.proofs.Joins.{joins}
use Rattle.ode_codec.proofs.encoding.put_clock.Goals as goal

pub returns : goal.returns
returns c =
    let k = c.args.counters.now in
    let end = c.put_u32.new.to.items in
    let instant = u64 (cast_unsigned w64 k.instant) in
    joins c.put_u32.result c.args.out.now.items (truth k.clock_set) c.put_bool.new.out.items (instant ++ (u64 k.object ++ u32 k.place)) end c.in_ok-put_bool.ensures
    (joins c.put_u32.result c.put_bool.new.out.items instant c.put_instant.new.out.items (u64 k.object ++ u32 k.place) end c.in_ok-put_instant.ensures
    (joins c.put_u32.result c.put_instant.new.out.items (u64 k.object) c.put_u64.new.to.items (u32 k.place) end c.in_ok-put_u64.ensures.ok c.put_u32.ensures.ok))
