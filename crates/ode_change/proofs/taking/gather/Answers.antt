use Rattle.std.proofs.Common.{arith}
use Rattle.ode_change.proofs.Putting.{counters_short, put_few, put_short}
use Rattle.ode_change.proofs.taking.gather.Goals as goal
use Rattle.ode_changed_laws.specs.Records.{counters_behind}
use Rattle.ode_codec.specs.Spelling.{spelled}
use Rattle.ode_codec.specs.declared.record.Record.TheVariants as of

pub returns-then-len-le-MAX_CHANGES-clause-short : goal.returns-then-len-le-MAX_CHANGES-clause-short
returns-then-len-le-MAX_CHANGES-clause-short c =
    put_short (spelled (of.Counters (counters_behind c.args.counters c.in_ok-count.count))) c.args.batch c.put_counters.new.batch c.in_ok-put_counters.ensures.is
    (counters_short c.args.counters c.in_ok-count.count) c.requires.short

pub returns-else-len-le-MAX_CHANGES-clause-undamaged : goal.returns-else-len-le-MAX_CHANGES-clause-undamaged
returns-else-len-le-MAX_CHANGES-clause-undamaged c =
    let most = put_few (spelled (of.Counters (counters_behind c.args.counters c.in_ok-count.count))) c.args.batch c.put_counters.new.batch c.in_ok-put_counters.ensures.is in
    rw c.damaged.ensures (λ left few. omega (arith, few, most, c.len.ensures, c.if-len-le-MAX_CHANGES.false))
