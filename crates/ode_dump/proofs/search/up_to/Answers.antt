use Rattle.std.proofs.Common.{rules}
use Rattle.std.proofs.lemmas.List.Sorted.{IsPartitionPoint-from_clause}
use Rattle.ode_dump.specs.Searching.{is_up_to}
use Rattle.ode_dump.proofs.Searching.{parted, taken, up_to_falls}
use Rattle.ode_dump.proofs.search.up_to.Goals as goal

pub returns : goal.returns
returns c = λ rising.
    let xs = c.args.lines.now in
    let end = c.partition_point-end.result in
    let parts = IsPartitionPoint-from_clause (λ l. is_up_to c.args.kind c.args.a l.0) xs end c.partition_point-end.ensures.partitioned
    (parted (is_up_to c.args.kind c.args.a) (up_to_falls c.args.kind c.args.a) xs rising) (λ a r q k. search rules) in
    taken (λ l. is_up_to c.args.kind c.args.a l.0) xs end c.partition_point-end.ensures.bound parts
