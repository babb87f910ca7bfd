use Rattle.std.proofs.Common.{rules, ◌∙◌}
use Rattle.std.proofs.lemmas.List.{take_rest}
use Rattle.std.proofs.lemmas.List.Sorted.{IsPartitionPoint-from_clause}
use Rattle.ode_dump.specs.Searching.{is_before}
use Rattle.ode_dump.proofs.Searching.{before_falls, dropped, parted}
use Rattle.ode_dump.proofs.search.from_on.Goals as goal

pub returns : goal.returns
returns c = λ rising.
    let xs = c.args.lines.now in
    let start = c.partition_point-start.result in
    let parts = IsPartitionPoint-from_clause (λ l. is_before c.args.kind c.args.a l.0) xs start c.partition_point-start.ensures.partitioned
    (parted (is_before c.args.kind c.args.a) (before_falls c.args.kind c.args.a) xs rising) (λ a r q k. search rules) in
    take_rest xs start ∙ dropped (λ l. is_before c.args.kind c.args.a l.0) xs start c.partition_point-start.ensures.bound parts
