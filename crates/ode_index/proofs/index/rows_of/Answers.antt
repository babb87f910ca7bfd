use Rattle.std.proofs.Common.{rules, of_calls, subst, sym, ◌≡◌, ◌∙◌, ap, take, drop, List, length, ◌≤◌, ℕ}
use Rattle.std.proofs.lemmas.List.Sorted.{IsPartitionPoint-from_clause}
use Rattle.std.specs.List.Sorted.{IsPartitionedBy, IsPartitionPoint}
use Rattle.std.specs.Prelude.{true, false}
use Rattle.ode_value.specs.declared.value.Value.{Value}
use Rattle.ode_index.specs.Numbers.{IsBeside}
use Rattle.ode_index.proofs.Finding.{below, below_first, not_above, not_above_first, partitioned_drop, rows_beside}
use Rattle.ode_index.proofs.index.rows_of.Goals as goal

pub returns : goal.returns
returns c = λ up.
    let v = c.args.v.now in
    let rows = c.args.rows.now in
    let first = c.partition_point-first.result in
    let count = c.partition_point-count.result in
    let rest : c.split_at.result.1.now ≡ drop first rows = c.split_at.ensures.back in
    let same : c.split_at-2.result.0.now ≡ take count (drop first rows) = c.split_at-2.ensures.front ∙ ap (take count) rest in
    let low : count ≤ length (drop first rows) = subst (λ (l : List (Value × ℕ)). count ≤ length l) rest c.partition_point-count.ensures.bound in
    let front = IsPartitionPoint-from_clause (below v) rows first c.partition_point-first.ensures.partitioned (below_first v rows up) (λ a r q k. search (rules, of_calls)) in
    let back = IsPartitionPoint-from_clause (not_above v) c.split_at.result.1.now count c.partition_point-count.ensures.partitioned
    (subst (λ (l : List (Value × ℕ)). IsPartitionedBy (not_above v) l) (sym rest) (partitioned_drop v (not_above v) rows first (not_above_first v rows up))) (λ a r q k. search (rules, of_calls)) in
    subst (λ (l : List (Value × ℕ)). IsBeside v rows l) (sym same)
    (rows_beside v rows first count low front (subst (λ (l : List (Value × ℕ)). IsPartitionPoint (λ y. not_above v y ≡ true) (λ y. not_above v y ≡ false) l count) rest back))
