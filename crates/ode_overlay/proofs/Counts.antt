-- How many changes a batch has.
use Rattle.std.proofs.Common.{◌+◌, ◌≤◌, ℕ, List, [], ◌∷◌, Option, Some, None, length, arith}
use Rattle.std.proofs.lemmas.List.Sums.{count_by-le-length, length-filter}
use Rattle.std.specs.BTreeMap.{insert_entry}
use Rattle.std.specs.List.{filter}
use Rattle.std.specs.Ordering.{match_ordering}
use Rattle.std.specs.declared.cmp.Ordering.{Ordering}
use Rattle.std.specs.declared.cmp.Ordering.TheVariants.{Less, Equal, Greater}
use Rattle.ode_codec.specs.declared.record.Record.TheVariants as of
use Rattle.ode_codec.specs.Spelling.{value_of}
use Rattle.ode_keep.specs.Entries.{Changes}
use Rattle.ode_overlay.specs.Layers.{Layer, first_count, key_count}
use Rattle.ode_objects.specs.Records.{put_becomes}
use Rattle.ode_overlay.specs.Records.{batch, becomes, counters_after, entry_by, filled, first_changes, queued_from, without_running}
use Rattle.ode_overlay.specs.Rewinding.{stays}
use Rattle.ode_overlay.specs.declared.origin.Origin.{Origin}
use Rattle.ode_overlay.specs.declared.origin.Origin.TheVariants as from
use Rattle.ode_overlay.specs.declared.overlay.Collected.{Collected}
use Rattle.ode_objects.specs.declared.records.Becomes.{Becomes}
use Rattle.ode_objects.specs.declared.records.Becomes.TheVariants.{Is, Goes, Stays}
use Rattle.ode_value.specs.Keys.{counters_key, entry_key, key_cmp}
use Rattle.ode_value.specs.Limits.{change_limit}
use Rattle.ode_value.specs.declared.key.Key.{Key}

step : (e : Key × Option (List ℕ)) (es : Changes) (k : Key) (w : Option (List ℕ)) → length (insert_entry key_cmp es k w) ≤ length es + 1
    → (o : Ordering) → length (match_ordering o ((k, w) ∷ e ∷ es) ((e.0, w) ∷ es) (e ∷ insert_entry key_cmp es k w)) ≤ length (e ∷ es) + 1
step e es k w more Less = omega arith
step e es k w more Equal = omega arith
step e es k w more Greater = omega (arith, more)

put_counts_one : (es : Changes) (k : Key) (w : Option (List ℕ)) → length (insert_entry key_cmp es k w) ≤ length es + 1
put_counts_one [] k w = omega arith
put_counts_one (e ∷ es) k w = step e es k w (put_counts_one es k w) (key_cmp k e.0)

becomes_count : (k : Key) (b : Becomes) (cs : Changes) → length (put_becomes k b cs) ≤ length cs + 1
becomes_count k (Is r) cs = put_counts_one cs k (Some (value_of r))
becomes_count k Goes cs = put_counts_one cs k None
becomes_count k Stays cs = omega arith

filled_count : (x : Layer) (ks : List Key) (cs : Changes) → length (filled x ks cs) ≤ length cs + length ks
filled_count x [] cs = omega arith
filled_count x (k ∷ ks) cs = omega (arith, filled_count x ks (put_becomes k (becomes x k) cs), becomes_count k (becomes x k) cs)

queued_count : (n : ℕ) (collected : List Collected) (cs : Changes) → length (queued_from n collected cs) ≤ length cs + length collected
queued_count n [] cs = omega arith
queued_count n (c ∷ more) cs =
    omega (arith, queued_count (n + 1) more (insert_entry key_cmp cs (entry_key n) (Some (value_of (of.Entry n (entry_by c))))), put_counts_one cs (entry_key n) (Some (value_of (of.Entry n (entry_by c)))))

first_counts : (origin : Origin) (cs : Changes) → length cs ≤ 1 → length (without_running origin cs) ≤ first_count origin
first_counts (from.Entry number generation) cs one = omega (arith, put_counts_one cs (entry_key number) None, one)
first_counts from.Script cs one = one
first_counts (from.Tick instant object place) cs one = one
first_counts (from.Move instant) cs one = one

pub few_changes : (x : Layer) → key_count x.keys x ≤ change_limit → length x.collected ≤ x.gathered → length (batch x) ≤ 1024
unfolding batch change_limit
few_changes x few gathered =
    let first = first_counts x.origin (insert_entry key_cmp [] counters_key (Some (value_of (of.Counters (counters_after x))))) (omega arith) in
    omega (arith, queued_count x.first.next_entry x.collected (filled x x.keys (first_changes x)), filled_count x x.keys (first_changes x), first, few, gathered)

-- an abort keeps no more
pub fewer_kept : (xs : List Collected) → length (filter stays xs) ≤ length xs
fewer_kept xs = omega (arith, length-filter stays xs, count_by-le-length stays xs)
