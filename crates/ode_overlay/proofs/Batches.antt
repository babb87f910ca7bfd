-- What a batch leaves under each key.
use Rattle.std.proofs.Common.{◌≡◌, ℕ, ◌+◌, List, [], ◌∷◌, Bool, true, false, cond, Option, Some, None, refl, sym, ap, ◌∙◌}
use Rattle.std.specs.Prelude.{◌||◌}
use Rattle.std.specs.BTreeMap.{insert_entry, is_at}
use Rattle.std.specs.List.Sorted.{IsStrictlySortedBy}
use Rattle.ode_codec.specs.declared.record.Record.TheVariants as of
use Rattle.ode_codec.specs.Spelling.{value_of}
use Rattle.ode_keep.specs.Entries.{Changes, Entries, HasRisingKeys, applied, value_under}
use Rattle.ode_keep.proofs.Applying.{put_counts}
use Rattle.ode_keep.proofs.Keys.{key_total, same_key}
use Rattle.ode_keep.proofs.Maps.{rising_put}
use Rattle.ode_overlay.specs.After.{held_after, is_among, queued_after, ran_after, stands_after, value_after}
use Rattle.ode_overlay.specs.Layers.{Layer}
use Rattle.ode_objects.specs.Records.{put_becomes}
use Rattle.ode_overlay.specs.Records.{batch, becomes, counters_after, entry_by, filled, first_changes, queued_from, without_running}
use Rattle.ode_overlay.specs.declared.origin.Origin.{Origin}
use Rattle.ode_overlay.specs.declared.origin.Origin.TheVariants as from
use Rattle.ode_overlay.specs.declared.overlay.Collected.{Collected}
use Rattle.ode_objects.specs.declared.records.Becomes.{Becomes}
use Rattle.ode_objects.specs.declared.records.Becomes.TheVariants.{Is, Goes, Stays}
use Rattle.ode_value.specs.Keys.{counters_key, entry_key, key_cmp}
use Rattle.ode_value.specs.declared.key.Key.{Key}

put_rises : (k : Key) (w : Option (List ℕ)) (cs : Changes) → HasRisingKeys cs → HasRisingKeys (insert_entry key_cmp cs k w)
put_rises k w cs rising = rising_put key_total k w cs rising

becomes_rises : (k : Key) (b : Becomes) (cs : Changes) → HasRisingKeys cs → HasRisingKeys (put_becomes k b cs)
becomes_rises k (Is r) cs rising = put_rises k (Some (value_of r)) cs rising
becomes_rises k Goes cs rising = put_rises k None cs rising
becomes_rises k Stays cs rising = rising

filled_rises : (x : Layer) (ks : List Key) (cs : Changes) → HasRisingKeys cs → HasRisingKeys (filled x ks cs)
filled_rises x [] cs rising = rising
filled_rises x (k ∷ ks) cs rising = filled_rises x ks (put_becomes k (becomes x k) cs) (becomes_rises k (becomes x k) cs rising)

without_rises : (origin : Origin) (cs : Changes) → HasRisingKeys cs → HasRisingKeys (without_running origin cs)
without_rises (from.Entry number generation) cs rising = put_rises (entry_key number) None cs rising
without_rises from.Script cs rising = rising
without_rises (from.Tick instant object place) cs rising = rising
without_rises (from.Move instant) cs rising = rising

twice : (b : Becomes) (v : Option (List ℕ)) → value_after b (value_after b v) ≡ value_after b v
twice (Is r) v = refl
twice Goes v = refl
twice Stays v = refl

by_held : (b : Becomes) (u : Option (List ℕ)) (h : Bool) → cond h (value_after b (value_after b u)) (value_after b u) ≡ value_after b u
by_held b u true = twice b u
by_held b u false = refl

both_same : (h : Bool) (v : Option (List ℕ)) → v ≡ cond h v v
both_same true v = refl
both_same false v = refl

module _ (base : Entries) (q : Key) where
  abbrev under : Changes → Option (List ℕ)
  under cs = value_under (applied cs base) q

  becomes_at : (k : Key) (b : Becomes) (cs : Changes) → HasRisingKeys cs → under (put_becomes k b cs) ≡ cond (is_at (key_cmp k) q) (value_after b (under cs)) (under cs)
  becomes_at k (Is r) cs rising = put_counts cs k (Some (value_of r)) base q rising
  becomes_at k Goes cs rising = put_counts cs k None base q rising
  becomes_at k Stays cs rising = both_same (is_at (key_cmp k) q) (under cs)

  one_more : (x : Layer) (k : Key) (ks : List Key) (u w : Option (List ℕ)) (t : Bool) → is_at (key_cmp k) q ≡ t → w ≡ cond t (value_after (becomes x k) u) u
      → cond (is_among q ks) (value_after (becomes x q) w) w ≡ cond (t || is_among q ks) (value_after (becomes x q) u) u
  one_more x k ks u w true here is =
      let same : w ≡ value_after (becomes x q) u = is ∙ ap (λ (l : Key). value_after (becomes x l) u) (sym (same_key k q here)) in
      ap (λ (v : Option (List ℕ)). cond (is_among q ks) (value_after (becomes x q) v) v) same ∙ by_held (becomes x q) u (is_among q ks)
  one_more x k ks u w false here is = ap (λ (v : Option (List ℕ)). cond (is_among q ks) (value_after (becomes x q) v) v) is

  filled_at : (x : Layer) (ks : List Key) (cs : Changes) → HasRisingKeys cs → under (filled x ks cs) ≡ cond (is_among q ks) (value_after (becomes x q) (under cs)) (under cs)
  filled_at x [] cs rising = refl
  filled_at x (k ∷ ks) cs rising =
      filled_at x ks (put_becomes k (becomes x k) cs) (becomes_rises k (becomes x k) cs rising)
      ∙ one_more x k ks (under cs) (under (put_becomes k (becomes x k) cs)) (is_at (key_cmp k) q) refl (becomes_at k (becomes x k) cs rising)

  queued_at : (n : ℕ) (collected : List Collected) (cs : Changes) → HasRisingKeys cs → under (queued_from n collected cs) ≡ queued_after n collected q (under cs)
  queued_at n [] cs rising = refl
  queued_at n (c ∷ more) cs rising =
      let value = Some (value_of (of.Entry n (entry_by c))) in
      queued_at (n + 1) more (insert_entry key_cmp cs (entry_key n) value) (put_rises (entry_key n) value cs rising)
      ∙ ap (λ (v : Option (List ℕ)). queued_after (n + 1) more q v) (put_counts cs (entry_key n) value base q rising)

  ran_at : (origin : Origin) (cs : Changes) → HasRisingKeys cs → under (without_running origin cs) ≡ ran_after origin q (under cs)
  ran_at (from.Entry number generation) cs rising = put_counts cs (entry_key number) None base q rising
  ran_at from.Script cs rising = refl
  ran_at (from.Tick instant object place) cs rising = refl
  ran_at (from.Move instant) cs rising = refl

  abbrev counted : Layer → Changes
  counted x = insert_entry key_cmp [] counters_key (Some (value_of (of.Counters (counters_after x))))

  none_rise : HasRisingKeys {X = Option (List ℕ)} []
  unfolding IsStrictlySortedBy
  none_rise = tt

  counted_rises : (x : Layer) → HasRisingKeys (counted x)
  counted_rises x = put_rises counters_key (Some (value_of (of.Counters (counters_after x)))) [] none_rise

  -- what stands under the key behind the batch
  pub batch_at : (x : Layer) → under (batch x) ≡ stands_after x base q
  unfolding batch stands_after
  batch_at x =
      let rising = without_rises x.origin (counted x) (counted_rises x) in
      queued_at x.first.next_entry x.collected (filled x x.keys (first_changes x)) (filled_rises x x.keys (first_changes x) rising)
      ∙ ap (λ (v : Option (List ℕ)). queued_after x.first.next_entry x.collected q v)
      (filled_at x x.keys (first_changes x) rising
      ∙ ap (λ (v : Option (List ℕ)). held_after x q v)
      (ran_at x.origin (counted x) (counted_rises x)
      ∙ ap (λ (v : Option (List ℕ)). ran_after x.origin q v) (put_counts [] counters_key (Some (value_of (of.Counters (counters_after x)))) base q none_rise)))
