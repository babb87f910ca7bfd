use Rattle.std.proofs.Common.{◌≡◌, List, Option, ℕ, ap, arith}
use Rattle.std.proofs.lemmas.List.{nil_from_length}
use Rattle.ode_keep.specs.Batches.{changes_of}
use Rattle.ode_keep.specs.Entries.{Changes, applied}
use Rattle.ode_keep.specs.Growth.{one_of_kind, put_of_kind, taken_of_kind}
use Rattle.ode_keep.proofs.Counts.{applied_counts, count_within, taken_among}
use Rattle.ode_value.specs.Keys.{entry_kind}
use Rattle.ode_areas.proofs.map.Map.queued_after.Goals as goal

pub loop-change-init : goal.loop-change-init
loop-change-init c =
    let same : changes_of c.into_iter-change-iterator.result.rest.now ≡ c.args.batch.now = cc in
    record {
      put = omega (arith, ap (λ (l : Changes). put_of_kind entry_kind l) same);
      taken = omega (arith, ap (λ (l : Changes). taken_of_kind entry_kind l c.args.self.now) same);
    }

pub overflow_add-put : goal.overflow_add-put
overflow_add-put c =
    let first = ap (λ (l : Changes). put_of_kind entry_kind l) (ap changes_of c.in-Some.ensures.steps) in
    let whole = taken_among entry_kind c.args.batch.now c.args.self.now c.iter-change-items.ensures.rising c.queued-queued.ensures.rising in
    let grows = applied_counts entry_kind c.args.batch.now c.args.self.now c.iter-change-items.ensures.rising c.queued-queued.ensures.rising in
    let within = count_within entry_kind (applied c.args.batch.now c.args.self.now) in
    omega (
      arith,
      first,
      whole,
      grows,
      within,
      c.requires,
      c.loop-change.invariant.put,
      c.one_queued-put.ensures,
      ap (λ (o : Option (List ℕ)). one_of_kind entry_kind c.in-Some.change.now.key o) c.as_ref.ensures.value,
    )

pub overflow_add-taken : goal.overflow_add-taken
overflow_add-taken c =
    let first = ap (λ (l : Changes). taken_of_kind entry_kind l c.args.self.now) (ap changes_of c.in-Some.ensures.steps) in
    let whole = taken_among entry_kind c.args.batch.now c.args.self.now c.iter-change-items.ensures.rising c.queued-queued.ensures.rising in
    omega (
      arith,
      first,
      whole,
      c.loop-change.invariant.taken,
      c.one_queued-taken.ensures,
      ap (λ (o : Option (List ℕ)). one_of_kind entry_kind c.in-Some.change.now.key o) c.get.ensures,
      c.queued-queued.ensures.count,
      c.queued-queued.type_inv,
    )

pub overflow_sub-queued : goal.overflow_sub-queued
overflow_sub-queued c =
    let whole = taken_among entry_kind c.args.batch.now c.args.self.now c.iter-change-items.ensures.rising c.queued-queued.ensures.rising in
    omega (arith, whole, c.loop-change.invariant.taken, c.queued-queued.ensures.count)

pub returns : goal.returns
returns c =
    let none = ap changes_of (nil_from_length c.loop-change.change-iterator.rest.now c.in-None.ensures.steps.0) in
    let none_put = ap (λ (l : Changes). put_of_kind entry_kind l) none in
    let none_taken = ap (λ (l : Changes). taken_of_kind entry_kind l c.args.self.now) none in
    let whole = taken_among entry_kind c.args.batch.now c.args.self.now c.iter-change-items.ensures.rising c.queued-queued.ensures.rising in
    let grows = applied_counts entry_kind c.args.batch.now c.args.self.now c.iter-change-items.ensures.rising c.queued-queued.ensures.rising in
    let within = count_within entry_kind (applied c.args.batch.now c.args.self.now) in
    omega (arith, none_put, none_taken, whole, grows, within, c.requires, c.loop-change.invariant.put, c.loop-change.invariant.taken, c.queued-queued.ensures.count, c.saturating_add.ensures)
