use Rattle.std.proofs.Common.{◌≡◌, ◌≤◌, ◌+◌, ◌*◌, ap, length, subst, sym, arith}
use Rattle.std.proofs.lemmas.List.{nil_from_length}
use Rattle.std.specs.List.{AllByRecursion}
use Rattle.ode_keep.specs.Batches.{changes_of}
use Rattle.ode_keep.specs.Entries.{Changes}
use Rattle.ode_keep.specs.Growth.{bytes_of, put_bytes, taken_bytes}
use Rattle.ode_keep.proofs.Growing.{applied_grows}
use Rattle.ode_keep.proofs.Lengths.{IsShortChange, short_each}
use Rattle.ode_keep.specs.declared.limits.TheConstants.{MAX_VALUE}
use Rattle.ode_keep.specs.declared.spelling.TheConstants.{KEY_LEN}
use Rattle.ode_areas.proofs.Splitting.{grown_at_most, put_short, taken_within, value_within}
use Rattle.ode_areas.proofs.map.Map.bytes_after.Goals as goal

pub loop-change-init : goal.loop-change-init
loop-change-init c =
    let same : changes_of c.into_iter-change-iterator.result.rest.now ≡ c.args.batch.now = cc in
    record {
      put = omega (arith, ap (λ (l : Changes). put_bytes l) same);
      taken = omega (arith, ap (λ (l : Changes). taken_bytes l c.args.self.now) same);
      short = subst (λ (l : Changes). AllByRecursion IsShortChange l) (sym same) (short_each c.args.batch.now c.requires.short);
    }

pub overflow_add-put : goal.overflow_add-put
overflow_add-put c =
    let first = ap (λ (l : Changes). put_bytes l) (ap changes_of c.in-Some.ensures.steps) in
    let whole : put_bytes c.args.batch.now ≤ (KEY_LEN + MAX_VALUE) * length c.args.batch.now = put_short c.args.batch.now (short_each c.args.batch.now c.requires.short) in
    omega (arith, first, whole, c.loop-change.invariant.put, c.counted-put.ensures, c.requires.few, ap bytes_of c.as_ref.ensures.value)

pub counted-taken-requires : goal.counted-taken-requires
counted-taken-requires c =
    omega (arith, ap bytes_of c.get.ensures, value_within c.in-Some.change.now.key c.args.self.now, c.bytes-bytes.ensures.bytes, c.bytes-bytes.type_inv)

pub overflow_add-taken : goal.overflow_add-taken
overflow_add-taken c =
    let first = ap (λ (l : Changes). taken_bytes l c.args.self.now) (ap changes_of c.in-Some.ensures.steps) in
    let whole = taken_within c.args.batch.now c.args.self.now c.iter-change-items.ensures.rising c.bytes-bytes.ensures.rising in
    omega (arith, first, whole, c.loop-change.invariant.taken, c.counted-taken.ensures, ap bytes_of c.get.ensures, c.bytes-bytes.ensures.bytes, c.bytes-bytes.type_inv)

pub overflow_sub-bytes : goal.overflow_sub-bytes
overflow_sub-bytes c =
    let whole = taken_within c.args.batch.now c.args.self.now c.iter-change-items.ensures.rising c.bytes-bytes.ensures.rising in
    omega (arith, whole, c.loop-change.invariant.taken, c.bytes-bytes.ensures.bytes)

pub returns-clause-exact : goal.returns-clause-exact
returns-clause-exact c =
    let none = ap changes_of (nil_from_length c.loop-change.change-iterator.rest.now c.in-None.ensures.steps.0) in
    let none_put = ap (λ (l : Changes). put_bytes l) none in
    let none_taken = ap (λ (l : Changes). taken_bytes l c.args.self.now) none in
    let whole = taken_within c.args.batch.now c.args.self.now c.iter-change-items.ensures.rising c.bytes-bytes.ensures.rising in
    let grows = applied_grows c.args.batch.now c.args.self.now c.iter-change-items.ensures.rising c.bytes-bytes.ensures.rising in
    omega (arith, none_put, none_taken, whole, grows, c.loop-change.invariant.put, c.loop-change.invariant.taken, c.bytes-bytes.ensures.bytes, c.saturating_add.ensures)

pub returns-clause-grows : goal.returns-clause-grows
returns-clause-grows c =
    grown_at_most c.args.batch.now c.args.self.now c.iter-change-items.ensures.rising c.bytes-bytes.ensures.rising (short_each c.args.batch.now c.requires.short) c.requires.few
