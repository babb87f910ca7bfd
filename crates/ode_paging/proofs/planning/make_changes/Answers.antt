use Rattle.std.proofs.Common.{◌≡◌, ◌≤◌, ◌∷◌, [], List, ℕ, Option, length, refl, sym, ap, subst, ◌∙◌, ⊎_elim, arith, rules}
use Rattle.std.proofs.lemmas.List.{nil_from_length}
use Rattle.std.specs.List.{AllByRecursion}
use Rattle.std.specs.List.Sorted.{IsStrictlySortedBy}
use Rattle.std.specs.Option.{IfSome}
use Rattle.ode_host.proofs.Moments.{looks_joined, looks_none}
use Rattle.ode_value.specs.declared.key.Key.{Key}
use Rattle.ode_value.specs.Keys.{key_cmp}
use Rattle.ode_keep.specs.Batches.{changes_of}
use Rattle.ode_keep.specs.Entries.{Changes, HasRisingKeys}
use Rattle.ode_keep.specs.declared.batch.Change.{Change as Row}
use Rattle.ode_keep.specs.declared.limits.TheConstants.{MAX_VALUE}
use Rattle.ode_keep.proofs.Lengths.{IsShortChange, short_each}
use Rattle.ode_keep.specs.Growth.{bytes_of}
use Rattle.ode_paging.specs.declared.making.Change.{Change}
use Rattle.ode_paging.specs.Making.{IsMade}
use Rattle.ode_paging.proofs.Handled.{damaged_by}
use Rattle.ode_paging.proofs.Planned.{all_counted, all_made, keys_all, keys_more, keys_none, next_leads, none_made, one_made, still_rising}
use Rattle.ode_paging.proofs.planning.make_changes.Goals as goal

-- changes of which none is left
none_left : (cs : List Row) → length cs ≡ 0 → changes_of cs ≡ []
none_left cs none = ap changes_of (nil_from_length cs none)

pub loop-change-init : goal.loop-change-init
loop-change-init g c =
    let same : changes_of c.into_iter-change-iterator.result.rest.now ≡ c.args.batch.now = cc in
    record {
      looks = looks_none (g.H.Host.view c.args.host.now);
      faults = refl;
      short = subst (λ (l : Changes). AllByRecursion IsShortChange l) (sym same) (short_each c.args.batch.now c.requires.short);
      keys = keys_none c.new-moves.result.items (changes_of c.into_iter-change-iterator.result.rest.now) c.args.batch.now c.new-moves.ensures.items same;
      few = omega (arith, ap (λ (l : Changes). length l) same);
      rising = subst (λ (l : Changes). HasRisingKeys l) (sym same) c.iter-change-items.ensures.rising;
      made = λ pages are leads has.
          none_made c.args.source.header.now c.args.source.images.now c.args.counts.now pages c.args.batch.now (g.H.Host.view c.args.host.now) c.args.hand.now (changes_of c.into_iter-change-iterator.result.rest.now) c.new-moves.result.items same c.new-moves.ensures.items are has;
    }

pub change-requires-clause-short : goal.change-requires-clause-short
change-requires-clause-short g c =
    subst (λ (o : Option (List ℕ)). IfSome o (λ v. length v ≤ MAX_VALUE)) (sym c.as_ref.ensures.value)
    (subst (λ (l : Changes). AllByRecursion IsShortChange l) (ap changes_of c.in-Some.ensures.steps) c.loop-change.invariant.short).0

pub loop-change-preserved : goal.loop-change-preserved
loop-change-preserved g c =
    let so_far = c.loop-change.invariant in
    let header = c.args.source.header.now in
    let images = c.args.source.images.now in
    let left = changes_of c.loop-change.change-iterator.rest.now in
    let next = changes_of c.next.new.self.rest.now in
    let change = c.in-Some.change.now in
    let first : left ≡ (change.key, change.value) ∷ next = ap changes_of c.in-Some.ensures.steps in
    record {
      looks = looks_joined _ _ _ so_far.looks c.change.ensures.looks;
      faults = ⊎_elim (λ err. absurd (cc (err))) (λ same. same ∙ so_far.faults) c.in_ok-made.ensures.cause.calm;
      short = (subst (λ (l : Changes). AllByRecursion IsShortChange l) first so_far.short).1;
      keys = keys_more c.loop-change.moves.items c.note.new.moves.items left next change.key change.value c.in_ok-made.made.page c.args.batch.now so_far.keys first c.in_ok-note.ensures;
      few = omega (arith, so_far.few, c.in_ok-made.ensures.few, ap (λ (l : Changes). length l) first);
      rising = still_rising left (change.key, change.value) next first so_far.rising;
      made = λ pages are leads has.
          let so = so_far.made pages are leads has in
          let led =
          next_leads header images c.args.counts.now pages c.args.batch.now (g.H.Host.view c.loop-change.host) c.loop-change.hand c.loop-change.counts left c.loop-change.moves.items so
          change.key change.value next first c.args.index.now c.page-led.result leads c.page-led.ensures in
          one_made header images c.args.counts.now pages c.args.batch.now (g.H.Host.view c.loop-change.host) c.loop-change.hand c.loop-change.counts left c.loop-change.moves.items so
          change.key change.value next first (g.H.Host.view c.change.new.host) c.change.new.self c.in-Some-after.after c.in_ok-made.made c.note.new.moves.items so_far.rising
          (subst (λ (o : Option (List ℕ)). IsMade (g.H.Host.view c.change.new.host) header images c.change.new.self pages so.now change.key o c.in_ok-made.made.page) c.as_ref.ensures.value
          (c.in_ok-made.ensures.made pages so.now so.are led so.has))
          c.in_ok-note.ensures
          (c.in_ok-made.ensures.counted pages so.now so.are led so.has)
          (c.in_ok-made.ensures.counts ∙ ap (λ (o : Option (List ℕ)). bytes_of o) c.as_ref.ensures.value)
          c.in-Some-after.ensures;
    }

pub returns-in_err-made-clause-damaged : goal.returns-in_err-made-clause-damaged
returns-in_err-made-clause-damaged g c =
    damaged_by Change _ c.from_residual.result c.in_err-made.field-0.0 (search rules) c.in_err-made.ensures.damaged
    (λ bad pages are leads has.
    let so = c.loop-change.invariant.made pages are leads has in
    bad pages so.now so.are
    (next_leads c.args.source.header.now c.args.source.images.now c.args.counts.now pages c.args.batch.now (g.H.Host.view c.loop-change.host) c.loop-change.hand c.loop-change.counts (changes_of c.loop-change.change-iterator.rest.now) c.loop-change.moves.items so
    c.in-Some.change.now.key c.in-Some.change.now.value (changes_of c.next.new.self.rest.now) (ap changes_of c.in-Some.ensures.steps) c.args.index.now c.page-led.result leads c.page-led.ensures)
    so.has)

pub returns-clause-made : goal.returns-clause-made
returns-clause-made g c = λ pages are leads has.
    all_made c.args.source.header.now c.args.source.images.now c.args.counts.now pages c.args.batch.now (g.H.Host.view c.loop-change.host) c.loop-change.hand c.loop-change.counts (changes_of c.loop-change.change-iterator.rest.now) c.loop-change.moves.items
    (c.loop-change.invariant.made pages are leads has) (none_left c.loop-change.change-iterator.rest.now c.in-None.ensures.steps.0)

pub returns-clause-few : goal.returns-clause-few
returns-clause-few g c = omega (arith, c.loop-change.invariant.few)

pub returns-clause-keys : goal.returns-clause-keys
returns-clause-keys g c = keys_all c.loop-change.moves.items (changes_of c.loop-change.change-iterator.rest.now) c.args.batch.now c.loop-change.invariant.keys (none_left c.loop-change.change-iterator.rest.now c.in-None.ensures.steps.0)

pub returns-clause-counted : goal.returns-clause-counted
returns-clause-counted g c = λ pages are leads has is.
    all_counted c.args.source.header.now c.args.source.images.now c.args.counts.now pages c.args.batch.now (g.H.Host.view c.loop-change.host) c.loop-change.hand c.loop-change.counts (changes_of c.loop-change.change-iterator.rest.now) c.loop-change.moves.items
    (c.loop-change.invariant.made pages are leads has) (none_left c.loop-change.change-iterator.rest.now c.in-None.ensures.steps.0) is

pub returns-clause-rising : goal.returns-clause-rising
returns-clause-rising g c =
    subst (λ (ks : List Key). IsStrictlySortedBy key_cmp ks)
    (sym (keys_all c.loop-change.moves.items (changes_of c.loop-change.change-iterator.rest.now) c.args.batch.now c.loop-change.invariant.keys (none_left c.loop-change.change-iterator.rest.now c.in-None.ensures.steps.0))) c.iter-change-items.ensures.rising
