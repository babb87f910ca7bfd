use Rattle.std.proofs.Common.{◌≡◌, ◌++◌, ap, subst, sym}
use Rattle.std.specs.List.{AllByRecursion, flat_map}
use Rattle.ode_keep.proofs.Lengths.{IsShortChange, short_each}
use Rattle.ode_keep.specs.Batches.{changes_of}
use Rattle.ode_keep.specs.Entries.{Changes}
use Rattle.ode_keep.specs.Payloads.{FitsChange, change_bytes}
use Rattle.ode_ship.proofs.framing.put_changes.Goals as goal

pub loop-change-init : goal.loop-change-init
loop-change-init c =
    let batch = c.args.batch.now in
    let same : changes_of c.into_iter-change-iterator.result.rest.now ≡ batch = cc in
    record {
      so_far = ap (λ (l : Changes). c.put_u32.new.to.items ++ flat_map change_bytes l) same;
      short = subst (λ (l : Changes). AllByRecursion IsShortChange l) (sym same) (short_each batch c.requires.short);
      fits = λ all. subst (λ (l : Changes). AllByRecursion FitsChange l) same all;
    }
