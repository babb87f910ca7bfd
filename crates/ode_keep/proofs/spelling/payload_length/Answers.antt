use Rattle.std.proofs.Common.{◌≡◌, ap, length, subst, sym, arith}
use Rattle.std.specs.List.{AllByRecursion, flat_map}
use Rattle.ode_keep.specs.Batches.{changes_of}
use Rattle.ode_keep.specs.Entries.{Changes}
use Rattle.ode_keep.specs.Payloads.{change_bytes}
use Rattle.ode_keep.proofs.Lengths.{IsShortChange, short_each}
use Rattle.ode_keep.proofs.spelling.payload_length.Goals as goal

pub loop-change-init : goal.loop-change-init
loop-change-init c =
    let same : changes_of c.into_iter-change-iterator.result.rest.now ≡ c.args.batch.now = cc in
    record {
      exact = omega (arith, ap (λ (l : Changes). length (flat_map change_bytes l)) same);
      small = omega (arith, ap (λ (l : Changes). length l) same);
      short = subst (λ (l : Changes). AllByRecursion IsShortChange l) (sym same) (short_each c.args.batch.now c.requires.short);
    }
