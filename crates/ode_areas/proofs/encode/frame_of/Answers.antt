use Rattle.std.proofs.Common.{◌≡◌, ◌++◌, ◌∙◌, ℕ, ap, length, subst, sym}
use Rattle.std.specs.Int.{w32, to_be_bytes}
use Rattle.std.specs.List.{AllByRecursion, flat_map}
use Rattle.ode_keep.specs.Batches.{changes_of}
use Rattle.ode_keep.specs.Entries.{Changes}
use Rattle.ode_keep.specs.Payloads.{FitsChange, change_bytes}
use Rattle.ode_keep.proofs.Lengths.{IsShortChange, short_each}
use Rattle.ode_areas.proofs.Encoding.{started_frame}
use Rattle.ode_areas.proofs.encode.frame_of.Goals as goal

pub loop-change-init : goal.loop-change-init
loop-change-init c =
    let batch = c.args.batch.now in
    let same : changes_of c.into_iter-change-iterator.result.rest.now ≡ batch = cc in
    let start = started_frame c.in_ok-frame.frame c.push.new.self (to_be_bytes w32 (length batch)) c.to_be_bytes.result (flat_map change_bytes batch)
    c.payload_length.result c.in_ok-frame.ensures c.push.ensures (c.to_be_bytes.ensures ∙ ap (λ (n : ℕ). to_be_bytes w32 n) c.len.ensures) c.payload_length.ensures.exact in
    record {
      so_far = ap (λ (l : Changes). c.push.new.self.payload ++ flat_map change_bytes l) same ∙ start.0;
      spare = start.1 ∙ ap (λ (l : Changes). length (flat_map change_bytes l)) (sym same);
      short = subst (λ (l : Changes). AllByRecursion IsShortChange l) (sym same) (short_each batch c.requires.short);
      fits = λ all. subst (λ (l : Changes). AllByRecursion FitsChange l) same all;
    }
