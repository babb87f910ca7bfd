use Rattle.std.proofs.Common.{◌≡◌, ◌++◌, ◌∙◌, ℕ, List, ap, length, subst, sym}
use Rattle.std.specs.Int.{w32, to_be_bytes}
use Rattle.std.specs.List.{AllByRecursion, flat_map}
use Rattle.ode_paging.specs.Images.{FitsImage, Image, IsShortImage, image_bytes}
use Rattle.ode_paging.proofs.Encoding.{started_frame}
use Rattle.ode_paging.proofs.encode.frame_of.Goals as goal

pub loop-page-init : goal.loop-page-init
loop-page-init c =
    let images = c.args.images.now in
    let same : c.into_iter-page-iterator.result ≡ images = cc in
    let start = started_frame c.in_ok-frame.frame c.push.new.self (to_be_bytes w32 (length images)) c.to_be_bytes.result (flat_map image_bytes images)
    c.payload_length.result c.in_ok-frame.ensures c.push.ensures (c.to_be_bytes.ensures ∙ ap (λ (n : ℕ). to_be_bytes w32 n) c.len.ensures.many) c.payload_length.ensures.exact in
    record {
      so_far = ap (λ (l : List Image). c.push.new.self.payload ++ flat_map image_bytes l) same ∙ start.0;
      spare = start.1 ∙ ap (λ (l : List Image). length (flat_map image_bytes l)) (sym same);
      short = subst (λ (l : List Image). AllByRecursion IsShortImage l) (sym same) c.requires.short;
      fits = λ all. subst (λ (l : List Image). AllByRecursion FitsImage l) same all;
    }
