use Rattle.std.proofs.Common.{◌≡◌, List, ap, length, subst, sym, arith}
use Rattle.std.specs.List.{AllByRecursion, flat_map}
use Rattle.ode_paging.specs.Images.{Image, IsShortImage, image_bytes}
use Rattle.ode_paging.proofs.encode.payload_length.Goals as goal

pub loop-used-init : goal.loop-used-init
loop-used-init c =
    let same : c.into_iter-used-iterator.result ≡ c.args.images.now = cc in
    record {
      exact = omega (arith, ap (λ (l : List Image). length (flat_map image_bytes l)) same);
      small = omega (arith, ap (λ (l : List Image). length l) same);
      short = subst (λ (l : List Image). AllByRecursion IsShortImage l) (sym same) c.requires.short;
    }
