use Rattle.std.proofs.Common.{◌≡◌, ◌++◌, length}
use Rattle.std.specs.List.{AllByRecursion, flat_map}
use Rattle.ode_paging.specs.Images.{FitsImage, IsShortImage, image_bytes, payload_of}
use Rattle.ode_paging.proofs.encode.frame_of.Given as goal

abbrev pub invariant-loop-page : goal.invariant-loop-page
invariant-loop-page l = record {
  so_far : l.frame.payload ++ flat_map image_bytes l.page-iterator ≡ payload_of l.images;
  spare : l.frame.spare ≡ length (flat_map image_bytes l.page-iterator);
  short : AllByRecursion IsShortImage l.page-iterator;
  fits : AllByRecursion FitsImage l.page-iterator → AllByRecursion FitsImage l.images;
}
