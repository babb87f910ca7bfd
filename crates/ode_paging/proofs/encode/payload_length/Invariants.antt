use Rattle.std.proofs.Common.{◌≡◌, ◌≤◌, ◌+◌, ◌*◌, length}
use Rattle.std.specs.List.{AllByRecursion, flat_map}
use Rattle.ode_gate.specs.declared.places.TheConstants.{PAGE_LEN}
use Rattle.ode_keep.specs.declared.spelling.TheConstants.{COUNT_LEN}
use Rattle.ode_paging.specs.Images.{IsShortImage, image_bytes, payload_of}
use Rattle.ode_paging.specs.declared.image.TheConstants.{IMAGE_HEAD}
use Rattle.ode_paging.proofs.encode.payload_length.Given as goal

abbrev pub invariant-loop-used : goal.invariant-loop-used
invariant-loop-used l = record {
  exact : l.length + length (flat_map image_bytes l.used-iterator) ≡ length (payload_of l.images);
  small : l.length + (IMAGE_HEAD + PAGE_LEN) * length l.used-iterator ≤ COUNT_LEN + (IMAGE_HEAD + PAGE_LEN) * length l.images;
  short : AllByRecursion IsShortImage l.used-iterator;
}
