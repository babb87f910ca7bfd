-- How long the frame of pages is, and what it spells.
use Rattle.std.proofs.Common.{◌≡◌, ◌<◌, ◌≤◌, ◌^◌, ◌+◌, ◌*◌, ℕ, List, [], ◌∷◌, ◌++◌, Err, Ok, Option, None, Result, Some, length, refl, sym, ap, ◌∙◌, arith, length-append}
use Rattle.std.proofs.lemmas.List.Concat.{flat_map-append}
use Rattle.std.specs.Int.{w32, to_be_bytes}
use Rattle.std.specs.List.{flat_map}
use Rattle.std.specs.Option.{IfNone, IfSome}
use Rattle.std.specs.Prelude.{IfOk}
use Rattle.ode_gate.specs.declared.places.TheConstants.{REGION_LEN}
use Rattle.ode_journal.specs.declared.frame.TheConstants.{FRAME_BYTES}
use Rattle.ode_keep.specs.Entries.{Entries}
use Rattle.ode_keep.specs.declared.spelling.TheConstants.{COUNT_LEN}
use Rattle.ode_keep.proofs.Lengths.{keys_count, length-snapshot}
use Rattle.ode_paging.specs.Images.{image_bytes}
use Rattle.ode_value.specs.Records.{row_bytes, snapshot}
use Rattle.ode_cutting.specs.Cutting.{AreImagesOf, FitFrame, SpellsPagesOf, all_entries, image_with, images_with}
use Rattle.ode_cutting.specs.declared.cutting.Pages.{Pages}

-- the images of pages are as many as these
pub images_count : (from : ℕ) (pages : List Entries) → length (images_with from pages) ≡ length pages
images_count from [] = refl
images_count from (es ∷ pages) = omega (arith, images_count (from + 1) pages)

image_length : (page : ℕ) (es : Entries) → length (image_bytes (image_with page es)) ≡ 8 + length (snapshot es)
image_length page es = omega arith

-- each image takes eight bytes more than its records
images_length : (from : ℕ) (pages : List Entries) → length (flat_map image_bytes (images_with from pages)) ≡ 8 * length pages + length (snapshot (all_entries pages))
images_length from [] = refl
images_length from (es ∷ pages) =
    omega (
      arith,
      images_length (from + 1) pages,
      length-append (image_bytes (image_with from es)) (flat_map image_bytes (images_with (from + 1) pages)),
      image_length from es,
      ap length (flat_map-append row_bytes es (all_entries pages)),
      length-append (snapshot es) (snapshot (all_entries pages)),
    )

-- the images of so few records fit a region
pub fit_region : (entries : Entries) (it : Pages) → AreImagesOf entries it → FitFrame entries → COUNT_LEN + length it.images.items + FRAME_BYTES ≤ REGION_LEN
fit_region entries it are fit =
    omega (
      arith,
      fit.within,
      are.few,
      ap length are.images,
      images_length 0 are.pages,
      ap (λ (l : Entries). length (snapshot l)) are.cut.all,
      length-snapshot entries,
      keys_count entries,
    )

-- their number, and they themselves, are the payload
pub cut_as : (entries : Entries) (it : Pages) (payload : List ℕ) → it.count < 2 ^ 32 → AreImagesOf entries it → payload ≡ to_be_bytes w32 it.count ++ it.images.items → SpellsPagesOf entries payload
cut_as entries it payload few are is = record {
  pages = are.pages;
  cut = are.cut;
  spelled =
      is ∙ ap (λ (l : List ℕ). to_be_bytes w32 it.count ++ l) are.images
      ∙ ap (λ (n : ℕ). to_be_bytes w32 n ++ flat_map image_bytes (images_with 0 are.pages)) (are.count ∙ sym (images_count 0 are.pages));
  few = omega (arith, few, are.count);
}

-- what holds of a frame that is answered, and where none is, by what else holds there
pub if_framed : {F E : Type 0} {P Q : F → Type 0} (r : Result (Option F) E) → IfOk r (λ found. IfSome found P) → ((f : F) → P f → Q f) → IfOk r (λ found. IfSome found Q)
if_framed (Ok None) all so = tt
if_framed (Ok (Some f)) all so = so f all
if_framed (Err e) all so = tt

pub if_unframed : {F E : Type 0} {P Q : Type 0} (r : Result (Option F) E) → IfOk r (λ found. IfNone found P) → (P → Q) → IfOk r (λ found. IfNone found Q)
if_unframed (Ok None) all so = so all
if_unframed (Ok (Some f)) all so = tt
if_unframed (Err e) all so = tt
