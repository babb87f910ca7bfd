-- Of the images that some bytes begin with there is one at most.
use Rattle.std.proofs.Common.{◌≡◌, ◌<◌, ◌^◌, ℕ, List, [], ◌++◌, length, take, drop, refl, sym, ap, ◌∙◌, arith}
use Rattle.std.specs.Int.{w16, w32}
use Rattle.std.specs.Ordering.{nat_cmp}
use Rattle.std.proofs.lemmas.List.{take_at, drop_at}
use Rattle.std.proofs.lemmas.Nat.{from_be_bytes-to_be_bytes_2, from_be_bytes-to_be_bytes_4}
use Rattle.ode_host.specs.Fields.{number_at}
use Rattle.ode_keep.proofs.Counted.{one_counted}
use Rattle.ode_paging.specs.Images.{FitsImage, Image, IsPayload, image_bytes}
use Rattle.ode_paging.specs.declared.image.TheConstants.{IMAGE_HEAD}

page_first : (i : Image) (rest : List ℕ) → FitsImage i → number_at w32 (image_bytes i ++ rest) 0 ≡ i.0
page_first i rest fits = from_be_bytes-to_be_bytes_4 i.0 fits.page

length_first : (i : Image) (rest : List ℕ) → FitsImage i → number_at w16 (image_bytes i ++ rest) 4 ≡ length i.1
length_first i rest fits = let small : length i.1 < 2 ^ 16 = omega (arith, fits.used) in from_be_bytes-to_be_bytes_2 (length i.1) small

pub same_image_first : (i j : Image) (rest more : List ℕ) → FitsImage i → FitsImage j → image_bytes i ++ rest ≡ image_bytes j ++ more → (i ≡ j) × (rest ≡ more)
same_image_first i j rest more fits_i fits_j same =
    let pages : i.0 ≡ j.0 = sym (page_first i rest fits_i) ∙ ap (λ (bs : List ℕ). number_at w32 bs 0) same ∙ page_first j more fits_j in
    let long : length i.1 ≡ length j.1 = sym (length_first i rest fits_i) ∙ ap (λ (bs : List ℕ). number_at w16 bs 4) same ∙ length_first j more fits_j in
    let behind : i.1 ++ rest ≡ j.1 ++ more = ap (drop IMAGE_HEAD) same in
    let used : i.1 ≡ j.1 = sym (take_at i.1 rest (length i.1) refl) ∙ ap (take (length i.1)) behind ∙ take_at j.1 more (length i.1) (sym long) in
    let rests : rest ≡ more = sym (drop_at i.1 rest (length i.1) refl) ∙ ap (drop (length i.1)) behind ∙ drop_at j.1 more (length i.1) (sym long) in
    (λ k. (pages k, used k), rests)

pub image_some : (i : Image) (rest : List ℕ) → [] ≡ image_bytes i ++ rest → ⊥
image_some i rest same = absurd (omega (arith, ap length same))

-- a payload spells one list of images
pub one_payload : (a b : List Image) (payload : List ℕ) → IsPayload a payload → IsPayload b payload → a ≡ b
one_payload = one_counted image_bytes FitsImage nat_cmp same_image_first image_some
