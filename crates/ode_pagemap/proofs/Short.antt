-- The images of a journal are no longer than a page.
use Rattle.std.proofs.Common.{◌≤◌, ℕ, List, [], ◌∷◌, length, sym, subst}
use Rattle.std.specs.BTreeMap.{insert_entry}
use Rattle.std.specs.List.{AllByRecursion}
use Rattle.std.specs.Ordering.{match_ordering, nat_cmp}
use Rattle.std.specs.declared.cmp.Ordering.{Ordering}
use Rattle.std.specs.declared.cmp.Ordering.TheVariants.{Less, Equal, Greater}
use Rattle.ode_gate.specs.declared.header.Header.{Header}
use Rattle.ode_gate.specs.declared.places.TheConstants.{PAGE_LEN}
use Rattle.ode_journal.specs.Histories.{ArePayloads, in_turn}
use Rattle.ode_paging.specs.Images.{FitsImage, Image, IsPayload, IsShortImage}
use Rattle.ode_paging.specs.Meaning.{HasImages}
use Rattle.ode_paging.specs.Overlays.{laid}

put_at : (page : ℕ) (used : List ℕ) (i : Image) (images rest : List Image) → length used ≤ PAGE_LEN → AllByRecursion IsShortImage (i ∷ images) → AllByRecursion IsShortImage rest → (r : Ordering)
    → AllByRecursion IsShortImage (match_ordering r ((page, used) ∷ i ∷ images) ((i.0, used) ∷ images) (i ∷ rest))
put_at page used i images rest short all more Less = (short, all)
put_at page used i images rest short all more Equal = (short, all.1)
put_at page used i images rest short all more Greater = (all.0, more)

put : (page : ℕ) (used : List ℕ) (images : List Image) → length used ≤ PAGE_LEN → AllByRecursion IsShortImage images → AllByRecursion IsShortImage (insert_entry nat_cmp images page used)
put page used [] short all = (short, tt)
put page used (i ∷ images) short all = put_at page used i images (insert_entry nat_cmp images page used) short all (put page used images short all.1) (nat_cmp page i.0)

short_laid : (over images : List Image) → AllByRecursion FitsImage over → AllByRecursion IsShortImage images → AllByRecursion IsShortImage (laid over images)
short_laid [] images each all = all
short_laid (i ∷ over) images each all = short_laid over (insert_entry nat_cmp images i.0 i.1) each.1 (put i.0 i.1 images each.0.used all)

short_all : (overlays : List (List Image)) (frames : List (List ℕ)) (images : List Image) → ArePayloads IsPayload overlays frames → AllByRecursion IsShortImage images → AllByRecursion IsShortImage (in_turn laid overlays images)
short_all [] [] images are all = all
short_all [] (f ∷ frames) images are all = absurd are
short_all (over ∷ overlays) [] images are all = absurd are
short_all (over ∷ overlays) (f ∷ frames) images are all = short_all overlays frames (laid over images) are.1 (short_laid over images are.0.each all)

pub short_images : (header : Header) (file : List ℕ) (images : List Image) → HasImages header file images → AllByRecursion IsShortImage images
short_images header file images has = subst (λ (l : List Image). AllByRecursion IsShortImage l) (sym has.laid) (short_all has.overlays has.frames [] has.payloads tt)
