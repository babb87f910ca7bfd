-- What stands for records under a header that counts, and that a keeper holds the records of one map alone.
use Rattle.std.proofs.Common.{◌≡◌, ◌∙◌, ⊎_elim, inl, inr, ℕ, List, Some, ap, subst, sym}
use Rattle.ode_gate.specs.Slots.{Counts}
use Rattle.ode_gate.specs.declared.header.Header.{Header}
use Rattle.ode_gate.specs.declared.places.TheConstants.{FORMAT}
use Rattle.ode_gate.proofs.Counting.{one_counts}
use Rattle.ode_host.specs.Host.{Stands, Tells}
use Rattle.ode_host.specs.View.{View}
use Rattle.ode_keep.specs.Entries.{Changes, Entries, applied}
use Rattle.ode_keep.specs.Keeping.{LeavesOldOrNew}
use Rattle.ode_keeper.specs.Files.{FileMeans, HasMap}
use Rattle.ode_keeper.specs.Holding.{HoldsLast, KeeperHolds}
use Rattle.ode_keeper.specs.Laws.{stands_law}
use Rattle.ode_keeper.specs.OneMap.{never_two, one_map}
use Rattle.ode_keeper.specs.declared.keeper.Keeper.{Keeper}
use Rattle.ode_keeper.specs.declared.keeper.Keeper.TheVariants.{Areas, Pages}
use Rattle.ode_paging.specs.Meaning.{PagesMeanIn}

-- an image stands for the records that it has under the header that counts
pub means_map : (header : Header) (image : List ℕ) (entries : Entries) → Counts image header → HasMap header image entries → FileMeans image entries
means_map header image entries counts (inl x) = inl (record { header = header; counts = counts; areas = x.0; has = x.1 })
means_map header image entries counts (inr x) = inr (record { header = header; counts = counts; pages = x.0; has = x.1 })

-- and has what it stands for under that header
pub meant_map : (image : List ℕ) (entries : Entries) → FileMeans image entries → (header : Header) × Counts image header × HasMap header image entries
meant_map image entries (inl a) = (a.header, a.counts, inl (a.areas, a.has))
meant_map image entries (inr a) = (a.header, a.counts, inr (a.pages, a.has))

one_file : (view : View) (file other : List ℕ) → Tells view file → Tells view other → file ≡ other
one_file view file other first second = let both : Some file ≡ Some other = sym first.image ∙ second.image in cc (both)

-- what a keeper holds is one map
pub one_held : (keeper : Keeper) (view : View) (entries others : Entries) → KeeperHolds keeper view entries → KeeperHolds keeper view others → entries ≡ others
one_held keeper view entries others first second =
    let a = stands_law keeper view entries first in
    let b = stands_law keeper view others second in
    one_map b.0 entries others (subst (λ (file : List ℕ). FileMeans file entries) (one_file view a.0 b.0 a.1.tells b.1.tells) a.2) b.2

-- over a file of the last format they stand in pages
pub held_last : (image : List ℕ) (own : Entries) → PagesMeanIn FORMAT image own → (keeper : Keeper) (view : View) (entries : Entries) → Stands image view → KeeperHolds keeper view entries
    → HoldsLast keeper view entries
held_last image own is (Areas keeper) view entries stands h =
    let same : h.file ≡ image = one_file view h.file image h.journal.stands.tells stands.tells in
    absurd (never_two image keeper.header is.means.header (subst (λ (file : List ℕ). Counts file keeper.header) same h.counts) is.means.counts h.areas is.means.pages)
held_last image own is (Pages keeper) view entries stands h =
    let same : h.file ≡ image = one_file view h.file image h.journal.stands.tells stands.tells in
    let under : keeper.header ≡ is.means.header
    = one_counts image keeper.header is.means.header (subst (λ (file : List ℕ). Counts file keeper.header) same h.counts) is.means.counts in
    record { hold = h; last = ap (λ (k : Header). k.format) under ∙ is.is }

-- pages of whatever format are an image's records
pub pages_left : (format : ℕ) (entries : Entries) (changes : Changes) (old : View) (c o : List ℕ) → LeavesOldOrNew (PagesMeanIn format) entries changes old c o
    → LeavesOldOrNew FileMeans entries changes old c o
pages_left format entries changes old c o left = record {
  whole = ⊎_elim
      (λ (was : PagesMeanIn format c entries). inl (inr was.means))
      (λ (now : PagesMeanIn format c (applied changes entries)). inr (inr now.means))
      left.whole;
  text = left.text;
}
