-- The records of a file of either layout fit their fields.
use Rattle.std.proofs.Common.{ℕ, ◌+◌, inl, inr, List, [], ◌∷◌, Some, subst, sym}
use Rattle.std.specs.List.{AllByRecursion}
use Rattle.ode_areas.proofs.Fitting as of_areas
use Rattle.ode_gate.specs.declared.header.Header.{Header}
use Rattle.ode_keep.specs.Entries.{Entries, changed}
use Rattle.ode_keep.specs.Snapshots.{FitsRow}
use Rattle.ode_keeper.specs.Files.{HasMap}
use Rattle.ode_paging.specs.Gathering.{gathered, joined}
use Rattle.ode_paging.specs.Images.{Image}
use Rattle.ode_paging.specs.Standing.{HavePages}

abbrev AllFit : Entries → Type 0
AllFit entries = AllByRecursion FitsRow entries

joined_fits : (entries page : Entries) → AllFit entries → AllFit page → AllFit (joined entries page)
joined_fits entries [] all more = all
joined_fits entries (e ∷ page) all more =
    let one : AllFit (changed entries e.0 (Some e.1))
    = of_areas.rows_changed entries e.0 (Some e.1) (record { key = more.0.key; value = more.0.value }) all in
    joined_fits (changed entries e.0 (Some e.1)) page one more.1

gathered_fits : (header : Header) (images : List Image) (file : List ℕ) (page : ℕ) (entries : Entries) (pages : List Entries) → HavePages header images file page pages → AllFit entries
    → AllFit (gathered entries pages)
gathered_fits header images file page entries [] have all = all
gathered_fits header images file page entries (p ∷ pages) have all =
    gathered_fits header images file (page + 1) (joined entries p) pages have.1 (joined_fits entries p all have.0.form.fits.rows)

pub map_fits : (header : Header) (file : List ℕ) (entries : Entries) → HasMap header file entries → AllByRecursion FitsRow entries
map_fits header file entries (inl x) = (of_areas.map_fits header file entries x.1).rows
map_fits header file entries (inr x) =
    subst (λ (l : Entries). AllByRecursion FitsRow l) (sym x.1.map) (gathered_fits header x.1.images file 0 [] x.1.pages x.1.each tt)
