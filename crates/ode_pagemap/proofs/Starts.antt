-- What a keeper has that was started.
use Rattle.std.proofs.Common.{◌≡◌, inl, inr, ⊎_elim, ℕ, List, [], Err, refl, sym, ap, subst}
use Rattle.std.specs.Prelude.{◌⊎◌}
use Rattle.std.specs.List.{AllByRecursion}
use Rattle.ode_gate.specs.Headers.{IsOfPages}
use Rattle.ode_gate.specs.Slots.{Counts}
use Rattle.ode_host.specs.Host.{Stands}
use Rattle.ode_host.specs.View.{View}
use Rattle.ode_journal.specs.declared.journal.Journal.{Journal}
use Rattle.ode_journal.specs.Frames.{IsJournal}
use Rattle.ode_keep.specs.Entries.{Entries}
use Rattle.ode_keep.specs.declared.error.StartError.{StartError}
use Rattle.ode_keep.specs.declared.error.StartError.TheVariants.{Memory, DiskFault}
use Rattle.ode_paging.specs.Meaning.{HasMap}
use Rattle.ode_paging.specs.OneMap.{one_has}
use Rattle.ode_paging.specs.Opening.{OpensAs}
use Rattle.ode_paging.specs.Standing.{HasPage}
use Rattle.ode_keep.specs.Starting.{Refuses, Starts}
use Rattle.ode_pagemap.specs.declared.map.PageMap.{PageMap}
use Rattle.ode_pagemap.specs.Holding.{PagesHold}

pub holds_map : (keeper : PageMap) (file : List ℕ) (own entries : Entries) (view : View) → IsOfPages keeper.header → Stands file view → Counts file keeper.header
    → OpensAs keeper.header file keeper.opened own → keeper.cache.pages.entries ≡ [] → HasMap keeper.header file entries → PagesHold keeper view entries
holds_map keeper file own entries view pages stands counts opens empty has =
    let same : own ≡ entries = one_has keeper.header file own entries opens.has has in
    subst (λ (l : Entries). PagesHold keeper view l) same (record {
      file = file;
      counts = counts;
      pages = pages;
      opens = opens;
      journal = record {
        stands = stands;
        has = subst (λ (j : Journal). IsJournal keeper.header.journal_at j.end opens.has.over.frames file) (sym opens.journal) opens.has.over.journal;
        place = ap (λ (j : Journal). j.at) opens.journal;
      };
      cached = subst (λ (l : List (ℕ × Entries)). AllByRecursion (λ e. HasPage keeper.header keeper.opened.images file e.0 e.1) l) (sym empty) tt;
    })

from_outside : {T : Type 0} (e : StartError) → Starts {T = T} (Err e) → (e ≡ Memory) ⊎ (e ≡ DiskFault)
from_outside e h = ⊎_elim (λ ok. absurd (cc (ok))) (λ out. ⊎_elim (λ m. inl (cc (m))) (λ d. inr (cc (d))) out) h

module _ {T U : Type 0} (e : StartError) where
  -- an error says of one answer what it says of another
  pub same_starts : Starts {T = T} (Err e) → Starts {T = U} (Err e)
  same_starts h = ⊎_elim
      (λ (m : e ≡ Memory). subst (λ (x : StartError). Starts {T = U} (Err x)) (sym m) (inr (inl refl)))
      (λ (d : e ≡ DiskFault). subst (λ (x : StartError). Starts {T = U} (Err x)) (sym d) (inr (inr refl)))
      (from_outside e h)

  pub same_refuses : (x : StartError) → Refuses {T = T} (Err e) x → Refuses {T = U} (Err e) x
  same_refuses x h = ⊎_elim
      (λ is. let same : e ≡ x = cc (is) in inl (ap Err same))
      (λ out. inr (⊎_elim (λ m. let same : e ≡ Memory = cc (m) in inl (ap Err same)) (λ d. let same : e ≡ DiskFault = cc (d) in inr (ap Err same)) out))
      h
