-- The header of a file of pages is changed to the last format.
use Rattle.std.proofs.Common.{◌≡◌, ◌+◌, inr, ⊎_elim, ℕ, List, [], refl, arith}
use Rattle.ode_gate.specs.Changes.{IsChanged, IsSameBehind, LeavesHeader, MayReplace}
use Rattle.ode_gate.specs.declared.header.Header.{Header}
use Rattle.ode_gate.specs.Headers.{IsOfPages}
use Rattle.ode_gate.specs.Slots.{Counts}
use Rattle.ode_host.specs.Host.{Stands}
use Rattle.ode_host.specs.View.{View}
use Rattle.ode_journal.specs.declared.journal.Journal.{Journal}
use Rattle.ode_journal.specs.Frames.{gate_behind}
use Rattle.ode_keep.specs.Entries.{Entries}
use Rattle.ode_paging.specs.Gathering.{gathered}
use Rattle.ode_paging.specs.Images.{Image}
use Rattle.ode_paging.specs.Meaning.{HasMap, PagesMean}
use Rattle.ode_paging.specs.Standing.{HasPage}
use Rattle.ode_pagemap.specs.Steps.{StandIn}
use Rattle.ode_pagemap.proofs.Alikes.{alike, alike_behind, gate_from, gate_within, page_among, pages_among}
use Rattle.ode_migrate.specs.Migrating.{IsMigratedTo, LeavesRecords, renewed}
use Rattle.ode_migrate.proofs.Beside.{is_beside, renewed_form, renewed_rules}

-- the entries of pages that a file has under a header
pub map_of : (header : Header) (place : Journal) (images : List Image) (pages : List Entries) (file : List ℕ) (entries : Entries) → StandIn header place images pages file → entries ≡ gathered [] pages
    → HasMap header file entries
map_of header place images pages file entries has is = record { images = images; over = has.over; pages = pages; count = has.count; each = has.each; apart = has.apart; map = is }

module _ (older : Header) (form : IsOfPages older) (file : List ℕ) (entries : Entries) (counts : Counts file older) (has : HasMap older file entries) where
  abbrev place : Journal
  place = record { at = gate_behind older.journal_at has.over.frames; end = older.journal_end }

  stand : StandIn older place has.images has.pages file
  stand = record { form = form; over = has.over; gate = refl; count = has.count; each = has.each; apart = has.apart }

  page_still : (n : ℕ) (es : Entries) → HasPage older has.images file n es → HasPage (renewed older) has.images file n es
  page_still n es is = record { bytes = is.bytes; stands = is.stands; form = is.form }

  stand_new : StandIn (renewed older) place has.images has.pages file
  stand_new = record {
    form = renewed_form older form;
    over = record { frames = has.over.frames; journal = has.over.journal; overlays = has.over.overlays; payloads = has.over.payloads; laid = has.over.laid };
    gate = refl;
    count = has.count;
    each = pages_among (renewed older) has.images file 0 has.pages (λ n es here. page_still (0 + n) es (page_among older has.images file 0 has.pages n es has.each here));
    apart = has.apart;
  }

  pub may_replace : MayReplace file older (renewed older)
  may_replace = record {
    long = omega (arith, form.region, gate_from older place has.images has.pages file stand, gate_within older place has.images has.pages file stand);
    counts = counts;
    rules = renewed_rules older form;
    beside = is_beside older.slot;
    next = refl;
  }

  old_still : (c : List ℕ) → IsSameBehind file c → HasMap older c entries
  old_still c same =
      map_of older place has.images has.pages c entries (alike older place has.images has.pages file stand c (alike_behind older place.at has.images file c form same)) has.map

  new_still : (c : List ℕ) → IsSameBehind file c → HasMap (renewed older) c entries
  new_still c same =
      map_of (renewed older) place has.images has.pages c entries
      (alike (renewed older) place has.images has.pages file stand_new c (alike_behind (renewed older) place.at has.images file c (renewed_form older form) same)) has.map

  -- while the header is changed either counts, and both have the same records
  pub change_leaves : (old : View) (c o : List ℕ) → LeavesHeader file older (renewed older) old c o → LeavesRecords entries old c o
  change_leaves old c o left = record {
    means = ⊎_elim
        (λ (was : Counts c older). let m : PagesMean c entries = record { header = older; counts = was; pages = form; has = old_still c left.same } in inr m)
        (λ (now : Counts c (renewed older)).
        let m : PagesMean c entries = record { header = renewed older; counts = now; pages = renewed_form older form; has = new_still c left.same } in
        inr m)
        left.counts;
    text = left.text;
  }

  pub changed_to : (view : View) (c : List ℕ) → Stands c view → IsChanged file (renewed older) c → IsMigratedTo entries view
  changed_to view c stands changed = record {
    image = c;
    stands = stands;
    migrated = record {
      means = record { header = renewed older; counts = changed.counts; pages = renewed_form older form; has = new_still c changed.same };
      is = refl;
    };
  }
