-- What a keeper of pages holds behind a commit.
use Rattle.std.proofs.Common.{◌≡◌, inl, ℕ, List, [], ◌∷◌, Bor, Option, Some, None, sym, ap, subst, ◌∙◌}
use Rattle.std.specs.List.{AllByRecursion, slice_get}
use Rattle.std.specs.Option.{IfSome, option_copied}
use Rattle.ode_host.proofs.Moments.{looks_on, started}
use Rattle.ode_host.specs.Host.{LeavesOnly, Looks, Stands}
use Rattle.ode_host.specs.View.{View}
use Rattle.ode_keep.specs.Entries.{Changes, Entries, applied}
use Rattle.ode_keep.specs.Keeping.{LeavesOldOrNew}
use Rattle.ode_paging.specs.declared.opening.Opened.{Opened}
use Rattle.ode_paging.specs.Images.{Image}
use Rattle.ode_paging.specs.Meaning.{PagesMeanIn}
use Rattle.ode_paging.specs.Gathering.{gathered}
use Rattle.ode_paging.specs.Standing.{HasPage}
use Rattle.ode_pagemap.specs.declared.checkpoint.Checkpoint.{Checkpoint}
use Rattle.ode_pagemap.specs.declared.map.PageMap.{PageMap}
use Rattle.ode_pagemap.specs.Holding.{PagesHold}
use Rattle.ode_pagemap.specs.declared.ready.Ready.{Ready}
use Rattle.ode_pagemap.specs.Ready.{IsReady, Knows}
use Rattle.ode_pagemap.specs.Steps.{IsOf, StandUnder, images_after}
use Rattle.ode_pagemap.proofs.Framing.{journal_stands}
use Rattle.ode_pagemap.proofs.Under.{page_there}

-- a host that is looked at leaves the records that stand
pub looked : (format : ℕ) (file : List ℕ) (old new : View) (entries : Entries) (changes : Changes) → ((c o : List ℕ) → old.left old.moment c o → old.text ≡ Some o)
    → Stands file old → PagesMeanIn format file entries → Looks old new → LeavesOnly old new (LeavesOldOrNew (PagesMeanIn format) entries changes old)
looked format file old new entries changes text_stands stands means looks =
    looks_on old old new (LeavesOldOrNew (PagesMeanIn format) entries changes old) (started old (LeavesOldOrNew (PagesMeanIn format) entries changes old))
    (λ c o left. record { whole = inl (subst (λ (l : List ℕ). PagesMeanIn format l entries) (sym (stands.only c o left)) means); text = text_stands c o left })
    looks

each : {A : Type 0} (P Q : A → Type 0) (l : List A) → AllByRecursion P l → ((x : A) → P x → Q x) → AllByRecursion Q l
each P Q [] all so = tt
each P Q (x ∷ l) all so = (so x all.0, each P Q l all.1 so)

-- what is to know doesn't change where the journal and the header do
pub knows_still : (keeper now : PageMap) (images : List Image) (pages : List Entries) (entries : Entries) → now.opened ≡ record keeper.opened { journal = now.opened.journal }
    → now.cache.pages.entries ≡ keeper.cache.pages.entries → Knows keeper images pages entries → Knows now images pages entries
knows_still keeper now images pages entries is same knows = record {
  images_are = ap (λ (o : Opened). o.images) is ∙ knows.images_are;
  count = ap (λ (o : Opened). o.count) is ∙ knows.count;
  leads = ap (λ (o : Opened). o.index) is ∙ knows.leads;
  map = knows.map;
  bytes = ap (λ (o : Opened). o.bytes) is ∙ knows.bytes;
  queued = ap (λ (o : Opened). o.queued) is ∙ knows.queued;
  cached = subst (λ (l : List (ℕ × Entries)). AllByRecursion (λ e. slice_get pages e.0 ≡ Some e.1) l) (sym same) knows.cached;
}

-- pages that stand on the disk, and of which this is known, are held
pub holds_of : (keeper : PageMap) (images : List Image) (pages : List Entries) (entries : Entries) (view : View)
    → StandUnder keeper.header keeper.opened.journal images pages view → Knows keeper images pages entries → PagesHold keeper view entries
holds_of keeper images pages entries view stand knows =
    let has = stand.has in
    let there = each (λ (e : ℕ × Entries). slice_get pages e.0 ≡ Some e.1) (λ (e : ℕ × Entries). HasPage keeper.header images stand.file e.0 e.1) keeper.cache.pages.entries knows.cached
    (λ e here. page_there keeper.header keeper.opened.journal images pages stand.file has e.0 e.1 here) in
    record {
      file = stand.file;
      counts = stand.counts;
      pages = has.form;
      opens = record {
        has = record { images = images; over = has.over; pages = pages; count = has.count; each = has.each; apart = has.apart; map = knows.map };
        images = knows.images_are;
        journal = has.gate;
        count = knows.count;
        leads = knows.leads;
        bytes = knows.bytes;
        queued = knows.queued;
      };
      journal = journal_stands keeper.header keeper.opened.journal images pages view stand;
      cached = subst (λ (l : List Image). AllByRecursion (λ (e : ℕ × Entries). HasPage keeper.header l stand.file e.0 e.1) keeper.cache.pages.entries) (sym knows.images_are) there;
    }

if_lent : {A : Type 0} (lent : Option (Bor A)) (P : A → Type 0) → IfSome (option_copied lent) P → IfSome lent (λ x. P x.now)
if_lent None P some = tt
if_lent (Some x) P some = some

-- a commit that is ready, and the checkpoint that its writes are given
module _ (keeper : PageMap) (view : View) (changes : Changes) (entries : Entries) (ready : Ready) (is : IsReady keeper view changes entries ready)
    (lent : Option (Bor Checkpoint)) (same : option_copied lent ≡ ready.due) where
  pub of_lent : IfSome lent (λ c. IsOf is.images is.pages c.now)
  of_lent = if_lent lent (λ c. IsOf is.images is.pages c) (subst (λ (o : Option Checkpoint). IfSome o (λ c. IsOf is.images is.pages c)) (sym same) is.of)

  -- behind the writes the changes are held
  pub holds_behind : (now : PageMap) (new : View) → now.opened ≡ record keeper.opened { journal = now.opened.journal } → now.cache.pages.entries ≡ keeper.cache.pages.entries
      → StandUnder now.header now.opened.journal (images_after (option_copied lent) is.over is.images) is.later new → PagesHold now new (applied changes entries)
  holds_behind now new opened cache stand =
      let images = images_after ready.due is.over is.images in
      holds_of now images is.later (applied changes entries) new
      (subst (λ (due : Option Checkpoint). StandUnder now.header now.opened.journal (images_after due is.over is.images) is.later new) same stand)
      (knows_still keeper now images is.later (applied changes entries) opened cache is.knows)

  -- and what a stop leaves on the way is said of the records
  pub left_on : (format : ℕ) (new : View) → LeavesOnly view new (LeavesOldOrNew (PagesMeanIn format) (gathered [] is.pages) changes view) → LeavesOnly view new (LeavesOldOrNew (PagesMeanIn format) entries changes view)
  left_on format new leaves = subst (λ (l : Entries). LeavesOnly view new (LeavesOldOrNew (PagesMeanIn format) l changes view)) (sym is.map) leaves
