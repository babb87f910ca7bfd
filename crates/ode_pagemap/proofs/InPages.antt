-- The value under a key is that in the page that the key leads to.
use Rattle.std.proofs.Common.{◌≡◌, ℕ, List, Option, Some, None, Err, nat_eq, ⊎_elim, sym, ap, subst, ◌∙◌}
use Rattle.std.specs.List.{AllByRecursion}
use Rattle.std.specs.Prelude.{Contains, IsSome}
use Rattle.std.specs.Cmp.{nat_eq_equiv}
use Rattle.std.specs.Map.{keys_of, lookup}
use Rattle.std.proofs.lemmas.Map.Views.{IsSome-lookup_from_Contains}
use Rattle.ode_host.proofs.Moments.{stands_looks}
use Rattle.ode_gate.specs.Headers.{IsOfPages}
use Rattle.ode_host.specs.Host.{Looks, Tells}
use Rattle.ode_host.specs.View.{View}
use Rattle.ode_value.specs.declared.key.Key.{Key}
use Rattle.ode_keep.specs.Entries.{Entries, value_under}
use Rattle.ode_keep.specs.Keeping.{OnDamaged}
use Rattle.ode_keep.specs.declared.error.KeepError.{KeepError}
use Rattle.ode_keep.specs.declared.error.KeepError.TheVariants.{Memory, DiskFault, TooLarge, Damaged}
use Rattle.ode_paging.specs.Indexing.{page_under}
use Rattle.ode_paging.specs.OneMap.{one_page}
use Rattle.ode_paging.specs.Standing.{HasPage, image_of}
use Rattle.ode_paging.proofs.Led.{opened_lacks, opened_leads}
use Rattle.ode_paging.proofs.Started.{opened_keys}
use Rattle.ode_pagemap.specs.declared.cache.Cache.{Cache}
use Rattle.ode_pagemap.specs.declared.map.PageMap.{PageMap}
use Rattle.ode_pagemap.specs.Holding.{PagesHold, held, index}
use Rattle.ode_pagemap.specs.Paged.{IsPaged}
use Rattle.ode_pagemap.specs.Reaching.{IsNear}
use Rattle.ode_pagemap.proofs.Caching.{all_found}

module _ (keeper : PageMap) (view : View) (entries : Entries) (h : PagesHold keeper view entries) where
  -- a page under its number stands in the file
  abbrev pub Stands : ℕ × Entries → Type 0
  Stands e = HasPage keeper.header keeper.opened.images h.file e.0 e.1

  -- so does one that is held
  pub held_stands : (number : ℕ) (page : Entries) → lookup (nat_eq number) keeper.cache.pages.entries ≡ Some page → Stands (number, page)
  held_stands number page found = all_found number Stands keeper.cache.pages.entries page h.cached found

  -- the keeper holds its records with other pages in memory
  pub holds_with : {form : IsPaged keeper.header} (cache : Cache) (now : View) → AllByRecursion Stands cache.pages.entries → Looks view now → PagesHold (record keeper { cache = cache; form = form }) now entries
  holds_with cache now cached looks = record {
    file = h.file;
    counts = h.counts;
    pages = h.pages;
    opens = h.opens;
    journal = record { stands = stands_looks h.file view now looks h.journal.stands; has = h.journal.has; place = h.journal.place };
    cached = cached;
  }

  -- the keys that lead to pages are those of the records
  pub same_keys : keys_of (index keeper) ≡ keys_of entries
  same_keys = opened_keys keeper.header h.file keeper.opened entries entries h.opens h.opens.has

  module _ (key : Key) where
    -- a key that leads nowhere has no value
    pub lacks : page_under (index keeper) key ≡ None → value_under entries key ≡ None
    lacks none = opened_lacks keeper.header h.file keeper.opened entries h.opens key none

    -- the page that a key leads to stands in the file
    pub stands_led : (number : ℕ) → page_under (index keeper) key ≡ Some number → (page : Entries) × Stands (number, page)
    stands_led number leads = let led = opened_leads keeper.header h.file keeper.opened entries h.opens key number leads in (led.entries, led.stands)

    module _ (number : ℕ) (leads : page_under (index keeper) key ≡ Some number) (page : Entries) (stands : Stands (number, page)) where
      same_value : value_under page key ≡ value_under entries key
      same_value =
          let led = opened_leads keeper.header h.file keeper.opened entries h.opens key number leads in
          let same : page ≡ led.entries = one_page keeper.header keeper.opened.images h.file number page led.entries stands led.stands in
          ap (λ (l : Entries). value_under l key) same ∙ led.here ∙ sym led.there

      -- the page's value is the one under the key
      pub right_value : (value : List ℕ) → value_under page key ≡ Some value → value_under entries key ≡ Some value
      right_value value found = sym same_value ∙ found

      -- and it has one
      pub not_without : value_under page key ≡ None → ⊥
      not_without none = let led = opened_leads keeper.header h.file keeper.opened entries h.opens key number leads in cc (led.there, none, same_value)

-- ---- a page in hand

-- a page under this number that stands in each file in which the keeper holds records
abbrev pub IsOwn : PageMap → View → ℕ → Entries → Type 0
IsOwn keeper view number page = (entries : Entries) (h : PagesHold keeper view entries) → HasPage keeper.header keeper.opened.images h.file number page

module _ (keeper : PageMap) (view : View) (number : ℕ) where
  pub own_held : (page : Entries) → Some page ≡ lookup (nat_eq number) keeper.cache.pages.entries → IsOwn keeper view number page
  own_held page found entries h = held_stands keeper view entries h number page (sym found)

  pub own_fetched : (page : Entries) → (IsOfPages keeper.header → (file : List ℕ) → Tells view file → HasPage keeper.header keeper.opened.images file number page) → IsOwn keeper view number page
  own_fetched page stands entries h = stands h.pages h.file h.journal.stands.tells

  -- where a page that isn't held is had by its image without a read, one that is in memory is
  pub near_unread : (F : Type 0) → None ≡ lookup (nat_eq number) keeper.cache.pages.entries → (IsSome (image_of keeper.opened.images number) → F) → IsNear keeper number → F
  near_unread F none by_image near = ⊎_elim
      (λ (is : Contains (held keeper) number).
      let some = IsSome-lookup_from_Contains nat_eq_equiv number keeper.cache.pages.entries is in
      absurd (cc (subst (λ (o : Option Entries). IsSome o) (sym none) some)))
      by_image near

  module _ (key : Key) (leads : page_under (index keeper) key ≡ Some number) where
    pub own_value : (page : Entries) → IsOwn keeper view number page → (value : List ℕ) → value_under page key ≡ Some value → (entries : Entries) → PagesHold keeper view entries → value_under entries key ≡ Some value
    own_value page own value found entries h = right_value keeper view entries h key number leads page (own entries h) value found

    pub own_lacks : (page : Entries) → IsOwn keeper view number page → value_under page key ≡ None → (entries : Entries) → PagesHold keeper view entries → ⊥
    own_lacks page own none entries h = not_without keeper view entries h key number leads page (own entries h) none

    pub none_fetched : (IsOfPages keeper.header → (file : List ℕ) (entries : Entries) → Tells view file → HasPage keeper.header keeper.opened.images file number entries → ⊥) → (entries : Entries) → PagesHold keeper view entries → ⊥
    none_fetched none entries h = let page = stands_led keeper view entries h key number leads in none h.pages h.file page.0 h.journal.stands.tells page.1

-- an error says of one answer what it says of another
pub damaged_as : (A B : Type 0) (e : KeepError) (P Q : Type 0) → (P → Q) → OnDamaged {A = A} (Err e) P → OnDamaged {A = B} (Err e) Q
damaged_as A B Memory P Q so on = tt
damaged_as A B DiskFault P Q so on = tt
damaged_as A B (TooLarge total) P Q so on = tt
damaged_as A B (Damaged page) P Q so on = so on
