-- A page in the place of another, and a key that leads elsewhere.
use Rattle.std.specs.Prelude.{◌≡◌, ◌⊎◌, ℕ, zero, suc, List, [], ◌∷◌, Option, Some, None}
use Rattle.std.specs.BTreeMap.{insert_entry, is_at}
use Rattle.std.specs.List.{AllByRecursion}
use Rattle.std.specs.Map.{lookup, remove_entry}
use Rattle.ode_value.specs.declared.key.Key.{Key}
use Rattle.ode_value.specs.Keys.{key_cmp}
use Rattle.ode_keep.specs.Entries.{Entries, HasRisingKeys, changed}
use Rattle.ode_paging.specs.Gathering.{HaveNewKeys, gathered}
use Rattle.ode_paging.specs.Indexing.{Leads, indexed}

-- the entries of the page of this number, and none where there is no such page
abbrev pub page_at : List Entries → ℕ → Entries
page_at [] page = []
page_at (es ∷ pages) zero = es
page_at (es ∷ pages) (suc page) = page_at pages page

-- the pages, once these are the entries of the page of this number; it is a new one where there was none
abbrev pub with_page : List Entries → ℕ → Entries → List Entries
with_page [] page es = es ∷ []
with_page (p ∷ pages) zero es = es ∷ pages
with_page (p ∷ pages) (suc page) es = p ∷ with_page pages page es

-- and once a value stands under a key in that page, or none does
abbrev pub page_changed : List Entries → ℕ → Key → Option (List ℕ) → List Entries
page_changed pages page k value = with_page pages page (changed (page_at pages page) k value)

-- a page, where it has a value
abbrev pub page_with : ℕ → Option (List ℕ) → Option ℕ
page_with page None = None
page_with page (Some v) = Some page

-- the key leads to this page from then on, or to none
abbrev pub pointed : Leads → Key → Option ℕ → Leads
pointed leads k None = remove_entry (is_at (key_cmp k)) leads
pointed leads k (Some page) = insert_entry key_cmp leads k page

-- the key leads to this page, or to none
abbrev pub LeadsOnlyTo : Leads → Key → ℕ → Type 0
LeadsOnlyTo leads k page = (lookup (is_at (key_cmp k)) leads ≡ None) ⊎ (lookup (is_at (key_cmp k)) leads ≡ Some page)

-- in each page the keys rise, and none of them stands in two
pub record ArePages (pages : List Entries) : Type 0 where
  pub rising : AllByRecursion (λ (es : Entries). HasRisingKeys es) pages
  pub apart : HaveNewKeys [] pages

-- of the pages this one was changed, and so were all entries and where their keys lead
pub record IsReplaced (pages after : List Entries) (k : Key) (value : Option (List ℕ)) (page : ℕ) : Type 0 where
  pub entries : gathered [] after ≡ changed (gathered [] pages) k value
  pub leads : indexed 0 [] after ≡ pointed (indexed 0 [] pages) k (page_with page value)
  pub are : ArePages after
