-- Records that follow one another and stand in one page.
use Rattle.std.specs.Prelude.{◌≡◌, ◌⊎◌, ℕ, ◌∷◌, ◌++◌, map, nat_eq, Some}
use Rattle.std.specs.List.{AllByRecursion}
use Rattle.std.specs.Map.{lookup}
use Rattle.ode_value.specs.declared.key.Key.{Key}
use Rattle.ode_keep.specs.Entries.{Entries, value_under}
use Rattle.ode_paging.specs.Indexing.{Leads, leads_from}
use Rattle.ode_pagemap.specs.Holding.{index}
use Rattle.ode_pagemap.specs.declared.map.PageMap.{PageMap}

-- To some rows those were added whose keys the first of these leads lead to a page of this number: each with the value that
-- the page has. The leads behind those are left.
pub record Runs (number : ℕ) (page : Entries) (leads : Leads) (old new : Entries) (rest : Leads) : Type 0 where
  pub more : Entries
  pub rows : new ≡ old ++ more
  pub leads_are : leads ≡ map (λ e. (e.0, number)) more ++ rest
  pub values : AllByRecursion (λ e. value_under page e.0 ≡ Some e.1) more

-- such rows were added for the leads behind the first one from a key on, out of a page that is held
pub record RunsOn (keeper : PageMap) (key : Key) (number : ℕ) (old new : Entries) : Type 0 where
  pub page : Entries
  pub held : lookup (nat_eq number) keeper.cache.pages.entries ≡ Some page
  pub first : Key × ℕ
  pub behind : Leads
  pub range : leads_from (index keeper) key ≡ first ∷ behind
  pub rest : Leads
  pub run : Runs number page behind old new rest

-- they were, or no rows
abbrev pub MayRunOn : PageMap → Key → ℕ → Entries → Entries → Type 0
MayRunOn keeper key number old new = (new ≡ old) ⊎ RunsOn keeper key number old new
