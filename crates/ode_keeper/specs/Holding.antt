-- What a keeper of either layout holds on a host.
use Rattle.std.specs.Prelude.{ℕ, Bool}
use Rattle.ode_areas.specs.Holding as of_areas
use Rattle.ode_host.specs.View.{View}
use Rattle.ode_keep.specs.Entries.{Entries}
use Rattle.ode_keeper.specs.declared.keeper.Keeper.{Keeper}
use Rattle.ode_keeper.specs.declared.keeper.Keeper.TheVariants.{Areas, Pages}
use Rattle.ode_pagemap.specs.Holding as of_pages

-- whether the disk never failed it
abbrev pub is_live : Keeper → Bool
is_live (Areas keeper) = of_areas.is_live keeper
is_live (Pages keeper) = of_pages.is_live keeper

-- how many bytes its records may have
abbrev pub most : Keeper → ℕ
most (Areas keeper) = of_areas.most keeper
most (Pages keeper) = of_pages.most keeper

-- it holds these records, as a keeper of its layout does
abbrev pub KeeperHolds : Keeper → View → Entries → Type 0
KeeperHolds (Areas keeper) view entries = of_areas.AreasHold keeper view entries
KeeperHolds (Pages keeper) view entries = of_pages.PagesHold keeper view entries

-- it holds them in pages of the last format
abbrev pub HoldsLast : Keeper → View → Entries → Type 0
HoldsLast (Areas keeper) view entries = ⊥
HoldsLast (Pages keeper) view entries = of_pages.LastHold keeper view entries
