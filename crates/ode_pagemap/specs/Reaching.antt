-- What the value under a key is read for: the page that the key leads to.
use Rattle.std.specs.Prelude.{◌≡◌, ◌⊎◌, ℕ, Contains, IsSome, Some}
use Rattle.std.specs.Option.{IfSome}
use Rattle.ode_value.specs.declared.key.Key.{Key}
use Rattle.ode_paging.specs.Indexing.{page_under}
use Rattle.ode_paging.specs.Standing.{image_of}
use Rattle.ode_pagemap.specs.Cached.{used}
use Rattle.ode_pagemap.specs.Holding.{held, index, room}
use Rattle.ode_pagemap.specs.declared.map.PageMap.{PageMap}

-- a page that is in memory: it is held, or has an image
abbrev pub IsNear : PageMap → ℕ → Type 0
IsNear keeper page = Contains (held keeper) page ⊎ IsSome (image_of keeper.opened.images page)

-- a key that leads to such a page, or nowhere
abbrev pub LeadsNear : PageMap → Key → Type 0
LeadsNear keeper key = IfSome (page_under (index keeper) key) (λ page. IsNear keeper page)

-- the page that the key leads to is the most recently used one
pub record IsReached (key : Key) (old new : PageMap) : Type 0 where
  pub page : ℕ
  pub leads : page_under (index old) key ≡ Some page
  pub held : held new ≡ used (room old) page (held old)
