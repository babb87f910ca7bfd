use Rattle.std.proofs.Common.{◌≤◌, ℕ, cond, length, sym, subst, ap, ◌∙◌}
use Rattle.std.specs.Map.{keys_of}
use Rattle.ode_keep.specs.Entries.{Entries}
use Rattle.lru.specs.LruCache.{LruCache}
use Rattle.ode_pagemap.specs.Cached.{most_of}
use Rattle.ode_pagemap.proofs.Caching.{promoted_keys, promoted_length}
use Rattle.ode_pagemap.proofs.cache.Cache.touch.Goals as goal

pub invariant_of-self : goal.invariant_of-self
invariant_of-self c =
    let old = c.args.self.now in
    record {
      within = subst (λ (p : LruCache ℕ Entries). length p.entries ≤ cond old.is_open p.cap 0) (sym c.promote.ensures.entries)
          (subst (λ (n : ℕ). n ≤ cond old.is_open old.pages.cap 0) (sym (promoted_length c.args.number old.pages.entries c.requires)) old.within);
    }

pub returns-clause-used : goal.returns-clause-used
returns-clause-used c =
    let old = c.args.self.now in
    ap (λ (p : LruCache ℕ Entries). keys_of p.entries) c.promote.ensures.entries
    ∙ promoted_keys c.args.number (most_of old) old.pages.entries c.requires c.len.ensures.valid.0 old.within
