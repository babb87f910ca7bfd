use Rattle.std.proofs.Common.{◌≤◌, ℕ, cond, nat_eq, length, sym, subst, ap, ◌∙◌, arith}
use Rattle.std.specs.Map.{lookup}
use Rattle.ode_keep.specs.Entries.{Entries}
use Rattle.lru.specs.LruCache.{LruCache}
use Rattle.ode_pagemap.proofs.Caching.{fewer, none_left}
use Rattle.ode_pagemap.proofs.cache.Cache.forget.Goals as goal

pub invariant_of-self : goal.invariant_of-self
invariant_of-self c =
    let old = c.args.self.now in
    record {
      within = subst (λ (p : LruCache ℕ Entries). length p.entries ≤ cond old.is_open p.cap 0) (sym c.pop.ensures.entries)
          (omega (arith, fewer c.args.number old.pages.entries, old.within));
    }

pub returns-clause-gone : goal.returns-clause-gone
returns-clause-gone c =
    ap (λ (p : LruCache ℕ Entries). lookup (nat_eq c.args.number) p.entries) c.pop.ensures.entries
    ∙ none_left c.args.number c.args.self.now.pages.entries c.len.ensures.valid.0
