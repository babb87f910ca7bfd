use Rattle.std.proofs.Common.{◌≡◌, ◌≤◌, ℕ, List, ◌∷◌, Bool, cond, length, take, sym, subst, ap, ◌∙◌}
use Rattle.std.specs.Map.{keys_of}
use Rattle.ode_keep.specs.Entries.{Entries}
use Rattle.lru.specs.LruCache.{LruCache}
use Rattle.ode_pagemap.specs.Cached.{most_of}
use Rattle.ode_pagemap.proofs.Caching.{put_taken, put_within, taken_keys}
use Rattle.ode_pagemap.proofs.cache.Cache.take_in.Goals as goal

pub invariant_of-self : goal.invariant_of-self
invariant_of-self c =
    let old = c.args.self.now in
    record {
      within = subst (λ (b : Bool). length c.put.new.self.entries ≤ cond b c.put.new.self.cap 0) (sym c.if-self.true)
          (put_within c.args.number c.args.page old.pages c.requires c.len.ensures.valid.2 c.put.result c.put.new.self c.len.ensures.valid.1 c.put.ensures.entries c.put.ensures.err);
    }

pub returns-in_ok-put-clause-taken : goal.returns-in_ok-put-clause-taken
returns-in_ok-put-clause-taken c =
    let old = c.args.self.now in
    ap (λ (p : LruCache ℕ Entries). p.entries) c.in_ok-put.ensures.entries
    ∙ put_taken c.args.number c.args.page old.pages c.requires c.len.ensures.valid.2
    ∙ ap (λ (b : Bool). take (cond b old.pages.cap 0) ((c.args.number, c.args.page) ∷ old.pages.entries)) (sym c.if-self.true)

pub returns-in_ok-put-clause-used : goal.returns-in_ok-put-clause-used
returns-in_ok-put-clause-used c =
    let old = c.args.self.now in
    let taken : c.put.new.self.entries ≡ take (most_of old) ((c.args.number, c.args.page) ∷ old.pages.entries) =
    ap (λ (p : LruCache ℕ Entries). p.entries) c.in_ok-put.ensures.entries
    ∙ put_taken c.args.number c.args.page old.pages c.requires c.len.ensures.valid.2
    ∙ ap (λ (b : Bool). take (cond b old.pages.cap 0) ((c.args.number, c.args.page) ∷ old.pages.entries)) (sym c.if-self.true) in
    ap (λ (l : List (ℕ × Entries)). keys_of l) taken ∙ taken_keys c.args.number (most_of old) c.args.page old.pages.entries c.requires
