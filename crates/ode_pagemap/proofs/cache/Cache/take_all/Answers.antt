use Rattle.std.proofs.Common.{◌≡◌, ℕ, List, Some, subst, ◌∙◌}
use Rattle.std.specs.List.{slice_get}
use Rattle.ode_keep.specs.Entries.{Entries}
use Rattle.ode_pagemap.specs.Cached.{AreAmong}
use Rattle.ode_pagemap.proofs.Taken.{all_renewed}
use Rattle.ode_pagemap.proofs.cache.Cache.take_all.Goals as goal

pub loop-number-init : goal.loop-number-init
loop-number-init c = record {
  among = λ all held given.
      let same : c.args.pages.entries ≡ c.into_iter-number-iterator.result = cc in
      (held, subst (λ (l : List (ℕ × Entries)). AreAmong all l) same given);
  most = cc;
}

pub loop-number-preserved : goal.loop-number-preserved
loop-number-preserved c =
    let so_far = c.loop-number.invariant in
    record {
      among = λ all held given.
          let both = so_far.among all held given in
          let rest = subst (λ (l : List (ℕ × Entries)). AreAmong all l) c.in-Some.ensures.steps both.1 in (
            all_renewed c.in-Some.number (λ (e : ℕ × Entries). slice_get all e.0 ≡ Some e.1) c.take_in.result c.in-Some.page c.loop-number.self.pages.entries c.forget.new.self c.take_in.new.self c.forget.ensures.rest
                c.take_in.ensures.taken c.take_in.ensures.err rest.0 both.0,
            rest.1,
          );
      most = c.take_in.ensures.most ∙ c.forget.ensures.most ∙ so_far.most;
    }

pub returns-clause-among : goal.returns-clause-among
returns-clause-among c all held given = (c.loop-number.invariant.among all held given).0
