use Rattle.std.proofs.Common.{◌≡◌, ◌∙◌, ap, sym}
use Rattle.ode_keep.specs.Batches.{changes_of}
use Rattle.ode_keep.proofs.Placing.{none_of}
use Rattle.ode_keep.proofs.batch.Batch.is_empty.Goals as goal

pub returns : goal.returns
returns c =
    let view : changes_of c.self.inside.changes ≡ c.args.self.now = cc in (
      (λ yes. sym view ∙ ap changes_of (c.is_empty.ensures.0 yes)),
      (λ none. c.is_empty.ensures.1 (none_of c.self.inside.changes (view ∙ none))),
    )
