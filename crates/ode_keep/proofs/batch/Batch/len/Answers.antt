use Rattle.std.proofs.Common.{◌≡◌, ◌∙◌, ap, length, sym}
use Rattle.ode_keep.specs.Batches.{changes_of}
use Rattle.ode_keep.specs.Entries.{Changes}
use Rattle.ode_keep.proofs.Placing.{length_of}
use Rattle.ode_keep.proofs.batch.Batch.len.Goals as goal

pub returns : goal.returns
returns c =
    let view : changes_of c.self.inside.changes ≡ c.args.self.now = cc in
    c.len.ensures ∙ sym (length_of c.self.inside.changes) ∙ ap (λ (cs : Changes). length cs) view
