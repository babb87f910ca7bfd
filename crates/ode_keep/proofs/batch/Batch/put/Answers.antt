use Rattle.std.proofs.Common.{◌≡◌, ◌∙◌, ap, cond, Some}
use Rattle.std.proofs.lemmas.Result.{on_ok_weaker}
use Rattle.std.specs.BTreeMap.{insert_entry, is_at}
use Rattle.ode_value.specs.Keys.{key_cmp}
use Rattle.ode_keep.specs.Batches.{changes_of}
use Rattle.ode_keep.specs.Entries.{Changes, applied, value_under}
use Rattle.ode_keep.proofs.Applying.{put_counts}
use Rattle.ode_keep.proofs.Placing.{kept_rising}
use Rattle.ode_keep.proofs.batch.Batch.put.Goals as goal

pub invariant_of-self : goal.invariant_of-self
invariant_of-self c = kept_rising c.set_change.result c.self.inside.changes c.set_change.new.changes c.args.key (Some c.args.value) c.self.invariant c.set_change.ensures.ok c.set_change.ensures.err

pub returns-clause-counts : goal.returns-clause-counts
returns-clause-counts c =
    let old = changes_of c.self.inside.changes in
    let view : old ≡ c.args.self.now = cc in
    on_ok_weaker c.set_change.result
    (λ (is : changes_of c.set_change.new.changes ≡ insert_entry key_cmp old c.args.key (Some c.args.value)) entries q.
    ap (λ (cs : Changes). value_under (applied cs entries) q) is
    ∙ put_counts old c.args.key (Some c.args.value) entries q c.self.invariant
    ∙ ap (λ (cs : Changes). cond (is_at (key_cmp c.args.key) q) (Some c.args.value) (value_under (applied cs entries) q)) view)
    c.set_change.ensures.ok
