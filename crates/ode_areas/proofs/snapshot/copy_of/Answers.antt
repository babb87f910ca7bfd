use Rattle.std.proofs.Common.{List, ℕ, subst, sym, ◌∙◌}
use Rattle.ode_keep.specs.Snapshots.{IsSnapshot}
use Rattle.ode_areas.specs.OneMap.{one_snapshot, snapshot_not_broken}
use Rattle.ode_areas.proofs.snapshot.copy_of.Goals as goal

pub returns : goal.returns
returns c =
    let spelled = subst (λ (l : List ℕ). IsSnapshot c.args.map.now l) (sym c.deref.ensures.value) c.in_ok-bytes.ensures in
    let loaded = rw c.in-None.is at c.in_ok-load_rows.ensures.whole in
    one_snapshot c.load_rows.new.map c.args.map.now c.deref.result.now loaded.0 spelled

pub unreachable-requires : goal.unreachable-requires
unreachable-requires c =
    let spelled = subst (λ (l : List ℕ). IsSnapshot c.args.map.now l) (sym c.deref.ensures.value) c.in_ok-bytes.ensures in
    let broken = rw c.in-Some.is at c.in_ok-load_rows.ensures.broken in
    snapshot_not_broken c.len.result c.in-Some.field-0 c.deref.result.now broken c.args.map.now spelled (c.deref.ensures.len ∙ sym c.len.ensures)
