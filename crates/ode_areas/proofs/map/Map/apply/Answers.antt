use Rattle.std.proofs.Common.{◌∙◌, ap, subst, sym}
use Rattle.ode_keep.specs.Entries.{Entries, count_of_kind, record_bytes}
use Rattle.ode_value.specs.Keys.{entry_kind}
use Rattle.ode_keep.specs.Snapshots.{FitsSnapshot}
use Rattle.ode_areas.proofs.Fitting.{applied_fits}
use Rattle.ode_areas.proofs.Splitting.{made_all}
use Rattle.ode_areas.proofs.map.Map.apply.Goals as goal

pub invariant_of-self-2 : goal.invariant_of-self-2
invariant_of-self-2 c =
    let batch = c.args.batch.now in
    let before = c.self.inside.records in
    let made = made_all batch before c.put_all.new.records c.remove_all.new.records c.args.self.now c.remove_all.ensures.rising c.self.invariant.2.rising
    c.self.view_is c.in_default.ensures.put c.remove_all.ensures.removed in (
      c.requires.total ∙ ap record_bytes (sym made),
      c.queued_after-queued.ensures ∙ ap (λ (l : Entries). count_of_kind entry_kind l) (sym made),
      subst FitsSnapshot (sym made) (applied_fits batch c.args.self.now c.requires.fits (subst FitsSnapshot c.self.view_is c.self.invariant.2)),
    )

pub returns-clause-ok : goal.returns-clause-ok
returns-clause-ok c =
    made_all c.args.batch.now c.self.inside.records c.put_all.new.records c.remove_all.new.records c.args.self.now
    c.remove_all.ensures.rising c.self.invariant.2.rising c.self.view_is c.in_default.ensures.put c.remove_all.ensures.removed
