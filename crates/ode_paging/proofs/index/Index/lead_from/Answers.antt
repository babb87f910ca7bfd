use Rattle.std.proofs.Common.{sym, ap, ◌∙◌}
use Rattle.std.specs.List.{slice_get}
use Rattle.ode_paging.specs.Indexing.{Leads, lead_from}
use Rattle.ode_paging.proofs.Firsts.{range_first}
use Rattle.ode_paging.proofs.index.Index.lead_from.Goals as goal

pub returns-in_err-least-clause-first : goal.returns-in_err-least-clause-first
returns-in_err-least-clause-first c =
    rw c.from_residual.ensures
    (sym (ap (λ (l : Leads). slice_get l 0) c.in_err-least.ensures.steps.0)
    ∙ range_first c.self.inside.by_key.entries c.range.result c.args.key (c.range.ensures.between tt)
    ∙ ap (λ (l : Leads). lead_from l c.args.key) c.self.view_is)

pub returns-clause-first : goal.returns-clause-first
returns-clause-first c =
    sym (ap (λ (l : Leads). slice_get l 0) c.in_ok-least.ensures.steps)
    ∙ range_first c.self.inside.by_key.entries c.range.result c.args.key (c.range.ensures.between tt)
    ∙ ap (λ (l : Leads). lead_from l c.args.key) c.self.view_is
