use Rattle.std.proofs.Common.{ap, ◌∙◌}
use Rattle.ode_paging.specs.Indexing.{Leads, leads_from}
use Rattle.ode_paging.proofs.Firsts.{range_leads}
use Rattle.ode_paging.proofs.index.Index.leads_from.Goals as goal

pub returns : goal.returns
returns c =
    range_leads c.self.inside.by_key.entries c.range.result c.args.key (c.range.ensures.between tt)
    ∙ ap (λ (l : Leads). leads_from l c.args.key) c.self.view_is
