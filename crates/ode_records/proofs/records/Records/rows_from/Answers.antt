use Rattle.std.proofs.Common.{List, ap, subst, sym, ◌∙◌}
use Rattle.ode_keep.specs.Entries.{Entries, StartsOf, entries_from}
use Rattle.ode_records.specs.Kinds.{AreKinds, all_of}
use Rattle.ode_records.proofs.records.Records.rows_from.Goals as goal

pub first_from-requires : goal.first_from-requires
first_from-requires c = subst (λ (l : List Entries). AreKinds 0 l) (sym c.deref.ensures.value) c.self.invariant.0

pub returns : goal.returns
returns c =
    subst (λ (l : Entries). StartsOf c.first_from.result.now (entries_from l c.args.key)) (ap (λ (l : List Entries). all_of l) c.deref.ensures.value ∙ c.self.view_is)
    c.first_from.ensures
