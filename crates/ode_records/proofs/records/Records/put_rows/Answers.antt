use Rattle.std.proofs.Common.{◌≡◌, ◌++◌, List, ap, subst, ◌∙◌}
use Rattle.std.specs.Prelude.{OnOk}
use Rattle.std.specs.List.{AllByRecursion}
use Rattle.ode_value.specs.Records.{snapshot}
use Rattle.ode_keep.specs.Entries.{Entries}
use Rattle.ode_keep.specs.Snapshots.{FitsRow}
use Rattle.ode_records.specs.Kinds.{all_of}
use Rattle.ode_records.proofs.records.Records.put_rows.Goals as goal

pub returns : goal.returns
returns c =
    subst (λ (l : Entries). OnOk c.put_kinds.result (AllByRecursion FitsRow l → c.put_kinds.new.bytes.items ≡ c.args.bytes.now.items ++ snapshot l))
    (ap (λ (l : List Entries). all_of l) c.deref.ensures.value ∙ c.self.view_is)
    c.put_kinds.ensures
