-- How a change of a class settles over records that hold a world.
use Rattle.std.proofs.Common.{◌≡◌, ◌≤◌, ◌+◌, List, ◌++◌, length, map, refl, ap, sym, ◌∙◌, subst}
use Rattle.std.specs.List.{AllByRecursion}
use Rattle.ode_change_laws.specs.Behind.{IsBehind}
use Rattle.ode_change_laws.specs.Rows.{bones_passed, world_passed}
use Rattle.ode_change_laws.proofs.GoodStill.{good-anew}
use Rattle.ode_changed_laws.specs.Changed.{ChangedOver}
use Rattle.ode_changed_laws.specs.Records.{fields_put, new_in, with_counters}
use Rattle.ode_changed_laws.proofs.HeldChanged.{held-changed}
use Rattle.ode_declared_laws.proofs.SettlingChanges.{change_settles_light}
use Rattle.ode_declared_laws.proofs.SettlingNothing.{commits_nothing}
use Rattle.ode_heap.specs.Answering.{class_of, counters_of}
use Rattle.ode_heap_laws.specs.Few.{HasFewParts, HoldsCounted}
use Rattle.ode_keep.specs.Entries.{Entries, applied}
use Rattle.ode_machine.specs.Works.{changes_class}
use Rattle.ode_settled_laws.specs.Holding.{IsHeldBy}
use Rattle.ode_value.specs.Changing.{changed_bones, changed_world}
use Rattle.ode_value.specs.GoodWorlds.{IsGood}
use Rattle.ode_value.specs.Language.{Language, ListWorld}
use Rattle.ode_value.specs.Limits.{name_limit, weight_limit}
use Rattle.ode_value.specs.Objects.{Histories, Starts}
use Rattle.ode_value.specs.Pasts.{lists}
use Rattle.ode_value.specs.Settling.{Settled, transaction}
use Rattle.ode_value.specs.Texts.{changed_line, committed_line}
use Rattle.ode_value.specs.Transactions.{Script}
use Rattle.ode_value.specs.Weights.{weight}
use Rattle.ode_value.specs.Worlds.{Bones, Declared}
use Rattle.ode_value.specs.declared.change.Change.{Change}

passed-weighs : (b : Bones) → weight (bones_passed b) ≡ weight b
unfolding weight
passed-weighs b = refl

pub changes-settle : (l : Language) (base : Entries) (w : ListWorld) (held : HoldsCounted l base w) (c : Change) (classes : List Declared) → IsBehind l w.bones c classes → AllByRecursion HasFewParts classes
    → length c.class ≤ name_limit → weight (changed_bones w.bones c classes) ≤ weight_limit
    → let b = w.bones in let cs = map class_of classes in
    ChangedOver l held.world.stored.tables (applied (with_counters (counters_of b) (length b.added + length c.fields) (fields_put cs (new_in cs (length b.added) c))) base)
    w c classes (transaction lists Script (changes_class lists classes c) w)
changes-settle l base w held c classes is few short light =
    let v = changed_world lists classes c w in
    let b = w.bones in
    let cs = map class_of classes in
    let records : Entries = applied (with_counters (counters_of b) (length b.added + length c.fields) (fields_put cs (new_in cs (length b.added) c))) base in
    let tables = held.world.stored.tables in
    let good = good-anew l w c classes held.world.good is.behind is.good is.added light in
    let comes : transaction lists Script (changes_class lists classes c) w ≡ (world_passed v, changed_line c.class ++ committed_line w.bones.transaction) =
    change_settles_light w c classes short light ∙ commits_nothing l v good (changed_line c.class) in
    record {
      prints = ap (λ (s : Settled Histories Starts). s.1) comes;
      classes = ap (λ (s : Settled Histories Starts). s.0.bones.classes) comes;
      weighs = ap (λ (s : Settled Histories Starts). weight s.0.bones) comes ∙ passed-weighs (changed_bones b c classes);
      holds = λ after.
          subst (λ (s : Settled Histories Starts). IsHeldBy l tables records s.0) (sym comes)
          (held-changed l base w held c classes is few (subst (λ (s : Settled Histories Starts). IsGood l s.0) comes after));
    }
