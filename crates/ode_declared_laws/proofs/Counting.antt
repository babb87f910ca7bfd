-- The parts of a checked class are few.
use Rattle.std.proofs.Common.{◌≤◌, ◌<◌, ◌^◌, List, length, arith}
use Rattle.std.specs.List.{AllByRecursion}
use Rattle.ode_accepted_laws.proofs.Lines.{kept_all}
use Rattle.ode_accepted_laws.proofs.Members.{accepted}
use Rattle.ode_heap_laws.specs.Few.{HasFewParams, HasFewParts}
use Rattle.ode_types.specs.Checked.{AreChecked, IsChecked}
use Rattle.ode_types.specs.Limits.{field_limit}
use Rattle.ode_value.specs.Worlds.{Declared}
use Rattle.ode_value.specs.declared.class.Class.{Class}
use Rattle.ode_value.specs.declared.class.Class.{Class}

few_fields : (c : Class) → length c.fields ≤ field_limit → length c.fields < 2 ^ 15
unfolding field_limit
few_fields c few = omega (arith, few)

pub few_parts : (known : List Class) (c : Declared) → AreChecked known → IsChecked known c.class → AllByRecursion HasFewParams c.class.triggers → HasFewParts c
few_parts known c checked is params = record {
  fields = few_fields c.class (accepted known (kept_all known checked).fields c.class is).few;
  params = params;
}
