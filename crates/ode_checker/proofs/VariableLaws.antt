-- Where the expressions of a query stand.
use Rattle.std.proofs.Common.{◌≡◌, ℕ, List, length, false, None}
use Rattle.std.specs.Prelude.{codes}
use Rattle.std.specs.Option.{option_copied}
use Rattle.ode_value.specs.declared.binding.Param.{Param}
use Rattle.ode_value.specs.declared.class.Class.{Class}
use Rattle.ode_value.specs.declared.statement.Sort.TheVariants as sort
use Rattle.ode_value.specs.declared.value.Ref.{Ref}
use Rattle.ode_types.specs.Limits.{in_slots}
use Rattle.ode_typing.specs.Places.{scope_of}
use Rattle.ode_types.specs.Variables.{query_scope}
use Rattle.ode_typing.specs.declared.place.Locals.{Locals}
use Rattle.ode_typing.specs.declared.place.Place.{Place}

pub scope_is : (place : Place) (locals : Locals) (classes : List Class) (literals : List (Ref × ℕ)) (variables : List Param)
    → place.known ≡ classes → option_copied place.class ≡ None → place.member.now ≡ codes "query" → place.result.now ≡ sort.Void → place.is_plain ≡ false → place.literals.now ≡ literals
    → locals.seen ≡ in_slots 0 variables → locals.next ≡ length variables → scope_of place locals ≡ query_scope classes literals variables
scope_is place locals classes literals variables known class member returned plain among seen next =
    λ i. record {
      classes = known i;
      class = class i;
      member = member i;
      seen = seen i;
      next = next i;
      result = returned i;
      is_plain = plain i;
      literals = among i;
    }
