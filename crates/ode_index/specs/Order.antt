-- The order of values.
use Rattle.std.specs.Prelude.{ℕ, ◌+◌, List, Option, Some, None}
use Rattle.std.specs.Cmp.Lexicographic.{slice_cmp}
use Rattle.std.specs.Ordering.{bool_cmp, int_cmp, nat_cmp, ordering_then}
use Rattle.std.specs.declared.cmp.Ordering.{Ordering}
use Rattle.ode_value.specs.declared.value.Ref.{Ref}
use Rattle.ode_value.specs.declared.value.Value.{Value}
use Rattle.ode_value.specs.declared.value.Value.TheVariants as value

-- none before each number
abbrev pub version_place : Option ℕ → ℕ
version_place None = 0
version_place (Some number) = number + 1

-- references by their object, then by their version
abbrev pub ref_cmp : Ref → Ref → Ordering
ref_cmp r s = ordering_then (nat_cmp r.object s.object) (nat_cmp (version_place r.version) (version_place s.version))

-- values of two sorts stand in the order of these
abbrev pub sort_place : Value → ℕ
sort_place (value.Int n) = 0
sort_place (value.Bool b) = 1
sort_place (value.Text t) = 2
sort_place (value.Reference r) = 3

-- ints by size; false before true; texts by their bytes
unfoldable pub value_cmp : Value → Value → Ordering
value_cmp (value.Int m) (value.Int n) = int_cmp m n
value_cmp (value.Bool b) (value.Bool c) = bool_cmp b c
value_cmp (value.Text s) (value.Text t) = slice_cmp nat_cmp s t
value_cmp (value.Reference r) (value.Reference s) = ref_cmp r s
value_cmp v w = nat_cmp (sort_place v) (sort_place w)

-- several values, by the first two that differ
abbrev pub values_cmp : List Value → List Value → Ordering
values_cmp vs ws = slice_cmp value_cmp vs ws
