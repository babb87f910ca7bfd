-- Values that a record has room for are few.
use Rattle.std.proofs.Common.{◌≡◌, ◌<◌, ◌≤◌, ◌+◌, ◌-◌, ◌^◌, ℕ, List, [], ◌∷◌, Bool, true, false, length, refl, arith}
use Rattle.std.proofs.lemmas.Bool.Decides.{nat_tests}
use Rattle.std.proofs.lemmas.List.Sums.{sum_by-cons}
use Rattle.std.specs.Prelude.{◌&&◌, nat_le}
use Rattle.ode_objects.specs.Values.{are_args, are_fields}
use Rattle.ode_value.specs.Lengths.{value_length, values_length, version_size}
use Rattle.ode_value.specs.Limits.{args_limit, value_limit}
use Rattle.ode_value.specs.declared.value.Value.{Value}
use Rattle.ode_value.specs.declared.value.Value.TheVariants as value

pub first_of : (a b : Bool) → (a && b) ≡ true → a ≡ true
first_of true b both = refl
first_of false b both = both

pub second_of : (a b : Bool) → (a && b) ≡ true → b ≡ true
second_of true b both = both
second_of false b both = absurd (cc both)

one_byte : (v : Value) → 1 ≤ value_length v
one_byte (value.Int n) = omega arith
one_byte (value.Bool b) = omega arith
one_byte (value.Text t) = omega arith
one_byte (value.Reference r) = omega arith

pub few_values : (vs : List Value) → length vs ≤ values_length vs
few_values [] = omega arith
few_values (v ∷ vs) = omega (arith, sum_by-cons value_length v vs, one_byte v, few_values vs)

-- behind a head there is room where there is for both
pub room_behind : (head limit n : ℕ) → head ≤ limit → nat_le n (limit - head) ≡ nat_le (head + n) limit
room_behind head limit n fits = grind (arith, nat_tests)

-- there is room by how long they are
pub fields_room : (stamp : ℕ) (vs : List Value) → are_fields stamp vs ≡ nat_le (version_size stamp vs) value_limit
unfolding are_fields
fields_room stamp vs = refl

pub args_room : (vs : List Value) → are_args vs ≡ nat_le (values_length vs) args_limit
unfolding are_args
args_room vs = refl

-- of fields
pub fields_counted : (stamp : ℕ) (vs : List Value) → are_fields stamp vs ≡ true → length vs < 2 ^ 15
unfolding are_fields value_limit
fields_counted stamp vs short =
    let le : version_size stamp vs ≤ value_limit = grind (arith, nat_tests) in
    omega (arith, few_values vs, le)
