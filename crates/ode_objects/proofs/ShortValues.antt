-- How long values are that are put.
use Rattle.std.proofs.Common.{◌≡◌, ◌≤◌, ◌+◌, ◌++◌, ℕ, zero, suc, List, [], ◌∷◌, true, Option, Some, None, length, refl, arith, length-append}
use Rattle.std.proofs.lemmas.Bool.Decides.{nat_tests}
use Rattle.std.proofs.lemmas.List.Sums.{sum_by-cons}
use Rattle.std.specs.Prelude.{OnOk, Result, Ok, Err}
use Rattle.std.specs.List.{flat_map}
use Rattle.ode_codec.specs.Spelling.{nexts_value, u16, u32, value_of, values}
use Rattle.ode_codec.specs.declared.record.Activation.{Activation}
use Rattle.ode_codec.specs.declared.record.Counters.{Counters}
use Rattle.ode_codec.specs.declared.record.Entry.{Entry}
use Rattle.ode_codec.specs.declared.record.Record.TheVariants as of
use Rattle.ode_objects.specs.Values.{are_args, are_fields}
use Rattle.ode_value.specs.Lengths.{stamp_length, value_length, values_length, version_size}
use Rattle.ode_value.specs.Limits.{args_limit, value_limit}
use Rattle.ode_value.specs.Records.{byte, spelled_value, stamp_bytes, stamped_count}
use Rattle.ode_value.specs.declared.value.Value.{Value}
use Rattle.ode_value.specs.declared.value.Value.TheVariants as value
use Rattle.std.proofs.lemmas.Map.Views.{All-values-insert_entry}
use Rattle.std.specs.BTreeMap.{insert_entry}
use Rattle.std.specs.Option.{IfSome}
use Rattle.ode_keep.specs.Entries.{Changes}
use Rattle.ode_objects.specs.Records.{AreShort, IsKeptChange, put_becomes}
use Rattle.ode_objects.specs.declared.records.Becomes.{Becomes}
use Rattle.ode_objects.specs.declared.records.Becomes.TheVariants.{Is, Goes, Stays}
use Rattle.ode_value.specs.Keys.{key_cmp}
use Rattle.ode_value.specs.declared.key.Key.{Key}

fields_fit : (stamp : ℕ) (vs : List Value) → are_fields stamp vs ≡ true → stamp_length stamp + values_length vs ≤ 3962
unfolding are_fields value_limit
fields_fit stamp vs short = let le : version_size stamp vs ≤ value_limit = grind (arith, nat_tests) in omega (arith, le)

length-stamp : (stamp : ℕ) → length (stamp_bytes stamp) ≡ stamp_length stamp
length-stamp zero = refl
length-stamp (suc n) = refl

stamp_short : (stamp : ℕ) → stamp_length stamp ≤ 4
stamp_short zero = omega arith
stamp_short (suc n) = omega arith

args_fit : (vs : List Value) → are_args vs ≡ true → values_length vs ≤ 768
unfolding are_args args_limit
args_fit vs short = grind (arith, nat_tests)

length-value : (v : Value) → length (spelled_value v) ≡ value_length v
length-value (value.Int n) = refl
length-value (value.Bool b) = refl
length-value (value.Text t) = omega (arith, length-append (byte 2 ++ u16 (length t)) t)
length-value (value.Reference r) = refl

length-values : (vs : List Value) → length (values vs) ≡ values_length vs
length-values [] = refl
length-values (v ∷ vs) = omega (arith, length-append (spelled_value v) (flat_map spelled_value vs), length-value v, length-values vs, sum_by-cons value_length v vs)

pub short_version : (id number parent stamp : ℕ) (vs : List Value) → are_fields stamp vs ≡ true → length (value_of (of.Version id number parent stamp vs)) ≤ value_limit
unfolding value_of value_limit
short_version id number parent stamp vs kept =
    let count : ℕ = stamped_count stamp (length vs) in
    omega (
      arith,
      length-append (u32 parent) (u16 count ++ (stamp_bytes stamp ++ values vs)),
      length-append (u16 count) (stamp_bytes stamp ++ values vs),
      length-append (stamp_bytes stamp) (values vs),
      length-stamp stamp,
      length-values vs,
      fields_fit stamp vs kept,
    )

pub short_activation : (a : Activation) → are_args a.args ≡ true → length (value_of (of.Activation a)) ≤ value_limit
unfolding value_of value_limit
short_activation a kept = omega (arith, length-values a.args, args_fit a.args kept)

pub short_entry : (n : ℕ) (e : Entry) → are_args e.args ≡ true → length (value_of (of.Entry n e)) ≤ value_limit
unfolding value_of value_limit
short_entry n e kept = omega (arith, length-values e.args, args_fit e.args kept)

pub short_counters : (c : Counters) → length (value_of (of.Counters c)) ≤ value_limit
unfolding value_of value_limit
short_counters c =
    let size : length (value_of (of.Counters c)) ≡ 45 + stamp_length c.added = omega (arith, length-append (nexts_value c) (stamp_bytes c.added), length-stamp c.added) in
    omega (arith, size, stamp_short c.added)

pub short_object : (id class last : ℕ) → length (value_of (of.Object id class last)) ≤ value_limit
unfolding value_of value_limit
short_object id class last = omega arith

short_put : (k : Key) (w : Option (List ℕ)) (cs : Changes) → AreShort cs → IfSome w (λ bytes. length bytes ≤ value_limit) → AreShort (insert_entry key_cmp cs k w)
short_put k w cs short one = All-values-insert_entry key_cmp k w (λ (v : Option (List ℕ)). IfSome v (λ bytes. length bytes ≤ value_limit)) cs short one

pub short_becomes : (k : Key) (b : Becomes) (cs : Changes) → IsKeptChange b → AreShort cs → AreShort (put_becomes k b cs)
short_becomes k (Is r) cs kept short = short_put k (Some (value_of r)) cs short kept.1
short_becomes k Goes cs kept short = short_put k None cs short tt
short_becomes k Stays cs kept short = short

-- what follows from a fact at a value
pub on_ok : {X E : Type 0} {P Q : Type 0} (r : Result X E) → OnOk r P → (P → Q) → OnOk r Q
on_ok (Ok x) is next = next is
on_ok (Err e) is next = tt
