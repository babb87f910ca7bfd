-- The lengths of stored activations and entries are those of their bytes.
use Rattle.std.proofs.Common.{◌≡◌, ◌++◌, ℕ, List, [], ◌∷◌, length, refl, arith, length-append}
use Rattle.std.proofs.lemmas.List.Sums.{sum_by-cons}
use Rattle.std.specs.List.{flat_map}
use Rattle.ode_value.specs.declared.value.Value.{Value}
use Rattle.ode_value.specs.Lengths.{value_length, values_length, activation_length, entry_length}
use Rattle.ode_value.specs.Objects.{Activation}
use Rattle.ode_value.specs.Records.{byte, counted, row_weight, spelled_value}
use Rattle.ode_value.specs.Worlds.{Entry}
use Rattle.ode_codec.specs.StoredRows.{activation_row, entry_row, u16, u32, u64}

module _ (same : (v : Value) → length (spelled_value v) ≡ value_length v) where
  length-args : (vs : List Value) → length (flat_map spelled_value vs) ≡ values_length vs
  length-args [] = refl
  length-args (v ∷ vs) = omega (arith, length-append (spelled_value v) (flat_map spelled_value vs), same v, length-args vs, sum_by-cons value_length v vs)

  pub length-activation : (id state : ℕ) (a : Activation) → row_weight (activation_row id state a) ≡ activation_length a.args
  length-activation id state a =
      omega (arith, length-append (u32 a.class ++ u16 a.trigger ++ u16 state ++ counted a.args) (flat_map spelled_value a.args), length-args a.args)

  pub length-entry : (number : ℕ) (e : Entry) → row_weight (entry_row (number, e)) ≡ entry_length e.args
  length-entry number e =
      omega (arith, length-append (u64 e.object ++ u32 e.class ++ u16 e.trigger ++ byte e.generation ++ counted e.args) (flat_map spelled_value e.args), length-args e.args)
