-- Reading values.
use Rattle.std.specs.Prelude.{ℕ, zero, suc, ◌%◌, ◌^◌, List, [], ◌∷◌, Option, Some, None, nat_lt, ◌==◌, if◌then◌else◌}
use Rattle.std.specs.Int.{w16, w32, w64}
use Rattle.ode_value.specs.Text.{is_text}
use Rattle.ode_value.specs.declared.value.Ref.{Ref}
use Rattle.ode_value.specs.declared.value.Value.{Value}
use Rattle.ode_value.specs.declared.value.Value.TheVariants as value
use Rattle.ode_codec.specs.Formats.{◌>>=◌, byte_in, int_in, number_in, part_of, some_in, truth_in}

unfoldable pub text_in : List ℕ → Option (List ℕ × List ℕ)
text_in bytes = do
  n ← number_in w16 bytes
  part_of is_text n.0 n.1

-- a reference: version 0 is none, and null is all zeros
abbrev pub reference_of : ℕ → ℕ → Option Ref
reference_of object version =
    if version == 0 then Some (record { object = object; version = None })
    else if object == 0 then None
    else Some (record { object = object; version = Some version })

unfoldable pub reference_in : List ℕ → Option (Ref × List ℕ)
reference_in bytes = do
  object ← number_in w64 bytes
  version ← number_in w32 object.1
  r ← reference_of object.0 version.0
  Some (r, version.1)

-- what stands behind a tag
unfoldable pub content_in : ℕ → List ℕ → Option (Value × List ℕ)
content_in tag bytes =
    if tag == 0 then (int_in bytes >>= λ n. Some (value.Int n.0, n.1))
    else if tag == 1 then (truth_in bytes >>= λ b. Some (value.Bool b.0, b.1))
    else if tag == 2 then (text_in bytes >>= λ t. Some (value.Text t.0, t.1))
    else if tag == 3 then (reference_in bytes >>= λ r. Some (value.Reference r.0, r.1))
    else None

unfoldable pub value_in : List ℕ → Option (Value × List ℕ)
value_in bytes = do
  tag ← byte_in bytes
  content_in tag.0 tag.1

-- so many values
unfoldable pub values_in : ℕ → List ℕ → Option (List Value × List ℕ)
values_in zero bytes = Some ([], bytes)
values_in (suc n) bytes = do
  first ← value_in bytes
  others ← values_in n first.1
  Some (first.0 ∷ others.0, others.1)

-- a stamp behind a count that says so; 0 isn't spelled
unfoldable pub stamp_in : ℕ → List ℕ → Option (ℕ × List ℕ)
stamp_in count bytes = if nat_lt count (2 ^ 15) then Some (0, bytes) else some_in bytes

-- values behind their count of two bytes, with their stamp
unfoldable pub fields_in : List ℕ → Option ((ℕ × List Value) × List ℕ)
fields_in bytes = do
  n ← number_in w16 bytes
  stamp ← stamp_in n.0 n.1
  fields ← values_in (n.0 % 2 ^ 15) stamp.1
  Some ((stamp.0, fields.0), fields.1)

-- values behind their count of one byte
unfoldable pub args_in : List ℕ → Option (List Value × List ℕ)
args_in bytes = do
  n ← byte_in bytes
  values_in n.0 n.1
