-- The record under a key with a value, or none outside the grammar.
use Rattle.std.specs.Prelude.{ℕ, ℤ, pos, ◌/◌, ◌%◌, ◌^◌, List, [], ◌∷◌, Bool, length, Option, Some, None, nat_le, ◌==◌, ◌&&◌, ◌||◌, if◌then◌else◌}
use Rattle.std.specs.Int.{w16, w32, w64}
use Rattle.std.specs.Ordering.{int_eq}
use Rattle.ode_value.specs.Keys.{counters_kind, class_head_kind, class_piece_kind, table_head_kind, table_piece_kind, object_kind, version_kind, activation_kind, entry_kind, added_kind}
use Rattle.ode_value.specs.Limits.{number_limit, transaction_limit, value_limit}
use Rattle.ode_value.specs.Text.{is_name}
use Rattle.ode_value.specs.declared.key.Key.{Key}
use Rattle.ode_codec.specs.Formats.{◌>>=◌, both, byte_in, ended, fit, holding, int_in, is_sort, number_in, part_of, some_in, truth_in}
use Rattle.ode_codec.specs.Values.{args_in, fields_in, value_in}
use Rattle.ode_codec.specs.declared.record.Counters.{Counters}
use Rattle.ode_codec.specs.declared.record.Record.{Record}
use Rattle.ode_codec.specs.declared.record.Record.TheVariants as of
use Rattle.ode_codec.specs.declared.record.TheConstants.{TABLE_PLACES}

abbrev pub u16_in : List ℕ → Option (ℕ × List ℕ)
u16_in = number_in w16

abbrev pub u32_in : List ℕ → Option (ℕ × List ℕ)
u32_in = number_in w32

abbrev pub u64_in : List ℕ → Option (ℕ × List ℕ)
u64_in = number_in w64

abbrev pub is_next : ℕ → ℕ → Bool
is_next limit n = nat_le 1 n && nat_le n limit

-- zeros where the clock isn't set
abbrev pub is_clock : Counters → Bool
is_clock c = c.clock_set || (int_eq c.instant (pos 0) && (c.object == 0 && c.place == 0))

unfoldable pub is_counters : Counters → Bool
is_counters c = is_next number_limit c.next_number && (is_next transaction_limit c.next_transaction && (is_next number_limit c.next_entry && is_clock c))

unfoldable pub clock_in : List ℕ → Option ((Bool × (ℤ × (ℕ × ℕ))) × List ℕ)
clock_in = both truth_in (both int_in (both u64_in u32_in))

-- how many fields were added, in all that is left; 0 isn't spelled
unfoldable pub added_count_in : List ℕ → Option ℕ
added_count_in [] = Some 0
added_count_in (b ∷ bytes) = do
  n ← some_in (b ∷ bytes)
  _ ← ended n.1
  Some n.0

abbrev pub made_counters : ℕ → ℕ → ℕ → Bool × (ℤ × (ℕ × ℕ)) → ℕ → Counters
made_counters number transaction entry clock added = record {
  next_number = number;
  next_transaction = transaction;
  next_entry = entry;
  clock_set = clock.0;
  instant = clock.1.0;
  object = clock.1.1.0;
  place = clock.1.1.1;
  added = added;
}

unfoldable pub counters_under : Key → List ℕ → Option Record
counters_under k bytes = do
  _ ← holding (k.a == 0 && k.b == 0)
  f ← both u64_in (both u64_in (both u64_in clock_in)) bytes
  added ← added_count_in f.1
  _ ← holding (is_counters (made_counters f.0.0 f.0.1.0 f.0.1.1.0 f.0.1.1.1 added))
  Some (of.Counters (made_counters f.0.0 f.0.1.0 f.0.1.1.0 f.0.1.1.1 added))

unfoldable pub name_in : List ℕ → Option (List ℕ × List ℕ)
name_in bytes = do
  n ← byte_in bytes
  part_of is_name n.0 n.1

unfoldable pub class_head_under : Key → List ℕ → Option Record
class_head_under k bytes = do
  class ← fit (2 ^ 32) k.a
  _ ← holding (k.b == 0)
  f ← both name_in (both u32_in (both u32_in u16_in)) bytes
  _ ← ended f.1
  Some (of.ClassHead class f.0.0 f.0.1.0 f.0.1.1.0 f.0.1.1.1)

abbrev pub is_piece : List ℕ → Bool
is_piece bytes = nat_le 1 (length bytes) && nat_le (length bytes) value_limit

unfoldable pub class_piece_under : Key → List ℕ → Option Record
class_piece_under k bytes = do
  class ← fit (2 ^ 32) k.a
  piece ← fit (2 ^ 32) k.b
  _ ← holding (is_piece bytes)
  Some (of.ClassPiece class piece bytes)

unfoldable pub table_head_under : Key → List ℕ → Option Record
table_head_under k bytes = do
  class ← fit (2 ^ 32) k.a
  trigger ← fit (2 ^ 16) k.b
  f ← both u16_in byte_in bytes
  _ ← ended f.1
  Some (of.TableHead class trigger f.0.0 f.0.1)

unfoldable pub table_piece_under : Key → List ℕ → Option Record
table_piece_under k bytes = do
  class ← fit (2 ^ 32) k.a
  place ← fit (2 ^ 32) k.b
  _ ← holding (is_piece bytes)
  Some (of.TablePiece class (place / TABLE_PLACES) (place % TABLE_PLACES) bytes)

unfoldable pub object_under : Key → List ℕ → Option Record
object_under k bytes = do
  _ ← holding (k.b == 0)
  f ← both u32_in u32_in bytes
  _ ← ended f.1
  Some (of.Object k.a f.0.0 f.0.1)

unfoldable pub version_under : Key → List ℕ → Option Record
version_under k bytes = do
  number ← fit (2 ^ 32) k.b
  f ← both u32_in fields_in bytes
  _ ← ended f.1
  Some (of.Version k.a number f.0.0 f.0.1.0 f.0.1.1)

unfoldable pub activation_under : Key → List ℕ → Option Record
activation_under k bytes = do
  f ← both u32_in (both u16_in (both u16_in args_in)) bytes
  _ ← ended f.1
  Some (of.Activation (record { object = k.a; number = k.b; class = f.0.0; trigger = f.0.1.0; state = f.0.1.1.0; args = f.0.1.1.1 }))

unfoldable pub entry_under : Key → List ℕ → Option Record
entry_under k bytes = do
  _ ← holding (k.b == 0)
  f ← both u64_in (both u32_in (both u16_in (both byte_in args_in))) bytes
  _ ← ended f.1
  Some (of.Entry k.a (record { object = f.0.0; class = f.0.1.0; trigger = f.0.1.1.0; generation = f.0.1.1.1.0; args = f.0.1.1.1.1 }))

unfoldable pub added_under : Key → List ℕ → Option Record
added_under k bytes = do
  class ← fit (2 ^ 32) k.a
  birth ← fit (2 ^ 32) k.b
  f ← both name_in (both byte_in (both u32_in value_in)) bytes
  _ ← ended f.1
  _ ← holding (is_sort f.0.1.0 f.0.1.1.0)
  Some (of.Added class birth f.0.0 f.0.1.0 f.0.1.1.0 f.0.1.1.1)

-- by the kind of the key
unfoldable pub record_under : Key → List ℕ → Option Record
record_under k bytes =
    if k.kind == counters_kind then counters_under k bytes
    else if k.kind == class_head_kind then class_head_under k bytes
    else if k.kind == class_piece_kind then class_piece_under k bytes
    else if k.kind == table_head_kind then table_head_under k bytes
    else if k.kind == table_piece_kind then table_piece_under k bytes
    else if k.kind == object_kind then object_under k bytes
    else if k.kind == version_kind then version_under k bytes
    else if k.kind == activation_kind then activation_under k bytes
    else if k.kind == entry_kind then entry_under k bytes
    else if k.kind == added_kind then added_under k bytes
    else None
