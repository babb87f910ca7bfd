-- Classes are numbered from 1, and each has exactly its pieces, its tables' heads and their pieces.
use Rattle.std.specs.Prelude.{ℕ, ◌*◌, List, [], ◌∷◌, ◌++◌, map, Bool, Option, Some, None, Ok, Err}
use Rattle.std.specs.List.{count_by, flat_map, range_with_len}
use Rattle.std.specs.Option.{is_some}
use Rattle.std.specs.Ordering.{match_ordering}
use Rattle.ode_codec.specs.declared.record.Record.{Record}
use Rattle.ode_codec.specs.declared.record.Record.TheVariants as of
use Rattle.ode_codec.specs.declared.record.TheConstants.{TABLE_PLACES}
use Rattle.ode_value.specs.Keys.{key, key_cmp, class_head_key, class_piece_kind, table_head_kind, table_piece_kind}
use Rattle.ode_value.specs.Lengths.{piece_count, table_length}
use Rattle.ode_value.specs.declared.key.Key.{Key}
use Rattle.ode_passes.specs.Records.{Found}
use Rattle.ode_passes.specs.Rules.{Ruled, ◌>>=◌, through}
use Rattle.ode_passes.specs.declared.cause.Cause.TheVariants as cause
use Rattle.ode_passes.specs.declared.completeness.Part.{Part}
use Rattle.ode_passes.specs.declared.completeness.Part.TheVariants as part

-- ---- records under keys that are expected, one behind the other

-- the next record has this key: it is missing where the next one comes later, and the next one is too much where it comes before it
abbrev pub next_is : Key → Found → Ruled Found
next_is k [] = Err (cause.Missing k)
next_is k (f ∷ more) = match_ordering (key_cmp k f.0) (Err (cause.Missing k)) (Ok more) (Err (cause.Record f.0))

abbrev pub next_are : List Key → Found → Ruled Found
next_are ks records = through (λ more k. next_is k more) records ks

-- no record is left
abbrev pub none_left : Found → Ruled (Unit {0})
none_left [] = Ok tt
none_left (f ∷ more) = Err (cause.Record f.0)

-- ---- which keys are expected

-- a class's number and its text's length, where a record is a class's head
abbrev pub of_head : Record → Option (ℕ × ℕ)
of_head (of.ClassHead class name parent text_length triggers) = Some (class, text_length)
of_head _ = None

unfoldable pub is_head : Key × Record → Bool
is_head f = is_some (of_head f.1)

abbrev pub class_count : Found → ℕ
class_count records = count_by is_head records

-- of so many records of one kind and first number
abbrev pub run : ℕ → ℕ → ℕ → ℕ → List Key
run kind a first count = map (key kind a) (range_with_len first count)

-- what a head brings: a class's the pieces of its text and the heads of its triggers' tables, and a table's its pieces
abbrev pub keys_by : Part → Record → List Key
keys_by part.Texts (of.ClassHead class name parent text_length triggers) = run class_piece_kind class 0 (piece_count text_length)
keys_by part.TableHeads (of.ClassHead class name parent text_length triggers) = run table_head_kind class 0 triggers
keys_by part.Tables (of.TableHead class trigger states symbols) = run table_piece_kind class (trigger * TABLE_PLACES) (piece_count (table_length states symbols))
keys_by _ _ = []

abbrev pub keys_of : Part → Found → List Key
keys_of p records = flat_map (λ f. keys_by p f.1) records

abbrev pub head_keys : Found → List Key
head_keys records = map class_head_key (range_with_len 1 (class_count records))

abbrev pub expected : Found → List Key
expected records = head_keys records ++ keys_of part.Texts records ++ keys_of part.TableHeads records ++ keys_of part.Tables records

-- ---- the rule

unfoldable pub complete : Found → Ruled (Unit {0})
complete records = next_are (expected records) records >>= none_left
