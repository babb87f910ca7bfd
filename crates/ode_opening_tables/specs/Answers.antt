-- What calls that read tables answer.
use Rattle.std.specs.Prelude.{◌≡◌, ◌+◌, ℕ, List, ◌++◌, map, length, min, Bool, true, false, cond, ◌==◌, Option, Some, None, Result, Ok, Err, slice_get}
use Rattle.std.specs.List.{AllByRecursion, AllZip}
use Rattle.std.specs.Option.{IsSomeAnd, option_and_then}
use Rattle.ode_codec.specs.StoredRows.{bit, pieces_of, table_bytes, table_row, u16}
use Rattle.ode_keep.specs.Entries.{Entries, value_under}
use Rattle.ode_opening.specs.declared.accepted.Accepted.{Accepted}
use Rattle.ode_passes.specs.declared.cause.Cause.TheVariants as cause
use Rattle.ode_passes.specs.declared.error.OpenError.{OpenError}
use Rattle.ode_passes.specs.declared.error.OpenError.TheVariants.{Memory, DiskFault, BadFile}
use Rattle.ode_schema.specs.Parts.{Parts}
use Rattle.ode_table.specs.Whole.{IsWhole}
use Rattle.ode_value.specs.Classes.{Trigger}
use Rattle.ode_value.specs.Keys.{key, table_head_kind}
use Rattle.ode_value.specs.Limits.{value_limit}
use Rattle.ode_value.specs.Records.{byte}
use Rattle.ode_value.specs.Tables.{Means, Table}
use Rattle.ode_value.specs.declared.member.TriggerDecl.{TriggerDecl}
use Rattle.ode_walk.specs.Relation.{Agrees}
use Rattle.ode_opening_tables.specs.Tables.{HasTable, IsAmong, IsStored, LackTable, TablesIn}

-- ---- parts of a stored table

-- the value of a head spells these states and symbols
abbrev pub heads : ℕ → ℕ → List ℕ
heads states symbols = u16 states ++ byte symbols

-- the size that a value spells, where it spells one
abbrev pub IsSize : List ℕ → Option (ℕ × ℕ) → Type 0
IsSize value (Some size) = value ≡ heads size.0 size.1
IsSize value None = (states symbols : ℕ) → value ≡ heads states symbols → ⊥

-- the size in the head under a class and a place, where there is such a head
abbrev pub IsHeadOf : Entries → ℕ → ℕ → Option (ℕ × ℕ) → Type 0
IsHeadOf entries class place (Some size) = value_under entries (key table_head_kind class place) ≡ Some (heads size.0 size.1)
IsHeadOf entries class place None = (states symbols : ℕ) → value_under entries (key table_head_kind class place) ≡ Some (heads states symbols) → ⊥

-- the value under a key, where it is a piece of which so many bytes are left
abbrev pub piece_in : ℕ → List ℕ → Option (List ℕ)
piece_in left bytes = cond (length bytes == min left value_limit) (Some bytes) None

abbrev pub IsPiece : Option (List ℕ) → ℕ → Option (List ℕ) → Type 0
IsPiece value left found = found ≡ option_and_then (piece_in left) value

-- all pieces of some bytes are there
abbrev pub ArePieces : Entries → ℕ → ℕ → List ℕ → Type 0
ArePieces entries class place bytes = AllByRecursion (IsAmong entries) (map (table_row class place) (pieces_of bytes))

-- so many bytes whose pieces are there, where there are such
pub record IsJoined (entries : Entries) (class place count : ℕ) (bytes : List ℕ) : Type 0 where
  pub count_is : length bytes ≡ count
  pub pieces : ArePieces entries class place bytes

abbrev pub Joins : Entries → ℕ → ℕ → ℕ → Option (List ℕ) → Type 0
Joins entries class place count (Some bytes) = IsJoined entries class place count bytes
Joins entries class place count None = (bytes : List ℕ) → IsJoined entries class place count bytes → ⊥

-- the answers that bytes spell, where they spell such
abbrev pub AreAnswers : List ℕ → Option (List Bool) → Type 0
AreAnswers bytes (Some answers) = map bit answers ≡ bytes
AreAnswers bytes None = (answers : List Bool) → map bit answers ≡ bytes → ⊥

-- ---- a stored table

-- a table of this size whose parts fit each other and have these bytes
pub record IsOfBytes (states symbols : ℕ) (bytes : List ℕ) (t : Table) : Type 0 where
  pub whole : IsWhole t
  pub states_are : t.states ≡ states
  pub symbols_are : t.symbols ≡ symbols
  pub bytes_are : table_bytes t ≡ bytes

abbrev pub TableOf : ℕ → ℕ → List ℕ → Option Table → Type 0
TableOf states symbols bytes (Some t) = IsOfBytes states symbols bytes t
TableOf states symbols bytes None = (t : Table) → IsOfBytes states symbols bytes t → ⊥

-- the table that is stored and whose parts fit each other, where there is one
abbrev pub TableUnder : Entries → ℕ → ℕ → Option Table → Type 0
TableUnder entries class place (Some t) = IsStored entries class place t × IsWhole t
TableUnder entries class place None = (t : Table) → IsStored entries class place t → IsWhole t → ⊥

-- ---- a stored table beside the built one

-- they have as many symbols and agree on every word that isn't empty, or they don't
abbrev pub Compares : Table → Table → Bool → Type 0
Compares stored built true = (stored.symbols ≡ built.symbols) × Agrees stored built
Compares stored built false = stored.symbols ≡ built.symbols → Agrees stored built → ⊥

-- ---- one trigger, some triggers

-- a trigger's table, or that it has none
abbrev pub TableFor : Entries → Trigger → Result Table OpenError → Type 0
TableFor entries t (Ok table) = HasTable entries t table
TableFor entries t (Err (BadFile why)) = ((table : Table) → HasTable entries t table → ⊥) × (why ≡ cause.Table t.class t.place)
TableFor entries t (Err DiskFault) = Unit {0}
TableFor entries t (Err Memory) = Unit {0}

-- tables behind others
pub record AreBehind (entries : Entries) (triggers : List Trigger) (before behind : List Table) : Type 0 where
  pub own : List Table
  pub are : behind ≡ before ++ own
  pub have : AllZip (HasTable entries) triggers own

-- what is left of some tables is the same with those of some triggers more, or the first of these that has none
abbrev pub ReadsTo : Entries → List Trigger → List Table → List Table → Result (Unit {0}) OpenError → Type 0
ReadsTo entries triggers before behind (Ok u) = AreBehind entries triggers before behind
ReadsTo entries triggers before behind (Err (BadFile why)) = LackTable entries triggers why
ReadsTo entries triggers before behind (Err DiskFault) = Unit {0}
ReadsTo entries triggers before behind (Err Memory) = Unit {0}

-- what the rule comes to is answered; want of memory and a fault of the disk may come in place of it
abbrev pub Tells : Entries → List Trigger → Result (List Table × List ℕ) OpenError → Type 0
Tells entries triggers (Ok r) = TablesIn entries triggers (Ok r.0)
Tells entries triggers (Err (BadFile why)) = TablesIn entries triggers (Err why)
Tells entries triggers (Err DiskFault) = Unit {0}
Tells entries triggers (Err Memory) = Unit {0}

-- ---- which tables were built

-- from a place on there is for each of some triggers in order a table that means its event
abbrev pub AreBuiltFrom : List Table → ℕ → List TriggerDecl → Type 0
AreBuiltFrom built first triggers = (place : ℕ) (t : TriggerDecl) → slice_get triggers place ≡ Some t
    → IsSomeAnd (slice_get built (first + place)) (λ table. Means table t.event)

-- stored tables have as many symbols each as the built ones at their places
abbrev pub AreBeside : List Table → List Table → Type 0
AreBeside built stored = (at : ℕ) (table : Table) → slice_get stored at ≡ Some table → IsSomeAnd (slice_get built at) (λ b. table.symbols ≡ b.symbols)

-- accepted classes with their stored tables
abbrev pub parts_of : Accepted → List Table × List ℕ → Parts
parts_of a r = record { classes = a.classes; tables = r.0; alphabets = a.alphabets; maps = r.1 }
