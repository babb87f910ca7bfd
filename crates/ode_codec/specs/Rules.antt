-- Which records have a spelling.
use Rattle.std.specs.Prelude.{◌≡◌, ℕ, ◌<◌, ◌≤◌, ◌^◌, ℤ, pos, List, length, Bool, true, false, IfSome, FitsSigned}
use Rattle.std.specs.Int.{w64}
use Rattle.std.specs.List.{AllByRecursion}
use Rattle.ode_value.specs.Limits.{number_limit, transaction_limit, value_limit}
use Rattle.ode_value.specs.Text.{IsName, IsText}
use Rattle.ode_value.specs.declared.value.Value.{Value}
use Rattle.ode_value.specs.declared.value.Value.TheVariants as value
use Rattle.ode_codec.specs.Formats.{is_sort}
use Rattle.ode_codec.specs.declared.record.Activation.{Activation}
use Rattle.ode_codec.specs.declared.record.Counters.{Counters}
use Rattle.ode_codec.specs.declared.record.Entry.{Entry}
use Rattle.ode_codec.specs.declared.record.Record.{Record}
use Rattle.ode_codec.specs.declared.record.Record.TheVariants as of

-- ---- what a record keeps besides the ranges of its types

-- no version 0, and null has no version
abbrev pub IsKeptValue : Value → Type 0
IsKeptValue (value.Reference r) = IfSome r.version (λ v. (0 < r.object) × (0 < v))
IsKeptValue (value.Int n) = Unit {0}
IsKeptValue (value.Bool b) = Unit {0}
IsKeptValue (value.Text t) = Unit {0}

abbrev pub AreKept : List Value → Type 0
AreKept vs = AllByRecursion IsKeptValue vs

-- a next number starts at 1 and lies within its limit
abbrev pub IsNext : ℕ → ℕ → Type 0
IsNext limit n = (1 ≤ n) × (n ≤ limit)

-- zeros where the clock isn't set
abbrev pub IsClock : Bool → ℤ → ℕ → ℕ → Type 0
IsClock true instant object place = Unit {0}
IsClock false instant object place = (instant ≡ pos 0) × (object ≡ 0) × (place ≡ 0)

pub record IsKeptCounters (c : Counters) : Type 0 where
  pub next_number : IsNext number_limit c.next_number
  pub next_transaction : IsNext transaction_limit c.next_transaction
  pub next_entry : IsNext number_limit c.next_entry
  pub clock : IsClock c.clock_set c.instant c.object c.place

-- what stands in a piece
abbrev pub IsPiece : List ℕ → Type 0
IsPiece bytes = (1 ≤ length bytes) × (length bytes ≤ value_limit)

-- the condition of a spelling: its count has room for the fields
unfoldable pub IsCounted : Record → Type 0
IsCounted (of.Version object number parent stamp fields) = length fields < 2 ^ 15
IsCounted _ = Unit {0}

-- the condition of reading it again: numbers, lengths, zeros and references
unfoldable pub IsKept : Record → Type 0
IsKept (of.Counters c) = IsKeptCounters c
IsKept (of.ClassHead class name parent text_length triggers) = Unit {0}
IsKept (of.ClassPiece class piece bytes) = IsPiece bytes
IsKept (of.TableHead class trigger states symbols) = Unit {0}
IsKept (of.TablePiece class trigger piece bytes) = IsPiece bytes
IsKept (of.Object object class last) = Unit {0}
IsKept (of.Version object number parent stamp fields) = (length fields < 2 ^ 15) × AreKept fields
IsKept (of.Activation a) = (length a.args < 2 ^ 8) × AreKept a.args
IsKept (of.Entry number e) = (length e.args < 2 ^ 8) × AreKept e.args
IsKept (of.Added class birth name sort refers literal) = (is_sort sort refers ≡ true) × IsKeptValue literal

-- ---- the ranges of the types, which every value of the program has

abbrev pub InRange : Value → Type 0
InRange (value.Int n) = FitsSigned w64 n
InRange (value.Bool b) = Unit {0}
InRange (value.Text t) = IsText t
InRange (value.Reference r) = (r.object < 2 ^ 64) × IfSome r.version (λ v. v < 2 ^ 32)

abbrev pub AreInRange : List Value → Type 0
AreInRange vs = AllByRecursion InRange vs

pub record CountersInRange (c : Counters) : Type 0 where
  pub numbers : (c.next_number < 2 ^ 64) × (c.next_transaction < 2 ^ 64) × (c.next_entry < 2 ^ 64)
  pub clock : FitsSigned w64 c.instant × (c.object < 2 ^ 64) × (c.place < 2 ^ 32)
  pub added : c.added < 2 ^ 32

pub record ActivationInRange (a : Activation) : Type 0 where
  pub key : (a.object < 2 ^ 64) × (a.number < 2 ^ 64)
  pub trigger : (a.class < 2 ^ 32) × (a.trigger < 2 ^ 16) × (a.state < 2 ^ 16)
  pub args : AreInRange a.args

pub record EntryInRange (e : Entry) : Type 0 where
  pub object : e.object < 2 ^ 64
  pub trigger : (e.class < 2 ^ 32) × (e.trigger < 2 ^ 16) × (e.generation < 2 ^ 8)
  pub args : AreInRange e.args

unfoldable pub HasRanges : Record → Type 0
HasRanges (of.Counters c) = CountersInRange c
HasRanges (of.ClassHead class name parent text_length triggers) = (class < 2 ^ 32) × IsName name × (parent < 2 ^ 32) × (text_length < 2 ^ 32) × (triggers < 2 ^ 16)
HasRanges (of.ClassPiece class piece bytes) = (class < 2 ^ 32) × (piece < 2 ^ 32)
HasRanges (of.TableHead class trigger states symbols) = (class < 2 ^ 32) × (trigger < 2 ^ 16) × (states < 2 ^ 16) × (symbols < 2 ^ 8)
HasRanges (of.TablePiece class trigger piece bytes) = (class < 2 ^ 32) × (trigger < 2 ^ 16) × (piece < 2 ^ 16)
HasRanges (of.Object object class last) = (object < 2 ^ 64) × (class < 2 ^ 32) × (last < 2 ^ 32)
HasRanges (of.Version object number parent stamp fields) = (object < 2 ^ 64) × (number < 2 ^ 32) × (parent < 2 ^ 32) × (stamp < 2 ^ 32) × AreInRange fields
HasRanges (of.Activation a) = ActivationInRange a
HasRanges (of.Entry number e) = (number < 2 ^ 64) × EntryInRange e
HasRanges (of.Added class birth name sort refers literal) = (class < 2 ^ 32) × (birth < 2 ^ 32) × IsName name × (sort < 2 ^ 8) × (refers < 2 ^ 32) × InRange literal

-- a record that has a spelling
pub record IsRecord (r : Record) : Type 0 where
  pub kept : IsKept r
  pub ranges : HasRanges r
