-- The lines of records, and the line of their counts.
use Rattle.std.specs.Prelude.{ℕ, List, [], ◌++◌, codes, cond}
use Rattle.std.specs.List.{flat_map}
use Rattle.std.specs.Option.{option_map_or}
use Rattle.ode_codec.specs.Reading.{record_under}
use Rattle.ode_codec.specs.declared.record.Activation.{Activation}
use Rattle.ode_codec.specs.declared.record.Counters.{Counters}
use Rattle.ode_codec.specs.declared.record.Entry.{Entry}
use Rattle.ode_codec.specs.declared.record.Record.{Record}
use Rattle.ode_codec.specs.declared.record.Record.TheVariants as of
use Rattle.ode_value.specs.Decimal.{digits_of, int_digits}
use Rattle.ode_value.specs.Records.{Row}
use Rattle.ode_value.specs.Texts.{line, value_text}
use Rattle.ode_value.specs.declared.class.Class.{Class}
use Rattle.ode_value.specs.declared.value.Value.{Value}
use Rattle.ode_dump.specs.Names.{class_name, trigger_name}

-- each value behind a blank
abbrev pub values_text : List Value → List ℕ
values_text values = flat_map (λ v. codes " " ++ value_text v) values

-- `counters next N tx K entry Q`
abbrev pub counters_line : Counters → List ℕ
counters_line c = line (codes "counters next " ++ digits_of c.next_number ++ codes " tx " ++ digits_of c.next_transaction ++ codes " entry " ++ digits_of c.next_entry)

-- `clock SECONDS OBJECT PLACE`, or `clock none` where it isn't set
abbrev pub clock_line : Counters → List ℕ
clock_line c = line (cond c.clock_set (codes "clock " ++ int_digits c.instant ++ codes " " ++ digits_of c.object ++ codes " " ++ digits_of c.place) (codes "clock none"))

-- `class C NAME`
abbrev pub class_line : ℕ → List ℕ → List ℕ
class_line class name = line (codes "class " ++ digits_of class ++ codes " " ++ name)

-- `table C T states S symbols Y`
abbrev pub table_line : (class trigger states symbols : ℕ) → List ℕ
table_line class trigger states symbols =
    line (codes "table " ++ digits_of class ++ codes " " ++ digits_of trigger ++ codes " states " ++ digits_of states ++ codes " symbols " ++ digits_of symbols)

-- `object #N class NAME last V`
abbrev pub object_line : ℕ → List ℕ → ℕ → List ℕ
object_line object class last = line (codes "object #" ++ digits_of object ++ codes " class " ++ class ++ codes " last " ++ digits_of last)

-- `version #N@V parent P`, and the fields
abbrev pub version_line : (object number parent : ℕ) → List Value → List ℕ
version_line object number parent fields =
    line (codes "version #" ++ digits_of object ++ codes "@" ++ digits_of number ++ codes " parent " ++ digits_of parent ++ values_text fields)

-- `active ID on #N trigger T state S`, and the arguments
abbrev pub activation_line : List ℕ → Activation → List ℕ
activation_line trigger a =
    line (codes "active " ++ digits_of a.number ++ codes " on #" ++ digits_of a.object ++ codes " trigger " ++ trigger ++ codes " state " ++ digits_of a.state ++ values_text a.args)

-- `entry Q trigger T on #N generation G`, and the arguments
abbrev pub entry_line : List ℕ → ℕ → Entry → List ℕ
entry_line trigger number e =
    line (codes "entry " ++ digits_of number ++ codes " trigger " ++ trigger ++ codes " on #" ++ digits_of e.object ++ codes " generation " ++ digits_of e.generation ++ values_text e.args)

-- a record's line, by the classes; pieces and added fields have none, and counters two, the second of which is the clock's
abbrev pub record_line : List Class → Record → List ℕ
record_line classes (of.Counters c) = counters_line c ++ clock_line c
record_line classes (of.ClassHead class name parent text_length triggers) = class_line class (class_name classes class)
record_line classes (of.ClassPiece class piece bytes) = []
record_line classes (of.TableHead class trigger states symbols) = table_line class trigger states symbols
record_line classes (of.TablePiece class trigger piece bytes) = []
record_line classes (of.Object object class last) = object_line object (class_name classes class) last
record_line classes (of.Version object number parent stamp fields) = version_line object number parent fields
record_line classes (of.Activation a) = activation_line (trigger_name classes a.class a.trigger) a
record_line classes (of.Entry number e) = entry_line (trigger_name classes e.class e.trigger) number e
record_line classes (of.Added class birth name sort refers literal) = []

-- the line of the record that a key and a value stand for, if they stand for one
abbrev pub entry_text : List Class → Row → List ℕ
entry_text classes e = option_map_or (record_line classes) (record_under e.0 e.1) []
