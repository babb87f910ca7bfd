-- Each record has one spelling, and what is read is spelled so.
use Rattle.std.proofs.Common.{◌≡◌, ℕ, ℤ, ◌+◌, ◌*◌, ◌/◌, ◌%◌, ◌^◌, ◌<◌, ◌≤◌, zero, suc, Bool, true, false, not, cond, List, [], ◌∷◌, ◌++◌, length, Option, Some, None, refl, sym, ap, subst, ◌∙◌, arith}
use Rattle.std.specs.Prelude.{FitsSigned, nat_lt, nat_le, ◌==◌, ◌&&◌, position, if◌then◌else◌}
use Rattle.std.specs.Int.{w64}
use Rattle.std.specs.Option.{is_none}
use Rattle.std.proofs.lemmas.Bool.Decides.{nat_tests}
use Rattle.std.proofs.lemmas.List.{append-nil}
use Rattle.ode_value.specs.Keys.{key, counters_kind, class_head_kind, class_piece_kind, table_head_kind, table_piece_kind, object_kind, version_kind, activation_kind, entry_kind, added_kind}
use Rattle.ode_value.specs.Limits.{name_limit, value_limit}
use Rattle.ode_value.specs.Records.{spelled_value, stamp_bytes}
use Rattle.ode_value.specs.Text.{IsName, is_name, is_name_byte}
use Rattle.ode_value.specs.declared.key.Key.{Key}
use Rattle.ode_value.specs.declared.value.Value.{Value}
use Rattle.ode_codec.specs.Formats.{◌>>=◌, both, byte_in, ended, fit, holding, int_in, is_sort, some_in, truth_in}
use Rattle.ode_codec.specs.Reading
use Rattle.ode_codec.specs.Reading.{added_count_in, clock_in, is_counters, is_piece, made_counters, name_in, u16_in, u32_in, u64_in}
use Rattle.ode_codec.specs.Rules.{HasRanges, IsKept, IsPiece, IsRecord}
use Rattle.ode_codec.specs.Spelling.{key_of, spelled, truth, u16, u32, u64, value_of}
use Rattle.ode_codec.specs.Values.{args_in, fields_in, value_in}
use Rattle.ode_codec.specs.declared.record.Activation.{Activation}
use Rattle.ode_codec.specs.declared.record.Counters.{Counters}
use Rattle.ode_codec.specs.declared.record.Entry.{Entry}
use Rattle.ode_codec.specs.declared.record.Record.{Record}
use Rattle.ode_codec.specs.declared.record.Record.TheVariants as of
use Rattle.ode_codec.proofs.CounterLaws.{counters_are, counters_pass, is_zero}
use Rattle.ode_codec.proofs.FormatLaws.{IsBytes, IsFormat, bind_some, both_format, fit_again, fit_is, format8, format16, format32, format64, held, int_format, none_left, same, some_format, spell_byte, spell_int, stamp_some, truth_format, whole_again, whole_takes}
use Rattle.ode_codec.proofs.ValueLaws.{FitArgs, FitFields, FitsValue, are_kept, args_format, both_true, fields_format, fit_values, in_range, none_there, part_format, spell_args, spell_fields, value_format}
use Rattle.ode_codec.specs.declared.record.TheConstants.{TABLE_PLACES}

-- the numbers of a key are within their types
pub record IsKey (k : Key) : Type 0 where
  pub a : k.a < 2 ^ 64
  pub b : k.b < 2 ^ 64

-- the record under a key of this kind
pub record Spells (kind : ℕ) (k : Key) (bytes : List ℕ) (r : Record) : Type 0 where
  pub rules : IsRecord r
  pub key : key kind k.a k.b ≡ key_of r
  pub value : bytes ≡ value_of r

held_again : (b : Bool) → b ≡ true → holding b ≡ Some tt
held_again b h = ap holding h

skip : {A : Type 0} (o : Option (Unit {0})) (next : Option A) → o ≡ Some tt → (o >>= λ _. next) ≡ next
skip o next h = ap (λ (x : Option (Unit {0})). x >>= λ _. next) h

next_by : {A B : Type 0} (o : Option A) (x : A) (next : A → Option B) → o ≡ Some x → (o >>= next) ≡ next x
next_by o x next h = ap (λ y. y >>= next) h

-- ---- objects

pair32 : IsFormat (ℕ × ℕ) (λ p. u32 p.0 ++ u32 p.1) (both u32_in u32_in) (λ p. (p.0 < 2 ^ 32) × (p.1 < 2 ^ 32))
pair32 = both_format ℕ ℕ u32 u32 u32_in u32_in (λ n. n < 2 ^ 32) (λ n. n < 2 ^ 32) format32 format32

object_found : (k : Key) (bytes : List ℕ) (r : Record) → IsKey k → IsBytes bytes → Reading.object_under k bytes ≡ Some r → Spells object_kind k bytes r
unfolding Reading.object_under key_of value_of IsKept HasRanges
object_found k bytes r is fits e =
    let a = bind_some (holding (k.b == 0)) (λ _. both u32_in u32_in bytes >>= λ f. ended f.1 >>= λ _. Some (of.Object k.a f.0.0 f.0.1)) r e in
    let zero : k.b ≡ 0 = is_zero k.b (held (k.b == 0) a.0 a.1) in
    let w = whole_takes (ℕ × ℕ) Record (λ p. u32 p.0 ++ u32 p.1) (both u32_in u32_in) (λ p. (p.0 < 2 ^ 32) × (p.1 < 2 ^ 32)) pair32 (λ p. Some (of.Object k.a p.0 p.1)) bytes r fits a.2 in
    subst (Spells object_kind k bytes) (same (of.Object k.a w.0.0 w.0.1) r w.3)
    (record { rules = record { kept = tt; ranges = (is.a, w.2.0, w.2.1) }; key = ap (key object_kind k.a) zero; value = w.1 })

object_again : (object class last : ℕ) → IsRecord (of.Object object class last) → Reading.object_under (key object_kind object 0) (u32 class ++ u32 last) ≡ Some (of.Object object class last)
unfolding Reading.object_under IsKept HasRanges
object_again object class last is =
    whole_again (ℕ × ℕ) Record (λ p. u32 p.0 ++ u32 p.1) (both u32_in u32_in) (λ p. (p.0 < 2 ^ 32) × (p.1 < 2 ^ 32)) pair32 (λ p. Some (of.Object object p.0 p.1)) (class, last) (is.ranges.1, is.ranges.2)

-- ---- versions

abbrev Versions : Type 0
Versions = ℕ × (ℕ × List Value)

abbrev spell_version : Versions → List ℕ
spell_version p = u32 p.0 ++ spell_fields p.1

abbrev FitVersion : Versions → Type 0
FitVersion p = (p.0 < 2 ^ 32) × FitFields p.1

version_format : IsFormat Versions spell_version (both u32_in fields_in) FitVersion
version_format = both_format ℕ (ℕ × List Value) u32 spell_fields u32_in fields_in (λ n. n < 2 ^ 32) FitFields format32 fields_format

version_found : (k : Key) (bytes : List ℕ) (r : Record) → IsKey k → IsBytes bytes → Reading.version_under k bytes ≡ Some r → Spells version_kind k bytes r
unfolding Reading.version_under key_of value_of IsKept HasRanges
version_found k bytes r is fits e =
    let a = bind_some (fit (2 ^ 32) k.b) (λ number. both u32_in fields_in bytes >>= λ f. ended f.1 >>= λ _. Some (of.Version k.a number f.0.0 f.0.1.0 f.0.1.1)) r e in
    let low = fit_is (2 ^ 32) k.b a.0 a.1 in
    let w = whole_takes Versions Record spell_version (both u32_in fields_in) FitVersion version_format (λ p. Some (of.Version k.a a.0 p.0 p.1.0 p.1.1)) bytes r fits a.2 in
    subst (Spells version_kind k bytes) (same (of.Version k.a a.0 w.0.0 w.0.1.0 w.0.1.1) r w.3)
    (record {
      rules = record { kept = (w.2.1.1.0, are_kept w.0.1.1 w.2.1.1.1); ranges = (is.a, subst (λ n. n < 2 ^ 32) low.1 low.0, w.2.0, w.2.1.0, in_range w.0.1.1 w.2.1.1.1) };
      key = ap (key version_kind k.a) low.1;
      value = w.1;
    })

version_again : (object number parent stamp : ℕ) (fields : List Value) → IsRecord (of.Version object number parent stamp fields)
    → Reading.version_under (key version_kind object number) (spell_version (parent, (stamp, fields))) ≡ Some (of.Version object number parent stamp fields)
unfolding Reading.version_under IsKept HasRanges
version_again object number parent stamp fields is =
    next_by (fit (2 ^ 32) number) number (λ n. both u32_in fields_in (spell_version (parent, (stamp, fields))) >>= λ f. ended f.1 >>= λ _. Some (of.Version object n f.0.0 f.0.1.0 f.0.1.1)) (fit_again (2 ^ 32) number is.ranges.1)
    ∙ whole_again Versions Record spell_version (both u32_in fields_in) FitVersion version_format (λ p. Some (of.Version object number p.0 p.1.0 p.1.1)) (parent, (stamp, fields))
    (is.ranges.2, (is.ranges.3, (is.kept.0, fit_values fields is.ranges.4 is.kept.1)))

-- ---- activations

abbrev Acts : Type 0
Acts = ℕ × (ℕ × (ℕ × List Value))

abbrev spell_acts : Acts → List ℕ
spell_acts p = u32 p.0 ++ (u16 p.1.0 ++ (u16 p.1.1.0 ++ spell_args p.1.1.1))

abbrev FitActs : Acts → Type 0
FitActs p = (p.0 < 2 ^ 32) × ((p.1.0 < 2 ^ 16) × ((p.1.1.0 < 2 ^ 16) × FitArgs p.1.1.1))

abbrev acts_in : List ℕ → Option (Acts × List ℕ)
acts_in = both u32_in (both u16_in (both u16_in args_in))

state_format : IsFormat (ℕ × List Value) (λ p. u16 p.0 ++ spell_args p.1) (both u16_in args_in) (λ p. (p.0 < 2 ^ 16) × FitArgs p.1)
state_format = both_format ℕ (List Value) u16 spell_args u16_in args_in (λ n. n < 2 ^ 16) FitArgs format16 args_format

trigger_format : IsFormat (ℕ × (ℕ × List Value)) (λ p. u16 p.0 ++ (u16 p.1.0 ++ spell_args p.1.1)) (both u16_in (both u16_in args_in)) (λ p. (p.0 < 2 ^ 16) × ((p.1.0 < 2 ^ 16) × FitArgs p.1.1))
trigger_format = both_format ℕ (ℕ × List Value) u16 (λ p. u16 p.0 ++ spell_args p.1) u16_in (both u16_in args_in) (λ n. n < 2 ^ 16) (λ p. (p.0 < 2 ^ 16) × FitArgs p.1) format16 state_format

acts_format : IsFormat Acts spell_acts acts_in FitActs
acts_format = both_format ℕ (ℕ × (ℕ × List Value)) u32 (λ p. u16 p.0 ++ (u16 p.1.0 ++ spell_args p.1.1)) u32_in (both u16_in (both u16_in args_in)) (λ n. n < 2 ^ 32) (λ p. (p.0 < 2 ^ 16) × ((p.1.0 < 2 ^ 16) × FitArgs p.1.1)) format32 trigger_format

abbrev made_activation : ℕ → ℕ → Acts → Record
made_activation object number p = of.Activation (record { object = object; number = number; class = p.0; trigger = p.1.0; state = p.1.1.0; args = p.1.1.1 })

activation_found : (k : Key) (bytes : List ℕ) (r : Record) → IsKey k → IsBytes bytes → Reading.activation_under k bytes ≡ Some r → Spells activation_kind k bytes r
unfolding Reading.activation_under key_of value_of IsKept HasRanges
activation_found k bytes r is fits e =
    let w = whole_takes Acts Record spell_acts acts_in FitActs acts_format (λ p. Some (made_activation k.a k.b p)) bytes r fits e in
    subst (Spells activation_kind k bytes) (same (made_activation k.a k.b w.0) r w.3)
    (record {
      rules = record {
        kept = (w.2.1.1.1.0, are_kept w.0.1.1.1 w.2.1.1.1.1);
        ranges = record { key = (is.a, is.b); trigger = (w.2.0, w.2.1.0, w.2.1.1.0); args = in_range w.0.1.1.1 w.2.1.1.1.1 };
      };
      key = refl;
      value = w.1;
    })

activation_again : (a : Activation) → IsRecord (of.Activation a)
    → Reading.activation_under (key activation_kind a.object a.number) (spell_acts (a.class, (a.trigger, (a.state, a.args)))) ≡ Some (of.Activation a)
unfolding Reading.activation_under IsKept HasRanges
activation_again a is =
    whole_again Acts Record spell_acts acts_in FitActs acts_format (λ p. Some (made_activation a.object a.number p)) (a.class, (a.trigger, (a.state, a.args)))
    (is.ranges.trigger.0, (is.ranges.trigger.1, (is.ranges.trigger.2, (is.kept.0, fit_values a.args is.ranges.args is.kept.1))))

-- ---- entries

abbrev Waits : Type 0
Waits = ℕ × (ℕ × (ℕ × (ℕ × List Value)))

abbrev spell_waits : Waits → List ℕ
spell_waits p = u64 p.0 ++ (u32 p.1.0 ++ (u16 p.1.1.0 ++ (spell_byte p.1.1.1.0 ++ spell_args p.1.1.1.1)))

abbrev FitWaits : Waits → Type 0
FitWaits p = (p.0 < 2 ^ 64) × ((p.1.0 < 2 ^ 32) × ((p.1.1.0 < 2 ^ 16) × ((p.1.1.1.0 < 2 ^ 8) × FitArgs p.1.1.1.1)))

abbrev waits_in : List ℕ → Option (Waits × List ℕ)
waits_in = both u64_in (both u32_in (both u16_in (both byte_in args_in)))

generation_format : IsFormat (ℕ × List Value) (λ p. spell_byte p.0 ++ spell_args p.1) (both byte_in args_in) (λ p. (p.0 < 2 ^ 8) × FitArgs p.1)
generation_format = both_format ℕ (List Value) spell_byte spell_args byte_in args_in (λ n. n < 2 ^ 8) FitArgs format8 args_format

fired_format : IsFormat (ℕ × (ℕ × List Value)) (λ p. u16 p.0 ++ (spell_byte p.1.0 ++ spell_args p.1.1)) (both u16_in (both byte_in args_in)) (λ p. (p.0 < 2 ^ 16) × ((p.1.0 < 2 ^ 8) × FitArgs p.1.1))
fired_format = both_format ℕ (ℕ × List Value) u16 (λ p. spell_byte p.0 ++ spell_args p.1) u16_in (both byte_in args_in) (λ n. n < 2 ^ 16) (λ p. (p.0 < 2 ^ 8) × FitArgs p.1) format16 generation_format

class_format : IsFormat (ℕ × (ℕ × (ℕ × List Value))) (λ p. u32 p.0 ++ (u16 p.1.0 ++ (spell_byte p.1.1.0 ++ spell_args p.1.1.1))) (both u32_in (both u16_in (both byte_in args_in))) (λ p. (p.0 < 2 ^ 32) × ((p.1.0 < 2 ^ 16) × ((p.1.1.0 < 2 ^ 8) × FitArgs p.1.1.1)))
class_format = both_format ℕ (ℕ × (ℕ × List Value)) u32 (λ p. u16 p.0 ++ (spell_byte p.1.0 ++ spell_args p.1.1)) u32_in (both u16_in (both byte_in args_in)) (λ n. n < 2 ^ 32) (λ p. (p.0 < 2 ^ 16) × ((p.1.0 < 2 ^ 8) × FitArgs p.1.1)) format32 fired_format

waits_format : IsFormat Waits spell_waits waits_in FitWaits
waits_format = both_format ℕ (ℕ × (ℕ × (ℕ × List Value))) u64 (λ p. u32 p.0 ++ (u16 p.1.0 ++ (spell_byte p.1.1.0 ++ spell_args p.1.1.1))) u64_in (both u32_in (both u16_in (both byte_in args_in))) (λ n. n < 2 ^ 64) (λ p. (p.0 < 2 ^ 32) × ((p.1.0 < 2 ^ 16) × ((p.1.1.0 < 2 ^ 8) × FitArgs p.1.1.1))) format64 class_format

abbrev made_entry : ℕ → Waits → Record
made_entry number p = of.Entry number (record { object = p.0; class = p.1.0; trigger = p.1.1.0; generation = p.1.1.1.0; args = p.1.1.1.1 })

entry_found : (k : Key) (bytes : List ℕ) (r : Record) → IsKey k → IsBytes bytes → Reading.entry_under k bytes ≡ Some r → Spells entry_kind k bytes r
unfolding Reading.entry_under key_of value_of IsKept HasRanges
entry_found k bytes r is fits e =
    let a = bind_some (holding (k.b == 0)) (λ _. waits_in bytes >>= λ f. ended f.1 >>= λ _. Some (made_entry k.a f.0)) r e in
    let zero : k.b ≡ 0 = is_zero k.b (held (k.b == 0) a.0 a.1) in
    let w = whole_takes Waits Record spell_waits waits_in FitWaits waits_format (λ p. Some (made_entry k.a p)) bytes r fits a.2 in
    subst (Spells entry_kind k bytes) (same (made_entry k.a w.0) r w.3)
    (record {
      rules = record {
        kept = (w.2.1.1.1.1.0, are_kept w.0.1.1.1.1 w.2.1.1.1.1.1);
        ranges = (is.a, record { object = w.2.0; trigger = (w.2.1.0, w.2.1.1.0, w.2.1.1.1.0); args = in_range w.0.1.1.1.1 w.2.1.1.1.1.1 });
      };
      key = ap (key entry_kind k.a) zero;
      value = w.1;
    })

entry_again : (number : ℕ) (e : Entry) → IsRecord (of.Entry number e)
    → Reading.entry_under (key entry_kind number 0) (spell_waits (e.object, (e.class, (e.trigger, (e.generation, e.args))))) ≡ Some (of.Entry number e)
unfolding Reading.entry_under IsKept HasRanges
entry_again number e is =
    whole_again Waits Record spell_waits waits_in FitWaits waits_format (λ p. Some (made_entry number p)) (e.object, (e.class, (e.trigger, (e.generation, e.args))))
    (is.ranges.1.object, (is.ranges.1.trigger.0, (is.ranges.1.trigger.1, (is.ranges.1.trigger.2, (is.kept.0, fit_values e.args is.ranges.1.args is.kept.1)))))

-- ---- heads of tables

head_format : IsFormat (ℕ × ℕ) (λ p. u16 p.0 ++ spell_byte p.1) (both u16_in byte_in) (λ p. (p.0 < 2 ^ 16) × (p.1 < 2 ^ 8))
head_format = both_format ℕ ℕ u16 spell_byte u16_in byte_in (λ n. n < 2 ^ 16) (λ n. n < 2 ^ 8) format16 format8

table_head_found : (k : Key) (bytes : List ℕ) (r : Record) → IsKey k → IsBytes bytes → Reading.table_head_under k bytes ≡ Some r → Spells table_head_kind k bytes r
unfolding Reading.table_head_under key_of value_of IsKept HasRanges
table_head_found k bytes r is fits e =
    let a = bind_some (fit (2 ^ 32) k.a) (λ class. fit (2 ^ 16) k.b >>= λ trigger. both u16_in byte_in bytes >>= λ f. ended f.1 >>= λ _. Some (of.TableHead class trigger f.0.0 f.0.1)) r e in
    let b = bind_some (fit (2 ^ 16) k.b) (λ trigger. both u16_in byte_in bytes >>= λ f. ended f.1 >>= λ _. Some (of.TableHead a.0 trigger f.0.0 f.0.1)) r a.2 in
    let low = fit_is (2 ^ 32) k.a a.0 a.1 in
    let short = fit_is (2 ^ 16) k.b b.0 b.1 in
    let w = whole_takes (ℕ × ℕ) Record (λ p. u16 p.0 ++ spell_byte p.1) (both u16_in byte_in) (λ p. (p.0 < 2 ^ 16) × (p.1 < 2 ^ 8)) head_format (λ p. Some (of.TableHead a.0 b.0 p.0 p.1)) bytes r fits b.2 in
    subst (Spells table_head_kind k bytes) (same (of.TableHead a.0 b.0 w.0.0 w.0.1) r w.3)
    (record {
      rules = record { kept = tt; ranges = (subst (λ n. n < 2 ^ 32) low.1 low.0, subst (λ n. n < 2 ^ 16) short.1 short.0, w.2.0, w.2.1) };
      key = ap (λ n. key table_head_kind n k.b) low.1 ∙ ap (key table_head_kind a.0) short.1;
      value = w.1;
    })

table_head_again : (class trigger states symbols : ℕ) → IsRecord (of.TableHead class trigger states symbols)
    → Reading.table_head_under (key table_head_kind class trigger) (u16 states ++ spell_byte symbols) ≡ Some (of.TableHead class trigger states symbols)
unfolding Reading.table_head_under IsKept HasRanges
table_head_again class trigger states symbols is =
    let bytes = u16 states ++ spell_byte symbols in
    next_by (fit (2 ^ 32) class) class (λ c. fit (2 ^ 16) trigger >>= λ t. both u16_in byte_in bytes >>= λ f. ended f.1 >>= λ _. Some (of.TableHead c t f.0.0 f.0.1)) (fit_again (2 ^ 32) class is.ranges.0)
    ∙ next_by (fit (2 ^ 16) trigger) trigger (λ t. both u16_in byte_in bytes >>= λ f. ended f.1 >>= λ _. Some (of.TableHead class t f.0.0 f.0.1)) (fit_again (2 ^ 16) trigger is.ranges.1)
    ∙ whole_again (ℕ × ℕ) Record (λ p. u16 p.0 ++ spell_byte p.1) (both u16_in byte_in) (λ p. (p.0 < 2 ^ 16) × (p.1 < 2 ^ 8)) head_format (λ p. Some (of.TableHead class trigger p.0 p.1)) (states, symbols) (is.ranges.2, is.ranges.3)

-- ---- pieces

piece_is : (bytes : List ℕ) → is_piece bytes ≡ true → IsPiece bytes
piece_is bytes h =
    let parts = both_true (nat_le 1 (length bytes)) (nat_le (length bytes) value_limit) h in
    let some : nat_le 1 (length bytes) ≡ true = parts.0 in
    let few : nat_le (length bytes) value_limit ≡ true = parts.1 in
    (grind (arith, nat_tests), grind (arith, nat_tests))

piece_passes : (bytes : List ℕ) → IsPiece bytes → is_piece bytes ≡ true
piece_passes bytes is =
    let some : 1 ≤ length bytes = is.0 in
    let few : length bytes ≤ value_limit = is.1 in
    grind (arith, nat_tests)

class_piece_found : (k : Key) (bytes : List ℕ) (r : Record) → IsKey k → IsBytes bytes → Reading.class_piece_under k bytes ≡ Some r → Spells class_piece_kind k bytes r
unfolding Reading.class_piece_under key_of value_of IsKept HasRanges
class_piece_found k bytes r is fits e =
    let a = bind_some (fit (2 ^ 32) k.a) (λ class. fit (2 ^ 32) k.b >>= λ piece. holding (is_piece bytes) >>= λ _. Some (of.ClassPiece class piece bytes)) r e in
    let b = bind_some (fit (2 ^ 32) k.b) (λ piece. holding (is_piece bytes) >>= λ _. Some (of.ClassPiece a.0 piece bytes)) r a.2 in
    let c = bind_some (holding (is_piece bytes)) (λ _. Some (of.ClassPiece a.0 b.0 bytes)) r b.2 in
    let low = fit_is (2 ^ 32) k.a a.0 a.1 in
    let short = fit_is (2 ^ 32) k.b b.0 b.1 in
    subst (Spells class_piece_kind k bytes) (same (of.ClassPiece a.0 b.0 bytes) r c.2)
    (record {
      rules = record { kept = piece_is bytes (held (is_piece bytes) c.0 c.1); ranges = (subst (λ n. n < 2 ^ 32) low.1 low.0, subst (λ n. n < 2 ^ 32) short.1 short.0) };
      key = ap (λ n. key class_piece_kind n k.b) low.1 ∙ ap (key class_piece_kind a.0) short.1;
      value = refl;
    })

class_piece_again : (class piece : ℕ) (bytes : List ℕ) → IsRecord (of.ClassPiece class piece bytes) → Reading.class_piece_under (key class_piece_kind class piece) bytes ≡ Some (of.ClassPiece class piece bytes)
unfolding Reading.class_piece_under IsKept HasRanges
class_piece_again class piece bytes is =
    next_by (fit (2 ^ 32) class) class (λ c. fit (2 ^ 32) piece >>= λ p. holding (is_piece bytes) >>= λ _. Some (of.ClassPiece c p bytes)) (fit_again (2 ^ 32) class is.ranges.0)
    ∙ next_by (fit (2 ^ 32) piece) piece (λ p. holding (is_piece bytes) >>= λ _. Some (of.ClassPiece class p bytes)) (fit_again (2 ^ 32) piece is.ranges.1)
    ∙ next_by (holding (is_piece bytes)) tt (λ _. Some (of.ClassPiece class piece bytes)) (held_again (is_piece bytes) (piece_passes bytes is.kept))

table_piece_found : (k : Key) (bytes : List ℕ) (r : Record) → IsKey k → IsBytes bytes → Reading.table_piece_under k bytes ≡ Some r → Spells table_piece_kind k bytes r
unfolding Reading.table_piece_under key_of value_of IsKept HasRanges
table_piece_found k bytes r is fits e =
    let a = bind_some (fit (2 ^ 32) k.a) (λ class. fit (2 ^ 32) k.b >>= λ place. holding (is_piece bytes) >>= λ _. Some (of.TablePiece class (place / TABLE_PLACES) (place % TABLE_PLACES) bytes)) r e in
    let b = bind_some (fit (2 ^ 32) k.b) (λ place. holding (is_piece bytes) >>= λ _. Some (of.TablePiece a.0 (place / TABLE_PLACES) (place % TABLE_PLACES) bytes)) r a.2 in
    let c = bind_some (holding (is_piece bytes)) (λ _. Some (of.TablePiece a.0 (b.0 / TABLE_PLACES) (b.0 % TABLE_PLACES) bytes)) r b.2 in
    let low = fit_is (2 ^ 32) k.a a.0 a.1 in
    let short = fit_is (2 ^ 32) k.b b.0 b.1 in
    let place_low : b.0 < 2 ^ 32 = subst (λ n. n < 2 ^ 32) short.1 short.0 in
    let together : b.0 ≡ b.0 / TABLE_PLACES * TABLE_PLACES + b.0 % TABLE_PLACES = omega arith in
    subst (Spells table_piece_kind k bytes) (same (of.TablePiece a.0 (b.0 / TABLE_PLACES) (b.0 % TABLE_PLACES) bytes) r c.2)
    (record {
      rules = record { kept = piece_is bytes (held (is_piece bytes) c.0 c.1); ranges = (subst (λ n. n < 2 ^ 32) low.1 low.0, omega arith, omega arith) };
      key = ap (λ n. key table_piece_kind n k.b) low.1 ∙ ap (key table_piece_kind a.0) (short.1 ∙ together);
      value = refl;
    })

table_piece_again : (class trigger piece : ℕ) (bytes : List ℕ) → IsRecord (of.TablePiece class trigger piece bytes)
    → Reading.table_piece_under (key table_piece_kind class (trigger * TABLE_PLACES + piece)) bytes ≡ Some (of.TablePiece class trigger piece bytes)
unfolding Reading.table_piece_under IsKept HasRanges
table_piece_again class trigger piece bytes is =
    let place : ℕ = trigger * TABLE_PLACES + piece in
    let first : trigger < 2 ^ 16 = is.ranges.1 in
    let second : piece < 2 ^ 16 = is.ranges.2 in
    let low : trigger * TABLE_PLACES + piece < 2 ^ 32 = omega arith in
    let back : (trigger * TABLE_PLACES + piece) / TABLE_PLACES ≡ trigger = omega arith in
    let rest : (trigger * TABLE_PLACES + piece) % TABLE_PLACES ≡ piece = omega arith in
    next_by (fit (2 ^ 32) class) class (λ c. fit (2 ^ 32) place >>= λ p. holding (is_piece bytes) >>= λ _. Some (of.TablePiece c (p / TABLE_PLACES) (p % TABLE_PLACES) bytes)) (fit_again (2 ^ 32) class is.ranges.0)
    ∙ next_by (fit (2 ^ 32) place) place (λ p. holding (is_piece bytes) >>= λ _. Some (of.TablePiece class (p / TABLE_PLACES) (p % TABLE_PLACES) bytes)) (fit_again (2 ^ 32) place low)
    ∙ next_by (holding (is_piece bytes)) tt (λ _. Some (of.TablePiece class (place / TABLE_PLACES) (place % TABLE_PLACES) bytes)) (held_again (is_piece bytes) (piece_passes bytes is.kept))
    ∙ ap (λ t. Some (of.TablePiece class t (place % TABLE_PLACES) bytes)) back ∙ ap (λ p. Some (of.TablePiece class trigger p bytes)) rest

-- ---- heads of classes

name_is : (bytes : List ℕ) → is_name bytes ≡ true → IsName bytes
name_is bytes h =
    let a = both_true (nat_lt 0 (length bytes)) (nat_le (length bytes) name_limit && is_none (position (λ b. not (is_name_byte b)) bytes)) h in
    let b = both_true (nat_le (length bytes) name_limit) (is_none (position (λ b. not (is_name_byte b)) bytes)) a.1 in
    let some : nat_lt 0 (length bytes) ≡ true = a.0 in
    let short : nat_le (length bytes) name_limit ≡ true = b.0 in
    record { some = grind (arith, nat_tests); short = grind (arith, nat_tests); each = none_there (position (λ b. not (is_name_byte b)) bytes) b.1 }

name_passes : (bytes : List ℕ) → IsName bytes → is_name bytes ≡ true
name_passes bytes is =
    let some : nat_lt 0 (length bytes) ≡ true = let lt : 0 < length bytes = is.some in grind (arith, nat_tests) in
    let short : nat_le (length bytes) name_limit ≡ true = let le : length bytes ≤ name_limit = is.short in grind (arith, nat_tests) in
    ap (λ b. b && (nat_le (length bytes) name_limit && is_none (position (λ b. not (is_name_byte b)) bytes))) some
    ∙ ap (λ b. b && is_none (position (λ b. not (is_name_byte b)) bytes)) short ∙ ap (λ (o : Option ℕ). is_none o) is.each

abbrev spell_name : List ℕ → List ℕ
spell_name n = spell_byte (length n) ++ n

name_format : IsFormat (List ℕ) spell_name name_in IsName
unfolding name_in
name_format =
    let part = part_format is_name spell_byte byte_in (2 ^ 8) format8 in
    record {
      takes = λ bytes x fits e. let t = part.takes bytes x fits e in (t.0, name_is x.0 t.1.0);
      again = λ n rest is. part.again n rest (name_passes n is, omega (arith, is.short));
    }

abbrev Head : Type 0
Head = List ℕ × (ℕ × (ℕ × ℕ))

abbrev spell_head : Head → List ℕ
spell_head p = spell_name p.0 ++ (u32 p.1.0 ++ (u32 p.1.1.0 ++ u16 p.1.1.1))

abbrev FitHead : Head → Type 0
FitHead p = IsName p.0 × ((p.1.0 < 2 ^ 32) × ((p.1.1.0 < 2 ^ 32) × (p.1.1.1 < 2 ^ 16)))

abbrev head_in : List ℕ → Option (Head × List ℕ)
head_in = both name_in (both u32_in (both u32_in u16_in))

length_format : IsFormat (ℕ × ℕ) (λ p. u32 p.0 ++ u16 p.1) (both u32_in u16_in) (λ p. (p.0 < 2 ^ 32) × (p.1 < 2 ^ 16))
length_format = both_format ℕ ℕ u32 u16 u32_in u16_in (λ n. n < 2 ^ 32) (λ n. n < 2 ^ 16) format32 format16

parent_format : IsFormat (ℕ × (ℕ × ℕ)) (λ p. u32 p.0 ++ (u32 p.1.0 ++ u16 p.1.1)) (both u32_in (both u32_in u16_in)) (λ p. (p.0 < 2 ^ 32) × ((p.1.0 < 2 ^ 32) × (p.1.1 < 2 ^ 16)))
parent_format = both_format ℕ (ℕ × ℕ) u32 (λ p. u32 p.0 ++ u16 p.1) u32_in (both u32_in u16_in) (λ n. n < 2 ^ 32) (λ p. (p.0 < 2 ^ 32) × (p.1 < 2 ^ 16)) format32 length_format

class_head_format : IsFormat Head spell_head head_in FitHead
class_head_format = both_format (List ℕ) (ℕ × (ℕ × ℕ)) spell_name (λ p. u32 p.0 ++ (u32 p.1.0 ++ u16 p.1.1)) name_in (both u32_in (both u32_in u16_in)) IsName (λ p. (p.0 < 2 ^ 32) × ((p.1.0 < 2 ^ 32) × (p.1.1 < 2 ^ 16))) name_format parent_format

abbrev made_head : ℕ → Head → Record
made_head class p = of.ClassHead class p.0 p.1.0 p.1.1.0 p.1.1.1

class_head_found : (k : Key) (bytes : List ℕ) (r : Record) → IsKey k → IsBytes bytes → Reading.class_head_under k bytes ≡ Some r → Spells class_head_kind k bytes r
unfolding Reading.class_head_under key_of value_of IsKept HasRanges
class_head_found k bytes r is fits e =
    let a = bind_some (fit (2 ^ 32) k.a) (λ class. holding (k.b == 0) >>= λ _. head_in bytes >>= λ f. ended f.1 >>= λ _. Some (made_head class f.0)) r e in
    let b = bind_some (holding (k.b == 0)) (λ _. head_in bytes >>= λ f. ended f.1 >>= λ _. Some (made_head a.0 f.0)) r a.2 in
    let low = fit_is (2 ^ 32) k.a a.0 a.1 in
    let zero : k.b ≡ 0 = is_zero k.b (held (k.b == 0) b.0 b.1) in
    let w = whole_takes Head Record spell_head head_in FitHead class_head_format (λ p. Some (made_head a.0 p)) bytes r fits b.2 in
    subst (Spells class_head_kind k bytes) (same (made_head a.0 w.0) r w.3)
    (record {
      rules = record { kept = tt; ranges = (subst (λ n. n < 2 ^ 32) low.1 low.0, w.2.0, w.2.1.0, w.2.1.1.0, w.2.1.1.1) };
      key = ap (λ n. key class_head_kind n k.b) low.1 ∙ ap (key class_head_kind a.0) zero;
      value = w.1;
    })

class_head_again : (class : ℕ) (name : List ℕ) (parent text_length triggers : ℕ) → IsRecord (of.ClassHead class name parent text_length triggers)
    → Reading.class_head_under (key class_head_kind class 0) (spell_head (name, (parent, (text_length, triggers)))) ≡ Some (of.ClassHead class name parent text_length triggers)
unfolding Reading.class_head_under IsKept HasRanges
class_head_again class name parent text_length triggers is =
    let bytes = spell_head (name, (parent, (text_length, triggers))) in
    next_by (fit (2 ^ 32) class) class (λ c. head_in bytes >>= λ f. ended f.1 >>= λ _. Some (made_head c f.0)) (fit_again (2 ^ 32) class is.ranges.0)
    ∙ whole_again Head Record spell_head head_in FitHead class_head_format (λ p. Some (made_head class p)) (name, (parent, (text_length, triggers)))
    (is.ranges.1, (is.ranges.2, (is.ranges.3, is.ranges.4)))

-- ---- counters

abbrev Clocks : Type 0
Clocks = Bool × (ℤ × (ℕ × ℕ))

abbrev spell_clocks : Clocks → List ℕ
spell_clocks p = truth p.0 ++ (spell_int p.1.0 ++ (u64 p.1.1.0 ++ u32 p.1.1.1))

abbrev FitClocks : Clocks → Type 0
FitClocks p = Unit {0} × (FitsSigned w64 p.1.0 × ((p.1.1.0 < 2 ^ 64) × (p.1.1.1 < 2 ^ 32)))

place_format : IsFormat (ℕ × ℕ) (λ p. u64 p.0 ++ u32 p.1) (both u64_in u32_in) (λ p. (p.0 < 2 ^ 64) × (p.1 < 2 ^ 32))
place_format = both_format ℕ ℕ u64 u32 u64_in u32_in (λ n. n < 2 ^ 64) (λ n. n < 2 ^ 32) format64 format32

instant_format : IsFormat (ℤ × (ℕ × ℕ)) (λ p. spell_int p.0 ++ (u64 p.1.0 ++ u32 p.1.1)) (both int_in (both u64_in u32_in)) (λ p. FitsSigned w64 p.0 × ((p.1.0 < 2 ^ 64) × (p.1.1 < 2 ^ 32)))
instant_format = both_format ℤ (ℕ × ℕ) spell_int (λ p. u64 p.0 ++ u32 p.1) int_in (both u64_in u32_in) (FitsSigned w64) (λ p. (p.0 < 2 ^ 64) × (p.1 < 2 ^ 32)) int_format place_format

clock_format : IsFormat Clocks spell_clocks clock_in FitClocks
unfolding clock_in
clock_format = both_format Bool (ℤ × (ℕ × ℕ)) truth (λ p. spell_int p.0 ++ (u64 p.1.0 ++ u32 p.1.1)) truth_in (both int_in (both u64_in u32_in)) (λ t. Unit {0}) (λ p. FitsSigned w64 p.0 × ((p.1.0 < 2 ^ 64) × (p.1.1 < 2 ^ 32))) truth_format instant_format

abbrev Nexts : Type 0
Nexts = ℕ × (ℕ × (ℕ × Clocks))

abbrev spell_nexts : Nexts → List ℕ
spell_nexts p = u64 p.0 ++ (u64 p.1.0 ++ (u64 p.1.1.0 ++ spell_clocks p.1.1.1))

abbrev FitNexts : Nexts → Type 0
FitNexts p = (p.0 < 2 ^ 64) × ((p.1.0 < 2 ^ 64) × ((p.1.1.0 < 2 ^ 64) × FitClocks p.1.1.1))

abbrev nexts_in : List ℕ → Option (Nexts × List ℕ)
nexts_in = both u64_in (both u64_in (both u64_in clock_in))

last_format : IsFormat (ℕ × Clocks) (λ p. u64 p.0 ++ spell_clocks p.1) (both u64_in clock_in) (λ p. (p.0 < 2 ^ 64) × FitClocks p.1)
last_format = both_format ℕ Clocks u64 spell_clocks u64_in clock_in (λ n. n < 2 ^ 64) FitClocks format64 clock_format

second_format : IsFormat (ℕ × (ℕ × Clocks)) (λ p. u64 p.0 ++ (u64 p.1.0 ++ spell_clocks p.1.1)) (both u64_in (both u64_in clock_in)) (λ p. (p.0 < 2 ^ 64) × ((p.1.0 < 2 ^ 64) × FitClocks p.1.1))
second_format = both_format ℕ (ℕ × Clocks) u64 (λ p. u64 p.0 ++ spell_clocks p.1) u64_in (both u64_in clock_in) (λ n. n < 2 ^ 64) (λ p. (p.0 < 2 ^ 64) × FitClocks p.1) format64 last_format

nexts_format : IsFormat Nexts spell_nexts nexts_in FitNexts
nexts_format = both_format ℕ (ℕ × (ℕ × Clocks)) u64 (λ p. u64 p.0 ++ (u64 p.1.0 ++ spell_clocks p.1.1)) u64_in (both u64_in (both u64_in clock_in)) (λ n. n < 2 ^ 64) (λ p. (p.0 < 2 ^ 64) × ((p.1.0 < 2 ^ 64) × FitClocks p.1.1)) format64 second_format

-- how many fields were added, at the end
count_takes : (bytes : List ℕ) (n : ℕ) → IsBytes bytes → added_count_in bytes ≡ Some n → (bytes ≡ stamp_bytes n) × (n < 2 ^ 32)
unfolding added_count_in
count_takes [] n fits e = let is : 0 ≡ n = same 0 n e in (ap stamp_bytes is, subst (λ m. m < 2 ^ 32) is (omega arith))
count_takes (b ∷ bytes) n fits e =
    let a = bind_some (some_in (b ∷ bytes)) (λ m. ended m.1 >>= λ _. Some m.0) n e in
    let c = bind_some (ended a.0.1) (λ _. Some a.0.0) n a.2 in
    let front = some_format.takes (b ∷ bytes) a.0 fits a.1 in
    let is : a.0.0 ≡ n = same a.0.0 n c.2 in
    (front.0.parts ∙ ap (λ (t : List ℕ). u32 a.0.0 ++ t) (none_left a.0.1 c.0 c.1) ∙ append-nil (u32 a.0.0) ∙ sym (stamp_some a.0.0 front.1.0) ∙ ap stamp_bytes is, subst (λ m. m < 2 ^ 32) is front.1.1)

count_again : (n : ℕ) → n < 2 ^ 32 → added_count_in (stamp_bytes n) ≡ Some n
unfolding added_count_in
count_again zero low = refl
count_again (suc n) low =
    ap (λ (o : Option (ℕ × List ℕ)). o >>= λ m. ended m.1 >>= λ _. Some m.0)
    (ap some_in (sym (append-nil (u32 (suc n)))) ∙ some_format.again (suc n) [] (omega arith, low))

abbrev made : Nexts → ℕ → Counters
made p added = made_counters p.0 p.1.0 p.1.1.0 p.1.1.1 added

abbrev checked : Nexts → ℕ → Option Record
checked p added = holding (is_counters (made p added)) >>= λ _. Some (of.Counters (made p added))

counters_found : (k : Key) (bytes : List ℕ) (r : Record) → IsKey k → IsBytes bytes → Reading.counters_under k bytes ≡ Some r → Spells counters_kind k bytes r
unfolding Reading.counters_under key_of value_of IsKept HasRanges
counters_found k bytes r is fits e =
    let a = bind_some (holding (k.a == 0 && k.b == 0)) (λ _. nexts_in bytes >>= λ f. added_count_in f.1 >>= λ n. checked f.0 n) r e in
    let zeros = both_true (k.a == 0) (k.b == 0) (held (k.a == 0 && k.b == 0) a.0 a.1) in
    let b = bind_some (nexts_in bytes) (λ f. added_count_in f.1 >>= λ n. checked f.0 n) r a.2 in
    let d = bind_some (added_count_in b.0.1) (λ n. checked b.0.0 n) r b.2 in
    let c = bind_some (holding (is_counters (made b.0.0 d.0))) (λ _. Some (of.Counters (made b.0.0 d.0))) r d.2 in
    let front = nexts_format.takes bytes b.0 fits b.1 in
    let tail = count_takes b.0.1 d.0 front.0.fits d.1 in
    subst (Spells counters_kind k bytes) (same (of.Counters (made b.0.0 d.0)) r c.2)
    (record {
      rules = record {
        kept = counters_are (made b.0.0 d.0) (held (is_counters (made b.0.0 d.0)) c.0 c.1);
        ranges = record { numbers = (front.1.0, front.1.1.0, front.1.1.1.0); clock = (front.1.1.1.1.1.0, front.1.1.1.1.1.1.0, front.1.1.1.1.1.1.1); added = tail.1 };
      };
      key = ap (λ n. key counters_kind n k.b) (is_zero k.a zeros.0) ∙ ap (key counters_kind 0) (is_zero k.b zeros.1);
      value = front.0.parts ∙ ap (λ (t : List ℕ). spell_nexts b.0.0 ++ t) tail.0;
    })

counters_again : (c : Counters) → IsRecord (of.Counters c)
    → Reading.counters_under (key counters_kind 0 0) (spell_nexts (c.next_number, (c.next_transaction, (c.next_entry, (c.clock_set, (c.instant, (c.object, c.place)))))) ++ stamp_bytes c.added) ≡ Some (of.Counters c)
unfolding Reading.counters_under IsKept HasRanges
counters_again c is =
    let p : Nexts = (c.next_number, (c.next_transaction, (c.next_entry, (c.clock_set, (c.instant, (c.object, c.place)))))) in
    ap (λ (o : Option (Nexts × List ℕ)). o >>= λ f. added_count_in f.1 >>= λ n. checked f.0 n)
    (nexts_format.again p (stamp_bytes c.added) (is.ranges.numbers.0, (is.ranges.numbers.1, (is.ranges.numbers.2, (tt, (is.ranges.clock.0, (is.ranges.clock.1, is.ranges.clock.2)))))))
    ∙ next_by (added_count_in (stamp_bytes c.added)) c.added (λ n. checked p n) (count_again c.added is.ranges.added)
    ∙ next_by (holding (is_counters c)) tt (λ _. Some (of.Counters c)) (held_again (is_counters c) (counters_pass c is.kept))

-- ---- added fields

abbrev Adds : Type 0
Adds = List ℕ × (ℕ × (ℕ × Value))

abbrev spell_adds : Adds → List ℕ
spell_adds p = spell_name p.0 ++ (spell_byte p.1.0 ++ (u32 p.1.1.0 ++ spelled_value p.1.1.1))

abbrev FitAdds : Adds → Type 0
FitAdds p = IsName p.0 × ((p.1.0 < 2 ^ 8) × ((p.1.1.0 < 2 ^ 32) × FitsValue p.1.1.1))

abbrev adds_in : List ℕ → Option (Adds × List ℕ)
adds_in = both name_in (both byte_in (both u32_in value_in))

literal_format : IsFormat (ℕ × Value) (λ p. u32 p.0 ++ spelled_value p.1) (both u32_in value_in) (λ p. (p.0 < 2 ^ 32) × FitsValue p.1)
literal_format = both_format ℕ Value u32 spelled_value u32_in value_in (λ n. n < 2 ^ 32) FitsValue format32 value_format

sort_format : IsFormat (ℕ × (ℕ × Value)) (λ p. spell_byte p.0 ++ (u32 p.1.0 ++ spelled_value p.1.1)) (both byte_in (both u32_in value_in)) (λ p. (p.0 < 2 ^ 8) × ((p.1.0 < 2 ^ 32) × FitsValue p.1.1))
sort_format = both_format ℕ (ℕ × Value) spell_byte (λ p. u32 p.0 ++ spelled_value p.1) byte_in (both u32_in value_in) (λ n. n < 2 ^ 8) (λ p. (p.0 < 2 ^ 32) × FitsValue p.1) format8 literal_format

adds_format : IsFormat Adds spell_adds adds_in FitAdds
adds_format = both_format (List ℕ) (ℕ × (ℕ × Value)) spell_name (λ p. spell_byte p.0 ++ (u32 p.1.0 ++ spelled_value p.1.1)) name_in (both byte_in (both u32_in value_in)) IsName (λ p. (p.0 < 2 ^ 8) × ((p.1.0 < 2 ^ 32) × FitsValue p.1.1)) name_format sort_format

abbrev made_added : ℕ → ℕ → Adds → Record
made_added class birth p = of.Added class birth p.0 p.1.0 p.1.1.0 p.1.1.1

abbrev kept_added : ℕ → ℕ → Adds → Option Record
kept_added class birth p = holding (is_sort p.1.0 p.1.1.0) >>= λ _. Some (made_added class birth p)

added_found : (k : Key) (bytes : List ℕ) (r : Record) → IsKey k → IsBytes bytes → Reading.added_under k bytes ≡ Some r → Spells added_kind k bytes r
unfolding Reading.added_under key_of value_of IsKept HasRanges
added_found k bytes r is fits e =
    let a = bind_some (fit (2 ^ 32) k.a) (λ class. fit (2 ^ 32) k.b >>= λ birth. adds_in bytes >>= λ f. ended f.1 >>= λ _. kept_added class birth f.0) r e in
    let b = bind_some (fit (2 ^ 32) k.b) (λ birth. adds_in bytes >>= λ f. ended f.1 >>= λ _. kept_added a.0 birth f.0) r a.2 in
    let low = fit_is (2 ^ 32) k.a a.0 a.1 in
    let short = fit_is (2 ^ 32) k.b b.0 b.1 in
    let w = whole_takes Adds Record spell_adds adds_in FitAdds adds_format (kept_added a.0 b.0) bytes r fits b.2 in
    let c = bind_some (holding (is_sort w.0.1.0 w.0.1.1.0)) (λ _. Some (made_added a.0 b.0 w.0)) r w.3 in
    subst (Spells added_kind k bytes) (same (made_added a.0 b.0 w.0) r c.2)
    (record {
      rules = record {
        kept = (held (is_sort w.0.1.0 w.0.1.1.0) c.0 c.1, w.2.1.1.1.1);
        ranges = (subst (λ n. n < 2 ^ 32) low.1 low.0, subst (λ n. n < 2 ^ 32) short.1 short.0, w.2.0, w.2.1.0, w.2.1.1.0, w.2.1.1.1.0);
      };
      key = ap (λ n. key added_kind n k.b) low.1 ∙ ap (key added_kind a.0) short.1;
      value = w.1;
    })

added_again : (class birth : ℕ) (name : List ℕ) (sort refers : ℕ) (literal : Value) → IsRecord (of.Added class birth name sort refers literal)
    → Reading.added_under (key added_kind class birth) (spell_adds (name, (sort, (refers, literal)))) ≡ Some (of.Added class birth name sort refers literal)
unfolding Reading.added_under IsKept HasRanges
added_again class birth name sort refers literal is =
    let bytes = spell_adds (name, (sort, (refers, literal))) in
    next_by (fit (2 ^ 32) class) class (λ c. fit (2 ^ 32) birth >>= λ b. adds_in bytes >>= λ f. ended f.1 >>= λ _. kept_added c b f.0) (fit_again (2 ^ 32) class is.ranges.0)
    ∙ next_by (fit (2 ^ 32) birth) birth (λ b. adds_in bytes >>= λ f. ended f.1 >>= λ _. kept_added class b f.0) (fit_again (2 ^ 32) birth is.ranges.1)
    ∙ whole_again Adds Record spell_adds adds_in FitAdds adds_format (kept_added class birth) (name, (sort, (refers, literal)))
    (is.ranges.2, (is.ranges.3, (is.ranges.4, (is.ranges.5, is.kept.1))))
    ∙ next_by (holding (is_sort sort refers)) tt (λ _. Some (of.Added class birth name sort refers literal)) (held_again (is_sort sort refers) is.kept.0)

-- ---- by kind

-- what is read under a key is a record with that spelling
pub record Found (k : Key) (bytes : List ℕ) (r : Record) : Type 0 where
  pub rules : IsRecord r
  pub same : (k, bytes) ≡ spelled r

of_kind : (n : ℕ) (k : Key) → (k.kind == n) ≡ true → k ≡ key n k.a k.b
of_kind n k h = let is : k.kind ≡ n = grind (arith, nat_tests) in λ i. record { kind = is i; a = k.a; b = k.b }

row : Key → List ℕ → Key × List ℕ
row k bytes = (k, bytes)

rows_same : (k l : Key) (v w : List ℕ) → k ≡ l → v ≡ w → row k v ≡ row l w
rows_same k l v w p q = λ i. row (p i) (q i)

found_under : (n : ℕ) (k : Key) (bytes : List ℕ) (r : Record) → (k.kind == n) ≡ true → Spells n k bytes r → Found k bytes r
unfolding row
found_under n k bytes r h spells = record { rules = spells.rules; same = rows_same k (key_of r) bytes (value_of r) (of_kind n k h ∙ spells.key) spells.value }

step : {P : Type 0} (r : Record) (b : Bool) (o rest : Option Record) → (b ≡ true → o ≡ Some r → P) → (rest ≡ Some r → P) → cond b o rest ≡ Some r → P
step r true o rest here later e = here refl e
step r false o rest here later e = later e

pub record_found : (k : Key) (bytes : List ℕ) (r : Record) → IsKey k → IsBytes bytes → Reading.record_under k bytes ≡ Some r → Found k bytes r
unfolding Reading.record_under
record_found k bytes r is fits e =
    let none : Option Record = None in
    let adds = if k.kind == added_kind then Reading.added_under k bytes else none in
    let entries = if k.kind == entry_kind then Reading.entry_under k bytes else adds in
    let activations = if k.kind == activation_kind then Reading.activation_under k bytes else entries in
    let versions = if k.kind == version_kind then Reading.version_under k bytes else activations in
    let objects = if k.kind == object_kind then Reading.object_under k bytes else versions in
    let table_pieces = if k.kind == table_piece_kind then Reading.table_piece_under k bytes else objects in
    let table_heads = if k.kind == table_head_kind then Reading.table_head_under k bytes else table_pieces in
    let class_pieces = if k.kind == class_piece_kind then Reading.class_piece_under k bytes else table_heads in
    let class_heads = if k.kind == class_head_kind then Reading.class_head_under k bytes else class_pieces in
    step r (k.kind == counters_kind) (Reading.counters_under k bytes) class_heads (λ h o. found_under counters_kind k bytes r h (counters_found k bytes r is fits o))
    (step r (k.kind == class_head_kind) (Reading.class_head_under k bytes) class_pieces (λ h o. found_under class_head_kind k bytes r h (class_head_found k bytes r is fits o))
    (step r (k.kind == class_piece_kind) (Reading.class_piece_under k bytes) table_heads (λ h o. found_under class_piece_kind k bytes r h (class_piece_found k bytes r is fits o))
    (step r (k.kind == table_head_kind) (Reading.table_head_under k bytes) table_pieces (λ h o. found_under table_head_kind k bytes r h (table_head_found k bytes r is fits o))
    (step r (k.kind == table_piece_kind) (Reading.table_piece_under k bytes) objects (λ h o. found_under table_piece_kind k bytes r h (table_piece_found k bytes r is fits o))
    (step r (k.kind == object_kind) (Reading.object_under k bytes) versions (λ h o. found_under object_kind k bytes r h (object_found k bytes r is fits o))
    (step r (k.kind == version_kind) (Reading.version_under k bytes) activations (λ h o. found_under version_kind k bytes r h (version_found k bytes r is fits o))
    (step r (k.kind == activation_kind) (Reading.activation_under k bytes) entries (λ h o. found_under activation_kind k bytes r h (activation_found k bytes r is fits o))
    (step r (k.kind == entry_kind) (Reading.entry_under k bytes) adds (λ h o. found_under entry_kind k bytes r h (entry_found k bytes r is fits o))
    (step r (k.kind == added_kind) (Reading.added_under k bytes) none (λ h o. found_under added_kind k bytes r h (added_found k bytes r is fits o))
    (λ h. absurd (cc))))))))))) e

-- each record is read from its spelling
pub record_again : (r : Record) → IsRecord r → Reading.record_under (key_of r) (value_of r) ≡ Some r
unfolding Reading.record_under key_of value_of
record_again (of.Counters c) is = counters_again c is
record_again (of.ClassHead class name parent text_length triggers) is = class_head_again class name parent text_length triggers is
record_again (of.ClassPiece class piece bytes) is = class_piece_again class piece bytes is
record_again (of.TableHead class trigger states symbols) is = table_head_again class trigger states symbols is
record_again (of.TablePiece class trigger piece bytes) is = table_piece_again class trigger piece bytes is
record_again (of.Object object class last) is = object_again object class last is
record_again (of.Version object number parent stamp fields) is = version_again object number parent stamp fields is
record_again (of.Activation a) is = activation_again a is
record_again (of.Entry number e) is = entry_again number e is
record_again (of.Added class birth name sort refers literal) is = added_again class birth name sort refers literal is

-- so no two have one spelling
pub one_spelling : (r s : Record) → IsRecord r → IsRecord s → spelled r ≡ spelled s → r ≡ s
one_spelling r s first second e =
    same r s (sym (record_again r first) ∙ ap (λ (p : Key × List ℕ). Reading.record_under p.0 p.1) e ∙ record_again s second)
