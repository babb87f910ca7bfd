-- A record that stands under its key is read there.
use Rattle.std.proofs.Common.{◌≡◌, ℕ, List, Option, Some, None, refl, ap, ◌∙◌, append_assoc}
use Rattle.ode_codec.specs.Reading.{record_under}
use Rattle.ode_codec.specs.Rules.{IsRecord}
use Rattle.ode_codec.specs.Spelling.{key_of, value_of}
use Rattle.ode_codec.specs.declared.record.Record.{Record}
use Rattle.ode_codec.specs.declared.record.Record.TheVariants as of
use Rattle.ode_keep.specs.Entries.{Entries, value_under}
use Rattle.ode_value.specs.Keys.{counters_key}
use Rattle.ode_value.specs.Worlds.{Bones, Position}
use Rattle.ode_value.specs.declared.key.Key.{Key}
use Rattle.ode_codec.specs.StoredRows.{Stored, counters_row, rows}
use Rattle.ode_heap.specs.Answers.{Found, ◌>>=◌}
use Rattle.ode_heap.specs.Answers.{There}
use Rattle.ode_heap.specs.Answering.{counters_of}
use Rattle.ode_heap.specs.Looking.{are_counters, counters_in, decoded, looked_at, looked_up, read_as}
use Rattle.ode_heap.proofs.OneKind.{value_of_kind}
use Rattle.ode_heap.proofs.Sections.{counters_alone}

-- each record is read from its spelling
abbrev pub Again : Type 0
Again = (r : Record) → IsRecord r → record_under (key_of r) (value_of r) ≡ Some r

pub reads : Again → (r : Record) (k : Key) (v : List ℕ) → IsRecord r → k ≡ key_of r → v ≡ value_of r → decoded k v ≡ There r
unfolding decoded
reads again r k v is key value =
    ap (λ (q : Key). read_as k (record_under q v)) key ∙ ap (λ (w : List ℕ). read_as k (record_under (key_of r) w)) value ∙ ap (read_as k) (again r is)

pub looked : (es : Entries) (k : Key) (v : List ℕ) (r : Record) → value_under es k ≡ Some v → decoded k v ≡ There r → looked_up es k ≡ There (Some r)
unfolding looked_up
looked es k v r there read = ap (looked_at k) there ∙ ap (λ (f : Found Record). f >>= λ x. There (Some x)) read

pub not_looked : (es : Entries) (k : Key) → value_under es k ≡ None → looked_up es k ≡ There None
unfolding looked_up
not_looked es k none = ap (looked_at k) none

-- ---- the counters

abbrev counters_at : Bones → Option Position → Bones
counters_at b clock = record b { clock = clock }

clocked : (b : Bones) (clock : Option Position) → (counters_row (counters_at b clock)).1 ≡ value_of (of.Counters (counters_of (counters_at b clock)))
unfolding value_of
clocked b None = simp append_assoc
clocked b (Some p) = simp append_assoc

counters_spelled : (b : Bones) → (counters_row b).1 ≡ value_of (of.Counters (counters_of b))
counters_spelled b = clocked b b.clock

counters_keyed : (b : Bones) → counters_key ≡ key_of (of.Counters (counters_of b))
unfolding key_of
counters_keyed b = refl

pub counters_read : Again → (s : Stored) → IsRecord (of.Counters (counters_of s.world.bones)) → counters_in (rows s) ≡ There (counters_of s.world.bones)
unfolding counters_in
counters_read again s is =
    let value : value_under (rows s) counters_key ≡ Some (counters_row s.world.bones).1 =
    value_of_kind (rows s) counters_key ∙ ap (λ (es : Entries). value_under es counters_key) (counters_alone s) in
    let read = reads again (of.Counters (counters_of s.world.bones)) counters_key (counters_row s.world.bones).1 is (counters_keyed s.world.bones) (counters_spelled s.world.bones) in
    ap (λ (f : Found (Option Record)). f >>= are_counters) (looked (rows s) counters_key (counters_row s.world.bones).1 (of.Counters (counters_of s.world.bones)) value read)
