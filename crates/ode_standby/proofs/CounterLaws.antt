-- Records that tell the next number have counters, which tell it.
use Rattle.std.proofs.Common.{◌≡◌, ℕ, List, Option, Some, None, refl}
use Rattle.ode_codec.specs.Reading.{record_under}
use Rattle.ode_codec.specs.declared.record.Counters.{Counters}
use Rattle.ode_codec.specs.declared.record.Record.{Record}
use Rattle.ode_codec.specs.declared.record.Record.TheVariants as of
use Rattle.ode_heap.specs.Answers.{Found, There, ◌>>=◌}
use Rattle.ode_heap.specs.Looking.{are_counters, counters_in, decoded, looked_at, looked_up, read_as}
use Rattle.ode_keep.specs.Entries.{Entries, value_under}
use Rattle.ode_value.specs.Keys.{counters_key}
use Rattle.ode_standby.proofs.Tellings.{told_by}
use Rattle.ode_standby.specs.Courses.{next_of}
use Rattle.ode_ship.specs.Frames.{next_by}

abbrev found_by : Option Record → Found Counters
found_by r = (read_as counters_key r >>= λ x. There (Some x)) >>= are_counters

by_record : (r : Option Record) (n : ℕ) → told_by r ≡ Some n → (c : Counters) × (found_by r ≡ There c) × (c.next_transaction ≡ n)
by_record None n is = absurd (cc (is))
by_record (Some (of.Counters c)) n is = (c, refl, cc (is))
by_record (Some (of.ClassHead class name parent text_length triggers)) n is = absurd (cc (is))
by_record (Some (of.ClassPiece class piece bytes)) n is = absurd (cc (is))
by_record (Some (of.TableHead class trigger states symbols)) n is = absurd (cc (is))
by_record (Some (of.TablePiece class trigger piece bytes)) n is = absurd (cc (is))
by_record (Some (of.Object object class last)) n is = absurd (cc (is))
by_record (Some (of.Version object number parent stamp fields)) n is = absurd (cc (is))
by_record (Some (of.Activation a)) n is = absurd (cc (is))
by_record (Some (of.Entry number entry)) n is = absurd (cc (is))
by_record (Some (of.Added class birth name sort of_class literal)) n is = absurd (cc (is))

by_value : (v : Option (List ℕ)) (n : ℕ) → next_by v ≡ Some n → (c : Counters) × ((looked_at counters_key v >>= are_counters) ≡ There c) × (c.next_transaction ≡ n)
unfolding decoded
by_value None n is = absurd (cc (is))
by_value (Some v) n is = by_record (record_under counters_key v) n is

pub known_counters : (entries : Entries) (n : ℕ) → next_of entries ≡ Some n → (c : Counters) × (counters_in entries ≡ There c) × (c.next_transaction ≡ n)
unfolding counters_in looked_up
known_counters entries n is = by_value (value_under entries counters_key) n is
