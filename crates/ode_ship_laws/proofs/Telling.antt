-- Records in which counters are found tell their next number.
use Rattle.std.proofs.Common.{◌≡◌, ℕ, List, Option, Some, None}
use Rattle.ode_codec.specs.Reading.{record_under}
use Rattle.ode_codec.specs.declared.record.Counters.{Counters}
use Rattle.ode_codec.specs.declared.record.Record.{Record}
use Rattle.ode_codec.specs.declared.record.Record.TheVariants as of
use Rattle.ode_heap.specs.Answers.{Found, There, ◌>>=◌}
use Rattle.ode_heap.specs.Looking.{are_counters, counters_in, decoded, looked_at, looked_up, read_as}
use Rattle.ode_keep.specs.Entries.{Entries, value_under}
use Rattle.ode_standby.proofs.Tellings.{told_by}
use Rattle.ode_standby.specs.Courses.{next_of}
use Rattle.ode_ship.specs.Frames.{next_by}
use Rattle.ode_value.specs.Keys.{counters_key}

-- the counters that a record is, where it is there
abbrev found_by : Option Record → Found Counters
found_by r = (read_as counters_key r >>= λ x. There (Some x)) >>= are_counters

by_record : (r : Option Record) (c : Counters) → found_by r ≡ There c → told_by r ≡ Some c.next_transaction
by_record None c is = absurd (cc (is))
by_record (Some (of.Counters d)) c is = let same : d ≡ c = cc (is) in cc (same)
by_record (Some (of.ClassHead class name parent text_length triggers)) c is = absurd (cc (is))
by_record (Some (of.ClassPiece class piece bytes)) c is = absurd (cc (is))
by_record (Some (of.TableHead class trigger states symbols)) c is = absurd (cc (is))
by_record (Some (of.TablePiece class trigger piece bytes)) c is = absurd (cc (is))
by_record (Some (of.Object object class last)) c is = absurd (cc (is))
by_record (Some (of.Version object number parent stamp fields)) c is = absurd (cc (is))
by_record (Some (of.Activation a)) c is = absurd (cc (is))
by_record (Some (of.Entry number entry)) c is = absurd (cc (is))
by_record (Some (of.Added class birth name sort of_class literal)) c is = absurd (cc (is))

by_value : (v : Option (List ℕ)) (c : Counters) → (looked_at counters_key v >>= are_counters) ≡ There c → next_by v ≡ Some c.next_transaction
unfolding decoded
by_value None c is = absurd (cc (is))
by_value (Some v) c is = by_record (record_under counters_key v) c is

pub counters_tell : (entries : Entries) (c : Counters) → counters_in entries ≡ There c → next_of entries ≡ Some c.next_transaction
unfolding counters_in looked_up
counters_tell entries c is = by_value (value_under entries counters_key) c is
