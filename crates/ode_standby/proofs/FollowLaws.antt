-- Following a stream, turn by turn.
use Rattle.std.proofs.Common.{◌≡◌, inl, ◌+◌, ◌-◌, ◌<◌, ◌≤◌, ℕ, zero, suc, Bool, true, false, List, [], ◌∷◌, ◌++◌, length, take, drop, Option, Some, None, Err, refl, sym, ◌∙◌, ap, subst, arith, append_assoc, append-nil, length-append, length-drop}
use Rattle.std.proofs.lemmas.List.{length-take-le, take-append-drop}
use Rattle.std.specs.Io.KnownBytes.{Consumes}
use Rattle.ode_host.proofs.Calls.{looks_calls, rose_as, rose_none}
use Rattle.ode_host.proofs.Moments.{looks_none}
use Rattle.ode_host.specs.Host.{DiskCalls}
use Rattle.ode_host.specs.View.{View}
use Rattle.ode_keep.specs.Entries.{Entries}
use Rattle.ode_standby.proofs.NextLaws.{next_course}
use Rattle.ode_standby.proofs.PieceLaws.{leaves_join, leaves_more, some_join, some_more, stopped_join, stopped_more, taken_join}
use Rattle.ode_standby.specs.Courses.{Course, IsTaken, next_of}
use Rattle.ode_standby.specs.Feeding.{Feeds, IsFresh, TookFrames}
use Rattle.ode_standby.specs.Following.{Follows}
use Rattle.ode_standby.specs.Pieces.{counted_on, onward}
use Rattle.ode_standby.specs.Taking.{LeavesSome, Stops, TookSome, from}
use Rattle.ode_standby.specs.Turns.{CameLong, Gives, GoesFurther, HoldsNext, IsFed, StaysSound}
use Rattle.ode_standby.specs.declared.error.ShipError.{ShipError}
use Rattle.ode_standby.specs.declared.error.ShipError.TheVariants.{Memory, BadFrame, Gap, TooLarge, DiskFault, Damaged}
use Rattle.ode_standby.specs.declared.following.Chunk.TheVariants.{Bytes}
use Rattle.ode_standby.specs.declared.following.Followed.TheVariants.{Ended, Long, Stopped}
use Rattle.ode_standby.specs.declared.stream.Stream.{Stream}
use Rattle.ode_value.specs.Limits.{script_limit}
use Rattle.ode_value.specs.declared.limits.TheConstants.{SCRIPT_LIMIT}

limit_is : SCRIPT_LIMIT ≡ script_limit
unfolding script_limit
limit_is = refl

-- ---- a read

-- what came is a front of what was left
pub front_came : (left : List ℕ) (now : Option (List ℕ)) (chunk : List ℕ) (count : ℕ) (is_long : Bool) → Gives left now chunk (Bytes count is_long) → (rest : List ℕ) × (left ≡ take count chunk ++ rest)
front_came left now chunk count false came = (came.rest, came.split)
front_came left now chunk count true came = (came.rest, came.split)

-- with more behind that a stream may not have
pub long_came : (left : List ℕ) (now : Option (List ℕ)) (chunk : List ℕ) (count : ℕ) (is_long : Bool) → is_long ≡ true → Gives left now chunk (Bytes count is_long)
    → (rest : List ℕ) × (left ≡ take count chunk ++ rest) × (0 < length rest)
long_came left now chunk count true is came = (came.rest, came.split, came.more)
long_came left now chunk count false is came = absurd (cc (is))

-- or with what is left
pub all_came : (left : List ℕ) (now : Option (List ℕ)) (chunk : List ℕ) (count : ℕ) (is_long : Bool) → is_long ≡ false → Gives left now chunk (Bytes count is_long)
    → (rest : List ℕ) × (left ≡ take count chunk ++ rest) × (now ≡ Some rest)
all_came left now chunk count false is came = (came.rest, came.split, came.told)
all_came left now chunk count true is came = absurd (cc (is))

-- a stream has as many bytes as it may
pub full_at : (taken count : ℕ) (is_long : Bool) → is_long ≡ true → GoesFurther taken (Bytes count is_long) → taken + count ≡ SCRIPT_LIMIT
full_at taken count true is full = full
full_at taken count false is full = absurd (cc (is))

taken_twice : (room count : ℕ) (to : List ℕ) → room ≤ count → take room (take count to) ≡ take room to
taken_twice zero count to less = refl
taken_twice (suc room) zero to less = absurd (omega (arith, less))
taken_twice (suc room) (suc count) [] less = refl
taken_twice (suc room) (suc count) (x ∷ to) less = ap (λ (l : List ℕ). x ∷ l) (taken_twice room count to (omega (arith, less)))

told_long : (now : Option (List ℕ)) (left to : List ℕ) (count room : ℕ) → Consumes (Some left) now (take count to) → count ≤ length to → room < count → CameLong left (take room to)
told_long None left to count room came within more = absurd came
told_long (Some behind) left to count room came within more = record {
  rest = drop room (take count to) ++ behind;
  split =
      came ∙ ap (λ (l : List ℕ). l ++ behind) (sym (take-append-drop room (take count to)))
      ∙ append_assoc (take room (take count to)) (drop room (take count to)) behind
      ∙ ap (λ (l : List ℕ). l ++ (drop room (take count to) ++ behind)) (taken_twice room count to (omega (arith, more)));
  more = omega (arith, length-append (drop room (take count to)) behind, length-drop room (take count to), length-take-le count to within, more);
}

-- a read that gave more than there is room for
pub read_long : (old now : Option (List ℕ)) (left to : List ℕ) (count room : ℕ) → old ≡ Some left → Consumes old now (take count to) → count ≤ length to → room < count → CameLong left (take room to)
read_long old now left to count room told came within more = told_long now left to count room (subst (λ (o : Option (List ℕ)). Consumes o now (take count to)) told came) within more

-- ---- calls of the disk

pub no_calls : (F : Type 0) (v : View) → (F → ⊥) → DiskCalls F v v
no_calls F v none = looks_calls F v v (looks_none v) (rose_none F v.disk_faults none)

pub same_calls : (F G : Type 0) (a b : View) → (F → G) → (G → F) → DiskCalls F a b → DiskCalls G a b
same_calls F G a b to back calls = record {
  keeps = calls.keeps;
  text = calls.text;
  print_faults = calls.print_faults;
  disk_faults = rose_as F G a.disk_faults b.disk_faults to back calls.disk_faults;
}

-- ---- turns

-- nothing came yet
pub fed_none : (most next : ℕ) (entries : Entries) (bytes : List ℕ) (left : Option (List ℕ)) (stream : Stream) (Holds : Entries → Type 0) → Holds entries → next_of entries ≡ Some next → left ≡ Some bytes → IsFresh stream
    → IsFed most (from entries next 0) bytes left stream 0 Holds
fed_none most next entries bytes left stream Holds held known told fresh = record {
  came = [];
  more = bytes;
  split = refl;
  told = told;
  reached = from entries next 0;
  is = subst (λ (l : List ℕ). IsTaken most (from entries next 0) (from entries next 0) [] l) (sym fresh.begun)
      (record { frames = []; split = record { spelled = refl; form = tt }; ends = refl; begun = inl (omega arith) });
  start = fresh.start;
  skipped = fresh.skipped;
  applied_is = refl;
  many = omega (arith, fresh.start, ap length fresh.begun);
  next = known;
  holds = held;
}

-- a front that is no longer than this
take_over : (n : ℕ) (xs ys : List ℕ) → length xs ≤ n → take n (xs ++ ys) ≡ xs ++ take (n - length xs) ys
take_over n [] ys less = let same : n ≡ n - 0 = omega arith in ap (λ (k : ℕ). take k ys) same
take_over zero (x ∷ xs) ys less = absurd (omega (arith, less))
take_over (suc n) (x ∷ xs) ys less =
    let same : n - length xs ≡ suc n - suc (length xs) = omega arith in
    ap (λ (l : List ℕ). x ∷ l) (take_over n xs ys (omega (arith, less)) ∙ ap (λ (k : ℕ). xs ++ take k ys) same)

take_front : (n : ℕ) (xs ys : List ℕ) → length xs ≡ n → take n (xs ++ ys) ≡ xs
take_front n xs ys long =
    let none : n - length xs ≡ 0 = omega (arith, long) in
    take_over n xs ys (omega (arith, long)) ∙ ap (λ (k : ℕ). xs ++ take k ys) none ∙ append-nil xs

module _ (most : ℕ) (c : Course) (bytes : List ℕ) (left : Option (List ℕ)) (old : Stream) (applied : ℕ) (Before : Entries → Type 0) (fed : IsFed most c bytes left old applied Before) where
  -- the source ended
  pub fed_ends : (now : Option (List ℕ)) (skipped rest : ℕ) → fed.more ≡ [] → now ≡ Some [] → skipped ≡ old.skipped → rest ≡ length old.begun.items → Follows most c bytes Before now (Ended applied skipped rest)
  fed_ends now skipped rest none ended skips begun =
      let all : fed.came ≡ bytes = sym (append-nil fed.came) ∙ ap (λ (l : List ℕ). fed.came ++ l) (sym none) ∙ sym fed.split in
      record {
        reached = fed.reached;
        begun = old.begun.items;
        is = subst (λ (l : List ℕ). IsTaken most c fed.reached l old.begun.items) all fed.is;
        applied_is = fed.applied_is;
        skipped_is = skips ∙ fed.skipped;
        rest_is = begun;
        holds = fed.holds;
        short = subst (λ (n : ℕ). length bytes ≤ n) limit_is (omega (arith, ap length all, fed.many, old.short));
        nothing = ended;
      }

  -- a read failed
  pub fed_fails : TookSome most c bytes Before
  fed_fails =
      subst (λ (l : List ℕ). TookSome most c l Before) (sym fed.split)
      (some_more most c fed.came fed.more Before (record { rest = old.begun.items; reached = fed.reached; leads = record { frames = fed.is.frames; split = fed.is.split; ends = fed.is.ends }; holds = fed.holds }))

  -- more bytes came
  module _ (piece rest : List ℕ) (split : fed.more ≡ piece ++ rest) where
    both : bytes ≡ fed.came ++ piece ++ rest
    both = fed.split ∙ ap (λ (l : List ℕ). fed.came ++ l) split ∙ sym (append_assoc fed.came piece rest)

    goes_from : from fed.reached.entries fed.reached.next old.start ≡ onward fed.reached
    goes_from = ap (λ (n : ℕ). from fed.reached.entries fed.reached.next n) fed.start

    pub fed_on : (now : Option (List ℕ)) (new : Stream) (more : ℕ) (Holds : Entries → Type 0) → now ≡ Some rest
        → TookFrames most (from fed.reached.entries fed.reached.next old.start) (old.begun.items ++ piece) old Holds new more
        → new.start + length new.begun.items ≡ old.start + length old.begun.items + length piece → IsFed most c bytes now new (applied + more) Holds
    fed_on now new more Holds told took long =
        let next : IsTaken most (onward fed.reached) took.reached (old.begun.items ++ piece) new.begun.items =
        subst (λ (x : Course). IsTaken most x took.reached (old.begun.items ++ piece) new.begun.items) goes_from took.is in
        record {
          came = fed.came ++ piece;
          more = rest;
          split = both;
          told = told;
          reached = counted_on fed.reached took.reached;
          is = taken_join most c fed.reached fed.came old.begun.items piece fed.is took.reached new.begun.items next;
          start = took.start;
          skipped = took.skipped ∙ ap (λ (n : ℕ). n + took.reached.skipped) fed.skipped;
          applied_is = omega (arith, fed.applied_is, took.applied_is);
          many = omega (arith, length-append fed.came piece, fed.many, long);
          next = next_course most (onward fed.reached) took.reached next.frames next.split.form fed.next next.ends;
          holds = took.holds;
        }

    -- and still more, which are too many
    pub fed_long : (now : Option (List ℕ)) (new : Stream) (more : ℕ) (Holds : Entries → Type 0) → 0 < length rest → old.start + length old.begun.items + length piece ≡ SCRIPT_LIMIT
        → TookFrames most (from fed.reached.entries fed.reached.next old.start) (old.begun.items ++ piece) old Holds new more → Follows most c bytes Holds now Long
    fed_long now new more Holds some full took =
        let next : IsTaken most (onward fed.reached) took.reached (old.begun.items ++ piece) new.begun.items =
        subst (λ (x : Course). IsTaken most x took.reached (old.begun.items ++ piece) new.begun.items) goes_from took.is in
        let whole : length (fed.came ++ piece) ≡ SCRIPT_LIMIT = omega (arith, length-append fed.came piece, fed.many, full) in
        let front : fed.came ++ piece ≡ take script_limit bytes =
        sym (take_front script_limit (fed.came ++ piece) rest (whole ∙ limit_is)) ∙ ap (take script_limit) (sym both) in
        let count : length bytes ≡ SCRIPT_LIMIT + length rest = ap length both ∙ length-append (fed.came ++ piece) rest ∙ ap (λ (n : ℕ). n + length rest) whole in
        record {
          reached = counted_on fed.reached took.reached;
          begun = new.begun.items;
          is = subst (λ (l : List ℕ). IsTaken most c (counted_on fed.reached took.reached) l new.begun.items) front
              (taken_join most c fed.reached fed.came old.begun.items piece fed.is took.reached new.begun.items next);
          holds = took.holds;
          long = subst (λ (n : ℕ). n < length bytes) limit_is (omega (arith, count, some));
        }

    -- the standby doesn't go on
    stops_on : (Holds : Entries → Type 0) (error : ShipError) → old.start + length old.begun.items + length piece ≤ SCRIPT_LIMIT
        → Stops most (from fed.reached.entries fed.reached.next old.start) (old.begun.items ++ piece) Holds error → Stops most c (take script_limit bytes) Holds error
    stops_on Holds error short stops =
        let here = stopped_join most c fed.reached fed.came old.begun.items piece fed.is Holds error
        (subst (λ (x : Course). Stops most x (old.begun.items ++ piece) Holds error) goes_from stops) in
        let room : length (fed.came ++ piece) ≤ script_limit =
        subst (λ (n : ℕ). length (fed.came ++ piece) ≤ n) limit_is (omega (arith, length-append fed.came piece, fed.many, short)) in
        let front : fed.came ++ piece ++ take (script_limit - length (fed.came ++ piece)) rest ≡ take script_limit bytes =
        sym (take_over script_limit (fed.came ++ piece) rest room) ∙ ap (take script_limit) (sym both) in
        subst (λ (l : List ℕ). Stops most c l Holds error) front (record {
          reached = here.reached;
          is = stopped_more most c here.reached (fed.came ++ piece) (take (script_limit - length (fed.came ++ piece)) rest) error here.is;
          holds = here.holds;
        })

    pub fed_stops : (now : Option (List ℕ)) (new : Stream) (Holds : Entries → Type 0) (error : ShipError) → old.start + length old.begun.items + length piece ≤ SCRIPT_LIMIT
        → Feeds most (from fed.reached.entries fed.reached.next old.start) (old.begun.items ++ piece) old Holds new (Err error) → Follows most c bytes Holds now (Stopped error)
    fed_stops now new Holds Memory short took =
        subst (λ (l : List ℕ). TookSome most c l Holds) (sym both)
        (some_more most c (fed.came ++ piece) rest Holds (some_join most c fed.reached fed.came old.begun.items piece fed.is Holds (subst (λ (x : Course). TookSome most x (old.begun.items ++ piece) Holds) goes_from took)))
    fed_stops now new Holds DiskFault short took = tt
    fed_stops now new Holds (Damaged key) short took = absurd took
    fed_stops now new Holds (BadFrame at) short took = stops_on Holds (BadFrame at) short took
    fed_stops now new Holds (Gap found next) short took = stops_on Holds (Gap found next) short took
    fed_stops now new Holds (TooLarge total) short took = stops_on Holds (TooLarge total) short took

    -- what a stop leaves meanwhile
    pub fed_leaves : (means : List ℕ → Entries → Type 0) (view : View) (image out : List ℕ) → LeavesSome means most (from fed.reached.entries fed.reached.next old.start) (old.begun.items ++ piece) view image out
        → LeavesSome means most c bytes view image out
    fed_leaves means view image out l =
        subst (λ (b : List ℕ). LeavesSome means most c b view image out) (sym both)
        (leaves_more means most c (fed.came ++ piece) rest view image out
        (leaves_join most c fed.reached fed.came old.begun.items piece fed.is means view image out
        (subst (λ (x : Course). LeavesSome means most x (old.begun.items ++ piece) view image out) goes_from l)))

-- no record of these is damaged
pub stopped_sound : (most : ℕ) (c : Course) (bytes : List ℕ) (old new : Stream) (Holds : Entries → Type 0) (error : ShipError) → Feeds most c bytes old Holds new (Err error) → StaysSound Holds (Err (Stopped error))
stopped_sound most c bytes old new Holds Memory took = tt
stopped_sound most c bytes old new Holds DiskFault took = tt
stopped_sound most c bytes old new Holds (Damaged key) took = took
stopped_sound most c bytes old new Holds (BadFrame at) took = tt
stopped_sound most c bytes old new Holds (Gap found next) took = tt
stopped_sound most c bytes old new Holds (TooLarge total) took = tt

-- the records that a standby holds tell a number still
pub next_sound : (most next start : ℕ) (entries : Entries) (bytes : List ℕ) (old new : Stream) (applied : ℕ) (Holds : Entries → Type 0) → next_of entries ≡ Some next → TookFrames most (from entries next start) bytes old Holds new applied → HoldsNext Holds
next_sound most next start entries bytes old new applied Holds known took = record {
  entries = took.reached.entries;
  next = took.reached.next;
  told = next_course most (from entries next start) took.reached took.is.frames took.is.split.form known took.is.ends;
  holds = took.holds;
}
