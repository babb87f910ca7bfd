-- What a standby answers, by what came of the frames.
use Rattle.std.proofs.Common.{◌≡◌, ◌+◌, ◌-◌, ◌≤◌, ℕ, List, ◌++◌, length, drop, Some, Ok, Err, inl, sym, ◌∙◌, ap, subst, arith, length-append}
use Rattle.std.specs.Prelude.{Result}
use Rattle.std.proofs.lemmas.List.{drop_at}
use Rattle.std.specs.List.{flat_map}
use Rattle.ode_codec.specs.declared.record.Counters.{Counters}
use Rattle.ode_heap.specs.Answers.{Answers, There, UnlessFault}
use Rattle.ode_heap.specs.Looking.{counters_in}
use Rattle.ode_heap.specs.declared.error.HeapError.{HeapError}
use Rattle.ode_heap.specs.declared.error.HeapError.TheVariants as heap
use Rattle.ode_host.proofs.Moments.{joined, looks_on, started, weaker}
use Rattle.ode_host.specs.Host.{LeavesOnly, Looks, Stands}
use Rattle.ode_host.specs.View.{View}
use Rattle.ode_keep.specs.Entries.{Entries}
use Rattle.ode_standby.proofs.CounterLaws.{known_counters}
use Rattle.ode_standby.proofs.CourseLaws.{leads_nowhere}
use Rattle.ode_standby.specs.Courses.{Course, IsTaken, next_of}
use Rattle.ode_standby.specs.Failing.{error_of}
use Rattle.ode_standby.specs.Feeding.{Feeds, TookFrames}
use Rattle.ode_ship.specs.Frames.{frame_bytes}
use Rattle.ode_standby.specs.Taking.{LeavesSome, Takes, TookAll, TookSome, from}
use Rattle.ode_standby.specs.declared.applying.Taken.{Taken}
use Rattle.ode_standby.specs.declared.error.ShipError.{ShipError}
use Rattle.ode_standby.specs.declared.error.ShipError.TheVariants.{Memory, BadFrame, Gap, TooLarge, DiskFault, Damaged}
use Rattle.ode_standby.specs.declared.stream.Stream.{Stream}

-- the counters of records tell their next number
pub next_known : (entries : Entries) (n : ℕ) (c : Counters) → next_of entries ≡ Some n → counters_in entries ≡ There c → c.next_transaction ≡ n
next_known entries n c known found =
    let k = known_counters entries n known in
    let same : c ≡ k.0 = cc (found, k.1) in
    ap (λ (x : Counters). x.next_transaction) same ∙ k.2

module _ (most : ℕ) (c : Course) (bytes : List ℕ) (Holds : Entries → Type 0) (old new : Stream) where
  pub feeds_err : (e : ShipError) → Takes most c bytes Holds (Err e) → Feeds most c bytes old Holds new (Err e)
  feeds_err Memory t = t
  feeds_err DiskFault t = t
  feeds_err (Damaged key) t = t
  feeds_err (BadFrame at) t = t
  feeds_err (Gap found next) t = t
  feeds_err (TooLarge total) t = t

  -- all that was taken waits no more
  pub feeds_ok : (taken : Taken) (count : ℕ) → TookAll most c bytes Holds taken → c.at ≡ old.start → length taken.rest.now ≤ length bytes → count ≡ length bytes - length taken.rest.now
      → new.start ≡ old.start + count → new.skipped ≡ old.skipped + taken.skipped → new.begun.items ≡ drop count bytes → TookFrames most c bytes old Holds new taken.applied
  feeds_ok taken count t here short is start skipped waits =
      let long : count ≡ length (flat_map frame_bytes t.is.frames) =
      omega (arith, is, ap length t.is.split.spelled, length-append (flat_map frame_bytes t.is.frames) taken.rest.now) in
      let left : new.begun.items ≡ taken.rest.now =
      waits ∙ ap (drop count) t.is.split.spelled ∙ drop_at (flat_map frame_bytes t.is.frames) taken.rest.now count (sym long) in
      record {
        reached = t.reached;
        is = subst (λ (l : List ℕ). IsTaken most c t.reached bytes l) (sym left) t.is;
        start = omega (arith, start, here, t.at, is, short);
        skipped = skipped ∙ ap (λ (n : ℕ). old.skipped + n) t.skipped;
        applied_is = t.applied;
        holds = t.holds;
      }

-- nothing was taken yet
pub took_none : (most next start : ℕ) (entries : Entries) (bytes : List ℕ) (Holds : Entries → Type 0) → Holds entries → TookSome most (from entries next start) bytes Holds
took_none most next start entries bytes Holds held = record {
  rest = bytes;
  reached = from entries next start;
  leads = leads_nowhere most (from entries next start) bytes;
  holds = held;
}

-- frames that were taken stay so, whatever comes then
pub took_some : (most : ℕ) (c : Course) (bytes : List ℕ) (Holds : Entries → Type 0) (taken : Taken) → TookAll most c bytes Holds taken → TookSome most c bytes Holds
took_some most c bytes Holds taken t = record {
  rest = taken.rest.now;
  reached = t.reached;
  leads = record { frames = t.is.frames; split = t.is.split; ends = t.is.ends };
  holds = t.holds;
}

-- the number is that of the records, and the bytes are those that wait
pub takes_here : (most number next start : ℕ) (entries : Entries) (slice bytes : List ℕ) (Holds : Entries → Type 0) (r : Result Taken ShipError) → number ≡ next → slice ≡ bytes
    → Takes most (from entries number start) slice Holds r → Takes most (from entries next start) bytes Holds r
takes_here most number next start entries slice bytes Holds r same is t =
    subst (λ (l : List ℕ). Takes most (from entries next start) l Holds r) is (subst (λ (n : ℕ). Takes most (from entries n start) slice Holds r) same t)

-- the counters weren't read
pub no_counters : (most next start : ℕ) (entries : Entries) (bytes : List ℕ) (Before Holds : Entries → Type 0) (old new : Stream) (e : HeapError) → next_of entries ≡ Some next → Before entries
    → Answers {X = Counters} (Err e) (counters_in entries) → UnlessFault {X = Counters} (Err e) ((after : Entries) → Before after → Holds after)
    → Feeds most (from entries next start) bytes old Holds new (Err (error_of e))
no_counters most next start entries bytes Before Holds old new heap.Memory known held found keeps = took_none most next start entries bytes Holds (keeps entries held)
no_counters most next start entries bytes Before Holds old new heap.DiskFault known held found keeps = tt
no_counters most next start entries bytes Before Holds old new (heap.TooLarge total) known held found keeps = absurd found
no_counters most next start entries bytes Before Holds old new (heap.Damaged key) known held found keeps =
    let k = known_counters entries next known in absurd (cc (found, k.1))

-- before any frame the records are those at the start
pub none_left : (means : List ℕ → Entries → Type 0) (most next start : ℕ) (entries : Entries) (bytes file : List ℕ) (old : View) (image out : List ℕ) → means file entries → image ≡ file → old.text ≡ Some out
    → LeavesSome means most (from entries next start) bytes old image out
none_left means most next start entries bytes file old image out are is said = record {
  rest = bytes;
  reached = from entries next start;
  leads = leads_nowhere most (from entries next start) bytes;
  whole = inl (subst (λ (l : List ℕ). means l entries) (sym is) are);
  text = said;
}

pub some_left : (means : List ℕ → Entries → Type 0) (most : ℕ) (c : Course) (bytes : List ℕ) (old mid : View) (image out : List ℕ) → mid.text ≡ old.text → LeavesSome means most c bytes mid image out → LeavesSome means most c bytes old image out
some_left means most c bytes old mid image out same l = record { rest = l.rest; reached = l.reached; leads = l.leads; whole = l.whole; text = sym same ∙ l.text }

-- The counters are read, and frames are taken.
module _ (means : List ℕ → Entries → Type 0) (most next start : ℕ) (entries : Entries) (bytes file : List ℕ) (old mid : View)
    (are : means file entries) (stands : Stands file old) (text_stands : (c o : List ℕ) → old.left old.moment c o → old.text ≡ Some o) (looks : Looks old mid) where
  pub counters_leave : LeavesOnly old mid (LeavesSome means most (from entries next start) bytes old)
  counters_leave =
      looks_on old old mid (LeavesSome means most (from entries next start) bytes old) (started old (LeavesSome means most (from entries next start) bytes old))
      (λ image out was. none_left means most next start entries bytes file old image out are (stands.only image out was) (text_stands image out was))
      looks

  pub frames_leave : (number : ℕ) (slice : List ℕ) (new : View) → number ≡ next → slice ≡ bytes → LeavesOnly mid new (LeavesSome means most (from entries number start) slice mid)
      → LeavesOnly old new (LeavesSome means most (from entries next start) bytes old)
  frames_leave number slice new same is run =
      joined old mid new (LeavesSome means most (from entries next start) bytes old) counters_leave
      (weaker mid new (LeavesSome means most (from entries number start) slice mid) (LeavesSome means most (from entries next start) bytes old)
      (λ image out l. some_left means most (from entries next start) bytes old mid image out looks.text
      (subst (λ (b : List ℕ). LeavesSome means most (from entries next start) b mid image out) is (subst (λ (n : ℕ). LeavesSome means most (from entries n start) slice mid image out) same l)))
      run)

-- A stream was extended by a piece.
module _ (piece : List ℕ) (old mid : Stream) (waits : mid.begun.items ≡ old.begun.items ++ piece) (start : mid.start ≡ old.start) where
  pub extended : (P : ℕ → List ℕ → Type 0) → P mid.start mid.begun.items → P old.start (old.begun.items ++ piece)
  extended P here = subst (λ (n : ℕ). P n (old.begun.items ++ piece)) start (subst (λ (l : List ℕ). P mid.start l) waits here)

  module _ (most next : ℕ) (entries : Entries) (Holds : Entries → Type 0) (new : Stream) (skipped : mid.skipped ≡ old.skipped) where
    counted_from : (c : Course) (bytes : List ℕ) (r : Result ℕ ShipError) → Feeds most c bytes mid Holds new r → Feeds most c bytes old Holds new r
    counted_from c bytes (Ok applied) f = record {
      reached = f.reached;
      is = f.is;
      start = f.start;
      skipped = f.skipped ∙ ap (λ (n : ℕ). n + f.reached.skipped) skipped;
      applied_is = f.applied_is;
      holds = f.holds;
    }
    counted_from c bytes (Err Memory) f = f
    counted_from c bytes (Err DiskFault) f = f
    counted_from c bytes (Err (Damaged key)) f = f
    counted_from c bytes (Err (BadFrame at)) f = f
    counted_from c bytes (Err (Gap found next)) f = f
    counted_from c bytes (Err (TooLarge total)) f = f

    pub feeds_extended : (r : Result ℕ ShipError) → Feeds most (from entries next mid.start) mid.begun.items mid Holds new r → Feeds most (from entries next old.start) (old.begun.items ++ piece) old Holds new r
    feeds_extended r f = extended (λ n l. Feeds most (from entries next n) l old Holds new r) (counted_from (from entries next mid.start) mid.begun.items r f)
