-- What is taken of a stream that comes in pieces.
use Rattle.std.proofs.Common.{◌≡◌, ◌⊎◌, ⊎_elim, inl, inr, ◌+◌, ◌≤◌, ℕ, suc, Bool, true, false, if◌then◌else◌, length, List, [], ◌∷◌, ◌++◌, Result, Ok, Err, refl, sym, ◌∙◌, ap, arith, append_assoc, length-append}
use Rattle.std.proofs.lemmas.List.{take-append-le}
use Rattle.std.specs.Int.{w32, from_be_bytes, to_be_bytes}
use Rattle.std.specs.List.{flat_map}
use Rattle.std.specs.Prelude.{nat_lt}
use Rattle.ode_host.specs.View.{View}
use Rattle.ode_keep.specs.Entries.{Entries, applied, record_bytes}
use Rattle.ode_ship.specs.Frames.{Frame, frame_bytes, is_length}
use Rattle.ode_ship.specs.Streams.{AreFrames, HasNoForm, HasNoLength, IsBad, told}
use Rattle.ode_ship.specs.declared.framing.TheConstants.{HEAD_LEN}
use Rattle.ode_standby.proofs.CourseLaws.{course_more, frames_joined}
use Rattle.ode_standby.specs.Courses.{Course, IsCause, IsEndOf, IsStopped, IsTaken, after, course, course_on, past, step}
use Rattle.ode_standby.specs.Pieces.{counted_on, onward}
use Rattle.ode_standby.specs.Taking.{IsBehindNext, LeavesSome, Leads, Stops, TookSome}
use Rattle.ode_standby.specs.declared.error.ShipError.{ShipError}
use Rattle.ode_standby.specs.declared.error.ShipError.TheVariants.{Memory, BadFrame, Gap, TooLarge, DiskFault, Damaged}

-- ---- more behind

-- frames that stand in front stand there still
pub frames_more : (bytes rest more : List ℕ) (fs : List Frame) → AreFrames bytes fs rest → AreFrames (bytes ++ more) fs (rest ++ more)
frames_more bytes rest more fs are = record {
  spelled = ap (λ (l : List ℕ). l ++ more) are.spelled ∙ append_assoc (flat_map frame_bytes fs) rest more;
  form = are.form;
}

-- a length that is there is there still
told_more : (bytes more : List ℕ) → HEAD_LEN ≤ length bytes → told (bytes ++ more) ≡ told bytes
told_more bytes more there = ap (λ (l : List ℕ). from_be_bytes w32 l) (take-append-le HEAD_LEN bytes more there)

pub bad_more : (bytes more : List ℕ) → IsBad bytes → IsBad (bytes ++ more)
bad_more bytes more bad = ⊎_elim
    (λ (none : HasNoLength bytes). inl (record { there = omega (arith, none.there, length-append bytes more); outside = ap is_length (told_more bytes more none.there) ∙ none.outside }))
    (λ (none : HasNoForm bytes). inr (record {
      payload = none.payload;
      rest = none.rest ++ more;
      whole = record {
        long = none.whole.long;
        spelled =
            ap (λ (l : List ℕ). l ++ more) none.whole.spelled
            ∙ append_assoc (to_be_bytes w32 (length none.payload)) (none.payload ++ none.rest) more
            ∙ ap (λ (l : List ℕ). to_be_bytes w32 (length none.payload) ++ l) (append_assoc none.payload none.rest more);
      };
      outside = none.outside;
    }))
    bad

end_more : (most : ℕ) (d : Course) (rest more : List ℕ) (error : ShipError) → IsEndOf most d rest error → IsEndOf most d (rest ++ more) error
end_more most d rest more error is = record { frame = is.frame; behind = is.behind ++ more; split = frames_more rest is.behind more (is.frame ∷ []) is.split; ends = is.ends }

pub cause_more : (most : ℕ) (d : Course) (rest more : List ℕ) (error : ShipError) → IsCause most d rest error → IsCause most d (rest ++ more) error
cause_more most d rest more (BadFrame at) is = (is.0, bad_more rest more is.1)
cause_more most d rest more (Gap found next) is = end_more most d rest more (Gap found next) is
cause_more most d rest more (TooLarge total) is = end_more most d rest more (TooLarge total) is
cause_more most d rest more Memory is = absurd is
cause_more most d rest more DiskFault is = absurd is
cause_more most d rest more (Damaged key) is = absurd is

pub stopped_more : (most : ℕ) (c d : Course) (bytes more : List ℕ) (error : ShipError) → IsStopped most c d bytes error → IsStopped most c d (bytes ++ more) error
stopped_more most c d bytes more error is = record {
  frames = is.frames;
  rest = is.rest ++ more;
  split = frames_more bytes is.rest more is.frames is.split;
  ends = is.ends;
  cause = cause_more most d is.rest more error is.cause;
}

pub leads_more : (most : ℕ) (c d : Course) (bytes rest more : List ℕ) → Leads most c d bytes rest → Leads most c d (bytes ++ more) (rest ++ more)
leads_more most c d bytes rest more leads = record { frames = leads.frames; split = frames_more bytes rest more leads.frames leads.split; ends = leads.ends }

pub some_more : (most : ℕ) (c : Course) (bytes more : List ℕ) (Holds : Entries → Type 0) → TookSome most c bytes Holds → TookSome most c (bytes ++ more) Holds
some_more most c bytes more Holds took = record { rest = took.rest ++ more; reached = took.reached; leads = leads_more most c took.reached bytes took.rest more took.leads; holds = took.holds }

pub leaves_more : (means : List ℕ → Entries → Type 0) (most : ℕ) (c : Course) (bytes more : List ℕ) (old : View) (image out : List ℕ) → LeavesSome means most c bytes old image out → LeavesSome means most c (bytes ++ more) old image out
leaves_more means most c bytes more old image out l = record {
  rest = l.rest ++ more;
  reached = l.reached;
  leads = leads_more most c l.reached bytes l.rest more l.leads;
  whole = ⊎_elim inl
      (λ (next : IsBehindNext means l.reached l.rest image). inr (record {
        frame = next.frame;
        behind = next.behind ++ more;
        split = frames_more l.rest next.behind more (next.frame ∷ []) next.split;
        next = next.next;
        whole = next.whole;
      }))
      l.whole;
  text = l.text;
}

-- ---- counted on

-- with what was counted before
turned : (a b w : Bool) (k : Course → Course) (p q p' q' : Course) (e g : ShipError) → p' ≡ k p → q' ≡ k q
    → (if a then Ok p' else if b then Err e else if w then Err g else Ok q') ≡ course_on (if a then Ok p else if b then Err e else if w then Err g else Ok q) (λ d. Ok (k d))
turned true b w k p q p' q' e g one two = ap (λ (c : Course). Ok c) one
turned false true w k p q p' q' e g one two = refl
turned false false true k p q p' q' e g one two = refl
turned false false false k p q p' q' e g one two = ap (λ (c : Course). Ok c) two

abbrev skipped_as : Course → ℕ → Course
skipped_as c n = record c { skipped = n }

abbrev applied_as : Course → ℕ → Course
applied_as c n = record c { applied = n }

past_counted : (c d : Course) (f : Frame) → past (counted_on c d) f ≡ counted_on c (past d f)
past_counted c d f = let more : suc (c.skipped + d.skipped) ≡ c.skipped + suc d.skipped = omega arith in ap (skipped_as (past (counted_on c d) f)) more

after_counted : (c d : Course) (f : Frame) → after (counted_on c d) f ≡ counted_on c (after d f)
after_counted c d f = let more : suc (c.applied + d.applied) ≡ c.applied + suc d.applied = omega arith in ap (applied_as (after (counted_on c d) f)) more

pub step_counted : (most : ℕ) (c d : Course) (f : Frame) → step most (counted_on c d) f ≡ course_on (step most d f) (λ e. Ok (counted_on c e))
step_counted most c d f =
    turned (nat_lt f.0 d.next) (nat_lt d.next f.0) (nat_lt most (record_bytes (applied f.1 d.entries))) (counted_on c) (past d f) (after d f) (past (counted_on c d) f) (after (counted_on c d) f)
    (Gap f.0 d.next) (TooLarge (record_bytes (applied f.1 d.entries))) (past_counted c d f) (after_counted c d f)

counted_then : (most : ℕ) (c : Course) (fs : List Frame) (s : Result Course ShipError) → ((d : Course) → course most (counted_on c d) fs ≡ course_on (course most d fs) (λ e. Ok (counted_on c e)))
    → course_on (course_on s (λ d. Ok (counted_on c d))) (λ d. course most d fs) ≡ course_on (course_on s (λ d. course most d fs)) (λ e. Ok (counted_on c e))
counted_then most c fs (Ok d) later = later d
counted_then most c fs (Err e) later = refl

pub course_counted : (most : ℕ) (c d : Course) (fs : List Frame) → course most (counted_on c d) fs ≡ course_on (course most d fs) (λ e. Ok (counted_on c e))
course_counted most c d [] = refl
course_counted most c d (f ∷ fs) =
    ap (λ (s : Result Course ShipError). course_on s (λ e. course most e fs)) (step_counted most c d f)
    ∙ counted_then most c fs (step most d f) (λ e. course_counted most c e fs)

-- where nothing is counted yet
counted_none : (d : Course) → counted_on d (onward d) ≡ d
counted_none d =
    let a : d.applied + 0 ≡ d.applied = omega arith in
    let s : d.skipped + 0 ≡ d.skipped = omega arith in
    λ i. record { entries = d.entries; next = d.next; at = d.at; applied = a i; skipped = s i }

-- ---- one piece behind another

module _ (most : ℕ) (c d : Course) (came rest piece : List ℕ) (taken : IsTaken most c d came rest) where
  frames_join : (gs : List Frame) (left : List ℕ) → AreFrames (rest ++ piece) gs left → AreFrames (came ++ piece) (taken.frames ++ gs) left
  frames_join gs left are = frames_joined (came ++ piece) (rest ++ piece) left taken.frames gs (frames_more came rest piece taken.frames taken.split) are

  course_join : (e : Course) (gs : List Frame) → course most (onward d) gs ≡ Ok e → course most c (taken.frames ++ gs) ≡ Ok (counted_on d e)
  course_join e gs ends =
      course_more most c taken.frames gs
      ∙ ap (λ (s : Result Course ShipError). course_on s (λ x. course most x gs)) taken.ends
      ∙ ap (λ (x : Course). course most x gs) (sym (counted_none d))
      ∙ course_counted most d (onward d) gs
      ∙ ap (λ (s : Result Course ShipError). course_on s (λ x. Ok (counted_on d x))) ends

  leads_join : (e : Course) (left : List ℕ) → Leads most (onward d) e (rest ++ piece) left → Leads most c (counted_on d e) (came ++ piece) left
  leads_join e left leads = record { frames = taken.frames ++ leads.frames; split = frames_join leads.frames left leads.split; ends = course_join e leads.frames leads.ends }

  pub taken_join : (e : Course) (left : List ℕ) → IsTaken most (onward d) e (rest ++ piece) left → IsTaken most c (counted_on d e) (came ++ piece) left
  taken_join e left next = record {
    frames = taken.frames ++ next.frames;
    split = frames_join next.frames left next.split;
    ends = course_join e next.frames next.ends;
    begun = next.begun;
  }

  -- the cause of an error knows nothing of what was counted
  end_counted : (e : Course) (left : List ℕ) (error : ShipError) → IsEndOf most e left error → IsEndOf most (counted_on d e) left error
  end_counted e left error is = record {
    frame = is.frame;
    behind = is.behind;
    split = is.split;
    ends = step_counted most d e is.frame ∙ ap (λ (s : Result Course ShipError). course_on s (λ x. Ok (counted_on d x))) is.ends;
  }

  cause_counted : (e : Course) (left : List ℕ) (error : ShipError) → IsCause most e left error → IsCause most (counted_on d e) left error
  cause_counted e left (BadFrame at) is = is
  cause_counted e left (Gap found next) is = end_counted e left (Gap found next) is
  cause_counted e left (TooLarge total) is = end_counted e left (TooLarge total) is
  cause_counted e left Memory is = absurd is
  cause_counted e left DiskFault is = absurd is
  cause_counted e left (Damaged key) is = absurd is

  pub stops_join : (e : Course) (error : ShipError) → IsStopped most (onward d) e (rest ++ piece) error → IsStopped most c (counted_on d e) (came ++ piece) error
  stops_join e error is = record {
    frames = taken.frames ++ is.frames;
    rest = is.rest;
    split = frames_join is.frames is.rest is.split;
    ends = course_join e is.frames is.ends;
    cause = cause_counted e is.rest error is.cause;
  }

  pub some_join : (Holds : Entries → Type 0) → TookSome most (onward d) (rest ++ piece) Holds → TookSome most c (came ++ piece) Holds
  some_join Holds took = record { rest = took.rest; reached = counted_on d took.reached; leads = leads_join took.reached took.rest took.leads; holds = took.holds }

  pub stopped_join : (Holds : Entries → Type 0) (error : ShipError) → Stops most (onward d) (rest ++ piece) Holds error → Stops most c (came ++ piece) Holds error
  stopped_join Holds error stops = record { reached = counted_on d stops.reached; is = stops_join stops.reached error stops.is; holds = stops.holds }

  pub leaves_join : (means : List ℕ → Entries → Type 0) (old : View) (image out : List ℕ) → LeavesSome means most (onward d) (rest ++ piece) old image out → LeavesSome means most c (came ++ piece) old image out
  leaves_join means old image out l = record {
    rest = l.rest;
    reached = counted_on d l.reached;
    leads = leads_join l.reached l.rest l.leads;
    whole = ⊎_elim inl
        (λ (next : IsBehindNext means l.reached l.rest image). inr (record { frame = next.frame; behind = next.behind; split = next.split; next = next.next; whole = next.whole }))
        l.whole;
    text = l.text;
  }
