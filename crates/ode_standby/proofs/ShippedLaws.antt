-- A standby takes the frames that its primary shipped.
use Rattle.std.proofs.Common.{◌≡◌, ◌⊎◌, ⊎_elim, inl, inr, ◌+◌, ◌<◌, ◌≤◌, max, ℕ, zero, suc, length, take, drop, List, [], ◌∷◌, ◌++◌, Some, Result, Ok, Err, refl, sym, ◌∙◌, ap, subst, arith, append_assoc, length-append}
use Rattle.std.proofs.lemmas.Bool.{cases_lt}
use Rattle.std.proofs.lemmas.List.{take-append-drop, take-append-le, take_at}
use Rattle.std.specs.List.{AllByRecursion, flat_map}
use Rattle.ode_host.specs.View.{View}
use Rattle.ode_keep.specs.Entries.{Entries, applied, record_bytes}
use Rattle.ode_ship.proofs.Frames.{none_stands, one_first}
use Rattle.ode_ship.specs.Frames.{Frame, IsFrame, frame_bytes}
use Rattle.ode_ship.specs.Streams.{AreFrames, IsBad, IsBegun}
use Rattle.ode_standby.proofs.CourseLaws.{frames_joined, one_more}
use Rattle.ode_standby.proofs.NextLaws.{next_applied, step_applies, step_skips, step_ways}
use Rattle.ode_standby.proofs.PieceLaws.{bad_more}
use Rattle.ode_standby.specs.Courses.{Course, IsEndOf, IsStopped, IsTaken, after, course, course_on, next_of, past, step}
use Rattle.ode_standby.specs.Primary.{AreFewer, CameTo, GoOn, ShippedFrom, IsBehind, IsFront, IsSome, after_first, frames_at, reach}
use Rattle.ode_standby.specs.Taking.{IsBehindNext, LeavesSome}
use Rattle.ode_standby.specs.declared.error.ShipError.{ShipError}
use Rattle.ode_standby.specs.declared.error.ShipError.TheVariants.{Memory, BadFrame, Gap, TooLarge, DiskFault, Damaged}

-- ---- what was shipped at a place

-- the frame at a place, over the records before it
record IsAt (most : ℕ) (entries : Entries) (fs : List Frame) (i : ℕ) (f : Frame) : Type 0 where
  there : take 1 (drop i fs) ≡ f ∷ []
  form : IsFrame f
  number : next_of (after_first i entries fs) ≡ Some f.0
  fits : record_bytes (applied f.1 (after_first i entries fs)) ≤ most
  behind : after_first (suc i) entries fs ≡ applied f.1 (after_first i entries fs)

shipped_at : (most : ℕ) (i : ℕ) (entries : Entries) (fs : List Frame) → ShippedFrom most entries fs → i < length fs → (f : Frame) × IsAt most entries fs i f
shipped_at most i entries [] shipped less = absurd (omega (arith, less))
shipped_at most zero entries (f ∷ fs) shipped less = (f, record { there = refl; form = shipped.0; number = shipped.1; fits = shipped.2; behind = refl })
shipped_at most (suc i) entries (f ∷ fs) shipped less =
    let later = shipped_at most i (applied f.1 entries) fs shipped.3 (omega (arith, less)) in
    (later.0, record { there = later.1.there; form = later.1.form; number = later.1.number; fits = later.1.fits; behind = later.1.behind })

-- the records behind so many frames tell a number that rises with them
next_at : (most j : ℕ) (entries : Entries) (fs : List Frame) (n : ℕ) → ShippedFrom most entries fs → next_of entries ≡ Some n → j ≤ length fs → next_of (after_first j entries fs) ≡ Some (n + j)
next_at most zero entries fs n shipped known less = let same : n ≡ n + 0 = omega arith in known ∙ ap Some same
next_at most (suc j) entries [] n shipped known less = absurd (omega (arith, less))
next_at most (suc j) entries (f ∷ fs) n shipped known less =
    let told : Some n ≡ Some f.0 = sym known ∙ shipped.1 in
    let same : n ≡ f.0 = cc (told) in
    let sum : f.0 + 1 + j ≡ n + suc j = omega (arith, same) in
    next_at most j (applied f.1 entries) fs (f.0 + 1) shipped.3 (next_applied f entries shipped.0) (omega (arith, less)) ∙ ap Some sum

-- the first number, where a frame was shipped
first_number : (most i : ℕ) (entries : Entries) (fs : List Frame) → ShippedFrom most entries fs → i < length fs → (n : ℕ) × (next_of entries ≡ Some n)
first_number most i entries [] shipped less = absurd (omega (arith, less))
first_number most i entries (f ∷ fs) shipped less = (f.0, shipped.1)

-- a list begins with what its front is
parted : (l first : List ℕ) (n : ℕ) → take n l ≡ first → l ≡ first ++ drop n l
parted l first n is = sym (take-append-drop n l) ∙ ap (λ (x : List ℕ). x ++ drop n l) is

some_same : (m n : ℕ) → Some m ≡ Some n → m ≡ n
some_same m n is = cc (is)

reach_on : (j : ℕ) (places : List ℕ) → j ≤ reach j places
reach_on j [] = omega arith
reach_on j (i ∷ is) = let more = reach_on (max j (suc i)) is in omega (arith, more)

-- ---- the frames of a stream

module _ (most : ℕ) (entries : Entries) (fs : List Frame) (shipped : ShippedFrom most entries fs) where
  -- one frame leads a standby on
  record Steps (j i : ℕ) (c : Course) (f : Frame) : Type 0 where
    reached : Course
    steps : step most c f ≡ Ok reached
    behind : IsBehind fs entries (max j (suc i)) reached

  numbered : (j i : ℕ) (c : Course) (f : Frame) → IsBehind fs entries j c → i < length fs → IsAt most entries fs i f → f.0 + j ≡ c.next + i
  numbered j i c f behind less at =
      let first = first_number most i entries fs shipped less in
      let own : f.0 ≡ first.0 + i = some_same f.0 (first.0 + i) (sym at.number ∙ next_at most i entries fs first.0 shipped first.1 (omega (arith, less))) in
      let next : c.next ≡ first.0 + j =
      some_same c.next (first.0 + j) (sym behind.next ∙ ap next_of behind.records ∙ next_at most j entries fs first.0 shipped first.1 behind.within) in
      omega (arith, own, next)

  skipped_one : (j i : ℕ) (c : Course) (f : Frame) → IsBehind fs entries j c → i < j → f.0 < c.next → Steps j i c f
  skipped_one j i c f behind earlier less =
      let same : j ≡ max j (suc i) = omega (arith, earlier) in
      record {
        reached = past c f;
        steps = step_skips most c f less;
        behind = subst (λ (n : ℕ). IsBehind fs entries n (past c f)) same (record { within = behind.within; records = behind.records; next = behind.next });
      }

  applied_one : (j i : ℕ) (c : Course) (f : Frame) → IsBehind fs entries j c → i < length fs → i ≡ j → IsAt most entries fs i f → f.0 ≡ c.next → Steps j i c f
  applied_one j i c f behind less here at is =
      let same : suc i ≡ max j (suc i) = omega (arith, here) in
      let records : c.entries ≡ after_first i entries fs = behind.records ∙ ap (λ (n : ℕ). after_first n entries fs) (sym here) in
      let next : f.0 + 1 ≡ suc c.next = omega (arith, is) in
      record {
        reached = after c f;
        steps = step_applies most c f is (subst (λ (m : Entries). record_bytes (applied f.1 m) ≤ most) (sym records) at.fits);
        behind = subst (λ (n : ℕ). IsBehind fs entries n (after c f)) same (record {
          within = omega (arith, less);
          records = ap (λ (m : Entries). applied f.1 m) records ∙ sym at.behind;
          next = next_applied f c.entries at.form ∙ ap Some next;
        });
      }

  one_steps : (j i : ℕ) (c : Course) (f : Frame) → IsBehind fs entries j c → i < length fs → i ≤ j → IsAt most entries fs i f → Steps j i c f
  one_steps j i c f behind less upto at =
      let sums = numbered j i c f behind less at in
      ⊎_elim
      (λ (earlier : i < j). skipped_one j i c f behind earlier (omega (arith, sums, earlier)))
      (λ (here : j ≤ i). let same : i ≡ j = omega (arith, here, upto) in applied_one j i c f behind less same at (omega (arith, sums, same)))
      (cases_lt i j)

  -- Frames that stand in front of what is at these places are those at the first of them, and lead a standby on.
  record Went (j : ℕ) (places : List ℕ) (gs : List Frame) (tail : List ℕ) (c : Course) : Type 0 where
    whole : List ℕ
    others : List ℕ
    split : places ≡ whole ++ others
    same : gs ≡ frames_at fs whole
    left : tail ≡ flat_map frame_bytes (frames_at fs others)
    reached : Course
    ends : course most c gs ≡ Ok reached
    behind : IsBehind fs entries (reach j whole) reached
    on : GoOn fs (reach j whole) others

  went_on : (j i : ℕ) (is : List ℕ) (g : Frame) (gs : List Frame) (tail : List ℕ) (c : Course) → IsAt most entries fs i g → (one : Steps j i c g) → Went (max j (suc i)) is gs tail one.reached → Went j (i ∷ is) (g ∷ gs) tail c
  went_on j i is g gs tail c at one later = record {
    whole = i ∷ later.whole;
    others = later.others;
    split = ap (λ (l : List ℕ). i ∷ l) later.split;
    same = ap (λ (l : List Frame). g ∷ l) later.same ∙ ap (λ (l : List Frame). l ++ frames_at fs later.whole) (sym at.there);
    left = later.left;
    reached = later.reached;
    ends = ap (λ (s : Result Course ShipError). course_on s (λ d. course most d gs)) one.steps ∙ later.ends;
    behind = later.behind;
    on = later.on;
  }

  no_frame : (g : Frame) (gs : List Frame) (tail : List ℕ) → [] ≡ flat_map frame_bytes (g ∷ gs) ++ tail → ⊥
  no_frame g gs tail is =
      let long = ap length is in
      absurd (omega (arith, long, length-append (flat_map frame_bytes (g ∷ gs)) tail, length-append (frame_bytes g) (flat_map frame_bytes gs)))

  goes : (gs : List Frame) (j : ℕ) (places tail : List ℕ) (c : Course) → AllByRecursion IsFrame gs → IsBehind fs entries j c → GoOn fs j places
      → flat_map frame_bytes (frames_at fs places) ≡ flat_map frame_bytes gs ++ tail → Went j places gs tail c
  goes [] j places tail c forms behind on is = record {
    whole = [];
    others = places;
    split = refl;
    same = refl;
    left = sym is;
    reached = c;
    ends = refl;
    behind = behind;
    on = on;
  }
  goes (g ∷ gs) j [] tail c forms behind on is = absurd (no_frame g gs tail is)
  goes (g ∷ gs) j (i ∷ is) tail c forms behind on spelled =
      let f = shipped_at most i entries fs shipped on.0 in
      let first : flat_map frame_bytes (frames_at fs (i ∷ is)) ≡ frame_bytes f.0 ++ flat_map frame_bytes (frames_at fs is) =
      ap (λ (l : List Frame). flat_map frame_bytes (l ++ frames_at fs is)) f.1.there in
      let both = one_first f.0 g (flat_map frame_bytes (frames_at fs is)) (flat_map frame_bytes gs ++ tail) f.1.form forms.0
      (sym first ∙ spelled ∙ append_assoc (frame_bytes g) (flat_map frame_bytes gs) tail) in
      let at : IsAt most entries fs i g = subst (IsAt most entries fs i) both.0 f.1 in
      let one = one_steps j i c g behind on.0 on.1 at in
      went_on j i is g gs tail c at one (goes gs (max j (suc i)) is tail one.reached forms.1 one.behind on.2 both.1)

  same_end : (r : Result Course ShipError) (d e : Course) → r ≡ Ok d → r ≡ Ok e → d ≡ e
  same_end r d e first second = cc (first, second)

  not_both : (r : Result Course ShipError) (d : Course) (e : ShipError) → r ≡ Ok d → r ≡ Err e → ⊥
  not_both r d e first second = absurd (cc (first, second))

  -- ---- a front of them

  module _ (j : ℕ) (places bytes : List ℕ) (c : Course) (behind : IsBehind fs entries j c) (on : GoOn fs j places) (front : IsFront fs places bytes) where
    went : (gs : List Frame) (rest : List ℕ) → AreFrames bytes gs rest → Went j places gs (rest ++ front.more) c
    went gs rest are =
        goes gs j places (rest ++ front.more) c are.form behind on
        (front.split ∙ ap (λ (l : List ℕ). l ++ front.more) are.spelled ∙ append_assoc (flat_map frame_bytes gs) rest front.more)

    -- what is left begins the next frame, where one is to come
    no_bytes : (rest more : List ℕ) → rest ++ more ≡ [] → rest ≡ []
    no_bytes [] more is = refl
    no_bytes (x ∷ rest) more is = absurd (omega (arith, ap length is))

    first_at : (k i : ℕ) (is : List ℕ) → GoOn fs k (i ∷ is) → (f : Frame) × IsFrame f × (frames_at fs (i ∷ is) ≡ f ∷ frames_at fs is)
    first_at k i is goes_on =
        let f = shipped_at most i entries fs shipped goes_on.0 in
        (f.0, f.1.form, ap (λ (l : List Frame). l ++ frames_at fs is) f.1.there)

    cut_short : (f : Frame) (rest more behind_it : List ℕ) → IsFrame f → IsBegun rest → rest ++ more ≡ frame_bytes f ++ behind_it → length rest < length (frame_bytes f)
    cut_short f rest more behind_it form begun is = ⊎_elim
        (λ (short : length rest < length (frame_bytes f)). short)
        (λ (long : length (frame_bytes f) ≤ length rest).
        let head : take (length (frame_bytes f)) rest ≡ frame_bytes f =
        sym (take-append-le (length (frame_bytes f)) rest more long) ∙ ap (take (length (frame_bytes f))) is ∙ take_at (frame_bytes f) behind_it (length (frame_bytes f)) refl in
        absurd (none_stands rest (inl begun) f (drop (length (frame_bytes f)) rest) (form, parted rest (frame_bytes f) (length (frame_bytes f)) head)))
        (cases_lt (length rest) (length (frame_bytes f)))

    fewer : (k : ℕ) (others rest more : List ℕ) → GoOn fs k others → IsBegun rest → rest ++ more ≡ flat_map frame_bytes (frames_at fs others) → AreFewer rest (frames_at fs others)
    fewer k [] rest more goes_on begun is = no_bytes rest more is
    fewer k (i ∷ is) rest more goes_on begun spelled =
        let f = first_at k i is goes_on in
        subst (AreFewer rest) (sym f.2) (cut_short f.0 rest more (flat_map frame_bytes (frames_at fs is)) f.1 begun (spelled ∙ ap (λ (l : List Frame). flat_map frame_bytes l) f.2))

    pub came : (d : Course) (rest : List ℕ) → IsTaken most c d bytes rest → CameTo fs entries j places bytes rest d
    came d rest taken =
        let w = went taken.frames rest taken.split in
        record {
          whole = w.whole;
          others = w.others;
          split = w.split;
          spelled = taken.split.spelled ∙ ap (λ (l : List Frame). flat_map frame_bytes l ++ rest) w.same;
          begun = fewer (reach j w.whole) w.others rest front.more w.on taken.begun w.left;
          behind = subst (IsBehind fs entries (reach j w.whole)) (same_end (course most c taken.frames) w.reached d w.ends taken.ends) w.behind;
        }

    -- ---- nothing stops it

    not_bad : (k : ℕ) (others rest : List ℕ) → GoOn fs k others → IsBad rest → rest ++ front.more ≡ flat_map frame_bytes (frames_at fs others) → ⊥
    not_bad k [] rest goes_on bad is = absurd (empty_bad (subst IsBad (no_bytes rest front.more is) bad)) where
      empty_bad : IsBad [] → ⊥
      empty_bad none = ⊎_elim (λ short. absurd (omega (arith, short.there))) (λ whole. absurd (omega (arith, ap length whole.whole.spelled))) none
    not_bad k (i ∷ is) rest goes_on bad spelled =
        let f = first_at k i is goes_on in
        none_stands (rest ++ front.more) (inr (bad_more rest front.more bad)) f.0 (flat_map frame_bytes (frames_at fs is)) (f.1, spelled ∙ ap (λ (l : List Frame). flat_map frame_bytes l) f.2)

    not_ended : (d : Course) (gs : List Frame) (rest : List ℕ) (error : ShipError) → AreFrames bytes gs rest → course most c gs ≡ Ok d → IsEndOf most d rest error → ⊥
    not_ended d gs rest error are ends is =
        let w = went (gs ++ is.frame ∷ []) is.behind (frames_joined bytes rest is.behind gs (is.frame ∷ []) are is.split) in
        not_both (course most c (gs ++ is.frame ∷ [])) w.reached error w.ends
        (one_more most c gs is.frame ∙ ap (λ (s : Result Course ShipError). course_on s (λ x. step most x is.frame)) ends ∙ is.ends)

    pub nothing : (d : Course) (error : ShipError) → IsStopped most c d bytes error → ⊥
    nothing d (BadFrame at) stopped =
        let w = went stopped.frames stopped.rest stopped.split in
        not_bad (reach j w.whole) w.others stopped.rest w.on stopped.cause.1 w.left
    nothing d (Gap found next) stopped = not_ended d stopped.frames stopped.rest (Gap found next) stopped.split stopped.ends stopped.cause
    nothing d (TooLarge total) stopped = not_ended d stopped.frames stopped.rest (TooLarge total) stopped.split stopped.ends stopped.cause
    nothing d Memory stopped = absurd stopped.cause
    nothing d DiskFault stopped = absurd stopped.cause
    nothing d (Damaged key) stopped = absurd stopped.cause

    -- ---- what a stop leaves

    module _ (means : List ℕ → Entries → Type 0) (image : List ℕ) where
      some_at : (k : List ℕ) (d : Course) → IsBehind fs entries (reach j k) d → means image d.entries → IsSome means fs entries j image
      some_at k d at whole = record { k = reach j k; from = reach_on j k; within = at.within; whole = subst (means image) at.records whole }

      some_reached : (d : Course) (gs : List Frame) (rest : List ℕ) → AreFrames bytes gs rest → course most c gs ≡ Ok d → means image d.entries → IsSome means fs entries j image
      some_reached d gs rest are ends whole =
          let w = went gs rest are in
          some_at w.whole d (subst (IsBehind fs entries (reach j w.whole)) (same_end (course most c gs) w.reached d w.ends ends) w.behind) whole

      -- the frame behind the last of them was applied
      some_next : (d : Course) (gs : List Frame) (rest : List ℕ) → AreFrames bytes gs rest → course most c gs ≡ Ok d → IsBehindNext means d rest image → IsSome means fs entries j image
      some_next d gs rest are ends next =
          let w = went (gs ++ next.frame ∷ []) next.behind (frames_joined bytes rest next.behind gs (next.frame ∷ []) are next.split) in
          let last : step most d next.frame ≡ Ok w.reached =
          ap (λ (s : Result Course ShipError). course_on s (λ x. step most x next.frame)) (sym ends) ∙ sym (one_more most c gs next.frame) ∙ w.ends in
          ⊎_elim
          (λ (way : (next.frame.0 < d.next) × (w.reached ≡ past d next.frame)). absurd (omega (arith, way.0, next.next)))
          (λ (way : (next.frame.0 ≡ d.next) × (w.reached ≡ after d next.frame)).
          some_at w.whole w.reached w.behind (subst (λ (x : Course). means image x.entries) (sym way.1) next.whole))
          (step_ways most d w.reached next.frame last)

      pub leaves : (old : View) (out : List ℕ) → LeavesSome means most c bytes old image out → IsSome means fs entries j image
      leaves old out l = ⊎_elim
          (λ (here : means image l.reached.entries). some_reached l.reached l.leads.frames l.rest l.leads.split l.leads.ends here)
          (λ (next : IsBehindNext means l.reached l.rest image). some_next l.reached l.leads.frames l.rest l.leads.split l.leads.ends next)
          l.whole
