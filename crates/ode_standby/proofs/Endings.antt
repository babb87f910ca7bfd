-- Bytes of a stream have one ending.
use Rattle.std.proofs.Common.{◌≡◌, ◌⊎◌, ⊎_elim, inl, inr, ◌+◌, List, [], ◌∷◌, ◌++◌, ℕ, true, false, length, Ok, Err, refl, sym, ap, subst, ◌∙◌, arith, append-nil, length-append}
use Rattle.std.specs.Prelude.{Result}
use Rattle.std.specs.List.{flat_map}
use Rattle.ode_host.proofs.Determinacy.{IsAhead, NextSpelled, Reads, forked, spelled_once, spelled_reads}
use Rattle.ode_ship.proofs.Frames.{none_stands, one_first, told_is}
use Rattle.ode_ship.specs.Frames.{Frame, IsFrame, frame_bytes}
use Rattle.ode_ship.specs.Streams.{AreFrames, HasNoForm, HasNoLength, IsBad, IsBegun, told}
use Rattle.ode_ship.specs.declared.framing.TheConstants.{HEAD_LEN}
use Rattle.ode_standby.proofs.CourseLaws.{course_more}
use Rattle.ode_standby.specs.Courses.{Course, IsCause, IsEndOf, IsStopped, IsTaken, course, course_on, step}
use Rattle.ode_standby.specs.Endings.{HasOneEnding}
use Rattle.ode_standby.specs.declared.error.ShipError.{ShipError}
use Rattle.ode_standby.specs.declared.error.ShipError.TheVariants.{Memory, BadFrame, Gap, TooLarge, DiskFault, Damaged}

abbrev Next : List ℕ → Frame → List ℕ → Type 0
Next = NextSpelled frame_bytes IsFrame

-- ---- where no frame is taken

-- no frame that stands here is taken
abbrev Halts : ℕ → Course → List ℕ → Type 0
Halts most d rest = (f : Frame) (e : Course) (behind : List ℕ) → Next rest f behind → step most d f ≡ Ok e → ⊥

not_both : (d : Course) (e : ShipError) → Ok d ≡ Err e → ⊥
not_both d e same = absurd (cc (same))

none_halts : (most : ℕ) (d : Course) (rest : List ℕ) → IsBegun rest ⊎ IsBad rest → Halts most d rest
none_halts most d rest end f e behind next takes = none_stands rest end f behind next

front_next : (rest behind : List ℕ) (f : Frame) → AreFrames rest (f ∷ []) behind → Next rest f behind
front_next rest behind f one = (one.form.0, one.spelled ∙ ap (λ (l : List ℕ). l ++ behind) (append-nil (frame_bytes f)))

-- one frame stands in front
same_front : (rest behind more : List ℕ) (f g : Frame) → Next rest f behind → Next rest g more → f ≡ g
same_front rest behind more f g first second = (one_first f g behind more first.0 second.0 (sym first.1 ∙ second.1)).0

end_halts : (most : ℕ) (d : Course) (rest : List ℕ) (error : ShipError) → IsEndOf most d rest error → Halts most d rest
end_halts most d rest error end f e behind next takes =
    let same = same_front rest behind end.behind f end.frame next (front_next rest end.behind end.frame end.split) in
    not_both e error (sym takes ∙ ap (step most d) same ∙ end.ends)

-- the cause of an error is that what stands here is bad, or that its first frame says so
cause_is : (most : ℕ) (d : Course) (rest : List ℕ) (error : ShipError) → IsCause most d rest error → ((error ≡ BadFrame d.at) × IsBad rest) ⊎ IsEndOf most d rest error
cause_is most d rest (BadFrame at) c = inl (ap BadFrame c.0, c.1)
cause_is most d rest (Gap found next) c = inr c
cause_is most d rest (TooLarge total) c = inr c
cause_is most d rest Memory c = absurd c
cause_is most d rest DiskFault c = absurd c
cause_is most d rest (Damaged key) c = absurd c

cause_halts : (most : ℕ) (d : Course) (rest : List ℕ) (error : ShipError) → IsCause most d rest error → Halts most d rest
cause_halts most d rest error cause = ⊎_elim
    (λ (bad : (error ≡ BadFrame d.at) × IsBad rest). none_halts most d rest (inr bad.1))
    (λ (end : IsEndOf most d rest error). end_halts most d rest error end)
    (cause_is most d rest error cause)

-- ---- one cause

bad_ends : (most : ℕ) (d : Course) (rest : List ℕ) (error : ShipError) → IsBegun rest ⊎ IsBad rest → IsEndOf most d rest error → ⊥
bad_ends most d rest error none end = none_stands rest none end.frame end.behind (front_next rest end.behind end.frame end.split)

same_error : (s : Result Course ShipError) (e d : ShipError) → s ≡ Err e → s ≡ Err d → e ≡ d
same_error s e d first second = cc (first, second)

one_end : (most : ℕ) (d : Course) (rest : List ℕ) (error other : ShipError) → IsEndOf most d rest error → IsEndOf most d rest other → error ≡ other
one_end most d rest error other first second =
    let same = same_front rest first.behind second.behind first.frame second.frame (front_next rest first.behind first.frame first.split) (front_next rest second.behind second.frame second.split) in
    same_error (step most d first.frame) error other first.ends (ap (step most d) same ∙ second.ends)

one_cause : (most : ℕ) (d : Course) (rest : List ℕ) (error other : ShipError) → IsCause most d rest error → IsCause most d rest other → error ≡ other
one_cause most d rest error other first second = ⊎_elim
    (λ (bad : (error ≡ BadFrame d.at) × IsBad rest). ⊎_elim
    (λ (too : (other ≡ BadFrame d.at) × IsBad rest). bad.0 ∙ sym too.0)
    (λ (end : IsEndOf most d rest other). absurd (bad_ends most d rest other (inr bad.1) end))
    (cause_is most d rest other second))
    (λ (end : IsEndOf most d rest error). ⊎_elim
    (λ (bad : (other ≡ BadFrame d.at) × IsBad rest). absurd (bad_ends most d rest error (inr bad.1) end))
    (λ (too : IsEndOf most d rest other). one_end most d rest error other end too)
    (cause_is most d rest other second))
    (cause_is most d rest error first)

-- what is begun isn't bad
begun_good : (bytes : List ℕ) → IsBegun bytes → IsBad bytes → ⊥
begun_good bytes begun bad = ⊎_elim
    (λ (none : HasNoLength bytes). ⊎_elim
    (λ short. absurd (omega (arith, short, none.there)))
    (λ short. let other : true ≡ false = sym short.0 ∙ none.outside in absurd (cc (other)))
    begun)
    (λ (none : HasNoForm bytes).
    let length_is : told bytes ≡ length none.payload = ap told none.whole.spelled ∙ told_is none.payload none.rest none.whole.long in
    let count : length bytes ≡ HEAD_LEN + (length none.payload + length none.rest) = ap length none.whole.spelled ∙ omega (arith, length-append none.payload none.rest) in
    ⊎_elim
    (λ short. absurd (omega (arith, short, count)))
    (λ short. absurd (omega (arith, short.1, count, length_is)))
    begun)
    bad

begun_goes : (most : ℕ) (d : Course) (rest : List ℕ) (error : ShipError) → IsBegun rest → IsCause most d rest error → ⊥
begun_goes most d rest error begun cause = ⊎_elim
    (λ (bad : (error ≡ BadFrame d.at) × IsBad rest). begun_good rest begun bad.1)
    (λ (end : IsEndOf most d rest error). bad_ends most d rest error (inl begun) end)
    (cause_is most d rest error cause)

-- ---- one place

-- of two lists of frames that the same bytes begin with one begins the other
either_ahead : (bytes : List ℕ) (fs gs : List Frame) (rest more : List ℕ) → AreFrames bytes fs rest → AreFrames bytes gs more → IsAhead Next fs rest gs more ⊎ IsAhead Next gs more fs rest
either_ahead bytes fs gs rest more first second =
    forked Next (spelled_once frame_bytes IsFrame one_first) fs gs (flat_map frame_bytes fs ++ rest) rest more (spelled_reads frame_bytes IsFrame fs rest first.form)
    (subst (λ (l : List ℕ). Reads Next l gs more) (sym second.spelled ∙ first.spelled) (spelled_reads frame_bytes IsFrame gs more second.form))

same_course : (d e : Course) (s : Result Course ShipError) → s ≡ Ok d → s ≡ Ok e → d ≡ e
same_course d e s first second = cc (first, second)

first_taken : (most : ℕ) (s : Result Course ShipError) (fs : List Frame) (e : Course) → course_on s (λ x. course most x fs) ≡ Ok e → (x : Course) × (s ≡ Ok x)
first_taken most (Ok x) fs e is = (x, refl)
first_taken most (Err error) fs e is = absurd (cc (is))

module _ (most : ℕ) (c d e : Course) (fs gs : List Frame) (rest more : List ℕ) (first : course most c fs ≡ Ok d) (second : course most c gs ≡ Ok e) (halts : Halts most d rest) where
  no_others : (others : List Frame) → gs ≡ fs ++ others → Reads Next rest others more → (d ≡ e) × (rest ≡ more)
  no_others [] items reads = (same_course d e (course most c fs) first (ap (course most c) (sym (append-nil fs) ∙ sym items) ∙ second), reads)
  no_others (g ∷ others) items reads =
      let goes : course_on (step most d g) (λ x. course most x others) ≡ Ok e =
      sym (course_more most c fs (g ∷ others) ∙ ap (λ s. course_on s (λ x. course most x (g ∷ others))) first) ∙ ap (course most c) (sym items) ∙ second in
      let took = first_taken most (step most d g) others e goes in
      absurd (halts g took.0 reads.0 reads.1 took.1)

  none_ahead : IsAhead Next fs rest gs more → (d ≡ e) × (rest ≡ more)
  none_ahead ahead = no_others ahead.others ahead.items ahead.reads

-- frames are taken up to one place where none is taken
one_place : (most : ℕ) (c d e : Course) (bytes : List ℕ) (fs gs : List Frame) (rest more : List ℕ) → AreFrames bytes fs rest → AreFrames bytes gs more → course most c fs ≡ Ok d → course most c gs ≡ Ok e
    → Halts most d rest → Halts most e more → (d ≡ e) × (rest ≡ more)
one_place most c d e bytes fs gs rest more split_f split_g first second halts_d halts_e = ⊎_elim
    (λ (ahead : IsAhead Next fs rest gs more). none_ahead most c d e fs gs rest more first second halts_d ahead)
    (λ (ahead : IsAhead Next gs more fs rest). let same = none_ahead most c e d gs fs more rest second first halts_e ahead in (sym same.0, sym same.1))
    (either_ahead bytes fs gs rest more split_f split_g)

-- ---- one ending

module _ (most : ℕ) (c d e : Course) (bytes : List ℕ) where
  taken_once : (rest more : List ℕ) → IsTaken most c d bytes rest → IsTaken most c e bytes more → (d ≡ e) × (rest ≡ more)
  taken_once rest more first second =
      one_place most c d e bytes first.frames second.frames rest more first.split second.split first.ends second.ends (none_halts most d rest (inl first.begun)) (none_halts most e more (inl second.begun))

  cause_moved : (rest more : List ℕ) (error : ShipError) → (d ≡ e) × (rest ≡ more) → IsCause most e more error → IsCause most d rest error
  cause_moved rest more error same cause =
      subst (λ (l : List ℕ). IsCause most d l error) (sym same.1) (subst (λ (x : Course). IsCause most x more error) (sym same.0) cause)

  stopped_once : (error other : ShipError) → IsStopped most c d bytes error → IsStopped most c e bytes other → (d ≡ e) × (error ≡ other)
  stopped_once error other first second =
      let same = one_place most c d e bytes first.frames second.frames first.rest second.rest first.split second.split first.ends second.ends (cause_halts most d first.rest error first.cause) (cause_halts most e second.rest other second.cause) in
      (same.0, one_cause most d first.rest error other first.cause (cause_moved first.rest second.rest other same second.cause))

  taken_or_stopped : (rest : List ℕ) (error : ShipError) → IsTaken most c d bytes rest → IsStopped most c e bytes error → ⊥
  taken_or_stopped rest error first second =
      let same = one_place most c d e bytes first.frames second.frames rest second.rest first.split second.split first.ends second.ends (none_halts most d rest (inl first.begun)) (cause_halts most e second.rest error second.cause) in
      begun_goes most d rest error first.begun (cause_moved rest second.rest error same second.cause)

pub one_ending : (most : ℕ) (c : Course) (bytes : List ℕ) → HasOneEnding most c bytes
one_ending most c bytes = record {
  taken = λ d e. taken_once most c d e bytes;
  stopped = λ d e. stopped_once most c d e bytes;
  either = λ d e. taken_or_stopped most c d e bytes;
}
