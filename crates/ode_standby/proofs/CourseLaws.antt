-- Frames one behind the other, and more of them at the end.
use Rattle.std.proofs.Common.{◌≡◌, ◌+◌, ℕ, length, List, [], ◌∷◌, ◌++◌, Ok, refl, sym, ◌∙◌, ap, append_assoc}
use Rattle.std.specs.List.{AllByRecursion, flat_map}
use Rattle.std.proofs.lemmas.List.Concat.{flat_map-append}
use Rattle.std.specs.Prelude.{Result, Err}
use Rattle.ode_keep.specs.Entries.{Entries}
use Rattle.ode_standby.specs.Courses.{Course, course, course_on, step}
use Rattle.ode_ship.specs.Frames.{Frame, IsFrame, frame_bytes}
use Rattle.ode_ship.specs.Streams.{AreFrames}
use Rattle.ode_standby.specs.Taking.{Leads}
use Rattle.ode_standby.specs.declared.error.ShipError.{ShipError}

last_step : (most : ℕ) (s : Result Course ShipError) → course_on s (λ d. course most d []) ≡ s
last_step most (Ok c) = refl
last_step most (Err e) = refl

course_step : (most : ℕ) (s : Result Course ShipError) (fs gs : List Frame) → ((c : Course) → course most c (fs ++ gs) ≡ course_on (course most c fs) (λ d. course most d gs))
    → course_on s (λ c. course most c (fs ++ gs)) ≡ course_on (course_on s (λ c. course most c fs)) (λ d. course most d gs)
course_step most (Ok c) fs gs more = more c
course_step most (Err e) fs gs more = refl

-- the course of frames and of others behind them
pub course_more : (most : ℕ) (c : Course) (fs gs : List Frame) → course most c (fs ++ gs) ≡ course_on (course most c fs) (λ d. course most d gs)
course_more most c [] gs = refl
course_more most c (f ∷ fs) gs = course_step most (step most c f) fs gs (λ d. course_more most d fs gs)

step_on : (most : ℕ) (s : Result Course ShipError) (f : Frame) → course_on s (λ d. course most d (f ∷ [])) ≡ course_on s (λ d. step most d f)
step_on most (Ok d) f = last_step most (step most d f)
step_on most (Err e) f = refl

-- the course over one frame more
pub one_more : (most : ℕ) (c : Course) (fs : List Frame) (f : Frame) → course most c (fs ++ f ∷ []) ≡ course_on (course most c fs) (λ d. step most d f)
one_more most c fs f = course_more most c fs (f ∷ []) ∙ step_on most (course most c fs) f

all_joined : (fs gs : List Frame) → AllByRecursion IsFrame fs → AllByRecursion IsFrame gs → AllByRecursion IsFrame (fs ++ gs)
all_joined [] gs first second = second
all_joined (f ∷ fs) gs first second = (first.0, all_joined fs gs first.1 second)

-- frames, and others behind them
pub frames_joined : (bytes rest more : List ℕ) (fs gs : List Frame) → AreFrames bytes fs rest → AreFrames rest gs more → AreFrames bytes (fs ++ gs) more
frames_joined bytes rest more fs gs first second = record {
  spelled =
      first.spelled
      ∙ ap (λ (l : List ℕ). flat_map frame_bytes fs ++ l) second.spelled
      ∙ sym (append_assoc (flat_map frame_bytes fs) (flat_map frame_bytes gs) more)
      ∙ ap (λ (l : List ℕ). l ++ more) (sym (flat_map-append frame_bytes fs gs));
  form = all_joined fs gs first.form second.form;
}

module _ (most : ℕ) (c : Course) (bytes : List ℕ) where
  -- nothing was taken yet
  pub leads_nowhere : Leads most c c bytes bytes
  leads_nowhere = record { frames = []; split = record { spelled = refl; form = tt }; ends = refl }

  -- more frames were taken
  pub leads_joined : (d e : Course) (rest more : List ℕ) → Leads most c d bytes rest → Leads most d e rest more → Leads most c e bytes more
  leads_joined d e rest more first second = record {
    frames = first.frames ++ second.frames;
    split = frames_joined bytes rest more first.frames second.frames first.split second.split;
    ends = course_more most c first.frames second.frames ∙ ap (λ s. course_on s (λ x. course most x second.frames)) first.ends ∙ second.ends;
  }

  -- one frame more was taken
  pub leads_on : (d e : Course) (rest more : List ℕ) (f : Frame) → Leads most c d bytes rest → AreFrames rest (f ∷ []) more → step most d f ≡ Ok e → Leads most c e bytes more
  leads_on d e rest more f leads one steps =
      leads_joined d e rest more leads (record { frames = f ∷ []; split = one; ends = one_more most d [] f ∙ steps })

-- Some frames of bytes that begin at a place were taken; so many are counted, and the records behind them are held.
pub record InFrames (most : ℕ) (c : Course) (start : ℕ) (bytes rest : List ℕ) (next applied skipped : ℕ) (Holds : Entries → Type 0) : Type 0 where
  pub reached : Course
  pub leads : Leads most c reached bytes rest
  pub next_is : next ≡ reached.next
  pub applied_is : applied ≡ reached.applied
  pub skipped_is : skipped ≡ reached.skipped
  pub at_is : reached.at + length rest ≡ start + length bytes
  pub holds : Holds reached.entries
