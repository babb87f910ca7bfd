-- How a run of a script of questions goes on, and how it ends.
use Rattle.std.proofs.Common.{◌≡◌, ◌∙◌, ◌||◌, Bool, true, false, List, [], Option, Result, Some, Ok, Err, ◌++◌, ℕ, ap, append-nil, append_assoc, drop, length, refl, sym, take}
use Rattle.std.proofs.lemmas.List.{take-append-drop}
use Rattle.std.proofs.Math.Seq.{take-append_seam}
use Rattle.std.specs.Prelude.{IsErrOf, IsOk}
use Rattle.ode_ends.specs.Statuses.{status_of_script}
use Rattle.ode_host.proofs.Calls.{host_calls_as, host_calls_on, rose_as, rose_none, rose_on}
use Rattle.ode_host.proofs.Moments.{looks_none}
use Rattle.ode_host.specs.Causes.{RoseIf}
use Rattle.ode_host.specs.Host.{HostCalls, MayHavePrinted}
use Rattle.ode_host.specs.View.{View}
use Rattle.ode_host.specs.declared.status.Status.{Status}
use Rattle.ode_host.specs.declared.status.Status.TheVariants as status
use Rattle.ode_machine.specs.Runs.{status_at}
use Rattle.ode_script.specs.Cutting.{End, Ended, Ending, LongScript, LongStatement, Pieces, Then, ending_of, pieces}
use Rattle.ode_script.specs.Left.{EndsBy}
use Rattle.ode_script.specs.declared.reader.ScriptError.{ScriptError}
use Rattle.ode_script.specs.declared.reader.ScriptError.TheVariants as script
use Rattle.ode_value.specs.Worlds.{Bones}
use Rattle.ode_value.specs.declared.key.Key.{Key}
use Rattle.ode_questions.specs.Answers.{IsAnswered, IsEnded, IsFront, IsPossible}
use Rattle.ode_questions.specs.Saying.{said}
use Rattle.ode_questions.specs.Scripts.{any_refused, pieces_text, script_text}
use Rattle.ode_questions.specs.Steps.{Prints, SoFar, ended_by}
use Rattle.ode_questions.specs.declared.asked.Asked.{Asked}
use Rattle.ode_questions.specs.declared.saying.Said.{Said}
use Rattle.ode_questions.specs.declared.stop.Stop.{Stop}
use Rattle.ode_questions.specs.declared.stop.Stop.TheVariants as stop

-- ---- by pieces

module _ (asked : Asked) (b : Bones) where
  text_ended : (how : Ending) → pieces_text asked b (Ended how) ≡ []
  unfolding pieces_text
  text_ended how = refl

  text_then : (line : ℕ) (piece : List ℕ) (rest : Pieces) → pieces_text asked b (Then line piece rest) ≡ (said asked b line piece).text ++ pieces_text asked b rest
  unfolding pieces_text
  text_then line piece rest = refl

  refused_ended : (how : Ending) → any_refused asked b (Ended how) ≡ false
  unfolding any_refused
  refused_ended how = refl

  refused_then : (line : ℕ) (piece : List ℕ) (rest : Pieces) → any_refused asked b (Then line piece rest) ≡ ((said asked b line piece).refused || any_refused asked b rest)
  unfolding any_refused
  refused_then line piece rest = refl

either_assoc : (x y z : Bool) → (x || (y || z)) ≡ ((x || y) || z)
either_assoc true y z = refl
either_assoc false y z = refl

either_false : (x : Bool) → (x || false) ≡ x
either_false true = refl
either_false false = refl

-- what was said is a front of all
front_by : (whole said more text : List ℕ) (view : View) → whole ≡ said ++ more → view.text ≡ Some (text ++ said) → IsFront whole text view
front_by whole said more text view split told = (length said, told ∙ ap (λ (l : List ℕ). Some (text ++ l)) (sym (ap (take (length said)) split ∙ take-append_seam said more)))

pub begun : (asked : Asked) (b : Bones) (whole : Pieces) (text : List ℕ) (view : View) → view.text ≡ Some text → SoFar asked b whole text whole false view
begun asked b whole text view told = record { before = []; split = refl; printed = told ∙ ap Some (sym (append-nil text)); refusals = refl; ends = refl }

module _ (asked : Asked) (b : Bones) (whole : Pieces) (text : List ℕ) (left : Pieces) (refused : Bool) (view : View) (so_far : SoFar asked b whole text left refused view) where
  -- with the next piece
  split_then : (line : ℕ) (piece : List ℕ) (rest : Pieces) → left ≡ Then line piece rest
      → pieces_text asked b whole ≡ so_far.before ++ ((said asked b line piece).text ++ pieces_text asked b rest)
  split_then line piece rest is =
      so_far.split ∙ ap (λ (ps : Pieces). so_far.before ++ pieces_text asked b ps) is ∙ ap (λ (l : List ℕ). so_far.before ++ l) (text_then asked b line piece rest)

  -- one piece further
  pub one_more : (line : ℕ) (piece : List ℕ) (rest : Pieces) (now all : Bool) (view' : View) → left ≡ Then line piece rest → all ≡ (refused || now) → Prints (said asked b line piece) (Ok now) view view' → SoFar asked b whole text rest all view'
  one_more line piece rest now all view' is both prints =
      let s : Said = said asked b line piece in
      record {
        before = so_far.before ++ s.text;
        split = split_then line piece rest is ∙ sym (append_assoc so_far.before s.text (pieces_text asked b rest));
        printed = prints.1 (text ++ so_far.before) so_far.printed ∙ ap Some (append_assoc text so_far.before s.text);
        refusals = so_far.refusals ∙ ap (λ (ps : Pieces). refused || any_refused asked b ps) is ∙ ap (λ (x : Bool). refused || x) (refused_then asked b line piece rest)
            ∙ either_assoc refused s.refused (any_refused asked b rest) ∙ ap (λ (x : Bool). (refused || x) || any_refused asked b rest) (sym prints.0) ∙ ap (λ (x : Bool). x || any_refused asked b rest) (sym both);
        ends = so_far.ends ∙ ap ending_of is;
      }

  -- what was printed so far is a front of all
  pub front_so_far : (view' : View) → view'.text ≡ view.text → IsFront (pieces_text asked b whole) text view'
  front_so_far view' same = front_by (pieces_text asked b whole) so_far.before (pieces_text asked b left) text view' so_far.split (same ∙ so_far.printed)

  -- and so is it with a front of the next piece's
  front_cut : (line : ℕ) (piece : List ℕ) (rest : Pieces) (view' : View) → left ≡ Then line piece rest → MayHavePrinted (said asked b line piece).text view view' → IsFront (pieces_text asked b whole) text view'
  front_cut line piece rest view' is may =
      let s : List ℕ = (said asked b line piece).text in
      let cut = may (text ++ so_far.before) so_far.printed in
      let front : List ℕ = take cut.0 s in
      let more : List ℕ = drop cut.0 s ++ pieces_text asked b rest in
      let split : pieces_text asked b whole ≡ (so_far.before ++ front) ++ more =
      split_then line piece rest is
      ∙ ap (λ (l : List ℕ). so_far.before ++ l) (ap (λ (l : List ℕ). l ++ pieces_text asked b rest) (sym (take-append-drop cut.0 s)) ∙ append_assoc front (drop cut.0 s) (pieces_text asked b rest))
      ∙ sym (append_assoc so_far.before front more) in
      front_by (pieces_text asked b whole) (so_far.before ++ front) more text view' split (cut.1 ∙ ap Some (append_assoc text so_far.before front))

-- ---- at an end of it

module _ (asked : Asked) (b : Bones) (bytes text : List ℕ) (left : Pieces) (refused : Bool) (view : View) (so_far : SoFar asked b (pieces bytes) text left refused view) where
  pub ended : (how : Ending) (s : Status) → left ≡ Ended how → s ≡ status_at how refused → IsEnded asked b bytes text view s
  ended how s is stated =
      let kind : how ≡ ending_of (pieces bytes) = sym (so_far.ends ∙ ap ending_of is) in
      let told : refused ≡ any_refused asked b (pieces bytes) =
      sym (so_far.refusals ∙ ap (λ (ps : Pieces). refused || any_refused asked b ps) is ∙ ap (λ (x : Bool). refused || x) (refused_ended asked b how) ∙ either_false refused) in
      let all : so_far.before ≡ script_text asked b bytes =
      sym (so_far.split ∙ ap (λ (ps : Pieces). so_far.before ++ pieces_text asked b ps) is ∙ ap (λ (l : List ℕ). so_far.before ++ l) (text_ended asked b how) ∙ append-nil so_far.before) in
      record {
        stated = stated ∙ ap (λ (e : Ending). status_at e refused) kind ∙ ap (status_at (ending_of (pieces bytes))) told;
        printed = so_far.printed ∙ ap (λ (l : List ℕ). Some (text ++ l)) all;
      }

  by_refusals : (source : Option (List ℕ)) (r : Bool) → r ≡ refused → left ≡ Ended End → source ≡ Some [] → IsAnswered asked b bytes text source view (Ok (status_at End r))
  by_refusals source true same is none = (ended End status.Refused is (ap (status_at End) same), none)
  by_refusals source false same is none = (ended End status.Ok is (ap (status_at End) same), none)

  pub answered_end : (source : Option (List ℕ)) → left ≡ Ended End → source ≡ Some [] → IsAnswered asked b bytes text source view (Ok (status_at End refused))
  answered_end source is none = by_refusals source refused refl is none

  pub answered_error : (source : Option (List ℕ)) (e : ScriptError) → EndsBy left e → IsAnswered asked b bytes text source view (Ok (status_of_script e))
  answered_error source script.Memory is = front_so_far asked b (pieces bytes) text left refused view so_far view refl
  answered_error source script.ReadFault is = front_so_far asked b (pieces bytes) text left refused view so_far view refl
  answered_error source script.LongStatement is = ended LongStatement status.LongStatement is refl
  answered_error source script.LongScript is = ended LongScript status.LongScript is refl

  pub answered_stop : (source : Option (List ℕ)) (line : ℕ) (piece : List ℕ) (rest : Pieces) (s : Stop) (view' : View) → left ≡ Then line piece rest → Prints (said asked b line piece) (Err s) view view'
      → IsAnswered asked b bytes text source view' (ended_by s)
  answered_stop source line piece rest stop.Memory view' is same = front_so_far asked b (pieces bytes) text left refused view so_far view' same
  answered_stop source line piece rest stop.DiskFault view' is same = front_so_far asked b (pieces bytes) text left refused view so_far view' same
  answered_stop source line piece rest stop.WriteFault view' is may = front_cut asked b (pieces bytes) text left refused view so_far line piece rest view' is may
  answered_stop source line piece rest (stop.Damaged key) view' is none = absurd none

-- ---- whatever the records are

pub stop_sound : (s : Stop) (said' : Said) (old new : View) → Prints said' (Err s) old new → IsOk (ended_by s)
stop_sound stop.Memory said' old new prints = refl
stop_sound stop.DiskFault said' old new prints = refl
stop_sound stop.WriteFault said' old new prints = refl
stop_sound (stop.Damaged key) said' old new prints = absurd prints

pub end_possible : (refused : Bool) → IsPossible (Ok (status_at End refused))
end_possible true = tt
end_possible false = tt

pub error_possible : (e : ScriptError) → IsPossible (Ok (status_of_script e))
error_possible script.Memory = tt
error_possible script.ReadFault = tt
error_possible script.LongStatement = tt
error_possible script.LongScript = tt

pub stop_possible : (s : Stop) → IsPossible (ended_by s)
stop_possible stop.Memory = tt
stop_possible stop.DiskFault = tt
stop_possible stop.WriteFault = tt
stop_possible (stop.Damaged key) = tt

pub no_calls : (v : View) → HostCalls ⊥ ⊥ v v
no_calls v = record { keeps = (looks_none v).keeps; disk_faults = rose_none ⊥ v.disk_faults (λ none. none); print_faults = rose_none ⊥ v.print_faults (λ none. none) }

-- the faults that an end of it tells
abbrev pub Ends : Result Status Key → View → View → Type 0
Ends result old new = HostCalls (result ≡ Ok status.DiskFault) (result ≡ Ok status.WriteFault) old new

module _ (old new : View) (quiet : HostCalls ⊥ ⊥ old new) where
  pub end_calls : (refused : Bool) → Ends (Ok (status_at End refused)) old new
  end_calls true = host_calls_as ⊥ ⊥ _ _ old new absurd (λ is. cc (is)) absurd (λ is. cc (is)) quiet
  end_calls false = host_calls_as ⊥ ⊥ _ _ old new absurd (λ is. cc (is)) absurd (λ is. cc (is)) quiet

  pub error_calls : (e : ScriptError) → Ends (Ok (status_of_script e)) old new
  error_calls script.Memory = host_calls_as ⊥ ⊥ _ _ old new absurd (λ is. cc (is)) absurd (λ is. cc (is)) quiet
  error_calls script.ReadFault = host_calls_as ⊥ ⊥ _ _ old new absurd (λ is. cc (is)) absurd (λ is. cc (is)) quiet
  error_calls script.LongStatement = host_calls_as ⊥ ⊥ _ _ old new absurd (λ is. cc (is)) absurd (λ is. cc (is)) quiet
  error_calls script.LongScript = host_calls_as ⊥ ⊥ _ _ old new absurd (λ is. cc (is)) absurd (λ is. cc (is)) quiet

-- what a piece tells
abbrev pub Tells : Result Bool Stop → View → View → Type 0
Tells result old new = HostCalls (IsErrOf result stop.DiskFault) (IsErrOf result stop.WriteFault) old new

pub quiet_on : (now : Bool) (a b c : View) → HostCalls ⊥ ⊥ a b → Tells (Ok now) b c → HostCalls ⊥ ⊥ a c
quiet_on now a b c first second = host_calls_on ⊥ ⊥ ⊥ ⊥ a b c (λ none. none) (λ none. none) first (host_calls_as _ _ ⊥ ⊥ b c (λ is. cc (is)) absurd (λ is. cc (is)) absurd second)

stop_calls_here : (s : Stop) (old new : View) → Tells (Err s) old new → Ends (ended_by s) old new
stop_calls_here stop.Memory old new told = host_calls_as _ _ _ _ old new (λ is. cc (is)) (λ is. cc (is)) (λ is. cc (is)) (λ is. cc (is)) told
stop_calls_here stop.DiskFault old new told = host_calls_as _ _ _ _ old new (λ is. refl) (λ is. refl) (λ is. cc (is)) (λ is. cc (is)) told
stop_calls_here stop.WriteFault old new told = host_calls_as _ _ _ _ old new (λ is. cc (is)) (λ is. cc (is)) (λ is. refl) (λ is. refl) told
stop_calls_here (stop.Damaged key) old new told = host_calls_as _ _ _ _ old new (λ is. cc (is)) (λ is. cc (is)) (λ is. cc (is)) (λ is. cc (is)) told

pub stop_calls : (s : Stop) (a b c : View) → HostCalls ⊥ ⊥ a b → Tells (Err s) b c → Ends (ended_by s) a c
stop_calls s a b c first second = host_calls_on ⊥ ⊥ _ _ a b c (λ none. none) (λ none. none) first (stop_calls_here s b c second)

-- ---- the script's faults

abbrev pub Misses : Result Status Key → ℕ → ℕ → Type 0
Misses result before now = RoseIf (result ≡ Ok status.ReadFault) before now

pub no_misses : {R : Type 0} (r : R) (a b c : ℕ) → RoseIf ⊥ a b → RoseIf (◌≡◌ {A = Result R ScriptError} (Ok r) (Err script.ReadFault)) b c → RoseIf ⊥ a c
no_misses r a b c first second = rose_on ⊥ ⊥ a b c (λ none. none) first (rose_as _ ⊥ b c (λ is. cc (is)) absurd second)

module _ (a b : ℕ) (none : RoseIf ⊥ a b) where
  pub end_reads : (refused : Bool) → Misses (Ok (status_at End refused)) a b
  end_reads true = rose_as ⊥ _ a b absurd (λ is. cc (is)) none
  end_reads false = rose_as ⊥ _ a b absurd (λ is. cc (is)) none

  pub stop_reads : (s : Stop) → Misses (ended_by s) a b
  stop_reads stop.Memory = rose_as ⊥ _ a b absurd (λ is. cc (is)) none
  stop_reads stop.DiskFault = rose_as ⊥ _ a b absurd (λ is. cc (is)) none
  stop_reads stop.WriteFault = rose_as ⊥ _ a b absurd (λ is. cc (is)) none
  stop_reads (stop.Damaged key) = rose_as ⊥ _ a b absurd (λ is. cc (is)) none

error_reads_here : {R : Type 0} (e : ScriptError) (b c : ℕ) → RoseIf (◌≡◌ {A = Result R ScriptError} (Err e) (Err script.ReadFault)) b c → Misses (Ok (status_of_script e)) b c
error_reads_here script.Memory b c rose = rose_as _ _ b c (λ is. cc (is)) (λ is. cc (is)) rose
error_reads_here script.ReadFault b c rose = rose_as _ _ b c (λ is. refl) (λ is. refl) rose
error_reads_here script.LongStatement b c rose = rose_as _ _ b c (λ is. cc (is)) (λ is. cc (is)) rose
error_reads_here script.LongScript b c rose = rose_as _ _ b c (λ is. cc (is)) (λ is. cc (is)) rose

pub error_reads : {R : Type 0} (e : ScriptError) (a b c : ℕ) → RoseIf ⊥ a b → RoseIf (◌≡◌ {A = Result R ScriptError} (Err e) (Err script.ReadFault)) b c → Misses (Ok (status_of_script e)) a c
error_reads {R = R} e a b c first second = rose_on ⊥ _ a b c (λ none. none) first (error_reads_here {R = R} e b c second)
