-- One turn of the loop over frames.
use Rattle.std.proofs.Common.{◌≡◌, ◌⊎◌, ⊎_elim, inl, inr, ◌+◌, ◌-◌, ◌≤◌, ℕ, Bool, true, false, cond, length, List, [], ◌∷◌, ◌++◌, Ok, Err, IsErrOf, refl, sym, ◌∙◌, ap, subst, arith, append-nil, length-append}
use Rattle.ode_host.proofs.Calls.{looks_calls, rose_as, rose_none, rose_on}
use Rattle.ode_host.proofs.Moments.{keeps_joined, looks_none}
use Rattle.ode_host.specs.Host.{DiskCalls}
use Rattle.ode_host.specs.View.{View}
use Rattle.ode_keep.specs.Entries.{Entries}
use Rattle.ode_standby.proofs.CourseLaws.{InFrames, leads_nowhere, leads_on}
use Rattle.ode_standby.specs.Courses.{Course, step}
use Rattle.ode_ship.specs.Frames.{Frame, IsPayloadOf, frame_bytes}
use Rattle.ode_ship.specs.Streams.{AreFrames, IsBad, IsBegun, IsWhole}
use Rattle.ode_standby.specs.Taking.{LeavesSome, LeavesStep, Leads, Stops, Takes, TakesOne, TookAll, from}
use Rattle.ode_standby.specs.declared.applying.Taken.{Taken}
use Rattle.ode_standby.specs.declared.error.ShipError.{ShipError}
use Rattle.ode_standby.specs.declared.error.ShipError.TheVariants.{Memory, BadFrame, Gap, TooLarge, DiskFault, Damaged}

pub in_none : (most number start : ℕ) (entries : Entries) (bytes : List ℕ) (Holds : Entries → Type 0) → Holds entries
    → InFrames most (from entries number start) start bytes bytes number 0 0 Holds
in_none most number start entries bytes Holds held = record {
  reached = from entries number start;
  leads = leads_nowhere most (from entries number start) bytes;
  next_is = refl;
  applied_is = refl;
  skipped_is = refl;
  at_is = refl;
  holds = held;
}

-- behind a whole payload fewer bytes are left
pub whole_longer : (bytes payload rest : List ℕ) → IsWhole bytes payload rest → length rest + 4 ≤ length bytes
whole_longer bytes payload rest whole = omega (arith, ap length whole.spelled, length-append payload rest)

frame_length : (f : Frame) (rest more : List ℕ) → AreFrames rest (f ∷ []) more → length rest ≡ length (frame_bytes f) + length more
frame_length f rest more one =
    ap length (one.spelled ∙ ap (λ (l : List ℕ). l ++ more) (append-nil (frame_bytes f))) ∙ length-append (frame_bytes f) more

module _ (most : ℕ) (c : Course) (start : ℕ) (bytes : List ℕ) (Holds : Entries → Type 0) where
  pub took_all : (taken : Taken) (next : ℕ) → c.at ≡ start → InFrames most c start bytes taken.rest.now next taken.applied taken.skipped Holds → IsBegun taken.rest.now → TookAll most c bytes Holds taken
  took_all taken next here i begun = record {
    reached = i.reached;
    is = record { frames = i.leads.frames; split = i.leads.split; ends = i.leads.ends; begun = begun };
    applied = i.applied_is;
    skipped = i.skipped_is;
    at = omega (arith, here, i.at_is);
    holds = i.holds;
  }

  pub stops_bad : (rest : List ℕ) (next applied skipped at : ℕ) → InFrames most c start bytes rest next applied skipped Holds → length rest ≤ length bytes
      → at ≡ start + (length bytes - length rest) → IsBad rest → Stops most c bytes Holds (BadFrame at)
  stops_bad rest next applied skipped at i short is bad = record {
    reached = i.reached;
    is = record { frames = i.leads.frames; rest = rest; split = i.leads.split; ends = i.leads.ends; cause = (omega (arith, is, i.at_is, short), bad) };
    holds = i.holds;
  }

  pub no_payload : (rest payload more : List ℕ) (next applied skipped at : ℕ) (error : ShipError) → InFrames most c start bytes rest next applied skipped Holds → length rest ≤ length bytes
      → at ≡ start + (length bytes - length rest) → IsWhole rest payload more → (error ≡ Memory) ⊎ ((error ≡ BadFrame at) × ((f : Frame) → IsPayloadOf f payload → ⊥)) → Takes most c bytes Holds (Err error)
  no_payload rest payload more next applied skipped at error i short is whole why = ⊎_elim
      (λ (memory : error ≡ Memory). subst (λ (e : ShipError). Takes most c bytes Holds (Err e)) (sym memory) (record { rest = rest; reached = i.reached; leads = i.leads; holds = i.holds }))
      (λ (bad : (error ≡ BadFrame at) × ((f : Frame) → IsPayloadOf f payload → ⊥)). subst (λ (e : ShipError). Takes most c bytes Holds (Err e)) (sym bad.0)
      (stops_bad rest next applied skipped at i short is (inr (record { payload = payload; rest = more; whole = whole; outside = bad.1 }))))
      why

  module _ (d : Course) (rest more : List ℕ) (f : Frame) (leads : Leads most c d bytes rest) (one : AreFrames rest (f ∷ []) more) where
    pub fails : (error : ShipError) → TakesOne (step most d f) d f Holds (Err error) → Takes most c bytes Holds (Err error)
    fails Memory t = record { rest = rest; reached = d; leads = leads; holds = t }
    fails DiskFault t = tt
    fails (Damaged key) t = absurd t
    fails (BadFrame at) t = absurd t
    fails (Gap found next) t = record {
      reached = d;
      is = record { frames = leads.frames; rest = rest; split = leads.split; ends = leads.ends; cause = record { frame = f; behind = more; split = one; ends = t.0 } };
      holds = t.1;
    }
    fails (TooLarge total) t = record {
      reached = d;
      is = record { frames = leads.frames; rest = rest; split = leads.split; ends = leads.ends; cause = record { frame = f; behind = more; split = one; ends = t.0 } };
      holds = t.1;
    }

    pub step_some : (means : List ℕ → Entries → Type 0) (old mid : View) (image out : List ℕ) → mid.text ≡ old.text → LeavesStep means d f mid image out → LeavesSome means most c bytes old image out
    step_some means old mid image out same l = record {
      rest = rest;
      reached = d;
      leads = leads;
      whole = ⊎_elim inl (λ w. inr (record { frame = f; behind = more; split = one; next = w.0; whole = w.1 })) l.whole;
      text = sym same ∙ l.text;
    }

-- one frame more was taken
module _ (most : ℕ) (c : Course) (start : ℕ) (bytes rest more : List ℕ) (f : Frame) (next applied skipped : ℕ) (Before Holds : Entries → Type 0) where
  pub goes_on : (done : Bool) (next' applied' skipped' : ℕ) → next' ≡ cond done (next + 1) next → applied' ≡ cond done (applied + 1) applied → skipped' ≡ cond done skipped (skipped + 1)
      → (i : InFrames most c start bytes rest next applied skipped Before) → AreFrames rest (f ∷ []) more → TakesOne (step most i.reached f) i.reached f Holds (Ok done)
      → InFrames most c start bytes more next' applied' skipped' Holds
  goes_on true next' applied' skipped' n a s i one t = record {
    reached = _;
    leads = leads_on most c bytes i.reached _ rest more f i.leads one t.0;
    next_is = omega (arith, n, i.next_is);
    applied_is = omega (arith, a, i.applied_is);
    skipped_is = s ∙ i.skipped_is;
    at_is = omega (arith, i.at_is, frame_length f rest more one);
    holds = t.1;
  }
  goes_on false next' applied' skipped' n a s i one t = record {
    reached = _;
    leads = leads_on most c bytes i.reached _ rest more f i.leads one t.0;
    next_is = n ∙ i.next_is;
    applied_is = a ∙ i.applied_is;
    skipped_is = omega (arith, s, i.skipped_is);
    at_is = omega (arith, i.at_is, frame_length f rest more one);
    holds = t.1;
  }

-- ---- calls of the disk

pub disk_none : (v : View) → DiskCalls ⊥ v v
disk_none v = looks_calls ⊥ v v (looks_none v) (rose_none ⊥ v.disk_faults (λ none. none))

pub disk_on : (F : Type 0) (a b c : View) → DiskCalls ⊥ a b → DiskCalls F b c → DiskCalls F a c
disk_on F a b c first second = record {
  keeps = keeps_joined a b c first.keeps second.keeps;
  text = second.text ∙ first.text;
  print_faults = second.print_faults ∙ first.print_faults;
  disk_faults = rose_on ⊥ F _ _ _ (λ none. none) first.disk_faults second.disk_faults;
}

pub disk_calm : (F : Type 0) (a b : View) → (F → ⊥) → DiskCalls F a b → DiskCalls ⊥ a b
disk_calm F a b none calls = record {
  keeps = calls.keeps;
  text = calls.text;
  print_faults = calls.print_faults;
  disk_faults = rose_as F ⊥ _ _ none (λ e. absurd e) calls.disk_faults;
}

pub disk_ok : {T : Type 0} (x : T) (a b : View) → DiskCalls (IsErrOf (Ok x) DiskFault) a b → DiskCalls ⊥ a b
disk_ok x a b calls = disk_calm (IsErrOf (Ok x) DiskFault) a b (λ is. absurd (cc (is))) calls
