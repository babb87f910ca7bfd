-- What a call of sessions comes to, from what its parts come to.
use Rattle.std.proofs.Common.{◌≡◌, ◌∙◌, ◌+◌, ℕ, suc, Bool, false, List, [], ◌∷◌, ◌++◌, length, Result, Some, Ok, Err, ap, append-nil, append_assoc, arith, refl, subst, sym}
use Rattle.std.specs.Prelude.{OnOk}
use Rattle.ode_engine.proofs.ServeLaws.{HoldsNow, looked_leaves}
use Rattle.ode_engine.specs.Refusing.{IsUndamaged}
use Rattle.ode_holders.specs.Opens.{opens_as}
use Rattle.ode_holders.specs.declared.opens.Open.{Open}
use Rattle.ode_host.proofs.Moments.{joined}
use Rattle.ode_host.specs.Host.{LeavesOnly, Looks, Printed, Stands}
use Rattle.ode_host.specs.View.{View}
use Rattle.ode_interleaved_laws.specs.Meeting.{IsInterleaved}
use Rattle.ode_keep.specs.Entries.{Entries}
use Rattle.ode_machine.proofs.MomentLaws.{settling_leaves}
use Rattle.ode_machine.specs.Interleaving.{Goes, Interleaved, Reply, behind}
use Rattle.ode_machine.specs.Interleaving as machine
use Rattle.ode_machine.specs.Moments.{IsAfterSome, LeavesSettling}
use Rattle.ode_machine.specs.Runs.{Item}
use Rattle.ode_opened.specs.declared.opened.Opened.{Opened}
use Rattle.ode_steps.specs.Serving.{IsReply, Serves, StandsIn, after_reply, settlings}
use Rattle.ode_steps.specs.declared.answer.Answer.{Answer}
use Rattle.ode_steps.specs.declared.answer.Answer.TheVariants as answer
use Rattle.ode_transact.proofs.OutputLaws.{all_heard_loud}
use Rattle.ode_transact.proofs.TransactSteps.{moments_then}
use Rattle.ode_transact.specs.Items.{items_of, texts_of}
use Rattle.ode_transact.specs.Output.{all_heard, heard}
use Rattle.ode_transact.specs.Resting.{HoldsBy, IsAtRest}
use Rattle.ode_transact.specs.Settling.{Meaning}
use Rattle.ode_transact.specs.declared.error.EngineError.{EngineError}
use Rattle.ode_value.specs.Draining.{drain, world_after}
use Rattle.ode_value.specs.Language.{Language, ListWorld, Settlings}
use Rattle.ode_value.specs.Limits.{drain_limit}
use Rattle.ode_value.specs.Objects.{Histories, Starts}
use Rattle.ode_value.specs.Pasts.{lists}
use Rattle.ode_value.specs.Settling.{Settled}

one_more : (ran count : ℕ) → ran ≡ count → ran + 1 ≡ suc count
one_more ran count is = omega (arith, is)

-- ---- what is printed, where it isn't quiet

pub loud_text : (quiet : Bool) → quiet ≡ false → (text : List ℕ) → heard quiet text ≡ text
loud_text quiet is text = ap (λ (q : Bool). heard q text) is

pub loud_all : (quiet : Bool) → quiet ≡ false → (settled : Settlings) → all_heard quiet settled ≡ settled
loud_all quiet is settled = ap (λ (q : Bool). all_heard q settled) is ∙ all_heard_loud settled

module _ {H K : Type 0} (seen : H → View) (held : K → View → Entries → Type 0) (live : K → Bool) (means : Meaning) (l : Language)
    (stands : (keeper : K) (host : H) (entries : Entries) → held keeper (seen host) entries → (file : List ℕ) × Stands file (seen host) × means file entries)
    (text_stands : (host : H) (c o : List ℕ) → (seen host).left (seen host).moment c o → (seen host).text ≡ Some o) where
  abbrev Now : ListWorld → H → Type 0
  Now = HoldsNow seen held live l

  abbrev Served : Interleaved → Reply → Result (Opened K × Answer) EngineError → List Open → H → H → Type 0
  Served m reply result sessions old new = Serves seen held live means l m reply result sessions old new

  -- ---- nothing settled

  -- an error, where nothing but looks was done
  pub stopped_serves : (m : Interleaved) (reply : Reply) (e : EngineError) (sessions : List Open) (old new : H) → Now m.world old → Looks (seen old) (seen new) → IsUndamaged e → Served m reply (Err e) sessions old new
  stopped_serves m reply e sessions old new now looks sound = record {
    answers = tt;
    stands = tt;
    printed = tt;
    any_moment = λ said more is. looked_leaves seen held live means l stands text_stands m.world old new now looks (items_of (settlings reply) ++ more) said is;
    sound = sound;
  }

  -- an answer by which nothing settled
  pub quiet_serves : (m : Interleaved) (reply : Reply) (o : Opened K) (a : Answer) (sessions : List Open) (old new : H) → Now m.world old → Looks (seen old) (seen new) → settlings reply ≡ [] → IsReply a reply
      → StandsIn seen held live l (after_reply m reply) o sessions new → Served m reply (Ok (o, a)) sessions old new
  quiet_serves m reply o a sessions old new now looks none says is = record {
    answers = says;
    stands = is;
    printed = subst (λ (settled : Settlings). Printed (texts_of settled) (seen old) (seen new)) (sym none) (λ text told. looks.text ∙ told ∙ ap Some (sym (append-nil text)));
    any_moment = λ said more told. looked_leaves seen held live means l stands text_stands m.world old new now looks (items_of (settlings reply) ++ more) said told;
    sound = tt;
  }

  printed_behind : (result : Result (Opened K × Answer) EngineError) (text : List ℕ) (old mid new : View) → mid.text ≡ old.text → OnOk result (Printed text mid new) → OnOk result (Printed text old new)
  printed_behind (Ok r) text old mid new same printed = λ said is. printed said (same ∙ is)
  printed_behind (Err e) text old mid new same printed = tt

  -- behind calls that only looked
  pub behind_serves : (m : Interleaved) (reply : Reply) (result : Result (Opened K × Answer) EngineError) (sessions : List Open) (old mid new : H) → Now m.world old → Looks (seen old) (seen mid)
      → Served m reply result sessions mid new → Served m reply result sessions old new
  behind_serves m reply result sessions old mid new now looks serves = record {
    answers = serves.answers;
    stands = serves.stands;
    printed = printed_behind result (texts_of (settlings reply)) (seen old) (seen mid) (seen new) looks.text serves.printed;
    any_moment = λ said more is.
        joined (seen old) (seen mid) (seen new) (IsAfterSome (HoldsBy l means) (items_of (settlings reply) ++ more) m.world said)
        (looked_leaves seen held live means l stands text_stands m.world old mid now looks (items_of (settlings reply) ++ more) said is)
        (serves.any_moment said more (looks.text ∙ is));
    sound = serves.sound;
  }

  -- ---- a transaction settles

  -- what a stop leaves of it
  abbrev pub LeavesOne : ListWorld → Settled Histories Starts → H → H → Type 0
  LeavesOne w s old new = (said : List ℕ) → (seen old).text ≡ Some said → LeavesOnly (seen old) (seen new) (LeavesSettling (HoldsBy l means) w s.0 said s.1)

  -- and of what follows it
  one_leaves : (w : ListWorld) (others : List machine.Open) (s : Settled Histories Starts) (old new : H) → LeavesOne w s old new → (said : List ℕ) (more : List Item) → (seen old).text ≡ Some said
      → LeavesOnly (seen old) (seen new) (IsAfterSome (HoldsBy l means) (items_of (behind others s) ++ more) w said)
  one_leaves w [] s old new leaves said more is = settling_leaves (HoldsBy l means) s.1 (items_of (drain lists drain_limit s.0) ++ more) w s.0 said (seen old) (seen new) (leaves said is)
  one_leaves w (o ∷ os) s old new leaves said more is = settling_leaves (HoldsBy l means) s.1 more w s.0 said (seen old) (seen new) (leaves said is)

  -- it has not settled
  pub unsettled_serves : (m now : Interleaved) (others : List machine.Open) (s : Settled Histories Starts) (e : EngineError) (sessions : List Open) (old new : H) → LeavesOne m.world s old new → IsUndamaged e
      → Served m (Goes now (behind others s)) (Err e) sessions old new
  unsettled_serves m now others s e sessions old new leaves sound = record {
    answers = tt;
    stands = tt;
    printed = tt;
    any_moment = λ said more is. one_leaves m.world others s old new leaves said more is;
    sound = sound;
  }

  -- what is there behind it, with these sessions open
  abbrev pub now_behind : Interleaved → Settled Histories Starts → List Open → Interleaved
  now_behind m s sessions = record { world = world_after m.world (behind (opens_as sessions) s); sessions = opens_as sessions }

  -- it has, and other sessions are open
  pub settled_serves : (m : Interleaved) (s : Settled Histories Starts) (o : Opened K) (sessions : List Open) (old new : H) → (sessions ≡ [] → ⊥) → Printed s.1 (seen old) (seen new) → LeavesOne m.world s old new
      → IsAtRest seen held live l s.0 o new → IsInterleaved l (now_behind m s sessions) → Served m (Goes (now_behind m s sessions) (behind (opens_as sessions) s)) (Ok (o, answer.Settled 1)) sessions old new
  settled_serves m s o [] old new some printed leaves rests goes_on = absurd (some refl)
  settled_serves m s o (q ∷ qs) old new some printed leaves rests goes_on = record {
    answers = refl;
    stands = record { goes_on = goes_on; rests = rests; same = refl };
    printed = λ said is. printed said is ∙ ap (λ (text : List ℕ). Some (said ++ text)) (sym (append-nil s.1));
    any_moment = λ said more is. one_leaves m.world (opens_as (q ∷ qs)) s old new leaves said more is;
    sound = tt;
  }

  -- what a stop leaves of the drain behind it
  abbrev pub LeavesDrain : ListWorld → H → H → Type 0
  LeavesDrain w old new = (said : List ℕ) (more : List Item) → (seen old).text ≡ Some said → LeavesOnly (seen old) (seen new) (IsAfterSome (HoldsBy l means) (items_of (drain lists drain_limit w) ++ more) w said)

  drained_leaves : (w : ListWorld) (s : Settled Histories Starts) (old mid new : H) → Printed s.1 (seen old) (seen mid) → LeavesOne w s old mid → LeavesDrain s.0 mid new → (said : List ℕ) (more : List Item) → (seen old).text ≡ Some said
      → LeavesOnly (seen old) (seen new) (IsAfterSome (HoldsBy l means) (items_of (behind [] s) ++ more) w said)
  drained_leaves w s old mid new printed leaves drained said more is =
      moments_then (HoldsBy l means) s (items_of (drain lists drain_limit s.0) ++ more) w said (seen old) (seen mid) (seen new) (leaves said is) (drained (said ++ s.1) more (printed said is))

  -- an error in the drain
  pub undrained_serves : (m : Interleaved) (s : Settled Histories Starts) (e : EngineError) (sessions : List Open) (old mid new : H) → sessions ≡ [] → Printed s.1 (seen old) (seen mid) → LeavesOne m.world s old mid → LeavesDrain s.0 mid new
      → IsUndamaged e → Served m (Goes (now_behind m s sessions) (behind (opens_as sessions) s)) (Err e) sessions old new
  undrained_serves m s e (q ∷ qs) old mid new none printed leaves drained sound = absurd (cc)
  undrained_serves m s e [] old mid new none printed leaves drained sound = record {
    answers = tt;
    stands = tt;
    printed = tt;
    any_moment = drained_leaves m.world s old mid new printed leaves drained;
    sound = sound;
  }

  -- the drain has run
  pub drained_serves : (m : Interleaved) (s : Settled Histories Starts) (o : Opened K) (ran : ℕ) (sessions : List Open) (old mid new : H) → sessions ≡ [] → Printed s.1 (seen old) (seen mid) → LeavesOne m.world s old mid → LeavesDrain s.0 mid new
      → Printed (texts_of (drain lists drain_limit s.0)) (seen mid) (seen new) → ran ≡ length (drain lists drain_limit s.0) → IsAtRest seen held live l (world_after s.0 (drain lists drain_limit s.0)) o new
      → IsInterleaved l (now_behind m s sessions) → Served m (Goes (now_behind m s sessions) (behind (opens_as sessions) s)) (Ok (o, answer.Settled (ran + 1))) sessions old new
  drained_serves m s o ran (q ∷ qs) old mid new none printed leaves drained drain_printed count rests goes_on = absurd (cc)
  drained_serves m s o ran [] old mid new none printed leaves drained drain_printed count rests goes_on = record {
    answers = ap answer.Settled (one_more ran (length (drain lists drain_limit s.0)) count);
    stands = record { goes_on = goes_on; rests = rests; same = refl };
    printed = λ said is. drain_printed (said ++ s.1) (printed said is) ∙ ap Some (append_assoc said s.1 (texts_of (drain lists drain_limit s.0)));
    any_moment = drained_leaves m.world s old mid new printed leaves drained;
    sound = tt;
  }
