-- What a step is answered, by who holds what it needs.
use Rattle.std.proofs.Common.{◌≡◌, ◌∙◌, ◌++◌, ℕ, Bool, false, List, [], ◌∷◌, Option, Some, None, Result, Ok, Err, ap, refl, sym}
use Rattle.std.specs.Prelude.{IfOk}
use Rattle.ode_interleaved_laws.proofs.HolderLaws.{none_clashes}
use Rattle.ode_interleaved_laws.proofs.OpenLaws.{others_apart_from, with_same}
use Rattle.ode_interleaved_laws.proofs.StepLaws.{open_found, view_is}
use Rattle.ode_interleaved_laws.specs.Meeting.{IsInterleaved}
use Rattle.ode_interleaved_laws.specs.Serial.{taken_of}
use Rattle.ode_language.specs.Languages.{ode}
use Rattle.ode_machine.specs.Interleaving.{Busy, Ends, Goes, Holder, Interleaved, Open, Refuses, Reply, Rests, Stays, Taken, Trial, behind, footprint_of, goes_with, holder, others_of, replies, replies_to, session_of, tries, unless_held, view, with_open}
use Rattle.ode_steps.proofs.NumberLaws.{none_needed}
use Rattle.ode_steps.proofs.OpenedLaws.{found_session}
use Rattle.ode_steps.specs.Serving.{UnlessSettled, after_reply}
use Rattle.ode_steps.specs.declared.answer.Answer.{Answer}
use Rattle.ode_steps.specs.declared.answer.Answer.TheVariants as answer
use Rattle.ode_transact.specs.Preparing.{ended_by}
use Rattle.ode_transact.specs.Working.{settled_by}
use Rattle.ode_value.specs.Acts.{Outcome}
use Rattle.ode_value.specs.Draining.{world_after}
use Rattle.ode_value.specs.Footprints.{Footprint}
use Rattle.ode_value.specs.Language.{ListTx, Settlings}
use Rattle.ode_value.specs.Objects.{Histories, Starts}
use Rattle.ode_value.specs.Pasts.{lists}
use Rattle.ode_value.specs.Settling.{Settled, settle}
use Rattle.ode_value.specs.declared.reason.Reason.{Reason}
use Rattle.ode_value.specs.declared.statement.Statement.TheVariants as statement

-- ---- who holds it, as it was found

pub found_is : (found : Option Holder) (f g : Footprint) (os ps : List Open) (n : ℕ) → found ≡ holder false f (others_of n os) → f ≡ g → os ≡ ps → holder false g (others_of n ps) ≡ found
found_is found f g os ps n is same opened = sym (is ∙ ap (λ (e : Footprint). holder false e (others_of n os)) same ∙ ap (λ (qs : List Open). holder false g (others_of n qs)) opened)

module _ (m : Interleaved) (n : ℕ) (alone : Bool) (t : Trial) where
  -- another session does
  pub busy_reply : (h : Holder) → holder alone (footprint_of t) (others_of n m.sessions) ≡ Some h → replies_to m n alone t ≡ Busy h.0 h.1
  busy_reply h is = ap (λ (found : Option Holder). unless_held found (replies m n t)) is

  -- nobody does
  pub free_reply : holder alone (footprint_of t) (others_of n m.sessions) ≡ None → replies_to m n alone t ≡ replies m n t
  free_reply is = ap (λ (found : Option Holder). unless_held found (replies m n t)) is

-- a transaction that settles
pub ended_reply : (m : Interleaved) (n : ℕ) (outcome : Outcome Histories Starts (Unit {0})) (s : Settled Histories Starts) → settle lists outcome ≡ s → holder false (footprint_of (Ends outcome)) (others_of n m.sessions) ≡ None
    → replies_to m n false (Ends outcome) ≡ Goes (record { world = world_after m.world (behind (others_of n m.sessions) s); sessions = others_of n m.sessions }) (behind (others_of n m.sessions) s)
ended_reply m n outcome s is free = free_reply m n false (Ends outcome) free ∙ ap (λ (q : Settled Histories Starts). goes_with (others_of n m.sessions) m.world (behind (others_of n m.sessions) q)) is

pub settled_so : (ending : Option Reason) (x : ListTx) → settle lists (ended_by ending x) ≡ settled_by ending x
settled_so None x = refl
settled_so (Some why) x = refl

-- a session that stays open
pub stays_reply : (m : Interleaved) (n : ℕ) (taken : List Taken) (x : ListTx) (os : List Open) → os ≡ with_open (record { session = n; taken = taken; held = x.footprint }) (others_of n m.sessions)
    → holder false x.footprint (others_of n m.sessions) ≡ None → replies_to m n false (Stays taken x) ≡ Goes (record { world = m.world; sessions = os }) []
stays_reply m n taken x os opened free = free_reply m n false (Stays taken x) free ∙ ap (λ (qs : List Open). Goes (record { world = m.world; sessions = qs }) []) (sym opened)

-- with which its session stays open
pub stays_open : (m : Interleaved) (n : ℕ) (os after : List Open) (taken : Taken) (f : Footprint) (x : ListTx) → os ≡ m.sessions → f ≡ x.footprint
    → after ≡ with_open (record { session = n; taken = taken_of (session_of n os) ++ taken ∷ []; held = f }) (others_of n os)
    → after ≡ with_open (record { session = n; taken = taken_of (session_of n m.sessions) ++ taken ∷ []; held = x.footprint }) (others_of n m.sessions)
stays_open m n os after taken f x same held is =
    is ∙ ap (λ (g : Footprint). with_open (record { session = n; taken = taken_of (session_of n os) ++ taken ∷ []; held = g }) (others_of n os)) held
    ∙ ap (λ (ps : List Open). with_open (record { session = n; taken = taken_of (session_of n ps) ++ taken ∷ []; held = x.footprint }) (others_of n ps)) same

-- ---- what settled

pub settled_same : {T E : Type 0} (P : Type 0) (result : Result (T × Answer) E) → IfOk result (λ r. UnlessSettled r.1 ⊥) → IfOk result (λ r. UnlessSettled r.1 P)
settled_same P (Err e) is = tt
settled_same P (Ok (o, answer.Settled count)) is = tt
settled_same P (Ok (o, answer.Accepted)) is = absurd is
settled_same P (Ok (o, answer.Refused why)) is = absurd is
settled_same P (Ok (o, answer.Busy session what)) is = absurd is

-- ---- `;`

module _ (m : Interleaved) (is : IsInterleaved ode m) (n : ℕ) where
  open_empty : (o : Open) → session_of n m.sessions ≡ Some o → replies_to m n false (Stays o.taken (view m.world (Some o))) ≡ Goes m []
  open_empty o at =
      let over = open_found m is n o at in
      let held : (view m.world (Some o)).footprint ≡ o.held = ap (λ (x : ListTx). x.footprint) (view_is m is o over) ∙ over.held in
      let free : holder false (view m.world (Some o)).footprint (others_of n m.sessions) ≡ None =
      ap (λ (f : Footprint). holder false f (others_of n m.sessions)) held ∙ none_clashes o.held (others_of n m.sessions) (others_apart_from n m.sessions is.apart o at) in
      let same : record { session = n; taken = o.taken; held = (view m.world (Some o)).footprint } ≡ o =
      ap (λ (f : Footprint). record { session = n; taken = o.taken; held = f }) held ∙ ap (λ (k : ℕ). record { session = k; taken = o.taken; held = o.held }) (sym (found_session n m.sessions o at)) in
      stays_reply m n o.taken (view m.world (Some o)) m.sessions (sym (ap (λ (q : Open). with_open q (others_of n m.sessions)) same ∙ with_same n 0 m.sessions is.rising o at)) free

  pub empty_reply : replies_to m n false (tries ode m (session_of n m.sessions) statement.Empty) ≡ Goes m []
  empty_reply = by_own (session_of n m.sessions) refl where
    by_own : (own : Option Open) → session_of n m.sessions ≡ own → replies_to m n false (tries ode m own statement.Empty) ≡ Goes m []
    by_own None e = free_reply m n false Rests (none_needed (others_of n m.sessions))
    by_own (Some o) e = open_empty o e

  -- behind a reply the sessions go on, where they do behind each that goes
  pub goes_on_behind : (reply : Reply) → ((now : Interleaved) (settled : Settlings) → reply ≡ Goes now settled → IsInterleaved ode now) → IsInterleaved ode (after_reply m reply)
  goes_on_behind (Refuses why) goes = is
  goes_on_behind (Busy session what) goes = is
  goes_on_behind (Goes now settled) goes = goes now settled refl
