-- What a step serves where nothing settled.
use Rattle.std.proofs.Common.{◌≡◌, ℕ, Bool, false, List, [], Some, None, Ok, Result, refl, subst, sym}
use Rattle.ode_engine.proofs.ServeLaws.{HoldsNow}
use Rattle.ode_holders.specs.Opens.{opens_as}
use Rattle.ode_holders.specs.declared.opens.Open.{Open}
use Rattle.ode_host.specs.Host.{Looks, Stands}
use Rattle.ode_host.specs.View.{View}
use Rattle.ode_interleaved_laws.specs.Meeting.{IsInterleaved}
use Rattle.ode_keep.specs.Entries.{Entries}
use Rattle.ode_language.specs.Languages.{ode}
use Rattle.ode_machine.specs.Interleaving.{Busy, Goes, Holder, Interleaved, Refuses, Reply, Stays, Taken, Trial, Turns, footprint_of, holder, others_of, replies_to, with_open}
use Rattle.ode_opened.specs.declared.opened.Opened.{Opened}
use Rattle.ode_steps.proofs.ReplyLaws.{busy_reply, free_reply, stays_reply}
use Rattle.ode_steps.proofs.ServeLaws.{quiet_serves}
use Rattle.ode_steps.specs.Serving.{Serves, StandsIn, after_reply}
use Rattle.ode_steps.specs.declared.answer.Answer.{Answer}
use Rattle.ode_steps.specs.declared.answer.Answer.TheVariants as answer
use Rattle.ode_transact.specs.Resting.{IsAtRest}
use Rattle.ode_transact.specs.Settling.{Meaning}
use Rattle.ode_transact.specs.declared.error.EngineError.{EngineError}
use Rattle.ode_value.specs.Language.{ListTx}
use Rattle.ode_value.specs.declared.reason.Refusal.{Refusal}

module _ {H K : Type 0} (seen : H → View) (held : K → View → Entries → Type 0) (live : K → Bool) (means : Meaning)
    (stands : (keeper : K) (host : H) (entries : Entries) → held keeper (seen host) entries → (file : List ℕ) × Stands file (seen host) × means file entries)
    (text_stands : (host : H) (c o : List ℕ) → (seen host).left (seen host).moment c o → (seen host).text ≡ Some o) where
  abbrev Served : Interleaved → Reply → Result (Opened K × Answer) EngineError → List Open → H → H → Type 0
  Served m reply result sessions old new = Serves seen held live means ode m reply result sessions old new

  module _ (m : Interleaved) (n : ℕ) (o : Opened K) (sessions : List Open) (old new : H) (now : HoldsNow seen held live ode m.world old) (looks : Looks (seen old) (seen new)) where
    -- another session holds what the step needs
    pub put_off_serves : (alone : Bool) (t : Trial) (h : Holder) → holder alone (footprint_of t) (others_of n m.sessions) ≡ Some h → StandsIn seen held live ode m o sessions new
        → Served m (replies_to m n alone t) (Ok (o, answer.Busy h.0 h.1)) sessions old new
    put_off_serves alone t h is same =
        subst (λ (reply : Reply). Served m reply (Ok (o, answer.Busy h.0 h.1)) sessions old new) (sym (busy_reply m n alone t h is))
        (quiet_serves seen held live means ode stands text_stands m (Busy h.0 h.1) o (answer.Busy h.0 h.1) sessions old new now looks refl refl same)

    -- it is refused
    pub turned_serves : (alone : Bool) (why : Refusal) (x : ListTx) → holder alone x.footprint (others_of n m.sessions) ≡ None → StandsIn seen held live ode m o sessions new
        → Served m (replies_to m n alone (Turns why x)) (Ok (o, answer.Refused why)) sessions old new
    turned_serves alone why x free same =
        subst (λ (reply : Reply). Served m reply (Ok (o, answer.Refused why)) sessions old new) (sym (free_reply m n alone (Turns why x) free))
        (quiet_serves seen held live means ode stands text_stands m (Refuses why) o (answer.Refused why) sessions old new now looks refl refl same)

    -- its session stays open
    pub stays_serves : (taken : List Taken) (x : ListTx) → opens_as sessions ≡ with_open (record { session = n; taken = taken; held = x.footprint }) (others_of n m.sessions)
        → holder false x.footprint (others_of n m.sessions) ≡ None → IsInterleaved ode (after_reply m (replies_to m n false (Stays taken x))) → IsAtRest seen held live ode m.world o new
        → Served m (replies_to m n false (Stays taken x)) (Ok (o, answer.Accepted)) sessions old new
    stays_serves taken x opened free goes_on rests =
        let all : Interleaved = record { world = m.world; sessions = opens_as sessions } in
        let is : replies_to m n false (Stays taken x) ≡ Goes all [] = stays_reply m n taken x (opens_as sessions) opened free in
        subst (λ (reply : Reply). Served m reply (Ok (o, answer.Accepted)) sessions old new) (sym is)
        (quiet_serves seen held live means ode stands text_stands m (Goes all []) o answer.Accepted sessions old new now looks refl refl
        (record { goes_on = subst (λ (reply : Reply). IsInterleaved ode (after_reply m reply)) is goes_on; rests = rests; same = refl }))
