-- A step that is put off: an open session holds what it needs.
use Rattle.std.proofs.Common.{◌≡◌, ℕ, Option, Some, None, Ok, Err, refl, ◌∙◌, subst}
use Rattle.std.specs.Prelude.{is_some}
use Rattle.ode_interleaved_laws.proofs.HolderLaws.{one_holds}
use Rattle.ode_interleaved_laws.specs.Meeting.{Clashes, IsInterleaved}
use Rattle.ode_language.specs.Languages.{ode}
use Rattle.ode_machine.specs.Commands.{Step}
use Rattle.ode_machine.specs.Interleaving.{Alone, Busy, Ends, Holder, Interleaved, Open, Rests, Stays, Trial, Turns, footprint_of, holder, in_place, is_alone, others_of, replies, replies_alone, replies_to, session_of, step, tries, unless_held}
use Rattle.ode_machine.specs.Refusals.{place_of}
use Rattle.ode_machine.specs.declared.owned.Owned.{Owned}
use Rattle.ode_value.specs.declared.statement.Statement.{Statement}
use Rattle.ode_value.specs.Answers.{Answer}

module _ (m : Interleaved) (is : IsInterleaved ode m) (n other : ℕ) (s : Statement) (what : Owned) where
  abbrev t : Trial
  t = tries ode m (session_of n m.sessions) s

  -- the session, and that it holds what the step needs
  abbrev pub IsHeld : Type 0
  IsHeld = (o : Open) × (session_of other m.sessions ≡ Some o) × ((other ≡ n) → ⊥) × Clashes (is_alone s) (footprint_of t) what o

  not_alone : (answer : Answer Step) → replies_alone m.world answer ≡ Busy other what → ⊥
  not_alone (Ok step) e = absurd (cc)
  not_alone (Err why) e = absurd (cc)

  not_replied : (u : Trial) → replies m n u ≡ Busy other what → ⊥
  not_replied (Stays taken x) e = absurd (cc)
  not_replied (Ends p) e = absurd (cc)
  not_replied (Turns why x) e = absurd (cc)
  not_replied (Alone answer) e = not_alone answer e
  not_replied Rests e = absurd (cc)

  named : (a : ℕ) (b : Owned) → Busy a b ≡ Busy other what → (a ≡ other) × (b ≡ what)
  named a b e = (cc, cc)

  by_holder : (h : Option Holder) → holder (is_alone s) (footprint_of t) (others_of n m.sessions) ≡ h → unless_held h (replies m n t) ≡ Busy other what → IsHeld
  by_holder None held e = absurd (not_replied t e)
  by_holder (Some h) held e =
      let it = one_holds (is_alone s) (footprint_of t) n m.sessions is.rising h held in
      let same = named h.0 h.1 e in (
        it.one,
        subst (λ k. session_of k m.sessions ≡ Some it.one) same.0 it.at,
        λ own. it.other (same.0 ∙ own),
        subst (λ k. Clashes (is_alone s) (footprint_of t) k it.one) same.1 it.clashes,
      )

  pub busy_is : step ode m n s ≡ Busy other what → IsHeld
  busy_is e = by_place (place_of s (is_some (session_of n m.sessions))) e where
    by_place : (a : Answer (Unit {0})) → in_place a (replies_to m n (is_alone s) t) ≡ Busy other what → IsHeld
    by_place (Ok u) goes = by_holder (holder (is_alone s) (footprint_of t) (others_of n m.sessions)) refl goes
    by_place (Err why) goes = absurd (cc)
