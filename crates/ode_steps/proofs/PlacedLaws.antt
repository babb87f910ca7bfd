-- Statements in their places.
use Rattle.std.proofs.Common.{◌≡◌, ◌∙◌, Bool, true, false, List, Option, Some, None, Ok, ℕ, ap, refl, subst, sym}
use Rattle.std.specs.Prelude.{is_some}
use Rattle.ode_holders.specs.Opens.{opens_as}
use Rattle.ode_holders.specs.declared.opens.Open as code
use Rattle.ode_interleaved_laws.specs.Meeting.{IsInterleaved}
use Rattle.ode_language.specs.Languages.{ode}
use Rattle.ode_machine.specs.Interleaving.{Interleaved, Open, Reply, is_alone, replies_to, session_of, tries}
use Rattle.ode_machine.specs.Refusals.{place_of}
use Rattle.ode_steps.specs.Serving.{after_reply}
use Rattle.ode_value.specs.declared.statement.Statement.{Statement}
use Rattle.ode_value.specs.declared.statement.Statement.TheVariants as statement
use Rattle.ode_value.specs.declared.statement.Stmt.{Stmt}

-- by whether the session is open, as the code found it
pub placed_as : (n : ℕ) (os : List code.Open) (ps : List Open) (s : Statement) (opened : Bool) → opens_as os ≡ ps → opened ≡ is_some (session_of n (opens_as os)) → place_of s (is_some (session_of n ps)) ≡ place_of s opened
placed_as n os ps s opened same is = ap (λ (b : Bool). place_of s b) (ap (λ (qs : List Open). is_some (session_of n qs)) (sym same) ∙ sym is)

-- `begin` stands outside a transaction
pub placed_begin : (own : Option Open) → place_of statement.Begin (is_some own) ≡ Ok tt → own ≡ None
placed_begin None placed = refl
placed_begin (Some o) placed = absurd (cc)

-- and so does what is to be alone
pub placed_lone : (s : Statement) → is_alone s ≡ true → (own : Option Open) → place_of s (is_some own) ≡ Ok tt → own ≡ None
placed_lone s lone None placed = refl
placed_lone (statement.Class d) lone (Some o) placed = absurd (cc)
placed_lone (statement.Clock text) lone (Some o) placed = absurd (cc)
placed_lone statement.Empty lone (Some o) placed = absurd (cc)
placed_lone statement.Begin lone (Some o) placed = absurd (cc)
placed_lone statement.Commit lone (Some o) placed = absurd (cc)
placed_lone statement.Abort lone (Some o) placed = absurd (cc)
placed_lone (statement.Simple s) lone (Some o) placed = absurd (cc)

-- `commit` stands in one, and so does `abort`
pub placed_commit : (own : Option Open) → place_of statement.Commit (is_some own) ≡ Ok tt → (o : Open) × (own ≡ Some o)
placed_commit (Some o) placed = (o, refl)
placed_commit None placed = absurd (cc)

pub placed_abort : (own : Option Open) → place_of statement.Abort (is_some own) ≡ Ok tt → (o : Open) × (own ≡ Some o)
placed_abort (Some o) placed = (o, refl)
placed_abort None placed = absurd (cc)

module _ (m : Interleaved) (n : ℕ) (s : Statement) (P : Reply → Type 0) where
  abbrev reply : Option Open → Reply
  reply own = replies_to m n false (tries ode m own s)

  -- of a session that isn't open
  pub closed_step : (own : Option Open) → own ≡ None → (IsInterleaved ode (after_reply m (reply None)) → P (reply None)) → IsInterleaved ode (after_reply m (reply own)) → P (reply own)
  closed_step own closed serves goes_on =
      subst (λ (a : Option Open). P (reply a)) (sym closed) (serves (subst (λ (a : Option Open). IsInterleaved ode (after_reply m (reply a))) closed goes_on))

  -- of an open one
  pub open_step : (own : Option Open) (o : Open) → own ≡ Some o → (IsInterleaved ode (after_reply m (reply (Some o))) → P (reply (Some o))) → IsInterleaved ode (after_reply m (reply own)) → P (reply own)
  open_step own o found serves goes_on =
      subst (λ (a : Option Open). P (reply a)) (sym found) (serves (subst (λ (a : Option Open). IsInterleaved ode (after_reply m (reply a))) found goes_on))

-- what else stands beside others is `;`
pub empty_beside : (s : Statement) → is_alone s ≡ false → ((t : Stmt) → s ≡ statement.Simple t → ⊥) → (s ≡ statement.Begin → ⊥) → (s ≡ statement.Commit → ⊥) → (s ≡ statement.Abort → ⊥) → s ≡ statement.Empty
empty_beside statement.Empty beside simple begin commit abort = refl
empty_beside (statement.Simple t) beside simple begin commit abort = absurd (simple t refl)
empty_beside statement.Begin beside simple begin commit abort = absurd (begin refl)
empty_beside statement.Commit beside simple begin commit abort = absurd (commit refl)
empty_beside statement.Abort beside simple begin commit abort = absurd (abort refl)
empty_beside (statement.Class d) beside simple begin commit abort = absurd (cc)
empty_beside (statement.Clock text) beside simple begin commit abort = absurd (cc)
