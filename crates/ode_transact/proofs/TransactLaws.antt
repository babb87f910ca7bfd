-- How a whole transaction settles.
use Rattle.std.proofs.Common.{◌≡◌, ap, refl, sym, Option, Some, None}
use Rattle.ode_transact.specs.Working.{EndedAs, settled_by}
use Rattle.ode_value.specs.Acts.{Deed, Outcome, Done, Aborted, ◌>>◌}
use Rattle.ode_value.specs.Completing.{completes}
use Rattle.ode_value.specs.Language.{ListTx, ListWorld}
use Rattle.ode_value.specs.Objects.{Histories, Starts}
use Rattle.ode_value.specs.Pasts.{lists}
use Rattle.ode_value.specs.Settling.{abort, settle, transaction}
use Rattle.ode_value.specs.Transactions.{Origin, begun}
use Rattle.ode_value.specs.declared.reason.Reason.{Reason}

-- a transaction that was done, or aborted for a reason, settles so
pub ended_settles : (ending : Option Reason) (P : ListTx → Type 0) (p : Outcome Histories Starts (Unit {0})) → EndedAs ending P p → (t : ListTx) × P t × (settle lists p ≡ settled_by ending t)
ended_settles None P (Done answer x) holds = (x, holds, refl)
ended_settles (Some why) P (Aborted reason x) holds = (x, holds.1, ap (λ (r : Reason). abort lists r x) (sym holds.0))
ended_settles None P (Aborted reason x) holds = absurd holds
ended_settles (Some why) P (Done answer x) holds = absurd holds

pub transaction_settles : (origin : Origin) (work : Deed Histories Starts) (w : ListWorld) (ending : Option Reason) (P : ListTx → Type 0) → EndedAs ending P ((work >> completes lists) (begun origin w))
    → (t : ListTx) × P t × (transaction lists origin work w ≡ settled_by ending t)
unfolding transaction
transaction_settles origin work w ending P holds = ended_settles ending P ((work >> completes lists) (begun origin w)) holds
