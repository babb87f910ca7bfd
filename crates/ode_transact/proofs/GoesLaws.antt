-- How calls of a context go, one after another.
use Rattle.std.proofs.Common.{◌≡◌, Bool, Result, Option, Some, None, Ok, Err, ap, refl, subst, sym}
use Rattle.std.specs.Prelude.{IfErr, is_some}
use Rattle.std.specs.Option.{option_map}
use Rattle.ode_heap.specs.Answering.{head_of_object}
use Rattle.ode_heap.specs.declared.object.ObjectHead.{ObjectHead}
use Rattle.ode_host.specs.View.{View}
use Rattle.ode_interpreter.specs.Seen.{IsFault, Leaves}
use Rattle.ode_interpreter.specs.declared.stop.Stop.{Stop}
use Rattle.ode_interpreter.specs.declared.stop.Stop.TheVariants as stop
use Rattle.ode_keep.specs.Entries.{Entries}
use Rattle.ode_laws.specs.Alike.{NumberWorld}
use Rattle.ode_run.specs.Contexts.{ContextRuns, EndsWhere, IsContext, LeavesOpen}
use Rattle.ode_run.specs.Knowing.{IsSound}
use Rattle.ode_run.specs.declared.context.Ctx.{Ctx}
use Rattle.ode_transact.specs.Going.{Goes}
use Rattle.ode_value.specs.Acts.{Act, Outcome, Done, Aborted, go_on}
use Rattle.ode_value.specs.Language.{Language, ListTx, ListWorld}
use Rattle.ode_value.specs.Objects.{Histories, Starts}
use Rattle.ode_value.specs.Worlds.{Object}
use Rattle.ode_value.specs.declared.reason.Reason.{Reason}

-- an answer, and an error, of a call
abbrev gave : {R : Type 0} → R → Result R Stop
gave v = Ok v

abbrev erred : (R : Type 0) → Stop → Result R Stop
erred R why = Err why

-- what is left is sound
pub sound_of : {R : Type 0} (result : Result R Stop) (context : Type 0) → Leaves result context IsSound → IfErr result IsSound
sound_of (Ok v) context stays = tt
sound_of (Err (stop.Abort why)) context stays = tt
sound_of (Err stop.Memory) context stays = tt
sound_of (Err stop.DiskFault) context stays = tt
sound_of (Err (stop.Damaged key)) context stays = stays

-- a call of ode_run goes so
module _ {H K : Type 0} (seen : H → View) (held : K → View → Entries → Type 0) (live : K → Bool) (l : Language) (w : ListWorld) where
  pub goes_by : {R : Type 0} (result : Result R Stop) (outcome : Outcome Histories Starts R) (before after : Ctx K) (h h' : H) (x : ListTx) → (is : ContextRuns seen held live l w before h x)
      → EndsWhere result (ContextRuns seen held live l w after h') outcome
      → ((entries : Entries) (first : NumberWorld) → IsContext seen held live entries first before h → LeavesOpen result (IsContext seen held live entries first after h') (seen h) (seen h'))
      → Goes result (ContextRuns seen held live l w after h') outcome
  goes_by result outcome before after h h' x is ends leaves =
      let first = is.world.world.stored.world in
      record { ends = ends; sound = sound_of result (IsContext seen held live is.entries first after h') (leaves is.entries first is.context).stays }

-- of an act that is this one
pub goes_as : {R : Type 0} (result : Result R Stop) (P : ListTx → Type 0) (outcome other : Outcome Histories Starts R) → outcome ≡ other → Goes result P other → Goes result P outcome
goes_as result P outcome other is goes = subst (λ (o : Outcome Histories Starts _). Goes result P o) (sym is) goes

-- ---- where nothing is called

pub done_here : (P : ListTx → Type 0) (x : ListTx) → P x → Goes {R = Unit {0}} (Ok tt) P (Done tt x)
done_here P x is = record { ends = (refl, is); sound = tt }

-- ---- errors

stop_ends : (R S : Type 0) (why : Stop) (P : ListTx → Type 0) (outcome : Outcome Histories Starts R) (next : R → Act Histories Starts S) → EndsWhere (erred R why) P outcome → EndsWhere (erred S why) P (go_on outcome next)
stop_ends R S (stop.Abort why) P (Done answer x) next ends = absurd ends
stop_ends R S (stop.Abort why) P (Aborted reason x) next ends = ends
stop_ends R S stop.Memory P outcome next ends = tt
stop_ends R S stop.DiskFault P outcome next ends = tt
stop_ends R S (stop.Damaged key) P outcome next ends = tt

-- a stop on the way is one of the whole
pub stops : (R S : Type 0) (result : Result S Stop) (why : Stop) → result ≡ Err why → (P : ListTx → Type 0) (outcome : Outcome Histories Starts R) (next : R → Act Histories Starts S) → Goes (erred R why) P outcome
    → Goes result P (go_on outcome next)
stops R S result why is P outcome next goes =
    subst (λ (r : Result S Stop). Goes r P (go_on outcome next)) (sym is) (record { ends = stop_ends R S why P outcome next goes.ends; sound = goes.sound })

fault_ends : (S : Type 0) (why : Stop) (P : ListTx → Type 0) (outcome : Outcome Histories Starts S) → IsFault why → EndsWhere (erred S why) P outcome
fault_ends S (stop.Abort why) P outcome fault = absurd fault
fault_ends S stop.Memory P outcome fault = tt
fault_ends S stop.DiskFault P outcome fault = tt
fault_ends S (stop.Damaged key) P outcome fault = tt

-- a fault is that of any act
pub faulted : (S : Type 0) (result : Result S Stop) (why : Stop) → result ≡ Err why → (P : ListTx → Type 0) (outcome : Outcome Histories Starts S) → IsFault why → IsSound why → Goes result P outcome
faulted S result why is P outcome fault sound = subst (λ (r : Result S Stop). Goes r P outcome) (sym is) (record { ends = fault_ends S why P outcome fault; sound = sound })

-- an abort here
pub aborted_here : (S : Type 0) (P : ListTx → Type 0) (outcome : Outcome Histories Starts S) (why : Reason) (x : ListTx) → outcome ≡ Aborted why x → P x → Goes (erred S (stop.Abort why)) P outcome
aborted_here S P outcome why x is holds = record { ends = subst (EndsWhere (erred S (stop.Abort why)) P) (sym is) (refl, holds); sound = tt }

-- ---- one after another

-- a deed, of whose outcome this is known, and then an act
pub goes_then : {S : Type 0} (v : Unit {0}) (result : Result S Stop) (P Q : ListTx → Type 0) (outcome : Outcome Histories Starts (Unit {0})) (next : Unit {0} → Act Histories Starts S)
    → Goes (gave v) P outcome → ((x : ListTx) → outcome ≡ Done tt x → P x → Goes result Q (next tt x)) → Goes result Q (go_on outcome next)
goes_then {S} v result P Q outcome next first second = by_outcome outcome refl first.ends where
  by_outcome : (p : Outcome Histories Starts (Unit {0})) → outcome ≡ p → EndsWhere (gave v) P p → Goes result Q (go_on p next)
  by_outcome (Done answer x) is ends = second x is ends.1
  by_outcome (Aborted reason x) is ends = absurd ends

-- ---- what is there

-- an object is there exactly where its head is
pub is_there : (found : Option ObjectHead) (o : Option Object) → found ≡ option_map head_of_object o → is_some o ≡ is_some found
is_there found None is = ap is_some (sym is)
is_there found (Some o) is = ap is_some (sym is)
