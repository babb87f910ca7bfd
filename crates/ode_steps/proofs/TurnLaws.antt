-- A statement wasn't done on the view of its session, or wasn't checked: what its step comes to then.
use Rattle.std.proofs.Common.{◌≡◌, ℕ, Bool, false, List, Option, Some, Result, Err, ap, refl, subst}
use Rattle.std.specs.Prelude.{IfOk, IsErrOf}
use Rattle.ode_engine.specs.Refusing.{Answers, IfRefused, IsUndamaged, KeepsChecked}
use Rattle.ode_engine.specs.declared.refusing.Turned.{Turned}
use Rattle.ode_engine.specs.declared.refusing.Turned.TheVariants as turned
use Rattle.ode_host.specs.Causes.{RoseIf}
use Rattle.ode_interpreter.specs.Seen.{Leaves}
use Rattle.ode_interpreter.specs.declared.stop.Stop.{Stop}
use Rattle.ode_interpreter.specs.declared.stop.Stop.TheVariants as stop
use Rattle.ode_language.specs.Languages.{ode}
use Rattle.ode_machine.specs.Interleaving.{Open, Taken, Trial, literal_objects, trial_open, tries_simple}
use Rattle.ode_machine.specs.Refusals.{checked_in}
use Rattle.ode_transact.specs.Contexts.{EndsWhere, IsSound, Ctx}
use Rattle.ode_steps.proofs.LookLaws.{rose_error, rose_fault, rose_ok}
use Rattle.ode_steps.proofs.TryLaws.{tries_rules}
use Rattle.ode_steps.specs.Trying.{TriedAs, context_in, fell_in, turned_in}
use Rattle.ode_steps.specs.declared.trying.Tried.TheVariants as tried
use Rattle.ode_transact.specs.Errors.{OnDamaged}
use Rattle.ode_transact.specs.declared.error.EngineError.{EngineError}
use Rattle.ode_transact.specs.declared.error.EngineError.TheVariants as error
use Rattle.ode_value.specs.Acts.{Aborted, Done, Outcome}
use Rattle.ode_value.specs.Language.{ListTx}
use Rattle.ode_value.specs.Objects.{Histories, Starts}
use Rattle.ode_value.specs.Transactions.{looking}
use Rattle.ode_value.specs.declared.statement.Stmt.{Stmt}

abbrev Ended : Type 0
Ended = Outcome Histories Starts (Unit {0})

abbrev stopped : Stop → Result (Unit {0}) Stop
stopped s = Err s

abbrev turned_down : Turned → Result Stmt Turned
turned_down t = Err t

-- ---- a statement wasn't done

pub fell_tries : {K : Type 0} (runs : Ctx K → ListTx → Type 0) (before all : List Taken) (ctx : Ctx K) (s : Stop) (o : Ended) → EndsWhere (stopped s) (runs ctx) o → IfOk (fell_in ctx s) (λ t. TriedAs before runs t (trial_open all o))
fell_tries runs before all ctx (stop.Abort why) (Done answer x) ends = absurd ends
fell_tries runs before all ctx (stop.Abort why) (Aborted reason x) ends = ends
fell_tries runs before all ctx stop.Memory o ends = tt
fell_tries runs before all ctx stop.DiskFault o ends = tt
fell_tries runs before all ctx (stop.Damaged key) o ends = tt

pub fell_usable : {K : Type 0} (P : Ctx K → Type 0) (ctx : Ctx K) (s : Stop) → Leaves (stopped s) (P ctx) (λ why. Unit {0}) → IfOk (fell_in ctx s) (λ t. P (context_in t))
fell_usable P ctx (stop.Abort why) usable = usable
fell_usable P ctx stop.Memory usable = tt
fell_usable P ctx stop.DiskFault usable = tt
fell_usable P ctx (stop.Damaged key) usable = tt

pub fell_has : {K : Type 0} (P : Ctx K → Type 0) (ctx : Ctx K) (s : Stop) → P ctx → IfOk (fell_in ctx s) (λ t. P (context_in t))
fell_has P ctx (stop.Abort why) is = is
fell_has P ctx stop.Memory is = tt
fell_has P ctx stop.DiskFault is = tt
fell_has P ctx (stop.Damaged key) is = tt

pub fell_rose : {K : Type 0} (ctx : Ctx K) (s : Stop) (a b : ℕ) → RoseIf (IsErrOf (stopped s) stop.DiskFault) a b → RoseIf (IsErrOf (fell_in ctx s) error.DiskFault) a b
fell_rose ctx (stop.Abort why) a b rose = rose_ok (tried.Ends ctx (Some why)) (IsErrOf (stopped (stop.Abort why)) stop.DiskFault) a b (λ is. cc (is)) rose
fell_rose ctx stop.Memory a b rose = rose_fault stop.Memory (IsErrOf (stopped stop.Memory) stop.DiskFault) a b (λ is. cc (is)) (λ is. cc (is)) rose
fell_rose ctx stop.DiskFault a b rose = rose_fault stop.DiskFault (IsErrOf (stopped stop.DiskFault) stop.DiskFault) a b (λ is. cc (is)) (λ is. cc (is)) rose
fell_rose ctx (stop.Damaged key) a b rose = rose_fault (stop.Damaged key) (IsErrOf (stopped (stop.Damaged key)) stop.DiskFault) a b (λ is. cc (is)) (λ is. cc (is)) rose

pub fell_silent : {K : Type 0} (ctx : Ctx K) (s : Stop) → IsErrOf (fell_in ctx s) error.WriteFault → ⊥
fell_silent ctx (stop.Abort why) is = cc (is)
fell_silent ctx stop.Memory is = cc (is)
fell_silent ctx stop.DiskFault is = cc (is)
fell_silent ctx (stop.Damaged key) is = cc (is)

pub fell_undamaged : {K : Type 0} (ctx : Ctx K) (s : Stop) (Q : Type 0) → ((IsSound s → ⊥) → Q) → OnDamaged (fell_in ctx s) Q
fell_undamaged ctx (stop.Abort why) Q so = tt
fell_undamaged ctx stop.Memory Q so = tt
fell_undamaged ctx stop.DiskFault Q so = tt
fell_undamaged ctx (stop.Damaged key) Q so = so (λ none. none)

-- ---- it wasn't checked

pub turned_tries : {K : Type 0} (runs : Ctx K → ListTx → Type 0) (before : List Taken) (own : Option Open) (spent : Bool) (s : Stmt) (x : ListTx) (ctx : Ctx K) (t : Turned) → spent ≡ false
    → Answers (turned_down t) (checked_in ode x.now.bones s) → KeepsChecked (turned_down t) (runs ctx (looking (literal_objects ode s) x))
    → IfOk (turned_in ctx t) (λ q. TriedAs before runs q (tries_simple ode own spent s x))
turned_tries runs before own spent s x ctx (turned.Refused why) is answers keeps =
    subst (λ (q : Trial). TriedAs before runs (tried.Refused ctx why) q) (tries_rules own spent s x (Err why) is answers) (refl, keeps.stays)
turned_tries runs before own spent s x ctx (turned.Stopped e) is answers keeps = tt

pub turned_usable : {K : Type 0} (P : Ctx K → Type 0) (ctx : Ctx K) (t : Turned) → IfRefused t (P ctx) → IfOk (turned_in ctx t) (λ q. P (context_in q))
turned_usable P ctx (turned.Refused why) usable = usable
turned_usable P ctx (turned.Stopped e) usable = tt

pub turned_has : {K : Type 0} (P : Ctx K → Type 0) (ctx : Ctx K) (t : Turned) → P ctx → IfOk (turned_in ctx t) (λ q. P (context_in q))
turned_has P ctx (turned.Refused why) is = is
turned_has P ctx (turned.Stopped e) is = tt

pub turned_rose : {K : Type 0} (ctx : Ctx K) (t : Turned) (a b : ℕ) → RoseIf (IsErrOf (turned_down t) (turned.Stopped error.DiskFault)) a b → RoseIf (IsErrOf (turned_in ctx t) error.DiskFault) a b
turned_rose ctx (turned.Refused why) a b rose = rose_ok (tried.Refused ctx why) (IsErrOf (turned_down (turned.Refused why)) (turned.Stopped error.DiskFault)) a b (λ is. cc (is)) rose
turned_rose ctx (turned.Stopped e) a b rose = rose_error e (IsErrOf (turned_down (turned.Stopped e)) (turned.Stopped error.DiskFault)) a b (λ is. cc (is)) (λ is. ap (λ (d : EngineError). turned_down (turned.Stopped d)) is) rose

pub turned_silent : {K : Type 0} (ctx : Ctx K) (t : Turned) → (IsErrOf (turned_down t) (turned.Stopped error.WriteFault) → ⊥) → IsErrOf (turned_in ctx t) error.WriteFault → ⊥
turned_silent ctx (turned.Refused why) silent is = cc (is)
turned_silent ctx (turned.Stopped e) silent is = let same : e ≡ error.WriteFault = cc (is) in silent (ap (λ (d : EngineError). turned_down (turned.Stopped d)) same)

stopped_undamaged : {K : Type 0} (ctx : Ctx K) (e : EngineError) (Q : Type 0) → ((IsUndamaged e → ⊥) → Q) → OnDamaged (turned_in ctx (turned.Stopped e)) Q
stopped_undamaged ctx error.Memory Q so = tt
stopped_undamaged ctx error.DiskFault Q so = tt
stopped_undamaged ctx error.WriteFault Q so = tt
stopped_undamaged ctx (error.Damaged key) Q so = so (λ none. none)

pub turned_undamaged : {K : Type 0} (ctx : Ctx K) (t : Turned) (Q : Type 0) → ((((e : EngineError) → IsErrOf (turned_down t) (turned.Stopped e) → IsUndamaged e) → ⊥) → Q) → OnDamaged (turned_in ctx t) Q
turned_undamaged ctx (turned.Refused why) Q so = tt
turned_undamaged ctx (turned.Stopped e) Q so = stopped_undamaged ctx e Q (λ broken. so (λ sound. broken (sound e refl)))
