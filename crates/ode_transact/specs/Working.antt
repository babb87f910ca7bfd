-- What a transaction does, and how it settles.
use Rattle.std.specs.Prelude.{◌≡◌, ℕ, List, ◌∷◌, Option, Some, None, Result, Ok, Err}
use Rattle.ode_codec.specs.declared.record.Entry as stored
use Rattle.ode_transact.specs.Errors.{fault_of}
use Rattle.ode_transact.specs.declared.error.EngineError.{EngineError}
use Rattle.ode_transact.specs.declared.work.Work.{Work}
use Rattle.ode_transact.specs.declared.work.Work.TheVariants as work
use Rattle.ode_interpreter.specs.declared.stop.Stop.{Stop}
use Rattle.ode_interpreter.specs.declared.stop.Stop.TheVariants as stop
use Rattle.ode_machine.specs.Works.{ticks}
use Rattle.ode_overlay.specs.declared.origin.Origin.{Origin}
use Rattle.ode_overlay.specs.declared.origin.Origin.TheVariants as from
use Rattle.ode_value.specs.Acts.{Deed, Outcome, Done, Aborted, ◌>>◌, nothing}
use Rattle.ode_value.specs.Completing.{completes}
use Rattle.ode_value.specs.Draining.{runs_entry}
use Rattle.ode_value.specs.Executing.{commands}
use Rattle.ode_value.specs.Language.{ListTx, ListWorld}
use Rattle.ode_value.specs.Objects.{Histories, Starts}
use Rattle.ode_value.specs.Pasts.{Past, lists}
use Rattle.ode_value.specs.Settling.{Settled, abort, commit}
use Rattle.ode_value.specs.Worlds.{Entry}
use Rattle.ode_value.specs.declared.reason.Reason.{Reason}

-- an entry, as the machine has it
abbrev pub entry_of : stored.Entry → Entry
entry_of e = record { object = e.object; class = e.class; trigger = e.trigger; generation = e.generation; args = e.args }

-- what a transaction does
abbrev pub work_of : {O A : Type 0} → Work → Past O A → Deed O A
work_of (work.Statement s) past = commands past s.now
work_of (work.Entry e) past = runs_entry past (entry_of e.now)
work_of (work.Tick p) past = ticks past p.now
work_of work.Move past = nothing

-- and its completion behind it
abbrev pub whole_of : {O A : Type 0} → Work → Past O A → Deed O A
whole_of work past = work_of work past >> completes past

-- it settles by commit, or by an abort for this reason
abbrev pub settled_by : Option Reason → ListTx → Settled Histories Starts
settled_by None t = commit lists t
settled_by (Some reason) t = abort lists reason t

-- where it comes from an entry, that is the front of the queue
abbrev pub IsFromFront : Origin → ListWorld → Type 0
IsFromFront (from.Entry number generation) w = (e : Entry) × (more : List (ℕ × Entry)) × (w.bones.queue ≡ (number, e) ∷ more)
IsFromFront _ w = Unit {0}

-- how a call of a context ended: done, aborted, or by a fault
abbrev pub ending_of : Result (Unit {0}) Stop → Result (Option Reason) EngineError
ending_of (Ok done) = Ok None
ending_of (Err (stop.Abort why)) = Ok (Some why)
ending_of (Err stop.Memory) = Err (fault_of stop.Memory)
ending_of (Err stop.DiskFault) = Err (fault_of stop.DiskFault)
ending_of (Err (stop.Damaged key)) = Err (fault_of (stop.Damaged key))

-- a whole transaction was done, or aborted for the reason that it ended with
abbrev pub EndedAs : Option Reason → (ListTx → Type 0) → Outcome Histories Starts (Unit {0}) → Type 0
EndedAs None P (Done answer x) = P x
EndedAs (Some why) P (Aborted reason x) = (why ≡ reason) × P x
EndedAs _ P _ = ⊥
