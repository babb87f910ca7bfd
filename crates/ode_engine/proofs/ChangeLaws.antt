-- What a change of a class is answered, from the change and the drain behind it.
use Rattle.std.proofs.Common.{◌≡◌, ℕ, List, Bool, Result, Some, None, Ok, Err, refl}
use Rattle.ode_change.specs.Changing.{Changes}
use Rattle.ode_engine.proofs.ServeLaws.{HoldsNow, LeavesOne, quiet_serves, stopped_serves, unsettled_serves}
use Rattle.ode_engine.proofs.SessionLaws.{closed_session}
use Rattle.ode_engine.specs.Refusing.{IsUndamaged}
use Rattle.ode_engine.specs.Serving.{Serves}
use Rattle.ode_engine.specs.declared.commanding.State.{State}
use Rattle.ode_engine.specs.declared.commanding.State.TheVariants as state
use Rattle.ode_engine.specs.declared.engine.Done.{Done}
use Rattle.ode_engine.specs.declared.engine.Done.TheVariants as done
use Rattle.ode_good_laws.specs.Well.{IsWell}
use Rattle.ode_host.specs.Host.{Looks, Printed, Stands}
use Rattle.ode_host.specs.View.{View}
use Rattle.ode_keep.specs.Entries.{Entries}
use Rattle.ode_language.specs.Languages.{ode}
use Rattle.ode_machine.specs.Commands.{Step, does_change}
use Rattle.ode_machine.specs.Sessions.{Session, closed}
use Rattle.ode_machine.specs.Works.{changes_class}
use Rattle.ode_opened.specs.declared.opened.Opened.{Opened}
use Rattle.ode_transact.specs.Output.{counting, heard}
use Rattle.ode_transact.specs.Resting.{IsAtRest}
use Rattle.ode_transact.specs.Settling.{Meaning}
use Rattle.ode_transact.specs.declared.error.EngineError.{EngineError}
use Rattle.ode_transact.specs.declared.output.Output.{Output}
use Rattle.ode_value.specs.Answers.{Answer, ◌>>=◌}
use Rattle.ode_value.specs.Language.{ListWorld}
use Rattle.ode_value.specs.Objects.{Histories, Starts}
use Rattle.ode_value.specs.Pasts.{lists}
use Rattle.ode_value.specs.Settling.{Settled, transaction}
use Rattle.ode_value.specs.Transactions.{Script}
use Rattle.ode_value.specs.Worlds.{Declared}
use Rattle.ode_value.specs.declared.change.Change.{Change}
use Rattle.ode_value.specs.declared.reason.Refusal.{Refusal}

-- what a change is answered
abbrev pub change_answer : ListWorld → Change → Answer (List Declared) → Answer Step
change_answer w c a = a >>= (λ classes. Ok (does_change w classes c))

-- its transaction
abbrev pub change_settled : ListWorld → Change → List Declared → Settled Histories Starts
change_settled w c classes = transaction lists Script (changes_class lists classes c) w

module _ {H K : Type 0} (seen : H → View) (held : K → View → Entries → Type 0) (live : K → Bool) (means : Meaning)
    (stands : (keeper : K) (host : H) (entries : Entries) → held keeper (seen host) entries → (file : List ℕ) × Stands file (seen host) × means file entries)
    (text_stands : (host : H) (c o : List ℕ) → (seen host).left (seen host).moment c o → (seen host).text ≡ Some o) (start output : Output) (w : ListWorld) (c : Change) where
  abbrev Served : Session → Answer Step → Result (State K × Done) EngineError → H → H → Type 0
  Served session answer result old new = Serves seen held live means ode session answer result old new start output

  abbrev Now : ListWorld → H → Type 0
  Now = HoldsNow seen held live ode

  abbrev Leaves : ListWorld → Settled Histories Starts → H → H → Type 0
  Leaves = LeavesOne seen held live means ode stands text_stands start.quiet

  -- no answer came of it
  pub unchanged_serves : (e : EngineError) (old new : H) → Now w old → (a : Answer (List Declared)) → ((classes : List Declared) → a ≡ Ok classes → Leaves w (change_settled w c classes) old new)
      → ((why : Refusal) → a ≡ Err why → Looks (seen old) (seen new)) → IsUndamaged e → Served (closed w) (change_answer w c a) (Err e) old new
  unchanged_serves e old new now (Ok classes) settles refused sound = unsettled_serves seen held live means ode stands text_stands start output (closed w) (change_settled w c classes) e old new (settles classes refl) sound
  unchanged_serves e old new now (Err why) settles refused sound = stopped_serves seen held live means ode stands text_stands start output (closed w) (Err why) e old new now (refused why refl) sound

  -- it is refused
  pub refused_change_serves : (why : Refusal) (o : Opened K) (old new : H) (changed counted : List Declared → Type 0) → IsWell ode w → Now w old → (a : Answer (List Declared))
      → Changes a (Some why) (IsAtRest seen held live ode w o new) changed → Changes a (Some why) (output ≡ start) counted → ((said : Refusal) → a ≡ Err said → Looks (seen old) (seen new))
      → Served (closed w) (change_answer w c a) (Ok (state.Rest o, done.Refused why)) old new
  refused_change_serves why o old new changed counted well now (Err said) is same looks =
      quiet_serves seen held live means ode stands text_stands start output same.1 (closed w) (Err said) (state.Rest o) (done.Refused why) old new now (looks said refl) refl is.0 (closed_session w well) (refl, is.1)
  refused_change_serves why o old new changed counted well now (Ok classes) is same looks = absurd is

  -- the class got its fields, to the output that it left
  pub changed_serves : (middle : Output) (o : Opened K) (old mid new : H) (result : Result (State K × Done) EngineError) (unchanged same : Type 0) (a : Answer (List Declared))
      → Changes a None unchanged (λ classes. IsWell ode (change_settled w c classes).0
      → IsAtRest seen held live ode (change_settled w c classes).0 o mid × Printed (heard start.quiet (change_settled w c classes).1) (seen old) (seen mid))
      → Changes a None same (λ classes. IsWell ode (change_settled w c classes).0 → middle ≡ counting start (change_settled w c classes).1)
      → ((classes : List Declared) → a ≡ Ok classes → IsWell ode (change_settled w c classes).0)
      → ((classes : List Declared) → a ≡ Ok classes → IsWell ode (change_settled w c classes).0 → IsAtRest seen held live ode (change_settled w c classes).0 o mid
      → Printed (heard start.quiet (change_settled w c classes).1) (seen old) (seen mid) → middle ≡ counting start (change_settled w c classes).1
      → Served (closed w) (Ok (does_change w classes c)) result old new)
      → Served (closed w) (change_answer w c a) result old new
  changed_serves middle o old mid new result unchanged same (Ok classes) is counts well serves =
      let made = is (well classes refl) in serves classes refl (well classes refl) made.0 made.1 (counts (well classes refl))
  changed_serves middle o old mid new result unchanged same (Err why) is counts well serves = absurd is
