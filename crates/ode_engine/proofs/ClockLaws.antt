-- The clock comes to an instant, or is refused.
use Rattle.std.proofs.Common.{◌≡◌, ℕ, ℤ, List, ◌++◌, Bool, Result, Some, Ok, Err, length, refl}
use Rattle.ode_clock.specs.Clocking.{Clocks, clock_settled}
use Rattle.ode_engine.proofs.ServeLaws.{HoldsNow, quiet_serves, stopped_serves}
use Rattle.ode_engine.proofs.SessionLaws.{closed_session}
use Rattle.ode_engine.specs.Refusing.{IsUndamaged}
use Rattle.ode_engine.specs.Serving.{Serves}
use Rattle.ode_engine.specs.declared.commanding.State.{State}
use Rattle.ode_engine.specs.declared.commanding.State.TheVariants as state
use Rattle.ode_engine.specs.declared.engine.Done.{Done}
use Rattle.ode_engine.specs.declared.engine.Done.TheVariants as done
use Rattle.ode_good_laws.specs.Well.{IsWell}
use Rattle.ode_host.specs.Host.{LeavesOnly, Looks, Printed, Stands}
use Rattle.ode_host.specs.View.{View}
use Rattle.ode_keep.specs.Entries.{Entries}
use Rattle.ode_language.specs.Languages.{ode}
use Rattle.ode_machine.specs.Commands.{Step, does_clock}
use Rattle.ode_machine.specs.Moments.{IsAfterSome}
use Rattle.ode_machine.specs.Runs.{Item}
use Rattle.ode_machine.specs.Sessions.{Session, closed}
use Rattle.ode_opened.specs.declared.opened.Opened.{Opened}
use Rattle.ode_transact.specs.Items.{items_of, texts_of}
use Rattle.ode_transact.specs.Output.{all_heard, counting}
use Rattle.ode_transact.specs.Resting.{HoldsBy, IsAtRest}
use Rattle.ode_transact.specs.Settling.{Meaning}
use Rattle.ode_transact.specs.declared.error.EngineError.{EngineError}
use Rattle.ode_transact.specs.declared.output.Output.{Output}
use Rattle.ode_value.specs.Answers.{Answer, ◌>>=◌}
use Rattle.ode_value.specs.Draining.{world_after}
use Rattle.ode_value.specs.Language.{ListWorld}
use Rattle.ode_value.specs.Worlds.{Position}
use Rattle.ode_value.specs.declared.reason.Refusal.{Refusal}

-- what a clock command is answered
abbrev pub clock_answer : ListWorld → Answer (ℤ × List Position) → Answer Step
clock_answer w a = a >>= (λ t. Ok (does_clock w t))

module _ {H K : Type 0} (seen : H → View) (held : K → View → Entries → Type 0) (live : K → Bool) (means : Meaning)
    (stands : (keeper : K) (host : H) (entries : Entries) → held keeper (seen host) entries → (file : List ℕ) × Stands file (seen host) × means file entries)
    (text_stands : (host : H) (c o : List ℕ) → (seen host).left (seen host).moment c o → (seen host).text ≡ Some o) (start output : Output) where
  abbrev Served : Session → Answer Step → Result (State K × Done) EngineError → H → H → Type 0
  Served session answer result old new = Serves seen held live means ode session answer result old new start output

  abbrev Now : ListWorld → H → Type 0
  Now = HoldsNow seen held live ode

  -- what a stop leaves of its ticks
  abbrev pub LeavesTicks : ListWorld → ℤ × List Position → H → H → Type 0
  LeavesTicks w t old new = (said : List ℕ) (more : List Item) → (seen old).text ≡ Some said → LeavesOnly (seen old) (seen new) (IsAfterSome (HoldsBy ode means) (items_of (all_heard start.quiet (clock_settled w t)) ++ more) w said)

  -- an error came of it
  pub unclocked_serves : (w : ListWorld) (e : EngineError) (old new : H) → Now w old → (a : Answer (ℤ × List Position)) → ((t : ℤ × List Position) → a ≡ Ok t → LeavesTicks w t old new)
      → ((why : Refusal) → a ≡ Err why → Looks (seen old) (seen new)) → IsUndamaged e → Served (closed w) (clock_answer w a) (Err e) old new
  unclocked_serves w e old new now (Ok t) moments looks sound = record { answers = tt; goes_on = tt; stands = tt; printed = tt; counts = tt; any_moment = moments t refl; sound = sound }
  unclocked_serves w e old new now (Err why) moments looks sound = stopped_serves seen held live means ode stands text_stands start output (closed w) (Err why) e old new now (looks why refl) sound

  -- it is refused
  pub refused_clock_serves : (w : ListWorld) (why : Refusal) (o : Opened K) (old new : H) (settled counted : ℤ × List Position → ℕ → Type 0) → IsWell ode w → Now w old → (a : Answer (ℤ × List Position))
      → Clocks a (Err why) (IsAtRest seen held live ode w o new) settled → Clocks a (Err why) (output ≡ start) counted → Looks (seen old) (seen new) → Served (closed w) (clock_answer w a) (Ok (state.Rest o, done.Refused why)) old new
  refused_clock_serves w why o old new settled counted well now (Err said) is same looks =
      quiet_serves seen held live means ode stands text_stands start output same.1 (closed w) (Err said) (state.Rest o) (done.Refused why) old new now looks refl is.0 (closed_session w well) (refl, is.1)
  refused_clock_serves w why o old new settled counted well now (Ok t) is same looks = absurd is

  -- it is carried out
  pub clocked_serves : (w : ListWorld) (count : ℕ) (o : Opened K) (old new : H) (unchanged same : Type 0) → (a : Answer (ℤ × List Position))
      → Clocks a (Ok count) unchanged (λ t n. (n ≡ length (clock_settled w t)) × IsAtRest seen held live ode (world_after w (clock_settled w t)) o new × Printed (texts_of (all_heard start.quiet (clock_settled w t))) (seen old) (seen new))
      → Clocks a (Ok count) same (λ t n. output ≡ counting start (texts_of (clock_settled w t)))
      → ((t : ℤ × List Position) → a ≡ Ok t → IsWell ode (world_after w (clock_settled w t))) → ((t : ℤ × List Position) → a ≡ Ok t → LeavesTicks w t old new)
      → Served (closed w) (clock_answer w a) (Ok (state.Rest o, done.Settled count)) old new
  clocked_serves w count o old new unchanged same (Ok t) is counts wells moments = record {
    answers = is.0;
    goes_on = closed_session (world_after w (clock_settled w t)) (wells t refl);
    stands = (refl, is.1);
    printed = is.2;
    counts = counts;
    any_moment = moments t refl;
    sound = tt;
  }
  clocked_serves w count o old new unchanged same (Err why) is counts wells moments = absurd is
