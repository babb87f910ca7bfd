-- A class is declared, or refused.
use Rattle.std.proofs.Common.{◌≡◌, List, [], Result, Some, None, Ok, Err, Bool, ℕ, refl, subst, sym}
use Rattle.std.specs.List.{AllByRecursion}
use Rattle.ode_again_laws.proofs.Parameters.{few_parameters}
use Rattle.ode_change.specs.Changing.{Declares}
use Rattle.ode_language.specs.Texts.{HasText}
use Rattle.ode_engine.proofs.ServeLaws.{HoldsNow, LeavesOne, quiet_serves, stopped_serves, unsettled_serves}
use Rattle.ode_engine.proofs.SessionLaws.{closed_session}
use Rattle.ode_engine.specs.Refusing.{IsUndamaged}
use Rattle.ode_engine.specs.Serving.{Serves}
use Rattle.ode_engine.specs.declared.commanding.State.{State}
use Rattle.ode_engine.specs.declared.commanding.State.TheVariants as state
use Rattle.ode_engine.specs.declared.engine.Done.{Done}
use Rattle.ode_engine.specs.declared.engine.Done.TheVariants as done
use Rattle.ode_good_laws.proofs.GoodAgain.{good_classes}
use Rattle.ode_good_laws.specs.Well.{IsWell}
use Rattle.ode_good_runs.proofs.Declaring.{declared_is}
use Rattle.ode_heap_laws.specs.Few.{HasFewParams}
use Rattle.ode_host.proofs.Moments.{looks_none}
use Rattle.ode_host.specs.Host.{Looks, Printed, Stands}
use Rattle.ode_host.specs.View.{View}
use Rattle.ode_keep.specs.Entries.{Entries}
use Rattle.ode_language.specs.Languages.{ode}
use Rattle.ode_language_laws.proofs.LanguageRuns.{reads_well, sound_rules}
use Rattle.ode_machine.specs.Commands.{Step, does_class}
use Rattle.ode_machine.specs.Refusals.{declared_in}
use Rattle.ode_machine.specs.Sessions.{Session, closed}
use Rattle.ode_machine.specs.Works.{declares}
use Rattle.ode_opened.specs.declared.opened.Opened.{Opened}
use Rattle.ode_transact.specs.Output.{counting, heard}
use Rattle.ode_transact.specs.Resting.{IsAtRest}
use Rattle.ode_transact.specs.Settling.{Meaning}
use Rattle.ode_transact.specs.declared.error.EngineError.{EngineError}
use Rattle.ode_transact.specs.declared.output.Output.{Output}
use Rattle.ode_value.specs.Answers.{Answer, ◌>>=◌}
use Rattle.ode_value.specs.GoodWorlds.{IsClass}
use Rattle.ode_value.specs.Language.{ListWorld}
use Rattle.ode_value.specs.Objects.{Histories, Starts}
use Rattle.ode_value.specs.Pasts.{lists}
use Rattle.ode_value.specs.Settling.{Settled, transaction}
use Rattle.ode_value.specs.Transactions.{Script}
use Rattle.ode_value.specs.Worlds.{Declared}
use Rattle.ode_value.specs.declared.reason.Refusal.{Refusal}
use Rattle.ode_value.specs.declared.statement.ClassDecl.{ClassDecl}
use Rattle.ode_value.specs.declared.statement.Statement.TheVariants as statement

-- the triggers of a class that is read have few parameters
pub few_kept : (w : ListWorld) → IsWell ode w → (d : ClassDecl) → HasText ode (statement.Class d) → (c : Declared) → declared_in ode w.bones d ≡ Ok c → AllByRecursion HasFewParams c.class.triggers
few_kept w well d text c is =
    let class : IsClass ode w.bones.added w.bones.classes c = declared_is ode sound_rules reads_well text.0 d text.1 w.bones c (good_classes ode w.bones well.good.bones) is in
    few_parameters _ c.tree _ _ c.class class.text class.checked

-- a host that nothing was done to
pub same_looks : {H : Type 0} (seen : H → View) (old new : H) → new ≡ old → Looks (seen old) (seen new)
same_looks {H = H} seen old new same = subst (λ (host : H). Looks (seen old) (seen host)) (sym same) (looks_none (seen old))

-- what a declaration is answered
abbrev pub class_answer : ListWorld → Answer Declared → Answer Step
class_answer w a = a >>= (λ c. Ok (does_class w c))

-- its transaction
abbrev pub class_settled : ListWorld → Declared → Settled Histories Starts
class_settled w c = transaction lists Script (declares c) w

module _ {H K : Type 0} (seen : H → View) (held : K → View → Entries → Type 0) (live : K → Bool) (means : Meaning)
    (stands : (keeper : K) (host : H) (entries : Entries) → held keeper (seen host) entries → (file : List ℕ) × Stands file (seen host) × means file entries)
    (text_stands : (host : H) (c o : List ℕ) → (seen host).left (seen host).moment c o → (seen host).text ≡ Some o) (start output : Output) where
  abbrev Served : Session → Answer Step → Result (State K × Done) EngineError → H → H → Type 0
  Served session answer result old new = Serves seen held live means ode session answer result old new start output

  abbrev Now : ListWorld → H → Type 0
  Now = HoldsNow seen held live ode

  abbrev Leaves : ListWorld → Settled Histories Starts → H → H → Type 0
  Leaves = LeavesOne seen held live means ode stands text_stands start.quiet

  -- no file came of it
  pub undeclared_serves : (w : ListWorld) (e : EngineError) (old new : H) → Now w old → (a : Answer Declared) → ((c : Declared) → a ≡ Ok c → Leaves w (class_settled w c) old new)
      → ((why : Refusal) → a ≡ Err why → Looks (seen old) (seen new)) → IsUndamaged e → Served (closed w) (class_answer w a) (Err e) old new
  undeclared_serves w e old new now (Ok c) settles refused sound = unsettled_serves seen held live means ode stands text_stands start output (closed w) (class_settled w c) e old new (settles c refl) sound
  undeclared_serves w e old new now (Err why) settles refused sound = stopped_serves seen held live means ode stands text_stands start output (closed w) (Err why) e old new now (refused why refl) sound

  -- it is refused
  pub refused_class_serves : (w : ListWorld) (why : Refusal) (o : Opened K) (old new : H) (declared counted : Declared → Type 0) → IsWell ode w → Now w old → (a : Answer Declared)
      → Declares a (Some why) (IsAtRest seen held live ode w o new) declared → Declares a (Some why) (output ≡ start) counted → ((said : Refusal) → a ≡ Err said → Looks (seen old) (seen new))
      → Served (closed w) (class_answer w a) (Ok (state.Rest o, done.Refused why)) old new
  refused_class_serves w why o old new declared counted well now (Err said) is same looks =
      quiet_serves seen held live means ode stands text_stands start output same.1 (closed w) (Err said) (state.Rest o) (done.Refused why) old new now (looks said refl) refl is.0 (closed_session w well) (refl, is.1)
  refused_class_serves w why o old new declared counted well now (Ok c) is same looks = absurd is

  -- it is declared, to the output that it left
  pub declared_serves : (middle : Output) (w : ListWorld) (o : Opened K) (old mid new : H) (result : Result (State K × Done) EngineError) (unchanged same : Type 0) (a : Answer Declared)
      → Declares a None unchanged (λ c. AllByRecursion HasFewParams c.class.triggers → IsWell ode (class_settled w c).0
      → IsAtRest seen held live ode (class_settled w c).0 o mid × Printed (heard start.quiet (class_settled w c).1) (seen old) (seen mid))
      → Declares a None same (λ c. AllByRecursion HasFewParams c.class.triggers → IsWell ode (class_settled w c).0 → middle ≡ counting start (class_settled w c).1)
      → ((c : Declared) → a ≡ Ok c → AllByRecursion HasFewParams c.class.triggers)
      → ((c : Declared) → a ≡ Ok c → IsWell ode (class_settled w c).0)
      → ((c : Declared) → a ≡ Ok c → IsWell ode (class_settled w c).0 → IsAtRest seen held live ode (class_settled w c).0 o mid → Printed (heard start.quiet (class_settled w c).1) (seen old) (seen mid)
      → middle ≡ counting start (class_settled w c).1 → Served (closed w) (Ok (does_class w c)) result old new)
      → Served (closed w) (class_answer w a) result old new
  declared_serves middle w o old mid new result unchanged same (Ok c) is counts few well serves =
      let made = is (few c refl) (well c refl) in serves c refl (well c refl) made.0 made.1 (counts (few c refl) (well c refl))
  declared_serves middle w o old mid new result unchanged same (Err why) is counts few well serves = absurd is
