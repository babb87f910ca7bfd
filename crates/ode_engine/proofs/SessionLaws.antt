-- Sessions go on: what a transaction that has come from a world that is well leaves is well again.
use Rattle.std.proofs.Common.{◌≡◌, ◌<◌, List, [], ◌∷◌, Option, Result, Ok, Err, None, Some, ap, arith, refl, subst, sym}
use Rattle.std.specs.List.{AllByRecursion}
use Rattle.ode_change.specs.Changing.{HasChange}
use Rattle.ode_language.specs.Texts.{HasText}
use Rattle.ode_engine.specs.Serving.{HasCome, HasComeOpen, IsSession, Line}
use Rattle.ode_good_laws.proofs.GoodAgain.{drain_well, good_classes, statement_well}
use Rattle.ode_good_laws.specs.Well.{IsWell}
use Rattle.ode_good_runs.proofs.Changing.{change_well}
use Rattle.ode_good_runs.proofs.Declaring.{class_well, declared_is}
use Rattle.ode_good_runs.proofs.Going.{Goes, IsFirst, IsGoing, begun_going, commits_well, settles_well, statement_goes, well_first}
use Rattle.ode_good_runs.proofs.Literals.{literals_fit, then_ok}
use Rattle.ode_language.specs.Languages.{ode}
use Rattle.ode_language_laws.proofs.LanguageRuns.{reads_well, sound_changes, sound_rules}
use Rattle.ode_machine.specs.Commands.{after, commits, settles}
use Rattle.ode_machine.specs.Refusals.{changed_in, checked_in, classes_behind, classes_in, declared_in}
use Rattle.ode_machine.specs.Sessions.{Session, closed, opened}
use Rattle.ode_machine.specs.Works.{changes_class, declares}
use Rattle.ode_sound_laws.specs.Sound.{checked_classes}
use Rattle.ode_value.specs.Acts.{Aborted, Done}
use Rattle.ode_value.specs.Answers.{checks}
use Rattle.ode_value.specs.Draining.{drain, world_after}
use Rattle.ode_value.specs.Executing.{commands}
use Rattle.ode_value.specs.Language.{ListTx, ListWorld, Settlings}
use Rattle.ode_value.specs.Limits.{drain_limit, number_limit, transaction_limit}
use Rattle.ode_value.specs.Objects.{Histories, Starts}
use Rattle.ode_value.specs.Pasts.{lists}
use Rattle.ode_value.specs.Settling.{Settled, abort, transaction}
use Rattle.ode_value.specs.Transactions.{Script, begun}
use Rattle.ode_value.specs.Worlds.{Declared}
use Rattle.ode_value.specs.declared.change.Change.{Change}
use Rattle.ode_value.specs.declared.reason.CheckError.{CheckError}
use Rattle.ode_value.specs.declared.reason.Reason.{Reason}
use Rattle.ode_value.specs.declared.statement.ClassDecl.{ClassDecl}
use Rattle.ode_value.specs.declared.statement.Statement.TheVariants as statement
use Rattle.ode_value.specs.declared.statement.Stmt.{Stmt}

-- what was checked passed the static rules
check_passed : (r : Result Stmt CheckError) (c : Stmt) → checks r ≡ Ok c → r ≡ Ok c
check_passed (Ok s) c is = cc (is)
check_passed (Err error) c is = absurd (cc (is))

pub room : (w : ListWorld) → w.bones.transaction < number_limit → w.bones.transaction < transaction_limit
room w less = omega (arith, less)

module _ (w : ListWorld) (well : IsWell ode w) where
  first : IsFirst w
  first = well_first ode w well

  -- ---- an open transaction

  statement_went : (y : ListTx) → IsGoing w first y → (read s : Stmt) → HasText ode (statement.Simple read) → checked_in ode y.now.bones read ≡ Ok s → Goes w first (commands lists s y)
  statement_went y going read s text checked =
      let parts = then_ok (classes_behind y.now.bones (ode.literals read)) (λ classes. checks (ode.checked (classes_in y.now.bones) classes read)) s checked in
      statement_goes w first y going parts.0 (literals_fit y.now.bones going.typed.now (ode.literals read) (reads_well.literals text.0 read text.1) parts.0 parts.1) s
      (sound_rules.checked (checked_classes y.now.bones.classes) parts.0 read s (check_passed (ode.checked (classes_in y.now.bones) parts.0 read) s parts.2))

  come_going : (before : List (Line ode)) (x : ListTx) → HasCome ode w before x → IsGoing w first x
  come_going [] x is = subst (λ (t : ListTx). IsGoing w first t) (sym is) (begun_going w first)
  come_going (s ∷ before) x came =
      subst (Goes w first) came.4 (statement_went came.0 (come_going before came.0 came.1) s.0 s.1 came.2 came.3)

  abort_going : w.bones.transaction < number_limit → (reason : Reason) (x : ListTx) → IsGoing w first x → IsWell ode (abort lists reason x).0
  abort_going left reason x going = settles_well w first ode (good_classes ode w.bones well.good.bones) (room w left) well.good.bones.clock (Aborted reason x) going well.good.bones.light

  -- it is aborted, by a statement of its own too
  pub aborted_well : (x : ListTx) → HasComeOpen ode w (Some x) → (reason : Reason) → IsWell ode (abort lists reason x).0
  aborted_well x came reason = abort_going came.0 reason x (come_going came.1 x came.2)

  pub fell_well : (y : ListTx) → HasComeOpen ode w (Some y) → (read s : Stmt) → HasText ode (statement.Simple read) → checked_in ode y.now.bones read ≡ Ok s
      → (reason : Reason) (x : ListTx) → commands lists s y ≡ Aborted reason x → IsWell ode (abort lists reason x).0
  fell_well y came read s text checked reason x is = abort_going came.0 reason x (subst (Goes w first) is (statement_went y (come_going came.1 y came.2) read s text checked))

  -- it is committed
  pub committed_well : (x : ListTx) → HasComeOpen ode w (Some x) → IsWell ode (commits x).0
  committed_well x came = commits_well w first ode (good_classes ode w.bones well.good.bones) (room w came.0) well.good.bones.clock well.good.bones.light x (come_going came.1 x came.2)

  -- ---- a transaction of its own

  pub simple_well : w.bones.transaction < number_limit → (read s : Stmt) → HasText ode (statement.Simple read) → checked_in ode w.bones read ≡ Ok s → IsWell ode (transaction lists Script (commands lists s) w).0
  simple_well left read s text checked =
      let parts = then_ok (classes_behind w.bones (ode.literals read)) (λ classes. checks (ode.checked (classes_in w.bones) classes read)) s checked in
      statement_well ode w well (room w left) parts.0 (literals_fit w.bones first.typed.fit (ode.literals read) (reads_well.literals text.0 read text.1) parts.0 parts.1) s
      (sound_rules.checked (checked_classes w.bones.classes) parts.0 read s (check_passed (ode.checked (classes_in w.bones) parts.0 read) s parts.2))

  pub class_is_well : w.bones.transaction < number_limit → (d : ClassDecl) → HasText ode (statement.Class d) → (c : Declared) → declared_in ode w.bones d ≡ Ok c → IsWell ode (transaction lists Script (declares c) w).0
  class_is_well left d text c is = class_well ode sound_rules w well (room w left) c (declared_is ode sound_rules reads_well text.0 d text.1 w.bones c (good_classes ode w.bones well.good.bones) is)

  pub change_is_well : w.bones.transaction < number_limit → (c : Change) → HasChange ode c → (classes : List Declared) → changed_in ode w.bones c ≡ Ok classes
      → IsWell ode (transaction lists Script (changes_class lists classes c) w).0
  change_is_well left c text classes is = change_well ode w well (room w left) classes c (sound_changes.changed text.0 c text.1 w well classes is)

-- ---- the session behind

last_well : (w : ListWorld) (settled : Settlings) → IsWell ode w → AllByRecursion (λ (s : Settled Histories Starts). IsWell ode s.0) settled → IsWell ode (world_after w settled)
last_well w [] well all = well
last_well w (s ∷ settled) well all = last_well s.0 settled all.0 all.1

pub drained_session : (w : ListWorld) → IsWell ode w → IsSession ode (after w (drain lists drain_limit w)).0
drained_session w well = record { well = last_well w (drain lists drain_limit w) well (drain_well ode drain_limit w well); came = tt }

pub settled_session : (s : Settled Histories Starts) → IsWell ode s.0 → IsSession ode (settles s).0
settled_session s well = record { well = last_well s.0 (drain lists drain_limit s.0) well (drain_well ode drain_limit s.0 well); came = tt }

pub closed_session : (w : ListWorld) → IsWell ode w → IsSession ode (closed w)
closed_session w well = record { well = well; came = tt }

pub begun_session : (w : ListWorld) → IsWell ode w → w.bones.transaction < number_limit → IsSession ode (opened w (begun Script w))
begun_session w well left = record { well = well; came = (left, [], refl) }

pub more_session : (w : ListWorld) (y x : ListTx) → IsSession ode (opened w y) → (read s : Stmt) → HasText ode (statement.Simple read) → checked_in ode y.now.bones read ≡ Ok s → commands lists s y ≡ Done tt x
    → IsSession ode (opened w x)
more_session w y x session read s text checked is =
    record { well = session.well; came = (session.came.0, (read, s) ∷ session.came.1, (y, session.came.2, text, checked, is)) }

-- ---- a session by its world and its transaction

pub closed_is : (session : Session) → session.open_tx ≡ None → closed session.world ≡ session
closed_is session is = ap (λ (o : Option ListTx). record { world = session.world; open_tx = o }) (sym is)

pub opened_is : (session : Session) (t : ListTx) → session.open_tx ≡ Some t → opened session.world t ≡ session
opened_is session t is = ap (λ (o : Option ListTx). record { world = session.world; open_tx = o }) (sym is)
