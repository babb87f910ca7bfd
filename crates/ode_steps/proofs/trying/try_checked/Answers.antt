use Rattle.std.proofs.Common.{◌∙◌, subst}
use Rattle.std.specs.Prelude.{IfOk}
use Rattle.ode_interleaved_laws.specs.Serial.{taken_of}
use Rattle.ode_language.specs.Languages.{ode}
use Rattle.ode_machine.specs.Interleaving.{Ends, Trial}
use Rattle.ode_transact.specs.Contexts.{ContextRuns, Ctx}
use Rattle.ode_steps.proofs.TryLaws.{tries_open, tries_whole}
use Rattle.ode_steps.specs.Trying.{TriedAs, whole_deed}
use Rattle.ode_value.specs.Language.{ListTx}
use Rattle.ode_value.specs.declared.statement.Stmt.{Stmt}
use Rattle.ode_steps.proofs.trying.try_checked.Goals as goal

pub returns-then-is_open-clause-tried : goal.returns-then-is_open-clause-tried
returns-then-is_open-clause-tried g c w x own is runs =
    let after : Ctx g.row.K.Denot → ListTx → Type 0 = λ (ctx : Ctx g.row.K.Denot). ContextRuns g.H.Host.view g.K.Keep.holds g.K.Keep.live ode w ctx c.try_open.new.host in
    subst (λ (t : Trial). IfOk c.try_open.result (λ q. TriedAs (taken_of own) after q t)) (tries_open own (is ∙ c.if-is_open.true) c.args.taken.literals x c.args.taken.checked)
    (c.try_open.ensures.tried w x (taken_of own) runs)

pub returns-else-is_open-clause-tried : goal.returns-else-is_open-clause-tried
returns-else-is_open-clause-tried g c w x own is runs =
    let after : Ctx g.row.K.Denot → ListTx → Type 0 = λ (ctx : Ctx g.row.K.Denot). ContextRuns g.H.Host.view g.K.Keep.holds g.K.Keep.live ode w ctx c.try_whole.new.host in
    subst (λ (t : Trial). IfOk c.try_whole.result (λ q. TriedAs (taken_of own) after q t)) (tries_whole own (is ∙ c.if-is_open.false) c.args.taken.literals x c.args.taken.checked)
    (subst (λ (s : Stmt). IfOk c.try_whole.result (λ q. TriedAs (taken_of own) after q (Ends (whole_deed s x)))) c.get.ensures (c.try_whole.ensures.tried w x (taken_of own) runs))
