use Rattle.std.proofs.Common.{◌∙◌, Ok, ap, subst, sym}
use Rattle.std.proofs.lemmas.Result.{on_ok_weaker}
use Rattle.std.specs.Prelude.{OnOk, Result}
use Rattle.ode_engine.specs.Serving.{answer_to, settlings}
use Rattle.ode_engine.specs.declared.engine.Done.{Done}
use Rattle.ode_language.specs.Languages.{ode}
use Rattle.ode_language.specs.declared.reading.Piece.TheVariants as given
use Rattle.ode_machine.specs.Commands.{Step, changes, command}
use Rattle.ode_ends.proofs.CallLaws.{damage_gives}
use Rattle.ode_trace.proofs.EngineLaws.{called_commands, changed_commands, command_changed, command_said, has_change, has_statement, unread_logs, unread_stops, unread_told}
use Rattle.ode_trace.proofs.HearingLaws.{moments_heard, printed_heard}
use Rattle.ode_trace.specs.Running.{Commands}
use Rattle.ode_transact.proofs.LogLaws.{grown_none}
use Rattle.ode_transact.specs.Logging.{Logs}
use Rattle.ode_transact.specs.Resting.{HoldsBy}
use Rattle.ode_transact.specs.declared.error.EngineError.{EngineError}
use Rattle.ode_transact.specs.declared.output.Output.{Output}
use Rattle.ode_value.specs.Answers.{Answer}
use Rattle.ode_trace.proofs.run.command_piece.Goals as goal

pub command-requires-clause-text : goal.command-requires-clause-text
command-requires-clause-text g c =
    let read = c.in-Ok-Statement.ensures ∙ ap Ok (c.in-Ok-Statement.field-0-is ∙ ap (λ s. given.Statement s) (sym (c.get.ensures ∙ c.in_ok-statement-in-Ok-Statement.ensures))) in
    (c.args.text.now, has_statement c.args.text.now c.get.result.now read)

pub returns-in_ok-statement-in-Ok-Statement-clause-commands : goal.returns-in_ok-statement-in-Ok-Statement-clause-commands
returns-in_ok-statement-in-Ok-Statement-clause-commands g c session stands =
    let read = c.in-Ok-Statement.ensures ∙ ap Ok (c.in-Ok-Statement.field-0-is ∙ ap (λ s. given.Statement s) (sym (c.get.ensures ∙ c.in_ok-statement-in-Ok-Statement.ensures))) in
    called_commands g.H.Host.view g.K.Keep.holds g.K.Keep.live g.K.Keep.means g.met.K.Keep.stands g.met.K.Keep.stays session c.args.text.now c.get.result.now c.args.engine.now c.command.result c.command.new.self c.args.host.now c.command.new.host read
    (record {
      answers = c.command.ensures.answer session stands;
      stands = c.command.ensures.stands session stands;
      printed = printed_heard c.command.result c.args.engine.now.quiet (settlings (answer_to ode session c.get.result.now)) (g.H.Host.view c.args.host.now) (g.H.Host.view c.command.new.host) (c.command.ensures.printed session stands);
      counts = on_ok_weaker c.command.result (λ is. ap (λ (o : Output). o.counted) is) (c.command.ensures.counts session stands);
      any_moment = λ said more told.
          moments_heard (HoldsBy ode g.K.Keep.means) c.args.engine.now.quiet (settlings (answer_to ode session c.get.result.now)) more session.world said (g.H.Host.view c.args.host.now) (g.H.Host.view c.command.new.host)
          (c.command.ensures.any_moment session said more stands told);
      sound = damage_gives c.command.result _ ⊥ (λ none. none session stands) c.command.ensures.undamaged;
    })

pub returns-in_ok-statement-in-Ok-Statement-clause-logs : goal.returns-in_ok-statement-in-Ok-Statement-clause-logs
returns-in_ok-statement-in-Ok-Statement-clause-logs g c session entries stands disk =
    let read = c.in-Ok-Statement.ensures ∙ ap Ok (c.in-Ok-Statement.field-0-is ∙ ap (λ s. given.Statement s) (sym (c.get.ensures ∙ c.in_ok-statement-in-Ok-Statement.ensures))) in
    subst (λ (a : Answer Step). OnOk c.command.result (Logs g.K.Keep.means ode session.world entries (settlings a) c.args.engine.now.log c.command.new.self.log (g.H.Host.view c.command.new.host)))
    (sym (command_said session c.args.text.now c.get.result.now read)) (c.command.ensures.logs session entries stands disk)

pub change-requires-clause-text : goal.change-requires-clause-text
change-requires-clause-text g c = (c.args.text.now, has_change c.args.text.now c.in-Ok-Change.change (c.in-Ok-Change.ensures ∙ ap Ok c.in-Ok-Change.field-0-is))

pub returns-in-Ok-Change-clause-commands : goal.returns-in-Ok-Change-clause-commands
returns-in-Ok-Change-clause-commands g c session stands =
    let settled = settlings (changes ode session c.in-Ok-Change.change) in
    changed_commands g.H.Host.view g.K.Keep.holds g.K.Keep.live g.K.Keep.means g.met.K.Keep.stands g.met.K.Keep.stays session c.args.text.now c.in-Ok-Change.change c.args.engine.now c.change.result c.change.new.self c.args.host.now c.change.new.host (c.in-Ok-Change.ensures ∙ ap Ok c.in-Ok-Change.field-0-is)
    (record {
      answers = c.change.ensures.answer session stands;
      stands = c.change.ensures.stands session stands;
      printed = printed_heard c.change.result c.args.engine.now.quiet settled (g.H.Host.view c.args.host.now) (g.H.Host.view c.change.new.host) (c.change.ensures.printed session stands);
      counts = on_ok_weaker c.change.result (λ is. ap (λ (o : Output). o.counted) is) (c.change.ensures.counts session stands);
      any_moment = λ said more told.
          moments_heard (HoldsBy ode g.K.Keep.means) c.args.engine.now.quiet settled more session.world said (g.H.Host.view c.args.host.now) (g.H.Host.view c.change.new.host)
          (c.change.ensures.any_moment session said more stands told);
      sound = damage_gives c.change.result _ ⊥ (λ none. none session stands) c.change.ensures.undamaged;
    })

pub returns-in-Ok-Change-clause-logs : goal.returns-in-Ok-Change-clause-logs
returns-in-Ok-Change-clause-logs g c session entries stands disk =
    subst (λ (a : Answer Step). OnOk c.change.result (Logs g.K.Keep.means ode session.world entries (settlings a) c.args.engine.now.log c.change.new.self.log (g.H.Host.view c.change.new.host)))
    (sym (command_changed session c.args.text.now c.in-Ok-Change.change (c.in-Ok-Change.ensures ∙ ap Ok c.in-Ok-Change.field-0-is))) (c.change.ensures.logs session entries stands disk)

pub returns-in-Err-clause-commands : goal.returns-in-Err-clause-commands
returns-in-Err-clause-commands g c session stands =
    subst (λ (r : Result Done EngineError). Commands g.H.Host.view g.K.Keep.holds g.K.Keep.live g.K.Keep.means session (command ode session c.args.text.now) c.args.engine.now r c.args.engine.now c.args.host.now c.args.host.now) (sym c.unread.ensures)
    (unread_stops g.H.Host.view g.K.Keep.holds g.K.Keep.live g.K.Keep.means g.met.K.Keep.stands g.met.K.Keep.stays session c.args.text.now c.in-Err.stop c.args.engine.now c.args.host.now c.in-Err.ensures stands)

pub returns-in-Err-clause-leaves : goal.returns-in-Err-clause-leaves
returns-in-Err-clause-leaves g c = rw c.unread.ensures (unread_told c.in-Err.stop (g.H.Host.view c.args.host.now))

pub returns-in-Err-clause-logs : goal.returns-in-Err-clause-logs
returns-in-Err-clause-logs g c session entries stands disk =
    subst (λ (r : Result Done EngineError). OnOk r (Logs g.K.Keep.means ode session.world entries (settlings (command ode session c.args.text.now)) c.args.engine.now.log c.args.engine.now.log (g.H.Host.view c.args.host.now))) (sym c.unread.ensures)
    (unread_logs g.H.Host.view g.K.Keep.holds g.K.Keep.live g.K.Keep.means g.met.K.Keep.stands g.met.K.Keep.stays session c.args.text.now entries c.in-Err.stop c.args.engine.now c.args.host.now c.in-Err.ensures disk)

pub returns-in-Err-clause-grown : goal.returns-in-Err-clause-grown
returns-in-Err-clause-grown g c = grown_none c.args.engine.now.log

pub returns-in_err-statement-in-Ok-Statement-clause-grown : goal.returns-in_err-statement-in-Ok-Statement-clause-grown
returns-in_err-statement-in-Ok-Statement-clause-grown g c = grown_none c.args.engine.now.log
