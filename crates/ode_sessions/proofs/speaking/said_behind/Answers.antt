use Rattle.std.proofs.Common.{◌∙◌, ap, refl, subst, sym}
use Rattle.ode_language.specs.Languages.{statement_of}
use Rattle.ode_sessions.proofs.PlacesLaws.{may_move}
use Rattle.ode_sessions.proofs.SpokenLaws.{behind_short}
use Rattle.ode_sessions.specs.Speaking.{IsSpoken, said_by}
use Rattle.ode_sessions.specs.declared.speaking.Spoken.TheVariants as said
use Rattle.ode_value.specs.Answers.{Answer}
use Rattle.ode_value.specs.declared.statement.Statement.{Statement}
use Rattle.ode_sessions.proofs.speaking.said_behind.Goals as goal

pub read_statement-requires : goal.read_statement-requires
read_statement-requires c = behind_short c.args.text.now c.behind.result.now c.args.end c.behind.ensures c.requires.short

pub moved-requires : goal.moved-requires
moved-requires c = may_move c.args.text.now c.behind.result.now c.args.end c.in-Err-Refused.why c.behind.ensures c.requires.within c.requires.short (rw c.in-Err-Refused.field-0-is at c.in-Err-Refused.ensures)

pub returns-in-Ok-clause-spoken : goal.returns-in-Ok-clause-spoken
returns-in-Ok-clause-spoken c =
    let read = ap statement_of (sym c.behind.ensures) ∙ c.in-Ok.ensures in
    subst (λ (a : Answer Statement). IsSpoken (said.Says c.args.session c.in-Ok.statement) (said_by c.args.session c.args.end a)) (sym read) (refl, refl)

pub returns-in-Ok-clause-text : goal.returns-in-Ok-clause-text
returns-in-Ok-clause-text c = (c.behind.result.now, c.in-Ok.ensures)

pub returns-in-Err-Refused-clause-spoken : goal.returns-in-Err-Refused-clause-spoken
returns-in-Err-Refused-clause-spoken c =
    let read = ap statement_of (sym c.behind.ensures) ∙ (rw c.in-Err-Refused.field-0-is at c.in-Err-Refused.ensures) in
    subst (λ (a : Answer Statement). IsSpoken (said.Unread c.moved.result) (said_by c.args.session c.args.end a)) (sym read) c.moved.ensures
