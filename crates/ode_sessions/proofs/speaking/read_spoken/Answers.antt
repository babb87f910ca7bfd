use Rattle.std.proofs.Common.{◌∙◌, Some, None, ap, subst, sym}
use Rattle.std.specs.Prelude.{IfOk}
use Rattle.ode_machine.specs.Conversation.{Spoken}
use Rattle.ode_sessions.proofs.PlacesLaws.{colon_within}
use Rattle.ode_sessions.proofs.SpokenLaws.{spoken_is}
use Rattle.ode_sessions.specs.Speaking.{IsSpoken, named}
use Rattle.ode_sessions.specs.declared.speaking.Spoken.TheVariants as said
use Rattle.ode_sessions.specs.declared.speaking.Spoken as code
use Rattle.ode_sessions.proofs.speaking.read_spoken.Goals as goal

pub said_behind-requires-clause-within : goal.said_behind-requires-clause-within
said_behind-requires-clause-within c =
    colon_within c.args.text.now c.in-Ok.found c.in-Some.session c.in-Some.end c.in-Ok.ensures.each (ap named (sym c.as_slice.ensures) ∙ sym c.named.ensures ∙ c.in-Some.is)

pub returns-in-Some-clause-spoken : goal.returns-in-Some-clause-spoken
returns-in-Some-clause-spoken c =
    subst (λ (t : Spoken). IfOk c.said_behind.result (λ (s : code.Spoken). IsSpoken s t))
    (spoken_is c.args.text.now c.in-Ok.found (Some (c.in-Some.session, c.in-Some.end)) c.in-Ok.ensures.ok (sym c.in-Some.is ∙ c.named.ensures ∙ ap named c.as_slice.ensures))
    c.said_behind.ensures.spoken

pub returns-in-Ok-clause-spoken : goal.returns-in-Ok-clause-spoken
returns-in-Ok-clause-spoken c =
    subst (λ (t : Spoken). IsSpoken said.NoSession t)
    (spoken_is c.args.text.now c.in-Ok.found None c.in-Ok.ensures.ok (sym c.in-None.is ∙ c.named.ensures ∙ ap named c.as_slice.ensures)) tt
