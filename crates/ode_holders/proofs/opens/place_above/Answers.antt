use Rattle.std.proofs.Common.{Option, length, ℕ, ap, ◌∙◌}
use Rattle.std.specs.Option.{unwrap_or}
use Rattle.std.specs.Prelude.{nat_lt}
use Rattle.ode_holders.proofs.PlaceLaws.{or_end}
use Rattle.ode_holders.specs.declared.opens.Open.{Open as Session}
use Rattle.ode_holders.proofs.opens.place_above.Goals as goal

pub returns : goal.returns
returns c =
    c.unwrap_or.ensures ∙ ap (λ (found : Option ℕ). unwrap_or found (length c.args.sessions.now)) c.first_above.ensures
    ∙ or_end (λ (o : Session). nat_lt c.args.session o.session) c.args.sessions.now
