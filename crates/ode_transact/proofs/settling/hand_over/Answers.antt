use Rattle.std.proofs.Common.{◌∙◌}
use Rattle.ode_transact.proofs.Settles.{commit_prints}
use Rattle.ode_transact.proofs.settling.hand_over.Goals as goal

pub returns-in_err-say-clause-any_moment : goal.returns-in_err-say-clause-any_moment
returns-in_err-say-clause-any_moment g c = λ entries said holds printed.
    commit_prints g.K.Keep.means entries c.args.batch said _ (g.H.Host.view c.args.host.now) (g.H.Host.view c.stage.new.host) (g.H.Host.view c.say.new.host) printed (c.stage.ensures.any_moment entries holds)
    (c.stage.ensures.leaves.text ∙ printed) (g.met.K.Keep.stands c.stage.new.self c.stage.new.host _ (c.in-Ok.ensures.done entries holds)) (g.met.H.Host.text_stands c.stage.new.host) c.say.ensures.prints

pub returns-clause-any_moment : goal.returns-clause-any_moment
returns-clause-any_moment g c = λ entries said holds printed.
    commit_prints g.K.Keep.means entries c.args.batch said _ (g.H.Host.view c.args.host.now) (g.H.Host.view c.stage.new.host) (g.H.Host.view c.say.new.host) printed (c.stage.ensures.any_moment entries holds)
    (c.stage.ensures.leaves.text ∙ printed) (g.met.K.Keep.stands c.stage.new.self c.stage.new.host _ (c.in-Ok.ensures.done entries holds)) (g.met.H.Host.text_stands c.stage.new.host) c.say.ensures.prints
