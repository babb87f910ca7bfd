use Rattle.std.proofs.Common.{List, subst}
use Rattle.ode_host.specs.Host.{LeavesOnly}
use Rattle.ode_language.specs.Languages.{ode}
use Rattle.ode_machine.specs.Moments.{IsAfterSome}
use Rattle.ode_machine.specs.Runs.{Item, trace}
use Rattle.ode_script.specs.Cutting.{ending_of, pieces}
use Rattle.ode_transact.specs.Resting.{HoldsBy}
use Rattle.ode_ends.specs.Endings.{RanAs}
use Rattle.ode_ends.specs.Statuses.{status_in}
use Rattle.ode_trace.proofs.HearingLaws.{heard_aloud}
use Rattle.ode_trace.proofs.run.run_script.Goals as goal

pub returns-clause-ran : goal.returns-clause-ran
returns-clause-ran g c w script text told begins is_ending =
    subst (λ (l : List Item). RanAs g.K.Keep.means l (ending_of (pieces script)) w text (g.S.Source.left c.run_opened.new.source) (g.H.Host.view c.run_opened.new.host) (status_in c.run_opened.result)) (heard_aloud (trace ode w script))
    (c.run_opened.ensures.ran w script text told begins is_ending)

pub returns-clause-any_moment : goal.returns-clause-any_moment
returns-clause-any_moment g c w script text told begins =
    subst (λ (l : List Item). LeavesOnly (g.H.Host.view c.args.host.now) (g.H.Host.view c.run_opened.new.host) (IsAfterSome (HoldsBy ode g.K.Keep.means) l w text)) (heard_aloud (trace ode w script))
    (c.run_opened.ensures.any_moment w script text told begins)
