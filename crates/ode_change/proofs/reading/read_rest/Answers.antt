use Rattle.std.proofs.Common.{List}
use Rattle.ode_change.proofs.Knowing.{none_damaged, pass_rose, pass_silent}
use Rattle.ode_language.specs.Languages.{ode}
use Rattle.ode_opening.specs.Trees.{trees_in}
use Rattle.ode_value.specs.declared.change.Added.{Added}
use Rattle.ode_value.specs.declared.statement.ClassDecl.{ClassDecl}
use Rattle.ode_change.specs.declared.reading.Known.{Known}
use Rattle.ode_change.proofs.reading.read_rest.Goals as goal

pub returns-in-Err-clause-undamaged : goal.returns-in-Err-clause-undamaged
returns-in-Err-clause-undamaged g c =
    rw c.error_of.ensures
    (none_damaged Known (List ClassDecl × List Added) c.in-Err.error (λ entries. g.K.Keep.holds c.args.keeper.now (g.H.Host.view c.args.host.now) entries) (λ entries. trees_in ode c.args.counters.added entries) c.in-Err.ensures.meant)

pub returns-in-Err-clause-cause : goal.returns-in-Err-clause-cause
returns-in-Err-clause-cause g c = rw c.error_of.ensures (pass_rose Known (List ClassDecl × List Added) c.in-Err.error _ _ c.in-Err.ensures.cause)

pub returns-in-Err-clause-silent : goal.returns-in-Err-clause-silent
returns-in-Err-clause-silent g c = rw c.error_of.ensures (pass_silent Known c.in-Err.error)
