use Rattle.std.proofs.Common.{ℕ, subst, refl}
use Rattle.ode_codec.specs.Standing.{StandsAs}
use Rattle.ode_laws.specs.Alike.{IsAlike}
use Rattle.ode_overlay_laws.specs.Standing.{origin_as}
use Rattle.ode_run.proofs.ContextLaws.{begins_running}
use Rattle.ode_run.proofs.beginning.contexts_begin.Goals as goal
use Rattle.ode_run.specs.Contexts.{tables_of}
use Rattle.ode_value.specs.Tables.{Table}

pub returns : goal.returns
returns g c = λ l entries w world origin ctx host tables fit begins.
    let first = world.world.stored.world in
    let alike : IsAlike (tables_of ctx) first w = record {
      stands = subst (λ (ts : ℕ → ℕ → Table). StandsAs ts first w) tables world.world.stands;
      numbered = c.good_worlds_are_numbered.ensures l w world.world.good;
    } in
    begins_running g.H.Host.view g.K.Keep.holds g.K.Keep.live l entries w origin ctx host world
    (c.transactions_begin_known.ensures origin entries first (record { language = l; world = w; held = world; is = refl })) (c.transactions_begin_with_views.ensures.view origin first)
    (c.acts_run_alike.ensures.begun (tables_of ctx) (origin_as origin) first w alike) tables fit begins
