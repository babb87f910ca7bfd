-- The context in which a transaction runs, as what stands on whole transactions names it.
pub use Rattle.ode_run.specs.Contexts.{ContextRuns, EndsWhere, IsContext, parts_of, tables_of}
pub use Rattle.ode_run.specs.Ending.{ended_by}
pub use Rattle.ode_run.specs.Knowing.{IsSound, declared_in}
pub use Rattle.ode_run.specs.declared.context.Ctx.{Ctx}
