use Rattle.std.proofs.Common.{take, sym, ap, ◌∙◌}
use Rattle.ode_passes.specs.Rules.{found}
use Rattle.ode_passes.specs.declared.cause.Cause.TheVariants as cause
use Rattle.ode_opening.proofs.Listing.{list_broken, list_kept}
use Rattle.ode_opening.proofs.births.one_added.Goals as goal

pub returns-then-not-is_kept-clause-meant : goal.returns-then-not-is_kept-clause-meant
returns-then-not-is_kept-clause-meant c = λ records are there.
    list_broken c.args.heads.now c.args.count (take c.args.place records) c.args.found.now (sym (c.is_kept.ensures records are there) ∙ c.if-not-is_kept.true)

pub returns-in-Some-clause-meant : goal.returns-in-Some-clause-meant
returns-in-Some-clause-meant c = λ records are there.
    list_kept c.args.heads.now c.args.count (take c.args.place records) c.args.found.now (sym (c.is_kept.ensures records are there) ∙ c.if-not-is_kept.false)
    ∙ ap (found (cause.Record c.args.found.now.0)) (sym c.in_ok-added.ensures ∙ c.in-Some.is)

pub returns-in-None-clause-meant : goal.returns-in-None-clause-meant
returns-in-None-clause-meant c = λ records are there.
    list_kept c.args.heads.now c.args.count (take c.args.place records) c.args.found.now (sym (c.is_kept.ensures records are there) ∙ c.if-not-is_kept.false)
    ∙ ap (found (cause.Record c.args.found.now.0)) (sym c.in_ok-added.ensures ∙ c.in-None.is)
