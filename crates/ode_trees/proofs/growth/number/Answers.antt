use Rattle.std.proofs.Common.{ap, sym, ◌∙◌}
use Rattle.std.specs.Option.{option_copied}
use Rattle.ode_trees.proofs.CoverLaws.{not-covered}
use Rattle.ode_trees.proofs.growth.number.Goals as goal

pub returns-in-None-clause-none : goal.returns-in-None-clause-none
returns-in-None-clause-none c = λ h.
    not-covered c.args.found.now.numbers.entries (λ k. k.items) c.args.found.now.trees c.args.s.now c.args.key.now c.requires.key c.requires.covers
    (sym c.get.ensures.value ∙ ap option_copied c.in-None.is)
