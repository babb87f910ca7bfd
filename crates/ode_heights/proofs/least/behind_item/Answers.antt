use Rattle.std.proofs.Common.{◌≡◌, [], ◌∷◌, sym, ◌∙◌, ap}
use Rattle.ode_grammar.specs.declared.item.Item.{Item}
use Rattle.ode_heights.specs.Effects.{effect_of}
use Rattle.ode_heights.specs.Heights.{raised}
use Rattle.ode_heights.specs.Lowest.{lowest, raised_all}
use Rattle.ode_heights.proofs.least.behind_item.Goals as goal

pub returns-in-Nothing : goal.returns-in-Nothing
unfolding raised
returns-in-Nothing c = λ h.
    let e : raised (effect_of c.in-Build.action) h ≡ h = ap (λ x. raised x h) (sym c.effect_of.ensures ∙ c.in-Nothing.is) in
    sym (ap (λ (i : Item). raised_all c.args.effects.now (lowest (i ∷ []) h)) c.in-Build.is ∙ ap (raised_all c.args.effects.now) e)
