-- The height of a least high text of each part, and of items.
use Rattle.std.specs.Prelude.{List, [], ◌∷◌}
use Rattle.ode_grammar.specs.declared.item.Part.{Part}
use Rattle.ode_grammar.specs.declared.item.Part.TheVariants as part
use Rattle.ode_grammar.specs.declared.item.Item.{Item}
use Rattle.ode_grammar.specs.declared.item.Item.TheVariants as item
use Rattle.ode_heights.specs.declared.effect.Effect.{Effect}
use Rattle.ode_heights.specs.declared.effect.Effect.TheVariants as effect
use Rattle.ode_heights.specs.declared.height.Heights.{Heights}
use Rattle.ode_heights.specs.Heights.{raised, risen}

-- what a least high text of a part does to heights
abbrev pub least_effects : Part → List Effect
least_effects part.Statement = effect.Zero ∷ []
least_effects part.InnerName = effect.Zero ∷ []
least_effects part.ReturnValue = effect.Zero ∷ []
least_effects part.Else = effect.Zero ∷ []
least_effects part.Chained = effect.Leaf ∷ effect.Zero ∷ []
least_effects part.CallDot = effect.Zero ∷ []
least_effects part.Rhs = effect.Zero ∷ []
least_effects part.ScriptRhs = effect.Zero ∷ []
least_effects part.RhsDots = effect.Plain ∷ []
least_effects part.RhsDot = effect.Over ∷ effect.Plain ∷ []
least_effects part.RhsName = effect.Zero ∷ []
least_effects part.Class = effect.Zero ∷ []
least_effects part.EventUnary = effect.Leaf ∷ []
least_effects part.Mask = effect.Leaf ∷ []
least_effects part.Expr = effect.Leaf ∷ []
least_effects part.Unary = effect.Leaf ∷ []
least_effects other = []

abbrev pub raised_all : List Effect → Heights → Heights
raised_all [] h = h
raised_all (e ∷ es) h = raised_all es (raised e h)

abbrev pub low_of : Part → Heights → Heights
low_of p h = raised_all (least_effects p) h

abbrev pub lowest : List Item → Heights → Heights
lowest [] h = h
lowest (item.Token k ∷ items) h = lowest items h
lowest (item.Build a ∷ items) h = lowest items (risen a h)
lowest (item.Part p ∷ items) h = lowest items (low_of p h)
