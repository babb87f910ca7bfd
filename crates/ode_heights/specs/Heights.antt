-- The height of a text: the greatest number of operators, bodies and leaves, and of brackets directly round a leaf or brackets, on a path.
use Rattle.std.specs.Prelude.{ℕ, ◌+◌, max, List, [], ◌∷◌, if◌then◌else◌, true, false}
use Rattle.ode_grammar.specs.declared.item.Action.{Action}
use Rattle.ode_grammar.specs.declared.terminal.Terminal.{Terminal}
use Rattle.ode_grammar.specs.Stacks.{top, rest}
use Rattle.ode_grammar.specs.Texts.{Meaning}
use Rattle.ode_heights.specs.declared.effect.Effect.{Effect}
use Rattle.ode_heights.specs.declared.effect.Effect.TheVariants as effect
use Rattle.ode_heights.specs.declared.height.Height.{Height}
use Rattle.ode_heights.specs.declared.height.Heights.{Heights}
use Rattle.ode_heights.specs.Effects.{effect_of}

abbrev pub leaf : Height
leaf = record { own = 1; bare = true }

-- the height in brackets: they count one round a leaf and round brackets
abbrev pub in_pair : Height → ℕ
in_pair h = if h.bare then h.own + 1 else h.own

-- an operator over what is so high
abbrev pub above : ℕ → Height
above n = record { own = n + 1; bare = false }

-- the heights on top
abbrev pub high : List Height → ℕ
high hs = (top leaf hs).own

abbrev pub joined : List ℕ → ℕ
joined ns = top 0 ns

-- the heights after an action
unfoldable pub raised : Effect → Heights → Heights
raised effect.Leaf h = record h { shaped = leaf ∷ h.shaped }
raised effect.Pair h = record h { shaped = (record { own = in_pair (top leaf h.shaped); bare = true }) ∷ rest h.shaped }
raised effect.Over h = record h { shaped = above (high h.shaped) ∷ rest h.shaped }
raised effect.OverTwo h = record h { shaped = above (max (high (rest h.shaped)) (high h.shaped)) ∷ rest (rest h.shaped) }
raised effect.OverThree h =
    record h { shaped = above (max (high (rest (rest h.shaped))) (max (high (rest h.shaped)) (high h.shaped))) ∷ rest (rest (rest h.shaped)) }
raised effect.Mask h = record h { shaped = above (max 1 (high h.shaped)) ∷ rest h.shaped }
raised effect.Plain h = record { shaped = rest h.shaped; plain = high h.shaped ∷ h.plain }
raised effect.Zero h = record h { plain = 0 ∷ h.plain }
raised effect.Body h = record h { plain = 1 ∷ h.plain }
raised effect.Join h = record { shaped = rest h.shaped; plain = max (joined h.plain) (high h.shaped) ∷ rest h.plain }
raised effect.JoinBody h = record h { plain = max (joined (rest h.plain)) (joined h.plain) ∷ rest (rest h.plain) }
raised effect.JoinBoth h =
    record { shaped = rest h.shaped; plain = max (high h.shaped) (max (joined (rest h.plain)) (joined h.plain)) ∷ rest (rest h.plain) }
raised effect.Two h = record { shaped = rest (rest h.shaped); plain = max (high (rest h.shaped)) (high h.shaped) ∷ h.plain }
raised effect.Dotted h = record { shaped = rest h.shaped; plain = max (high h.shaped + 1) (joined h.plain) ∷ rest h.plain }
raised effect.Append h = record h { plain = max (joined (rest h.plain)) (joined h.plain + 1) ∷ rest (rest h.plain) }
raised effect.Nothing h = h

abbrev pub risen : Action → Heights → Heights
risen a h = raised (effect_of a) h

abbrev pub none : Heights
none = record { shaped = []; plain = [] }

-- what a text's tokens make of heights
abbrev pub heights : Meaning Terminal Heights
heights = record { seen = λ k. k; keep = λ k h. h; make = risen }

-- the greatest of all heights, and of those on top
abbrev pub greatest : List ℕ → ℕ
greatest [] = 0
greatest (n ∷ ns) = max n (greatest ns)

abbrev pub greatest_own : List Height → ℕ
greatest_own [] = 0
greatest_own (h ∷ hs) = max h.own (greatest_own hs)

abbrev pub highest : Heights → ℕ
highest h = max (greatest_own h.shaped) (greatest h.plain)

abbrev pub tops : Heights → ℕ
tops h = max (high h.shaped) (joined h.plain)
