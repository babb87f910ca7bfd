-- A reader of tokens: the items that are still to come, by what was read, and what is made.
use Rattle.std.specs.Prelude.{List, [], ◌∷◌, ◌++◌, Option, Some, None, Bool, true, false, cond}
use Rattle.std.specs.Option.{option_and_then}
use Rattle.ode_grammar.specs.declared.terminal.Terminal.{Terminal}
use Rattle.ode_grammar.specs.declared.item.Action.{Action}
use Rattle.ode_grammar.specs.declared.item.Item.{Item}
use Rattle.ode_grammar.specs.declared.item.Item.TheVariants as item
use Rattle.ode_grammar.specs.Terminals.{stands_for}
use Rattle.ode_grammar.specs.Grammar.{after, skipped}
use Rattle.ode_grammar.specs.Texts.{Meaning}

-- behind a token at a part: its row, or what comes behind the part where it may be left out
abbrev pub by_row : {A : Type 0} → (List Item → A) → A → A → Option (List Item) → Option Action → A
by_row row behind wrong (Some items) skip = row items
by_row row behind wrong None (Some a) = behind
by_row row behind wrong None None = wrong

-- what is still to come behind a token
abbrev pub next : List Item → Terminal → Option (List Item)
next [] t = None
next (item.Token k ∷ items) t = cond (stands_for t k) (Some items) None
next (item.Build a ∷ items) t = next items t
next (item.Part p ∷ items) t = by_row (λ row. Some (row ++ items)) (next items t) None (after p t) (skipped p)

-- what is still to come behind these tokens
abbrev pub reached : List Item → List Terminal → Option (List Item)
reached items [] = Some items
reached items (t ∷ ts) = option_and_then (λ more. reached more ts) (next items t)

-- whether nothing more has to come
abbrev pub may_stop : List Item → Bool
may_stop [] = true
may_stop (item.Token k ∷ items) = false
may_stop (item.Build a ∷ items) = may_stop items
may_stop (item.Part p ∷ items) = by_row (λ row. false) (may_stop items) false None (skipped p)

abbrev pub made_of_skipped : {T M : Type 0} → Meaning T M → Option Action → M → M
made_of_skipped g None m = m
made_of_skipped g (Some a) m = g.make a m

-- what is made by a token, and at the end
abbrev pub made_after : {T M : Type 0} → Meaning T M → List Item → M → T → M
made_after g [] m t = m
made_after g (item.Token k ∷ items) m t = g.keep t m
made_after g (item.Build a ∷ items) m t = made_after g items (g.make a m) t
made_after g (item.Part p ∷ items) m t =
    by_row (λ row. g.keep t m) (made_after g items (made_of_skipped g (skipped p) m) t) m (after p (g.seen t)) (skipped p)

abbrev pub made_at_end : {T M : Type 0} → Meaning T M → List Item → M → M
made_at_end g [] m = m
made_at_end g (item.Token k ∷ items) m = m
made_at_end g (item.Build a ∷ items) m = made_at_end g items (g.make a m)
made_at_end g (item.Part p ∷ items) m = made_at_end g items (made_of_skipped g (skipped p) m)

-- what is still to come behind these tokens, and what is made of them
abbrev pub run : {T M : Type 0} → Meaning T M → List Item → M → List T → Option (List Item × M)
run g items m [] = Some (items, m)
run g items m (t ∷ ts) = option_and_then (λ more. run g more (made_after g items m t) ts) (next items (g.seen t))
