-- The texts of the grammar.
use Rattle.std.specs.Prelude.{◌≡◌, ◌≤◌, ◌<◌, ◌+◌, true, false, List, [], ◌∷◌, ◌++◌, Some, take, length}
use Rattle.ode_grammar.specs.declared.terminal.Terminal.{Terminal}
use Rattle.ode_grammar.specs.declared.item.Part.{Part}
use Rattle.ode_grammar.specs.declared.item.Action.{Action}
use Rattle.ode_grammar.specs.declared.item.Item.{Item}
use Rattle.ode_grammar.specs.declared.item.Item.TheVariants as item
use Rattle.ode_grammar.specs.declared.reader.Extent.{Extent}
use Rattle.ode_grammar.specs.declared.reader.Start.{Start}
use Rattle.ode_grammar.specs.Terminals.{stands_for}
use Rattle.ode_grammar.specs.Grammar.{after, skipped, items_of}

-- What is made of a text of tokens T: the class that the grammar sees of a token, and what a token and an action add.
pub record Meaning (T M : Type 0) : Type 0 where
  pub seen : T → Terminal
  pub keep : T → M → M
  pub make : Action → M → M

-- These items derive these tokens, and make of what was made before what is made then.
pub data Derives {T M : Type 0} (g : Meaning T M) : List Item → M → List T → M → Type 0 where
  -- nothing derives nothing
  Done : {m : M} → Derives g [] m [] m
  -- a token of the class that is asked for; a word that isn't reserved is also a name
  Next : {items : List Item} {t : T} {m : M} {ts : List T} {out : M}
      → (k : Terminal) → stands_for (g.seen t) k ≡ true → Derives g items (g.keep t m) ts out → Derives g (item.Token k ∷ items) m (t ∷ ts) out
  -- an action
  Make : {items : List Item} {m : M} {ts : List T} {out : M}
      → (a : Action) → Derives g items (g.make a m) ts out → Derives g (item.Build a ∷ items) m ts out
  -- a part by the row that begins with the token
  Rule : {items : List Item} {t : T} {m : M} {ts : List T} {out : M}
      → (p : Part) (row : List Item) → after p (g.seen t) ≡ Some row
      → Derives g (row ++ items) (g.keep t m) ts out → Derives g (item.Part p ∷ items) m (t ∷ ts) out
  -- a part that is left out
  Skip : {items : List Item} {m : M} {ts : List T} {out : M}
      → (p : Part) (a : Action) → skipped p ≡ Some a
      → Derives g items (g.make a m) ts out → Derives g (item.Part p ∷ items) m ts out

-- the classes alone, of which nothing is made
abbrev pub plain : Meaning Terminal (Unit {0})
plain = record { seen = λ k. k; keep = λ k m. m; make = λ a m. m }

-- the tokens are a text of this sort
abbrev pub IsText : Start → List Terminal → Type 0
IsText start tokens = Derives plain (items_of start) tt tokens tt

-- some text of this sort begins with these tokens
pub record Begins (start : Start) (tokens : List Terminal) : Type 0 where
  pub more : List Terminal
  pub is_text : IsText start (tokens ++ more)

-- The greatest number of tokens with which some text begins, and whether these are a text.
pub record IsExtent (start : Start) (tokens : List Terminal) (found : Extent) : Type 0 where
  pub within : found.end ≤ length tokens
  pub before : Begins start (take found.end tokens)
  pub behind : found.end < length tokens → Begins start (take (found.end + 1) tokens) → ⊥
  pub text : found.is_text ≡ true → IsText start (take found.end tokens)
  pub no_text : found.is_text ≡ false → IsText start (take found.end tokens) → ⊥
