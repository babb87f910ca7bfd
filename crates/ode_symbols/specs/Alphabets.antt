-- Alphabets: what is asked of an expression's conditions, when one is refused, and lists that grow by what they don't have.
use Rattle.std.specs.Prelude.{◌≡◌, ◌<◌, min, Bool, false, ◌&&◌, List, [], ◌∷◌, ◌++◌, cond, Option, Some, None, Result, Ok, Err}
use Rattle.std.specs.List.{list_all, list_any}
use Rattle.ode_value.specs.declared.arithmetic.Fault.{Fault}
use Rattle.ode_value.specs.declared.event.EventExpr.{EventExpr}
use Rattle.ode_value.specs.declared.value.Value.{Value}
use Rattle.ode_value.specs.declared.value.Value.TheVariants as value
use Rattle.ode_value.specs.Limits.{symbol_limit, counted_symbols}
use Rattle.ode_value.specs.Marks.{Leaf, OfEvent, OfLeaf, among, composite_masks, conditions, leaves}
use Rattle.ode_value.specs.Symbols.{symbol_count}
use Rattle.ode_symbols.specs.declared.error.AlphabetError.{AlphabetError}
use Rattle.ode_symbols.specs.declared.error.AlphabetError.TheVariants as error

-- the leaves of the first expression, and its masks on composite events, are among those of the second
abbrev pub are_conditions_of : EventExpr → EventExpr → Bool
are_conditions_of e of =
    list_all (λ (l : Leaf). among (conditions of) (OfLeaf l.0 l.1)) (leaves e) && list_all (λ x. among (conditions of) (OfEvent x)) (composite_masks e)

-- an alphabet is refused where there are too many symbols, and their number is told up to a limit
abbrev pub IsRefusal : EventExpr → AlphabetError → Type 0
IsRefusal e error.Memory = Unit {0}
IsRefusal e (error.TooManySymbols count) = (symbol_limit < symbol_count e) × (count ≡ min (symbol_count e) counted_symbols)

-- the bool of a value, or the fault; a value of another sort isn't true
abbrev pub truth_of : Result Value Fault → Result Bool Fault
truth_of (Ok (value.Bool b)) = Ok b
truth_of (Ok _) = Ok false
truth_of (Err fault) = Err fault

-- a list with one more member, unless it is there
abbrev pub with_new : {A : Type 0} → (A → A → Bool) → List A → A → List A
with_new same xs x = cond (list_any (λ y. same y x) xs) xs (xs ++ x ∷ [])

-- the same where there is one
abbrev pub with_any : {A : Type 0} → (A → A → Bool) → List A → Option A → List A
with_any same xs None = xs
with_any same xs (Some x) = with_new same xs x
