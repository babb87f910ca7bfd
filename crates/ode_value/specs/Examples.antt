-- Examples, over calls of methods whose names are single letters.
use Rattle.std.specs.Prelude.{ℕ, pos, Bool, false, List, [], ◌∷◌, map, length, Some, None, Result}
use Rattle.std.specs.List.{range_with_len}
use Rattle.ode_value.specs.declared.arithmetic.Fault.{Fault}
use Rattle.ode_value.specs.declared.event.EventExpr.{EventExpr}
use Rattle.ode_value.specs.declared.event.EventExpr.TheVariants as event
use Rattle.ode_value.specs.declared.event.Kind.{Kind}
use Rattle.ode_value.specs.declared.event.Kind.TheVariants as kind
use Rattle.ode_value.specs.declared.event.Point.{Point}
use Rattle.ode_value.specs.declared.operator.BinOp.TheVariants.{Div, Eq, Lt}
use Rattle.ode_value.specs.declared.statement.Expr.{Expr}
use Rattle.ode_value.specs.declared.statement.Expr.TheVariants as expr
use Rattle.ode_value.specs.declared.value.Value.{Value}
use Rattle.ode_value.specs.declared.value.Value.TheVariants as value
use Rattle.ode_value.specs.Views.{History}
use Rattle.ode_value.specs.Marks.{Conditions, conditions, mark_of, spelled_by}
use Rattle.ode_value.specs.Masks.{plain}
use Rattle.ode_value.specs.Points.{Points, points}
use Rattle.ode_value.specs.Symbols.{alphabet_of, size_of, symbol_mark_of}

-- after a call, and the kinds of these letters
abbrev pub kind_of : ℕ → Kind
kind_of letter = kind.After (letter ∷ [])

abbrev pub kinds : List ℕ → List Kind
kinds letters = map kind_of letters

-- the leaves `after a`, `after b` and `after c`
abbrev pub a : EventExpr
a = event.Leaf (kind_of 97) None

abbrev pub b : EventExpr
b = event.Leaf (kind_of 98) None

abbrev pub c : EventExpr
c = event.Leaf (kind_of 99) None

-- a point after each of these calls
abbrev pub point_of : ℕ → Point
point_of letter = record { kind = kind_of letter; args = []; fields = [] }

abbrev pub calls : List ℕ → History
calls letters = map point_of letters

-- for each position of a history whether it is a point of the expression
abbrev pub found_by : Points → Conditions → History → List Bool
found_by set cs history = map (set (map (mark_of cs []) history)) (range_with_len 0 (length history))

abbrev pub found : EventExpr → History → List Bool
found e = found_by (points e) (conditions e)

-- for each symbol which conditions hold: leaves in the order of the text, then masks on composite events
abbrev pub symbol_table_of : Conditions → List (List Bool)
symbol_table_of cs = map (λ s. spelled_by cs (symbol_mark_of cs s)) (range_with_len 0 (size_of (alphabet_of cs)))

abbrev pub symbol_table : EventExpr → List (List Bool)
symbol_table e = symbol_table_of (conditions e)

-- `after a && false or after b`
abbrev pub masked : EventExpr
masked = event.Or (event.Leaf (kind_of 97) (Some (expr.Lit (value.Bool false)))) b

-- a point after a call, where the object's only field has this value
abbrev pub call_with : ℕ → ℕ → Point
call_with letter n = record { kind = kind_of letter; args = []; fields = value.Int (pos n) ∷ [] }

-- `n < 2`, and `(after a or after b) && n < 2`, n being the only field
abbrev pub below_two : Expr
below_two = expr.Binary Lt (expr.Own 0) (expr.Lit (value.Int (pos 2)))

abbrev pub masked_whole : EventExpr
masked_whole = event.Masked (event.Or a b) below_two

-- `1 / 0 == 1`
abbrev pub faulty : Expr
faulty = expr.Binary Eq (expr.Binary Div (expr.Lit (value.Int (pos 1))) (expr.Lit (value.Int (pos 0)))) (expr.Lit (value.Int (pos 1)))

abbrev pub bool_lit : Bool → Expr
bool_lit b = expr.Lit (value.Bool b)

-- what it comes to, with these parameters and these fields
abbrev pub plain_with : List Value → List Value → Expr → Result Value Fault
plain_with params own x = plain x (record { locals = params; own = own })
