-- The condition on the numbers of an event expression.
use Rattle.std.specs.Prelude.{ℕ, nat_le, ◌&&◌, Bool, true}
use Rattle.ode_value.specs.declared.event.EventExpr.{EventExpr, fold-EventExpr}
use Rattle.ode_value.specs.declared.event.EventExpr.TheOpen as event
use Rattle.ode_value.specs.Limits.{choose_limit}

-- the range of one number
abbrev pub in_range : ℕ → Bool
in_range n = nat_le 1 n && nat_le n choose_limit

-- the condition by one level of the expression
abbrev pub numbers_of : event.EventExpr-F Bool → Bool
numbers_of (event.Leaf kind mask) = true
numbers_of event.Any = true
numbers_of event.First = true
numbers_of (event.Not e) = e
numbers_of (event.And e f) = e && f
numbers_of (event.Or e f) = e && f
numbers_of (event.Relative e f) = e && f
numbers_of (event.RelPlus e) = e
numbers_of (event.Prior e f) = e && f
numbers_of (event.Sequence e f) = e && f
numbers_of (event.Pipe e f) = e && f
numbers_of (event.Choose n e) = in_range n && e
numbers_of (event.Every n e) = in_range n && e
numbers_of (event.Fa e f g) = e && (f && g)
numbers_of (event.FaAbs e f g) = e && (f && g)
numbers_of (event.Masked e mask) = e

-- each number of a `choose` or an `every` is in its range
unfoldable pub has_numbers : EventExpr → Bool
has_numbers = fold-EventExpr Bool numbers_of
