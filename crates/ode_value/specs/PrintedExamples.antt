-- Examples of printed trees.
use Rattle.std.specs.Prelude.{false, [], ◌∷◌, codes, Some, None}
use Rattle.ode_value.specs.Examples.{a, b, c, kind_of}
use Rattle.ode_value.specs.declared.event.EventExpr.{EventExpr}
use Rattle.ode_value.specs.declared.event.EventExpr.TheVariants as event
use Rattle.ode_value.specs.declared.event.Mode.TheVariants.{Immediate}
use Rattle.ode_value.specs.declared.member.TriggerDecl.{TriggerDecl}
use Rattle.ode_value.specs.declared.operator.BinOp.TheVariants.{Lt}
use Rattle.ode_value.specs.declared.statement.ClassDecl.{ClassDecl}
use Rattle.ode_value.specs.declared.statement.Expr.{Expr}
use Rattle.ode_value.specs.declared.statement.Expr.TheVariants as expr
use Rattle.ode_value.specs.declared.statement.Member.TheVariants as member
use Rattle.ode_value.specs.declared.statement.Sort.TheVariants.{Int}
use Rattle.ode_value.specs.declared.statement.Stmt.{Stmt}
use Rattle.ode_value.specs.declared.statement.Stmt.TheVariants.{Say}
use Rattle.ode_value.specs.declared.value.Value.TheVariants as value

-- `after a or (after b and after c)`
abbrev pub either : EventExpr
either = event.Or a (event.And b c)

-- `after a && (n < k)`, and `say "x";`
abbrev pub low_mask : Expr
low_mask = expr.Binary Lt (expr.Name (codes "n")) (expr.Name (codes "k"))

abbrev pub low : EventExpr
low = event.Leaf (kind_of 97) (Some low_mask)

abbrev pub say_x : Stmt
say_x = Say (expr.Lit (value.Text (codes "x")))

-- a trigger with all its words left out, and its class
abbrev pub trigger_t : TriggerDecl
trigger_t = record {
  name = codes "t";
  initial = false;
  perpetual = false;
  whole = false;
  mode = Immediate;
  params = record { name = codes "k"; sort = Int } ∷ [];
  event = low;
  action = say_x ∷ [];
}

abbrev pub class_p : ClassDecl
class_p = record { name = codes "P"; parent = None; members = member.Field (codes "n") Int ∷ member.Events (kind_of 97 ∷ []) ∷ member.Trigger trigger_t ∷ [] }
