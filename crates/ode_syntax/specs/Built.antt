-- What is made of the parts of a text: its trees. Words and trees stand on a stack for each sort; where one is empty, its reader gives a default.
use Rattle.std.specs.Prelude.{ℕ, ◌^◌, ℤ, pos, ◌-ℤ◌, int_lt, nat_lt, List, [], ◌∷◌, ◌++◌, Bool, true, false, Option, Some, None, codes, cond}
use Rattle.ode_grammar.specs.declared.item.Action.{Action}
use Rattle.ode_grammar.specs.declared.item.Action.TheVariants as action
use Rattle.ode_grammar.specs.Stacks.{top, rest}
use Rattle.ode_lex.specs.declared.token.Mark.{Mark}
use Rattle.ode_lex.specs.declared.token.Mark.TheVariants as mark
use Rattle.ode_timer.specs.Dates.{instant_of}
use Rattle.ode_value.specs.declared.binding.Var.TheVariants as var
use Rattle.ode_value.specs.declared.change.Change.{Change}
use Rattle.ode_value.specs.declared.event.EventExpr.{EventExpr}
use Rattle.ode_value.specs.declared.event.EventExpr.TheVariants as event
use Rattle.ode_value.specs.declared.event.Kind.{Kind}
use Rattle.ode_value.specs.declared.event.Kind.TheVariants as kind
use Rattle.ode_value.specs.declared.event.Mode.TheVariants as mode
use Rattle.ode_value.specs.declared.operator.BinOp.{BinOp}
use Rattle.ode_value.specs.declared.operator.BinOp.TheVariants as binary
use Rattle.ode_value.specs.declared.operator.UnOp.{UnOp}
use Rattle.ode_value.specs.declared.operator.UnOp.TheVariants as unary
use Rattle.ode_value.specs.declared.statement.ClassDecl.{ClassDecl}
use Rattle.ode_value.specs.declared.statement.Expr.{Expr}
use Rattle.ode_value.specs.declared.statement.Expr.TheVariants as expr
use Rattle.ode_value.specs.declared.statement.Member.{Member}
use Rattle.ode_value.specs.declared.statement.Member.TheVariants as member
use Rattle.ode_value.specs.declared.statement.Rhs.{Rhs}
use Rattle.ode_value.specs.declared.statement.Rhs.TheVariants as rhs
use Rattle.ode_value.specs.declared.statement.Sort.{Sort}
use Rattle.ode_value.specs.declared.statement.Sort.TheVariants as sort
use Rattle.ode_value.specs.declared.statement.Statement.{Statement}
use Rattle.ode_value.specs.declared.statement.Statement.TheVariants as statement
use Rattle.ode_value.specs.declared.statement.Stmt.{Stmt}
use Rattle.ode_value.specs.declared.statement.Stmt.TheVariants as stmt
use Rattle.ode_value.specs.declared.value.Value.{Value}
use Rattle.ode_value.specs.declared.value.Value.TheVariants as value
use Rattle.ode_syntax.specs.declared.asked.Comparison.{Comparison}
use Rattle.ode_syntax.specs.declared.asked.QueryParts.{QueryParts}
use Rattle.ode_syntax.specs.declared.trees.Trees.{Trees}

abbrev pub name : List (List ℕ) → List ℕ
name names = top (codes "x") names

abbrev pub tree : List Expr → Expr
tree exprs = top expr.This exprs

abbrev pub event_tree : List EventExpr → EventExpr
event_tree events = top event.Any events

abbrev pub right : List Rhs → Rhs
right right_sides = top (rhs.Plain expr.This) right_sides

abbrev pub stmt_tree : List Stmt → Stmt
stmt_tree statements = top stmt.TAbort statements

abbrev pub class_tree : List ClassDecl → ClassDecl
class_tree classes = top (record { name = codes "x"; parent = None; members = [] }) classes

abbrev pub script_tree : List Statement → Statement
script_tree scripts = top statement.Empty scripts

abbrev pub mark_on : List Mark → Mark
mark_on marks = top mark.Plus marks

abbrev pub kind_on : List Kind → Kind
kind_on kinds = top kind.Create kinds

abbrev pub sort_on : List Sort → Sort
sort_on sorts = top sort.Void sorts

-- ---- queries and comparisons

-- the lists of expressions stand one on the other
abbrev pub query_parts : Trees → QueryParts
query_parts v = record { over = top [] v.params; test = top [] (rest (rest v.args)); by = top [] (rest v.args); show = top [] v.args }

abbrev pub comparison_tree : Trees → Comparison
comparison_tree v =
    record { class = name v.names; params = top [] v.params; first = event_tree (rest v.events); second = event_tree v.events }

-- ---- statements of a script, and changes of classes

abbrev pub change_tree : List Change → Change
change_tree changes = top (record { class = codes "x"; fields = [] }) changes

-- behind the class's name: the word `change` was kept as one
abbrev pub without_change : List (List ℕ) → List (List ℕ)
without_change names = rest (rest names)

-- one field more
abbrev pub change_with : List ℕ × Sort × Value → List Change → List Change
change_with field changes =
    (record { class = (change_tree changes).class; fields = (change_tree changes).fields ++ field ∷ [] }) ∷ rest changes

-- a number on the other side of zero, where it stands above
abbrev pub below_zero : ℤ → ℤ
below_zero n = cond (int_lt n (pos 0)) n (pos 0 -ℤ n)

-- a leaf with a minus before it, and the value that a leaf says
abbrev pub negative : Expr → Expr
negative (expr.Lit (value.Int n)) = expr.Lit (value.Int (below_zero n))
negative other = other

abbrev pub value_of : Expr → Value
value_of (expr.Lit v) = v
value_of other = value.Int (pos 0)

-- a word that isn't reserved was kept as a name
abbrev pub without_word : Trees → Trees
without_word v = record v { names = rest v.names }

abbrev pub with_script : Statement → Trees → Trees
with_script s v = record v { scripts = s ∷ v.scripts }

abbrev pub declared : List ClassDecl → Statement
declared [] = statement.Empty
declared (c ∷ cs) = statement.Class c

abbrev pub clock_text : Expr → List ℕ
clock_text (expr.Lit (value.Text text)) = text
clock_text other = []

unfoldable pub built_script : Action → Trees → Trees
built_script action.Declare v = record v { classes = rest v.classes; scripts = declared v.classes ∷ v.scripts }
built_script action.Begin v = with_script statement.Begin v
built_script action.Commit v = with_script statement.Commit v
built_script action.Abort v = with_script statement.Abort v
built_script action.Clock v = record v { leaves = rest v.leaves; scripts = statement.Clock (clock_text (tree v.leaves)) ∷ v.scripts }
built_script action.Simple v = record v { statements = rest v.statements; scripts = statement.Simple (stmt_tree v.statements) ∷ v.scripts }
built_script action.Empty v = with_script statement.Empty v
built_script action.Change v = record v { names = without_change v.names; changes = (record { class = name v.names; fields = [] }) ∷ v.changes }
built_script action.Negative v = record v { marks = rest v.marks; leaves = negative (tree v.leaves) ∷ rest v.leaves }
built_script action.Addition v =
    record v {
      names = rest v.names;
      sorts = rest v.sorts;
      leaves = rest v.leaves;
      changes = change_with (name v.names, sort_on v.sorts, value_of (tree v.leaves)) v.changes;
    }
built_script other v = v

-- ---- members and classes

-- one member more
abbrev pub with_member : List (List Member) → Member → List (List Member)
with_member members m = (top [] members ++ m ∷ []) ∷ rest members

abbrev pub constraint : Bool → Trees → Trees
constraint soft v =
    record v {
      exprs = rest v.exprs;
      names = rest v.names;
      members = with_member v.members (member.Constraint (record { name = name v.names; soft = soft; test = tree v.exprs }));
    }

unfoldable pub built_member : Action → Trees → Trees
built_member action.FieldMember v =
    record v { names = rest v.names; sorts = rest v.sorts; members = with_member v.members (member.Field (name v.names) (sort_on v.sorts)) }
built_member action.Method v =
    record v {
      bodies = rest v.bodies;
      params = rest v.params;
      names = rest v.names;
      sorts = rest v.sorts;
      members = with_member v.members
          (member.Method (record { name = name v.names; result = sort_on v.sorts; params = top [] v.params; body = top [] v.bodies }));
    }
built_member action.Constraint v = constraint false v
built_member action.SoftConstraint v = constraint true v
built_member action.Events v = record v { kind_lists = rest v.kind_lists; members = with_member v.members (member.Events (top [] v.kind_lists)) }
built_member action.Trigger v =
    record v {
      bodies = rest v.bodies;
      events = rest v.events;
      params = rest v.params;
      names = rest v.names;
      modes = rest v.modes;
      flags = rest (rest (rest v.flags));
      members = with_member v.members
          (member.Trigger
          (record {
            name = name v.names;
            initial = top false (rest (rest v.flags));
            perpetual = top false (rest v.flags);
            whole = top false v.flags;
            mode = top mode.Immediate v.modes;
            params = top [] v.params;
            event = event_tree v.events;
            action = top [] v.bodies;
          }));
    }
built_member other v = built_script other v

unfoldable pub built_class : Action → Trees → Trees
built_class action.RefSort v = record v { names = rest v.names; sorts = sort.Reference (name v.names) ∷ v.sorts }
built_class action.VoidSort v = record v { sorts = sort.Void ∷ v.sorts }
built_class action.Params v = record v { params = [] ∷ v.params }
built_class action.Param v =
    record v {
      names = rest v.names;
      sorts = rest v.sorts;
      params = (top [] v.params ++ (record { name = name v.names; sort = sort_on v.sorts }) ∷ []) ∷ rest v.params;
    }
built_class action.Kinds v = record v { kind_lists = [] ∷ v.kind_lists }
built_class action.Listed v = record v { kinds = rest v.kinds; kind_lists = (top [] v.kind_lists ++ kind_on v.kinds ∷ []) ∷ rest v.kind_lists }
built_class action.Initial v = record v { flags = true ∷ v.flags }
built_class action.NotInitial v = record v { flags = false ∷ v.flags }
built_class action.Once v = record v { flags = false ∷ v.flags }
built_class action.Committed v = record v { flags = false ∷ v.flags }
built_class action.Immediate v = record v { modes = mode.Immediate ∷ v.modes }
built_class action.Members v = record v { members = [] ∷ v.members }
built_class action.Parent v = record v { names = rest v.names; parents = Some (name v.names) ∷ v.parents }
built_class action.NoParent v = record v { parents = None ∷ v.parents }
built_class action.Class v =
    record v {
      members = rest v.members;
      parents = rest v.parents;
      names = rest v.names;
      classes = (record { name = name v.names; parent = top None v.parents; members = top [] v.members }) ∷ v.classes;
    }
built_class other v = built_member other v

-- ---- kinds and event expressions

-- the number that a leaf says, and the second
abbrev pub count_of : Expr → ℕ
count_of (expr.Lit (value.Int (pos n))) = cond (nat_lt n (2 ^ 32)) n 0
count_of other = 0

abbrev pub or_zero : Option ℤ → ℤ
or_zero None = pos 0
or_zero (Some n) = n

abbrev pub second_of : Expr → ℤ
second_of (expr.Lit (value.Text text)) = or_zero (instant_of text)
second_of other = pos 0

abbrev pub with_kind : Kind → Trees → Trees
with_kind k v = record v { kinds = k ∷ v.kinds }

unfoldable pub built_kind : Action → Trees → Trees
built_kind action.AfterCreate v = with_kind kind.Create v
built_kind action.BeforeDelete v = with_kind kind.Delete v
built_kind action.AfterMethod v = record v { names = rest v.names; kinds = kind.After (name v.names) ∷ v.kinds }
built_kind action.BeforeMethod v = record v { names = rest v.names; kinds = kind.Before (name v.names) ∷ v.kinds }
built_kind action.AfterTBegin v = with_kind kind.TBegin v
built_kind action.BeforeTComplete v = with_kind kind.TComplete v
built_kind action.AfterTCommit v = with_kind kind.TCommit v
built_kind action.AfterTAbort v = with_kind kind.TAbort v
built_kind action.AfterNewVersion v = with_kind kind.NewVersion v
built_kind action.BeforeDropVersion v = with_kind kind.DropVersion v
built_kind action.TimeAt v = record v { leaves = rest v.leaves; kinds = kind.TimeAt (second_of (tree v.leaves)) ∷ v.kinds }
built_kind action.TimeEvery v = record v { leaves = rest v.leaves; kinds = kind.TimeEvery (count_of (tree v.leaves)) ∷ v.kinds }
built_kind other v = built_class other v

abbrev pub over_two : (EventExpr → EventExpr → EventExpr) → Trees → Trees
over_two f v = record v { events = f (event_tree (rest v.events)) (event_tree v.events) ∷ rest (rest v.events) }

abbrev pub over_three : (EventExpr → EventExpr → EventExpr → EventExpr) → Trees → Trees
over_three f v =
    record v { events = f (event_tree (rest (rest v.events))) (event_tree (rest v.events)) (event_tree v.events) ∷ rest (rest (rest v.events)) }

abbrev pub counted : (ℕ → EventExpr → EventExpr) → Trees → Trees
counted f v = record v { leaves = rest v.leaves; events = f (count_of (tree v.leaves)) (event_tree v.events) ∷ rest v.events }

unfoldable pub built_event : Action → Trees → Trees
built_event action.Any v = record v { events = event.Any ∷ v.events }
built_event action.First v = record v { events = event.First ∷ v.events }
built_event action.Unmasked v = record v { kinds = rest v.kinds; events = event.Leaf (kind_on v.kinds) None ∷ v.events }
built_event action.Masked v =
    record v { marks = rest v.marks; exprs = rest v.exprs; kinds = rest v.kinds; events = event.Leaf (kind_on v.kinds) (Some (tree v.exprs)) ∷ v.events }
built_event action.MaskedEvent v =
    record v { marks = rest v.marks; exprs = rest v.exprs; events = event.Masked (event_tree v.events) (tree v.exprs) ∷ rest v.events }
built_event action.NotEvent v = record v { marks = rest v.marks; events = event.Not (event_tree v.events) ∷ rest v.events }
built_event action.AndEvents v = over_two event.And v
built_event action.OrEvents v = over_two event.Or v
built_event action.Relative v = over_two event.Relative v
built_event action.Prior v = over_two event.Prior v
built_event action.Sequence v = over_two event.Sequence v
built_event action.RelPlus v = record v { names = rest v.names; events = event.RelPlus (event_tree v.events) ∷ rest v.events }
built_event action.Pipe v = over_two event.Pipe (without_word v)
built_event action.Choose v = counted event.Choose v
built_event action.Every v = counted event.Every v
built_event action.Fa v = over_three event.Fa v
built_event action.FaAbs v = over_three event.FaAbs (without_word v)
built_event other v = built_kind other v

-- ---- statements and right sides

abbrev pub with_statement : Stmt → Trees → Trees
with_statement s v = record v { statements = s ∷ v.statements }

unfoldable pub built_statement : Action → Trees → Trees
built_statement action.Body v = record v { bodies = [] ∷ v.bodies }
built_statement action.Absent v = record v { bodies = [] ∷ v.bodies }
built_statement action.Append v =
    record v { statements = rest v.statements; bodies = (top [] v.bodies ++ stmt_tree v.statements ∷ []) ∷ rest v.bodies }
built_statement action.Show v = record v { right_sides = rest v.right_sides; statements = stmt.Show (right v.right_sides) ∷ v.statements }
built_statement action.Say v = record v { exprs = rest v.exprs; statements = stmt.Say (tree v.exprs) ∷ v.statements }
built_statement action.Delete v = record v { exprs = rest v.exprs; statements = stmt.Delete (tree v.exprs) ∷ v.statements }
built_statement action.DropVersion v = record v { exprs = rest v.exprs; statements = stmt.DropVersion (tree v.exprs) ∷ v.statements }
built_statement action.Deactivate v =
    record v { exprs = rest (rest v.exprs); statements = stmt.Deactivate (tree (rest v.exprs)) (tree v.exprs) ∷ v.statements }
built_statement action.Do v = record v { right_sides = rest v.right_sides; statements = stmt.Do (right v.right_sides) ∷ v.statements }
built_statement action.Let v =
    record v { names = rest v.names; right_sides = rest v.right_sides; statements = stmt.Let (var.Name (name v.names)) (right v.right_sides) ∷ v.statements }
built_statement action.Set v =
    record v { names = rest v.names; right_sides = rest v.right_sides; statements = stmt.Set (var.Name (name v.names)) (right v.right_sides) ∷ v.statements }
built_statement action.If v =
    record v {
      bodies = rest (rest v.bodies);
      exprs = rest v.exprs;
      statements = stmt.If (tree v.exprs) (top [] (rest v.bodies)) (top [] v.bodies) ∷ v.statements;
    }
built_statement action.Return v = record v { exprs = rest v.exprs; statements = stmt.Return (Some (tree v.exprs)) ∷ v.statements }
built_statement action.ReturnNothing v = with_statement (stmt.Return None) v
built_statement action.TAbort v = with_statement stmt.TAbort v
built_statement other v = built_event other v

unfoldable pub built_right_side : Action → Trees → Trees
built_right_side action.Arguments v = record v { args = [] ∷ v.args }
built_right_side action.Argument v = record v { exprs = rest v.exprs; args = (top [] v.args ++ tree v.exprs ∷ []) ∷ rest v.args }
built_right_side action.DropWord v = without_word v
built_right_side action.Sets v = record v { sets = [] ∷ v.sets }
built_right_side action.AddSet v =
    record v { names = rest v.names; exprs = rest v.exprs; sets = (top [] v.sets ++ (name v.names, tree v.exprs) ∷ []) ∷ rest v.sets }
built_right_side action.Call v =
    record v {
      args = rest v.args;
      names = rest v.names;
      exprs = rest v.exprs;
      right_sides = rhs.Call (record { of = Some (tree v.exprs); method = name v.names; args = top [] v.args }) ∷ v.right_sides;
    }
built_right_side action.OwnCall v =
    record v {
      args = rest v.args;
      names = rest v.names;
      right_sides = rhs.Call (record { of = None; method = name v.names; args = top [] v.args }) ∷ v.right_sides;
    }
built_right_side action.New v =
    record v { sets = rest v.sets; names = rest v.names; right_sides = rhs.New (name v.names) (top [] v.sets) ∷ v.right_sides }
built_right_side action.NewVersion v = record v { exprs = rest v.exprs; right_sides = rhs.NewVersion (tree v.exprs) ∷ v.right_sides }
built_right_side action.Activate v =
    record v {
      args = rest v.args;
      names = rest v.names;
      exprs = rest v.exprs;
      right_sides = rhs.Activate (tree v.exprs) (name v.names) (top [] v.args) ∷ v.right_sides;
    }
built_right_side action.Plain v = record v { exprs = rest v.exprs; right_sides = rhs.Plain (tree v.exprs) ∷ v.right_sides }
built_right_side other v = built_statement other v

-- ---- expressions, and all

abbrev pub binary_of : Mark → BinOp
binary_of mark.Equal = binary.Eq
binary_of mark.NotEqual = binary.Ne
binary_of mark.Less = binary.Lt
binary_of mark.LessEqual = binary.Le
binary_of mark.Greater = binary.Gt
binary_of mark.GreaterEqual = binary.Ge
binary_of mark.Minus = binary.Sub
binary_of mark.Star = binary.Mul
binary_of mark.Slash = binary.Div
binary_of mark.Percent = binary.Rem
binary_of mark.AndAnd = binary.And
binary_of mark.OrOr = binary.Or
binary_of other = binary.Add

abbrev pub unary_of : Mark → UnOp
unary_of mark.Not = unary.Not
unary_of other = unary.Minus

unfoldable pub built : Action → Trees → Trees
built action.Leaf v = record v { leaves = rest v.leaves; exprs = tree v.leaves ∷ v.exprs }
built action.Variable v = record v { names = rest v.names; exprs = expr.Name (name v.names) ∷ v.exprs }
built action.Field v = record v { names = rest v.names; exprs = expr.Field (tree v.exprs) (name v.names) ∷ rest v.exprs }
built action.Version v = record v { exprs = expr.Version (tree v.exprs) ∷ rest v.exprs }
built action.Sign v = record v { marks = rest v.marks; exprs = expr.Unary (unary_of (mark_on v.marks)) (tree v.exprs) ∷ rest v.exprs }
built action.Binary v =
    record v { marks = rest v.marks; exprs = expr.Binary (binary_of (mark_on v.marks)) (tree (rest v.exprs)) (tree v.exprs) ∷ rest (rest v.exprs) }
built other v = built_right_side other v
