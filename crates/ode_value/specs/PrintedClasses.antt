-- The printed text of statements, members and classes: each once, in order, with one blank between each two.
use Rattle.std.specs.Prelude.{ℕ, cond, List, [], ◌∷◌, ◌++◌, map, codes, Option, Some, None}
use Rattle.std.specs.List.{join_by}
use Rattle.ode_value.specs.Printing.{in_brackets, with_commas, expr_text, operand_text, kind_text, event_text}
use Rattle.ode_value.specs.declared.binding.Param.{Param}
use Rattle.ode_value.specs.declared.binding.Var.{Var}
use Rattle.ode_value.specs.declared.binding.Var.TheVariants as var
use Rattle.ode_value.specs.declared.event.Mode.{Mode}
use Rattle.ode_value.specs.declared.event.Mode.TheVariants.{Immediate, Deferred, Dependent, Independent}
use Rattle.ode_value.specs.declared.member.Constraint.{Constraint}
use Rattle.ode_value.specs.declared.member.Method.{Method}
use Rattle.ode_value.specs.declared.member.TriggerDecl.{TriggerDecl}
use Rattle.ode_value.specs.declared.statement.Call.{Call}
use Rattle.ode_value.specs.declared.statement.ClassDecl.{ClassDecl}
use Rattle.ode_value.specs.declared.statement.Expr.{Expr}
use Rattle.ode_value.specs.declared.statement.Member.{Member}
use Rattle.ode_value.specs.declared.statement.Member.TheVariants as member
use Rattle.ode_value.specs.declared.statement.Rhs.{Rhs}
use Rattle.ode_value.specs.declared.statement.Rhs.TheVariants as rhs
use Rattle.ode_value.specs.declared.statement.Sort.{Sort}
use Rattle.ode_value.specs.declared.statement.Sort.TheVariants as sort
use Rattle.ode_value.specs.declared.statement.Stmt.{Stmt, fold-Stmt}
use Rattle.ode_value.specs.declared.statement.Stmt.TheOpen as stmt

-- `{ text text }`, and `{ }` of none
abbrev pub in_braces : List (List ℕ) → List ℕ
in_braces [] = codes "{ }"
in_braces (text ∷ texts) = codes "{ " ++ join_by (λ one. one) (codes " ") (text ∷ texts) ++ codes " }"

-- ---- right sides

abbrev pub args_text : List Expr → List ℕ
args_text args = in_brackets (with_commas (map expr_text args))

-- `of.`, where there is a reference
abbrev pub of_text : Option Expr → List ℕ
of_text None = []
of_text (Some e) = operand_text e ++ codes "."

abbrev pub call_text : Call → List ℕ
call_text c = of_text c.of ++ c.method ++ args_text c.args

abbrev pub set_text : List ℕ × Expr → List ℕ
set_text set = set.0 ++ codes " = " ++ expr_text set.1

abbrev pub rhs_text : Rhs → List ℕ
rhs_text (rhs.Plain e) = expr_text e
rhs_text (rhs.Call c) = call_text c
rhs_text (rhs.New class fields) = codes "pnew " ++ class ++ in_brackets (with_commas (map set_text fields))
rhs_text (rhs.NewVersion e) = codes "newversion " ++ expr_text e
rhs_text (rhs.Activate of trigger args) = codes "activate " ++ of_text (Some of) ++ trigger ++ args_text args

-- ---- statements

-- the places of a checked tree have no text
abbrev pub var_text : Var → List ℕ
var_text (var.Name name) = name
var_text _ = []

abbrev pub value_part : Option Expr → List ℕ
value_part None = []
value_part (Some e) = codes " " ++ expr_text e

abbrev pub else_part : List (List ℕ) → List ℕ
else_part [] = []
else_part (text ∷ texts) = codes " else " ++ in_braces (text ∷ texts)

-- by one level
abbrev pub stmt_text_of : stmt.Stmt-F (List ℕ) → List ℕ
stmt_text_of (stmt.Let var rhs) = codes "let " ++ var_text var ++ codes " = " ++ rhs_text rhs ++ codes ";"
stmt_text_of (stmt.Set var rhs) = var_text var ++ codes " = " ++ rhs_text rhs ++ codes ";"
stmt_text_of (stmt.Do rhs) = rhs_text rhs ++ codes ";"
stmt_text_of (stmt.If test first second) = codes "if " ++ in_brackets (expr_text test) ++ codes " " ++ in_braces first ++ else_part second
stmt_text_of (stmt.Return value) = codes "return" ++ value_part value ++ codes ";"
stmt_text_of (stmt.Delete e) = codes "pdelete " ++ expr_text e ++ codes ";"
stmt_text_of (stmt.DropVersion e) = codes "delversion " ++ expr_text e ++ codes ";"
stmt_text_of (stmt.Deactivate e f) = codes "deactivate " ++ expr_text e ++ codes ", " ++ expr_text f ++ codes ";"
stmt_text_of (stmt.Show rhs) = codes "show " ++ rhs_text rhs ++ codes ";"
stmt_text_of (stmt.Say e) = codes "say " ++ expr_text e ++ codes ";"
stmt_text_of stmt.TAbort = codes "tabort;"

unfoldable pub stmt_text : Stmt → List ℕ
stmt_text = fold-Stmt (List ℕ) stmt_text_of

abbrev pub body_text : List Stmt → List ℕ
body_text body = in_braces (map stmt_text body)

-- ---- members

-- a sort by its word
abbrev pub sort_text : Sort → List ℕ
sort_text sort.Int = codes "int"
sort_text sort.Bool = codes "bool"
sort_text sort.Text = codes "text"
sort_text (sort.Reference class) = codes "ref " ++ class
sort_text sort.Void = codes "void"

abbrev pub param_text : Param → List ℕ
param_text p = sort_text p.sort ++ codes " " ++ p.name

abbrev pub params_text : List Param → List ℕ
params_text params = in_brackets (with_commas (map param_text params))

abbrev pub method_text : Method → List ℕ
method_text m = sort_text m.result ++ codes " " ++ m.name ++ params_text m.params ++ codes " " ++ body_text m.body

abbrev pub constraint_text : Constraint → List ℕ
constraint_text c = cond c.soft (codes "soft ") [] ++ codes "constraint " ++ c.name ++ codes ": " ++ expr_text c.test ++ codes ";"

abbrev pub mode_text : Mode → List ℕ
mode_text Immediate = codes "immediate "
mode_text Deferred = codes "deferred "
mode_text Dependent = codes "dependent "
mode_text Independent = codes "independent "

-- the words of a trigger, in full
abbrev pub trigger_words : TriggerDecl → List ℕ
trigger_words t =
    codes "trigger " ++ cond t.initial (codes "initial ") [] ++ cond t.perpetual (codes "perpetual ") (codes "once ")
    ++ cond t.whole (codes "whole ") (codes "committed ") ++ mode_text t.mode

abbrev pub trigger_text : TriggerDecl → List ℕ
trigger_text t = trigger_words t ++ t.name ++ params_text t.params ++ codes ": " ++ event_text t.event ++ codes " ==> " ++ body_text t.action

abbrev pub member_text : Member → List ℕ
member_text (member.Field name sort) = sort_text sort ++ codes " " ++ name ++ codes ";"
member_text (member.Method m) = method_text m
member_text (member.Constraint c) = constraint_text c
member_text (member.Events kinds) = codes "event " ++ with_commas (map kind_text kinds) ++ codes ";"
member_text (member.Trigger t) = trigger_text t

-- ---- classes

abbrev pub parent_text : Option (List ℕ) → List ℕ
parent_text None = []
parent_text (Some name) = codes " : " ++ name

abbrev pub decl_text : ClassDecl → List ℕ
decl_text d = codes "class " ++ d.name ++ parent_text d.parent ++ codes " " ++ in_braces (map member_text d.members)
