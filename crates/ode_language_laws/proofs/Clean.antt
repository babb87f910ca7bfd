-- The literals of trees that were read are references.
use Rattle.std.proofs.Common.{◌≡◌, ◌++◌, ℕ, List, [], ◌∷◌, Bool, true, false, cond, ◌==◌, Option, Some, None, sym, ◌∙◌, subst}
use Rattle.std.specs.List.{AllByRecursion, flat_map}
use Rattle.std.specs.Str.{bytes_eq}
use Rattle.std.specs.Prelude.{codes}
use Rattle.ode_value.specs.declared.binding.Var.{Var}
use Rattle.ode_value.specs.declared.operator.BinOp.{BinOp}
use Rattle.ode_value.specs.declared.operator.UnOp.{UnOp}
use Rattle.ode_value.specs.declared.statement.ClassDecl.{ClassDecl}
use Rattle.ode_value.specs.declared.statement.Expr.{Expr}
use Rattle.ode_value.specs.declared.statement.Expr.{the_lemmas as the_exprs}
use Rattle.ode_value.specs.declared.statement.Expr.TheVariants as expr
use Rattle.ode_value.specs.declared.statement.Rhs.{Rhs}
use Rattle.ode_value.specs.declared.statement.Rhs.TheVariants as rhs
use Rattle.ode_value.specs.declared.statement.Statement.{Statement}
use Rattle.ode_value.specs.declared.statement.Statement.TheVariants as statement
use Rattle.ode_value.specs.declared.statement.Stmt.{Stmt}
use Rattle.ode_value.specs.declared.statement.Stmt.{the_lemmas as the_stmts}
use Rattle.ode_value.specs.declared.statement.Stmt.TheVariants as stmt
use Rattle.ode_value.specs.declared.value.Ref.{Ref}
use Rattle.ode_value.specs.declared.value.Value.{Value}
use Rattle.ode_value.specs.declared.value.Value.TheVariants as value
use Rattle.ode_value.specs.References.{IsRef}
use Rattle.ode_lex.specs.declared.token.TokenKind.{TokenKind}
use Rattle.ode_lex.specs.declared.token.TokenKind.TheVariants as kind
use Rattle.ode_grammar.specs.declared.item.Action.{Action}
use Rattle.ode_grammar.specs.declared.item.Action.TheVariants as action
use Rattle.ode_grammar.specs.declared.terminal.Terminal.{Terminal}
use Rattle.ode_grammar.specs.declared.terminal.Terminal.TheVariants as terminal
use Rattle.ode_grammar.specs.Stacks.{rest, top}
use Rattle.ode_syntax.specs.declared.trees.Trees.{Trees}
use Rattle.ode_syntax.specs.Built.{below_zero, built, built_class, built_event, built_kind, built_member, built_right_side, built_script, built_statement, declared, negative, right, stmt_tree, tree}
use Rattle.ode_syntax.specs.Kept.{kept_as, leaf_of, word_leaf}
use Rattle.ode_types.specs.Literals.{all_refs, expr_refs, literals, optional_refs, rhs_refs, value_refs}
use Rattle.ode_types.proofs.LiteralLaws.{expr_refs_out, flat_map-literals, literals_out}
use Rattle.ode_reread.proofs.Sounds.{SoundKind}
use Rattle.ode_laws.proofs.Each.{all-append}
use Rattle.ode_sound_laws.proofs.WalkPosting.{all-flat}

-- ---- lists

all-top : {X : Type 0} (P : X → Type 0) (none : X) → P none → (xs : List X) → AllByRecursion P xs → P (top none xs)
all-top P none p [] all = p
all-top P none p (x ∷ xs) all = all.0

all-rest : {X : Type 0} (P : X → Type 0) (xs : List X) → AllByRecursion P xs → AllByRecursion P (rest xs)
all-rest P [] all = tt
all-rest P (x ∷ xs) all = all.1

-- ---- trees of which all literals are references

abbrev AreRefs : List Ref → Type 0
AreRefs refs = AllByRecursion IsRef refs

flat_refs : {X : Type 0} (refs : X → List Ref) (xs : List X) → AllByRecursion (λ x. AreRefs (refs x)) xs → AreRefs (flat_map refs xs)
flat_refs refs xs all = all-flat (λ x. AreRefs (refs x)) IsRef refs (λ x are. are) xs all

abbrev CleanExpr : Expr → Type 0
CleanExpr e = AreRefs (expr_refs e)

abbrev CleanSet : List ℕ × Expr → Type 0
CleanSet s = CleanExpr s.1

abbrev CleanRight : Rhs → Type 0
CleanRight r = AreRefs (rhs_refs r)

abbrev pub CleanStmt : Stmt → Type 0
CleanStmt s = AreRefs (literals s)

abbrev pub CleanScript : Statement → Type 0
CleanScript (statement.Simple s) = CleanStmt s
CleanScript statement.Empty = Unit {0}
CleanScript statement.Begin = Unit {0}
CleanScript statement.Commit = Unit {0}
CleanScript statement.Abort = Unit {0}
CleanScript (statement.Class d) = Unit {0}
CleanScript (statement.Clock text) = Unit {0}

-- what stands on the stacks of what was read
pub record CleanParts (leaves exprs : List Expr) (args : List (List Expr)) (sets : List (List (List ℕ × Expr))) (rights : List Rhs) (statements : List Stmt) (bodies : List (List Stmt)) (scripts : List Statement) : Type 0 where
  pub leaves_are : AllByRecursion CleanExpr leaves
  pub exprs_are : AllByRecursion CleanExpr exprs
  pub args_are : AllByRecursion (AllByRecursion CleanExpr) args
  pub sets_are : AllByRecursion (AllByRecursion CleanSet) sets
  pub rights_are : AllByRecursion CleanRight rights
  pub statements_are : AllByRecursion CleanStmt statements
  pub bodies_are : AllByRecursion (AllByRecursion CleanStmt) bodies
  pub scripts_are : AllByRecursion CleanScript scripts

abbrev pub IsClean : Trees → Type 0
IsClean v = CleanParts v.leaves v.exprs v.args v.sets v.right_sides v.statements v.bodies v.scripts

-- ---- one stack changes

module _ {l e : List Expr} {a : List (List Expr)} {s : List (List (List ℕ × Expr))} {r : List Rhs} {t : List Stmt} {b : List (List Stmt)} {c : List Statement} (h : CleanParts l e a s r t b c) where
  on_leaves : (x : List Expr) → AllByRecursion CleanExpr x → CleanParts x e a s r t b c
  on_leaves x p = record { leaves_are = p; exprs_are = h.exprs_are; args_are = h.args_are; sets_are = h.sets_are; rights_are = h.rights_are; statements_are = h.statements_are; bodies_are = h.bodies_are; scripts_are = h.scripts_are }

  on_exprs : (x : List Expr) → AllByRecursion CleanExpr x → CleanParts l x a s r t b c
  on_exprs x p = record { leaves_are = h.leaves_are; exprs_are = p; args_are = h.args_are; sets_are = h.sets_are; rights_are = h.rights_are; statements_are = h.statements_are; bodies_are = h.bodies_are; scripts_are = h.scripts_are }

  on_args : (x : List (List Expr)) → AllByRecursion (AllByRecursion CleanExpr) x → CleanParts l e x s r t b c
  on_args x p = record { leaves_are = h.leaves_are; exprs_are = h.exprs_are; args_are = p; sets_are = h.sets_are; rights_are = h.rights_are; statements_are = h.statements_are; bodies_are = h.bodies_are; scripts_are = h.scripts_are }

  on_sets : (x : List (List (List ℕ × Expr))) → AllByRecursion (AllByRecursion CleanSet) x → CleanParts l e a x r t b c
  on_sets x p = record { leaves_are = h.leaves_are; exprs_are = h.exprs_are; args_are = h.args_are; sets_are = p; rights_are = h.rights_are; statements_are = h.statements_are; bodies_are = h.bodies_are; scripts_are = h.scripts_are }

  on_rights : (x : List Rhs) → AllByRecursion CleanRight x → CleanParts l e a s x t b c
  on_rights x p = record { leaves_are = h.leaves_are; exprs_are = h.exprs_are; args_are = h.args_are; sets_are = h.sets_are; rights_are = p; statements_are = h.statements_are; bodies_are = h.bodies_are; scripts_are = h.scripts_are }

  on_statements : (x : List Stmt) → AllByRecursion CleanStmt x → CleanParts l e a s r x b c
  on_statements x p = record { leaves_are = h.leaves_are; exprs_are = h.exprs_are; args_are = h.args_are; sets_are = h.sets_are; rights_are = h.rights_are; statements_are = p; bodies_are = h.bodies_are; scripts_are = h.scripts_are }

  on_bodies : (x : List (List Stmt)) → AllByRecursion (AllByRecursion CleanStmt) x → CleanParts l e a s r t x c
  on_bodies x p = record { leaves_are = h.leaves_are; exprs_are = h.exprs_are; args_are = h.args_are; sets_are = h.sets_are; rights_are = h.rights_are; statements_are = h.statements_are; bodies_are = p; scripts_are = h.scripts_are }

  on_scripts : (x : List Statement) → AllByRecursion CleanScript x → CleanParts l e a s r t b x
  on_scripts x p = record { leaves_are = h.leaves_are; exprs_are = h.exprs_are; args_are = h.args_are; sets_are = h.sets_are; rights_are = h.rights_are; statements_are = h.statements_are; bodies_are = h.bodies_are; scripts_are = p }

-- ---- expressions

lit_refs : (v : Value) → expr_refs (expr.Lit v) ≡ value_refs v
lit_refs v = expr_refs_out (expr.Lit v) ∙ simp the_exprs

this_refs : expr_refs expr.This ≡ []
this_refs = expr_refs_out expr.This ∙ simp the_exprs

name_refs : (n : List ℕ) → expr_refs (expr.Name n) ≡ []
name_refs n = expr_refs_out (expr.Name n) ∙ simp the_exprs

field_refs : (e : Expr) (n : List ℕ) → expr_refs (expr.Field e n) ≡ expr_refs e
field_refs e n = expr_refs_out (expr.Field e n) ∙ simp the_exprs

version_refs : (e : Expr) → expr_refs (expr.Version e) ≡ expr_refs e
version_refs e = expr_refs_out (expr.Version e) ∙ simp the_exprs

unary_refs : (op : UnOp) (e : Expr) → expr_refs (expr.Unary op e) ≡ expr_refs e
unary_refs op e = expr_refs_out (expr.Unary op e) ∙ simp the_exprs

binary_refs : (op : BinOp) (e f : Expr) → expr_refs (expr.Binary op e f) ≡ expr_refs e ++ expr_refs f
binary_refs op e f = expr_refs_out (expr.Binary op e f) ∙ simp the_exprs

-- with the same references
same_refs : (rs qs : List Ref) → rs ≡ qs → AreRefs qs → AreRefs rs
same_refs rs qs same all = subst AreRefs (sym same) all

clean_this : CleanExpr expr.This
clean_this = same_refs (expr_refs expr.This) [] this_refs tt

clean_binary : (op : BinOp) (e f : Expr) → CleanExpr e → CleanExpr f → CleanExpr (expr.Binary op e f)
clean_binary op e f p q = same_refs (expr_refs (expr.Binary op e f)) (expr_refs e ++ expr_refs f) (binary_refs op e f) (all-append IsRef (expr_refs e) (expr_refs f) p q)

-- ---- statements

let_refs : (v : Var) (r : Rhs) → literals (stmt.Let v r) ≡ rhs_refs r
let_refs v r = literals_out (stmt.Let v r) ∙ simp the_stmts

set_refs : (v : Var) (r : Rhs) → literals (stmt.Set v r) ≡ rhs_refs r
set_refs v r = literals_out (stmt.Set v r) ∙ simp the_stmts

do_refs : (r : Rhs) → literals (stmt.Do r) ≡ rhs_refs r
do_refs r = literals_out (stmt.Do r) ∙ simp the_stmts

show_refs : (r : Rhs) → literals (stmt.Show r) ≡ rhs_refs r
show_refs r = literals_out (stmt.Show r) ∙ simp the_stmts

say_refs : (e : Expr) → literals (stmt.Say e) ≡ expr_refs e
say_refs e = literals_out (stmt.Say e) ∙ simp the_stmts

delete_refs : (e : Expr) → literals (stmt.Delete e) ≡ expr_refs e
delete_refs e = literals_out (stmt.Delete e) ∙ simp the_stmts

drop_refs : (e : Expr) → literals (stmt.DropVersion e) ≡ expr_refs e
drop_refs e = literals_out (stmt.DropVersion e) ∙ simp the_stmts

deactivate_refs : (e f : Expr) → literals (stmt.Deactivate e f) ≡ expr_refs e ++ expr_refs f
deactivate_refs e f = literals_out (stmt.Deactivate e f) ∙ simp the_stmts

return_refs : (e : Option Expr) → literals (stmt.Return e) ≡ optional_refs e
return_refs e = literals_out (stmt.Return e) ∙ simp the_stmts

abort_refs : literals stmt.TAbort ≡ []
abort_refs = literals_out stmt.TAbort ∙ simp the_stmts

if_refs : (test : Expr) (first second : List Stmt) → literals (stmt.If test first second) ≡ expr_refs test ++ flat_map literals first ++ flat_map literals second
if_refs test first second = literals_out (stmt.If test first second) ∙ simp (the_stmts, flat_map-literals)

clean_abort : CleanStmt stmt.TAbort
clean_abort = same_refs (literals stmt.TAbort) [] abort_refs tt

clean_if : (test : Expr) (first second : List Stmt) → CleanExpr test → AllByRecursion CleanStmt first → AllByRecursion CleanStmt second → CleanStmt (stmt.If test first second)
clean_if test first second p q r =
    same_refs (literals (stmt.If test first second)) (expr_refs test ++ flat_map literals first ++ flat_map literals second) (if_refs test first second)
    (all-append IsRef (expr_refs test ++ flat_map literals first) (flat_map literals second) (all-append IsRef (expr_refs test) (flat_map literals first) p (flat_refs literals first q)) (flat_refs literals second r))

-- ---- what is on top

module _ (v : Trees) (h : IsClean v) where
  top_leaf : CleanExpr (tree v.leaves)
  top_leaf = all-top CleanExpr expr.This clean_this v.leaves h.leaves_are

  top_expr : CleanExpr (tree v.exprs)
  top_expr = all-top CleanExpr expr.This clean_this v.exprs h.exprs_are

  rest_exprs : AllByRecursion CleanExpr (rest v.exprs)
  rest_exprs = all-rest CleanExpr v.exprs h.exprs_are

  second_expr : CleanExpr (tree (rest v.exprs))
  second_expr = all-top CleanExpr expr.This clean_this (rest v.exprs) rest_exprs

  rest_two : AllByRecursion CleanExpr (rest (rest v.exprs))
  rest_two = all-rest CleanExpr (rest v.exprs) rest_exprs

  top_right : CleanRight (right v.right_sides)
  top_right = all-top CleanRight (rhs.Plain expr.This) clean_this v.right_sides h.rights_are

  top_stmt : CleanStmt (stmt_tree v.statements)
  top_stmt = all-top CleanStmt stmt.TAbort clean_abort v.statements h.statements_are

  top_args : AllByRecursion CleanExpr (top [] v.args)
  top_args = all-top (AllByRecursion CleanExpr) [] tt v.args h.args_are

  rest_args : AllByRecursion (AllByRecursion CleanExpr) (rest v.args)
  rest_args = all-rest (AllByRecursion CleanExpr) v.args h.args_are

  top_sets : AllByRecursion CleanSet (top [] v.sets)
  top_sets = all-top (AllByRecursion CleanSet) [] tt v.sets h.sets_are

  top_body : AllByRecursion CleanStmt (top [] v.bodies)
  top_body = all-top (AllByRecursion CleanStmt) [] tt v.bodies h.bodies_are

  rest_bodies : AllByRecursion (AllByRecursion CleanStmt) (rest v.bodies)
  rest_bodies = all-rest (AllByRecursion CleanStmt) v.bodies h.bodies_are

  second_body : AllByRecursion CleanStmt (top [] (rest v.bodies))
  second_body = all-top (AllByRecursion CleanStmt) [] tt (rest v.bodies) rest_bodies

  without_leaf : IsClean (record v { leaves = rest v.leaves })
  without_leaf = on_leaves h (rest v.leaves) (all-rest CleanExpr v.leaves h.leaves_are)

  without_expr : IsClean (record v { exprs = rest v.exprs })
  without_expr = on_exprs h (rest v.exprs) rest_exprs

  without_body : IsClean (record v { bodies = rest v.bodies })
  without_body = on_bodies h (rest v.bodies) rest_bodies

  without_right : IsClean (record v { right_sides = rest v.right_sides })
  without_right = on_rights h (rest v.right_sides) (all-rest CleanRight v.right_sides h.rights_are)

-- ---- each action

-- a class that was declared, or nothing
declared_clean : (classes : List ClassDecl) → CleanScript (declared classes)
declared_clean [] = tt
declared_clean (c ∷ cs) = tt

-- a number has no references
negative_clean : (e : Expr) → CleanExpr e → CleanExpr (negative e)
negative_clean (expr.Lit (value.Int n)) h = same_refs (expr_refs (expr.Lit (value.Int (below_zero n)))) [] (lit_refs (value.Int (below_zero n))) tt
negative_clean (expr.Lit (value.Bool b)) h = h
negative_clean (expr.Lit (value.Text t)) h = h
negative_clean (expr.Lit (value.Reference r)) h = h
negative_clean other h = h

script_clean : (a : Action) (v : Trees) → IsClean v → IsClean (built_script a v)
unfolding built_script
script_clean action.Declare v h = on_scripts h (declared v.classes ∷ v.scripts) (declared_clean v.classes, h.scripts_are)
script_clean action.Begin v h = on_scripts h (statement.Begin ∷ v.scripts) (tt, h.scripts_are)
script_clean action.Commit v h = on_scripts h (statement.Commit ∷ v.scripts) (tt, h.scripts_are)
script_clean action.Abort v h = on_scripts h (statement.Abort ∷ v.scripts) (tt, h.scripts_are)
script_clean action.Clock v h = on_scripts (without_leaf v h) _ (tt, h.scripts_are)
script_clean action.Simple v h = on_scripts (on_statements h (rest v.statements) (all-rest CleanStmt v.statements h.statements_are)) (statement.Simple (stmt_tree v.statements) ∷ v.scripts) (top_stmt v h, h.scripts_are)
script_clean action.Empty v h = on_scripts h (statement.Empty ∷ v.scripts) (tt, h.scripts_are)
script_clean action.Change v h = h
script_clean action.Negative v h = on_leaves h (negative (tree v.leaves) ∷ rest v.leaves) (negative_clean (tree v.leaves) (top_leaf v h), all-rest CleanExpr v.leaves h.leaves_are)
script_clean action.Addition v h = without_leaf v h
script_clean _ v h = h

member_clean : (a : Action) (v : Trees) → IsClean v → IsClean (built_member a v)
unfolding built_member
member_clean action.FieldMember v h = h
member_clean action.Method v h = without_body v h
member_clean action.Constraint v h = without_expr v h
member_clean action.SoftConstraint v h = without_expr v h
member_clean action.Events v h = h
member_clean action.Trigger v h = without_body v h
member_clean a v h = script_clean a v h

class_clean : (a : Action) (v : Trees) → IsClean v → IsClean (built_class a v)
unfolding built_class
class_clean action.RefSort v h = h
class_clean action.VoidSort v h = h
class_clean action.Params v h = h
class_clean action.Param v h = h
class_clean action.Kinds v h = h
class_clean action.Listed v h = h
class_clean action.Initial v h = h
class_clean action.NotInitial v h = h
class_clean action.Once v h = h
class_clean action.Committed v h = h
class_clean action.Immediate v h = h
class_clean action.Members v h = h
class_clean action.Parent v h = h
class_clean action.NoParent v h = h
class_clean action.Class v h = h
class_clean a v h = member_clean a v h

kind_clean : (a : Action) (v : Trees) → IsClean v → IsClean (built_kind a v)
unfolding built_kind
kind_clean action.AfterCreate v h = h
kind_clean action.BeforeDelete v h = h
kind_clean action.AfterMethod v h = h
kind_clean action.BeforeMethod v h = h
kind_clean action.AfterTBegin v h = h
kind_clean action.BeforeTComplete v h = h
kind_clean action.AfterTCommit v h = h
kind_clean action.AfterTAbort v h = h
kind_clean action.AfterNewVersion v h = h
kind_clean action.BeforeDropVersion v h = h
kind_clean action.TimeAt v h = without_leaf v h
kind_clean action.TimeEvery v h = without_leaf v h
kind_clean a v h = class_clean a v h

event_clean : (a : Action) (v : Trees) → IsClean v → IsClean (built_event a v)
unfolding built_event
event_clean action.Any v h = h
event_clean action.First v h = h
event_clean action.Unmasked v h = h
event_clean action.Masked v h = without_expr v h
event_clean action.MaskedEvent v h = without_expr v h
event_clean action.NotEvent v h = h
event_clean action.AndEvents v h = h
event_clean action.OrEvents v h = h
event_clean action.Relative v h = h
event_clean action.RelPlus v h = h
event_clean action.Prior v h = h
event_clean action.Sequence v h = h
event_clean action.Pipe v h = h
event_clean action.Choose v h = without_leaf v h
event_clean action.Every v h = without_leaf v h
event_clean action.Fa v h = h
event_clean action.FaAbs v h = h
event_clean a v h = kind_clean a v h

statement_clean : (a : Action) (v : Trees) → IsClean v → IsClean (built_statement a v)
unfolding built_statement
statement_clean action.Body v h = on_bodies h ([] ∷ v.bodies) (tt, h.bodies_are)
statement_clean action.Absent v h = on_bodies h ([] ∷ v.bodies) (tt, h.bodies_are)
statement_clean action.Append v h =
    on_bodies (on_statements h (rest v.statements) (all-rest CleanStmt v.statements h.statements_are)) ((top [] v.bodies ++ stmt_tree v.statements ∷ []) ∷ rest v.bodies)
    (all-append CleanStmt (top [] v.bodies) (stmt_tree v.statements ∷ []) (top_body v h) (top_stmt v h, tt), rest_bodies v h)
statement_clean action.Show v h =
    on_statements (without_right v h) (stmt.Show (right v.right_sides) ∷ v.statements) (same_refs (literals (stmt.Show (right v.right_sides))) (rhs_refs (right v.right_sides)) (show_refs (right v.right_sides)) (top_right v h), h.statements_are)
statement_clean action.Say v h =
    on_statements (without_expr v h) (stmt.Say (tree v.exprs) ∷ v.statements) (same_refs (literals (stmt.Say (tree v.exprs))) (expr_refs (tree v.exprs)) (say_refs (tree v.exprs)) (top_expr v h), h.statements_are)
statement_clean action.Delete v h =
    on_statements (without_expr v h) (stmt.Delete (tree v.exprs) ∷ v.statements) (same_refs (literals (stmt.Delete (tree v.exprs))) (expr_refs (tree v.exprs)) (delete_refs (tree v.exprs)) (top_expr v h), h.statements_are)
statement_clean action.DropVersion v h =
    on_statements (without_expr v h) (stmt.DropVersion (tree v.exprs) ∷ v.statements) (same_refs (literals (stmt.DropVersion (tree v.exprs))) (expr_refs (tree v.exprs)) (drop_refs (tree v.exprs)) (top_expr v h), h.statements_are)
statement_clean action.Deactivate v h =
    let e = tree (rest v.exprs) in
    let f = tree v.exprs in
    on_statements (on_exprs h (rest (rest v.exprs)) (rest_two v h)) (stmt.Deactivate e f ∷ v.statements)
    (same_refs (literals (stmt.Deactivate e f)) (expr_refs e ++ expr_refs f) (deactivate_refs e f) (all-append IsRef (expr_refs e) (expr_refs f) (second_expr v h) (top_expr v h)), h.statements_are)
statement_clean action.Do v h =
    on_statements (without_right v h) (stmt.Do (right v.right_sides) ∷ v.statements) (same_refs (literals (stmt.Do (right v.right_sides))) (rhs_refs (right v.right_sides)) (do_refs (right v.right_sides)) (top_right v h), h.statements_are)
statement_clean action.Let v h = on_statements (without_right v h) _ (same_refs _ (rhs_refs (right v.right_sides)) (let_refs _ (right v.right_sides)) (top_right v h), h.statements_are)
statement_clean action.Set v h = on_statements (without_right v h) _ (same_refs _ (rhs_refs (right v.right_sides)) (set_refs _ (right v.right_sides)) (top_right v h), h.statements_are)
statement_clean action.If v h =
    let test = tree v.exprs in
    let first = top [] (rest v.bodies) in
    let second = top [] v.bodies in
    on_statements (on_exprs (on_bodies h (rest (rest v.bodies)) (all-rest (AllByRecursion CleanStmt) (rest v.bodies) (rest_bodies v h))) (rest v.exprs) (rest_exprs v h)) (stmt.If test first second ∷ v.statements)
    (clean_if test first second (top_expr v h) (second_body v h) (top_body v h), h.statements_are)
statement_clean action.Return v h =
    on_statements (without_expr v h) (stmt.Return (Some (tree v.exprs)) ∷ v.statements)
    (same_refs (literals (stmt.Return (Some (tree v.exprs)))) (expr_refs (tree v.exprs)) (return_refs (Some (tree v.exprs))) (top_expr v h), h.statements_are)
statement_clean action.ReturnNothing v h = on_statements h (stmt.Return None ∷ v.statements) (same_refs (literals (stmt.Return None)) [] (return_refs None) tt, h.statements_are)
statement_clean action.TAbort v h = on_statements h (stmt.TAbort ∷ v.statements) (clean_abort, h.statements_are)
statement_clean a v h = event_clean a v h

right_clean : (a : Action) (v : Trees) → IsClean v → IsClean (built_right_side a v)
unfolding built_right_side
right_clean action.Arguments v h = on_args h ([] ∷ v.args) (tt, h.args_are)
right_clean action.Argument v h =
    on_args (without_expr v h) ((top [] v.args ++ tree v.exprs ∷ []) ∷ rest v.args) (all-append CleanExpr (top [] v.args) (tree v.exprs ∷ []) (top_args v h) (top_expr v h, tt), rest_args v h)
right_clean action.DropWord v h = h
right_clean action.Sets v h = on_sets h ([] ∷ v.sets) (tt, h.sets_are)
right_clean action.AddSet v h =
    on_sets (without_expr v h) _ (all-append CleanSet (top [] v.sets) (_ ∷ []) (top_sets v h) (top_expr v h, tt), all-rest (AllByRecursion CleanSet) v.sets h.sets_are)
right_clean action.Call v h =
    on_rights (on_args (without_expr v h) (rest v.args) (rest_args v h)) _
    (all-append IsRef (expr_refs (tree v.exprs)) (all_refs (top [] v.args)) (top_expr v h) (flat_refs expr_refs (top [] v.args) (top_args v h)), h.rights_are)
right_clean action.OwnCall v h = on_rights (on_args h (rest v.args) (rest_args v h)) _ (flat_refs expr_refs (top [] v.args) (top_args v h), h.rights_are)
right_clean action.New v h =
    on_rights (on_sets h (rest v.sets) (all-rest (AllByRecursion CleanSet) v.sets h.sets_are)) _ (flat_refs (λ (f : List ℕ × Expr). expr_refs f.1) (top [] v.sets) (top_sets v h), h.rights_are)
right_clean action.NewVersion v h = on_rights (without_expr v h) (rhs.NewVersion (tree v.exprs) ∷ v.right_sides) (top_expr v h, h.rights_are)
right_clean action.Activate v h =
    on_rights (on_args (without_expr v h) (rest v.args) (rest_args v h)) _
    (all-append IsRef (expr_refs (tree v.exprs)) (all_refs (top [] v.args)) (top_expr v h) (flat_refs expr_refs (top [] v.args) (top_args v h)), h.rights_are)
right_clean action.Plain v h = on_rights (without_expr v h) (rhs.Plain (tree v.exprs) ∷ v.right_sides) (top_expr v h, h.rights_are)
right_clean a v h = statement_clean a v h

pub make_clean : (a : Action) (v : Trees) → IsClean v → IsClean (built a v)
unfolding built
make_clean action.Leaf v h = on_exprs (without_leaf v h) (tree v.leaves ∷ v.exprs) (top_leaf v h, h.exprs_are)
make_clean action.Variable v h = on_exprs h _ (same_refs _ [] (name_refs _) tt, h.exprs_are)
make_clean action.Field v h = on_exprs h _ (same_refs _ (expr_refs (tree v.exprs)) (field_refs (tree v.exprs) _) (top_expr v h), rest_exprs v h)
make_clean action.Version v h = on_exprs h (expr.Version (tree v.exprs) ∷ rest v.exprs) (same_refs (expr_refs (expr.Version (tree v.exprs))) (expr_refs (tree v.exprs)) (version_refs (tree v.exprs)) (top_expr v h), rest_exprs v h)
make_clean action.Sign v h = on_exprs h _ (same_refs _ (expr_refs (tree v.exprs)) (unary_refs _ (tree v.exprs)) (top_expr v h), rest_exprs v h)
make_clean action.Binary v h = on_exprs h _ (clean_binary _ (tree (rest v.exprs)) (tree v.exprs) (second_expr v h) (top_expr v h), rest_two v h)
make_clean a v h = right_clean a v h

-- ---- each token

word_clean : (word : List ℕ) → CleanExpr (word_leaf word)
word_clean word = by_test (bytes_eq word (codes "true")) (bytes_eq word (codes "false")) (bytes_eq word (codes "null")) where
  by_test : (a b c : Bool) → CleanExpr (cond a (expr.Lit (value.Bool true)) (cond b (expr.Lit (value.Bool false)) (cond c (expr.Lit (value.Reference (record { object = 0; version = None }))) expr.This)))
  by_test true b c = same_refs (expr_refs (expr.Lit (value.Bool true))) [] (lit_refs (value.Bool true)) tt
  by_test false true c = same_refs (expr_refs (expr.Lit (value.Bool false))) [] (lit_refs (value.Bool false)) tt
  by_test false false true = same_refs (expr_refs (expr.Lit (value.Reference (record { object = 0; version = None })))) [] (lit_refs (value.Reference (record { object = 0; version = None }))) tt
  by_test false false false = clean_this

leaf_clean : (k : TokenKind) → SoundKind k → (bytes : List ℕ) → CleanExpr (leaf_of k bytes)
leaf_clean kind.Word sound bytes = word_clean bytes
leaf_clean (kind.Number n) sound bytes = same_refs (expr_refs (expr.Lit (value.Int n))) [] (lit_refs (value.Int n)) tt
leaf_clean kind.Text sound bytes = same_refs _ [] (lit_refs (value.Text _)) tt
leaf_clean (kind.Reference r) sound bytes = same_refs (expr_refs (expr.Lit (value.Reference r))) (value_refs (value.Reference r)) (lit_refs (value.Reference r)) (by_null (r.object == 0)) where
  by_null : (b : Bool) → AreRefs (cond b [] (r ∷ []))
  by_null true = tt
  by_null false = (sound.1, tt)
leaf_clean (kind.Mark m) sound bytes = clean_this

pub keep_clean : (t : Terminal) (k : TokenKind) → SoundKind k → (bytes : List ℕ) (v : Trees) → IsClean v → IsClean (kept_as t k bytes v)
unfolding kept_as
keep_clean terminal.Name k sound bytes v h = h
keep_clean terminal.Leaf k sound bytes v h = on_leaves h (leaf_of k bytes ∷ v.leaves) (leaf_clean k sound bytes, h.leaves_are)
keep_clean terminal.Number k sound bytes v h = on_leaves h (leaf_of k bytes ∷ v.leaves) (leaf_clean k sound bytes, h.leaves_are)
keep_clean terminal.Seconds k sound bytes v h = on_leaves h (leaf_of k bytes ∷ v.leaves) (leaf_clean k sound bytes, h.leaves_are)
keep_clean terminal.Count k sound bytes v h = on_leaves h (leaf_of k bytes ∷ v.leaves) (leaf_clean k sound bytes, h.leaves_are)
keep_clean terminal.Text k sound bytes v h = on_leaves h (leaf_of k bytes ∷ v.leaves) (leaf_clean k sound bytes, h.leaves_are)
keep_clean terminal.Instant k sound bytes v h = on_leaves h (leaf_of k bytes ∷ v.leaves) (leaf_clean k sound bytes, h.leaves_are)
keep_clean terminal.Not k sound bytes v h = h
keep_clean terminal.Minus k sound bytes v h = h
keep_clean terminal.Plus k sound bytes v h = h
keep_clean terminal.Times k sound bytes v h = h
keep_clean terminal.Compares k sound bytes v h = h
keep_clean terminal.AndAnd k sound bytes v h = h
keep_clean terminal.OrOr k sound bytes v h = h
keep_clean terminal.SortWord k sound bytes v h = h
keep_clean terminal.Lasting k sound bytes v h = h
keep_clean terminal.Scope k sound bytes v h = h
keep_clean terminal.Mode k sound bytes v h = h
keep_clean _ k sound bytes v h = h
