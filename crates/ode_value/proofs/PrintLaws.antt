-- Printed trees by one level, for code, and by their form, for examples.
use Rattle.std.proofs.Common.{◌≡◌, ℕ, List, ◌++◌, map, ap, sym, ◌∙◌}
use Rattle.std.specs.Prelude.{codes, Some, None}
use Rattle.ode_value.specs.declared.event.EventExpr.{EventExpr, fold-roll-EventExpr, fold_out-EventExpr, map-EventExpr, out-EventExpr}
use Rattle.ode_value.specs.declared.event.EventExpr.{the_lemmas as event_lemmas}
use Rattle.ode_value.specs.declared.event.EventExpr.TheOpen as event
use Rattle.ode_value.specs.declared.event.EventExpr.TheVariants as a
use Rattle.ode_value.specs.declared.event.Kind.{Kind}
use Rattle.ode_value.specs.declared.operator.BinOp.{BinOp}
use Rattle.ode_value.specs.declared.statement.Expr.{Expr, fold-roll-Expr, fold_out-Expr, map-Expr, out-Expr}
use Rattle.ode_value.specs.declared.statement.Expr.{the_lemmas as expr_lemmas}
use Rattle.ode_value.specs.declared.statement.Expr.TheOpen as expr
use Rattle.ode_value.specs.declared.statement.Expr.TheVariants as e
use Rattle.ode_value.specs.declared.statement.Stmt.{Stmt, fold-roll-Stmt, fold_out-Stmt, map-Stmt, out-Stmt}
use Rattle.ode_value.specs.declared.statement.Stmt.{the_lemmas as stmt_lemmas}
use Rattle.ode_value.specs.declared.statement.Stmt.TheOpen as stmt
use Rattle.ode_value.specs.declared.statement.Stmt.TheVariants as s
use Rattle.ode_value.specs.declared.value.Value.{Value}
use Rattle.ode_value.specs.Printing.{Printed, printed, printed_of, printed_event, printed_event_of, operand, no_operator, kind_text}
use Rattle.ode_value.specs.PrintedClasses.{stmt_text, stmt_text_of}

-- ---- by one level

pub printed_out : (x : Expr) → printed x ≡ printed_of (map-Expr Expr Printed printed (out-Expr x))
unfolding printed
printed_out x = fold_out-Expr Printed printed_of x

pub ruleset printed_exprs = (expr_lemmas, printed_out)

pub printed_event_out : (x : EventExpr) → printed_event x ≡ printed_event_of (map-EventExpr EventExpr Printed printed_event (out-EventExpr x))
unfolding printed_event
printed_event_out x = fold_out-EventExpr Printed printed_event_of x

pub ruleset printed_events = (event_lemmas, printed_event_out)

pub stmt_text_out : (x : Stmt) → stmt_text x ≡ stmt_text_of (map-Stmt Stmt (List ℕ) stmt_text (out-Stmt x))
unfolding stmt_text
stmt_text_out x = fold_out-Stmt (List ℕ) stmt_text_of x

-- both bodies of an `if` as lists of statements
pub stmt_text_if : (test : Expr) (first second : List Stmt) → stmt_text (s.If test first second) ≡ stmt_text_of (stmt.If test (map stmt_text first) (map stmt_text second))
unfolding stmt_text
stmt_text_if test first second = ap stmt_text (sym (s.rolls-If test first second)) ∙ fold-roll-Stmt (List ℕ) stmt_text_of (stmt.If test first second)

pub ruleset printed_stmts = (stmt_lemmas, stmt_text_if, stmt_text_out)

-- ---- by their form

pub printed-Lit : (x : Value) → printed (e.Lit x) ≡ printed_of (expr.Lit x)
unfolding printed
printed-Lit x = ap printed (sym (e.rolls-Lit x)) ∙ fold-roll-Expr Printed printed_of (expr.Lit x)

pub printed-Name : (name : List ℕ) → printed (e.Name name) ≡ printed_of (expr.Name name)
unfolding printed
printed-Name name = ap printed (sym (e.rolls-Name name)) ∙ fold-roll-Expr Printed printed_of (expr.Name name)

pub printed-Binary : (op : BinOp) (x y : Expr) (p q : Printed) → printed x ≡ p → printed y ≡ q → printed (e.Binary op x y) ≡ printed_of (expr.Binary op p q)
unfolding printed
printed-Binary op x y p q is are =
    ap printed (sym (e.rolls-Binary op x y)) ∙ fold-roll-Expr Printed printed_of (expr.Binary op x y) ∙ (λ i. printed_of (expr.Binary op (is i) (are i)))

pub event-Leaf : (kind : Kind) → printed_event (a.Leaf kind None) ≡ printed_event_of (event.Leaf kind None)
unfolding printed_event
event-Leaf kind = ap printed_event (sym (a.rolls-Leaf kind None)) ∙ fold-roll-EventExpr Printed printed_event_of (event.Leaf kind None)

pub event-masked : (kind : Kind) (x : Expr) (p : Printed) → printed x ≡ p → printed_event (a.Leaf kind (Some x)) ≡ no_operator (kind_text kind ++ (codes " && " ++ operand p))
unfolding printed_event
event-masked kind x p is =
    ap printed_event (sym (a.rolls-Leaf kind (Some x))) ∙ fold-roll-EventExpr Printed printed_event_of (event.Leaf kind (Some x))
    ∙ (λ i. no_operator (kind_text kind ++ (codes " && " ++ operand (is i))))

pub event-And : (x y : EventExpr) (p q : Printed) → printed_event x ≡ p → printed_event y ≡ q → printed_event (a.And x y) ≡ printed_event_of (event.And p q)
unfolding printed_event
event-And x y p q is are =
    ap printed_event (sym (a.rolls-And x y)) ∙ fold-roll-EventExpr Printed printed_event_of (event.And x y) ∙ (λ i. printed_event_of (event.And (is i) (are i)))

pub event-Or : (x y : EventExpr) (p q : Printed) → printed_event x ≡ p → printed_event y ≡ q → printed_event (a.Or x y) ≡ printed_event_of (event.Or p q)
unfolding printed_event
event-Or x y p q is are =
    ap printed_event (sym (a.rolls-Or x y)) ∙ fold-roll-EventExpr Printed printed_event_of (event.Or x y) ∙ (λ i. printed_event_of (event.Or (is i) (are i)))

pub stmt-Say : (x : Expr) (p : Printed) → printed x ≡ p → stmt_text (s.Say x) ≡ codes "say " ++ p.text ++ codes ";"
unfolding stmt_text
stmt-Say x p is =
    ap stmt_text (sym (s.rolls-Say x)) ∙ fold-roll-Stmt (List ℕ) stmt_text_of (stmt.Say x) ∙ (λ i. codes "say " ++ (is i).text ++ codes ";")
