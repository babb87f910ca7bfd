-- Literals by one level.
use Rattle.std.proofs.Common.{◌≡◌, List, [], ◌∷◌, ◌++◌, map, Result, Ok, Err, OnOk, refl, ap, sym, ◌∙◌, append_assoc, arith}
use Rattle.std.proofs.lemmas.List.{append-nil}
use Rattle.std.specs.List.{flat_map}
use Rattle.ode_value.specs.declared.statement.Expr.{Expr, out-Expr, map-Expr, fold_out-Expr}
use Rattle.ode_value.specs.declared.statement.Expr.{the_lemmas as the_exprs}
use Rattle.ode_value.specs.declared.statement.Stmt.{Stmt, out-Stmt, map-Stmt, fold_out-Stmt}
use Rattle.ode_value.specs.declared.statement.Stmt.{the_lemmas as the_stmts}
use Rattle.ode_value.specs.declared.statement.Stmt.TheVariants as stmt
use Rattle.ode_value.specs.declared.value.Ref.{Ref}
use Rattle.ode_types.specs.Literals.{expr_refs, expr_refs_of, literals, stmt_refs_of}

pub expr_refs_out : (e : Expr) → expr_refs e ≡ expr_refs_of (map-Expr Expr (List Ref) expr_refs (out-Expr e))
unfolding expr_refs
expr_refs_out e = fold_out-Expr (List Ref) expr_refs_of e

pub ruleset expr_literals = (the_exprs, expr_refs_out)

pub literals_out : (s : Stmt) → literals s ≡ stmt_refs_of (map-Stmt Stmt (List Ref) literals (out-Stmt s))
unfolding literals
literals_out s = fold_out-Stmt (List Ref) stmt_refs_of s

-- the literals of a body
pub flat_map-literals : (ss : List Stmt) → flat_map (λ refs. refs) (map literals ss) ≡ flat_map literals ss
flat_map-literals [] = refl
flat_map-literals (s ∷ ss) = ap (λ refs. literals s ++ refs) (flat_map-literals ss)

pub ruleset stmt_literals = (the_stmts, literals_out, flat_map-literals)

pub literals-If : (s : Stmt) (test : Expr) (first second : List Stmt) → s ≡ stmt.If test first second → literals s ≡ expr_refs test ++ flat_map literals first ++ flat_map literals second
literals-If s test first second is = ap literals is ∙ literals_out (stmt.If test first second) ∙ simp (the_stmts, flat_map-literals)

pub literals-TAbort : (s : Stmt) → s ≡ stmt.TAbort → literals s ≡ []
literals-TAbort s is = ap literals is ∙ grind (arith, stmt_literals)

-- literals that are added one part after the other
pub after_both : (start middle last x y : List Ref) → last ≡ middle ++ y → middle ≡ start ++ x → last ≡ start ++ (x ++ y)
after_both start middle last x y p q = p ∙ ap (λ refs. refs ++ y) q ∙ append_assoc start x y

pub after_all : {E : Type 0} (r : Result (Unit {0}) E) (start middle last x y all : List Ref) → OnOk r (last ≡ middle ++ y) → middle ≡ start ++ x → all ≡ x ++ y → OnOk r (last ≡ start ++ all)
after_all (Ok u) start middle last x y all p q is = after_both start middle last x y p q ∙ ap (λ refs. start ++ refs) (sym is)
after_all (Err e) start middle last x y all p q is = tt

pub after_none : (start all : List Ref) → all ≡ [] → start ≡ start ++ all
after_none start all is = sym (ap (λ refs. start ++ refs) is ∙ append-nil start)
