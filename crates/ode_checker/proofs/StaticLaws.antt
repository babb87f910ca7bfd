-- A statement of a script.
use Rattle.std.proofs.Common.{◌≡◌, ℕ, List, [], ◌++◌, Result, Ok, Err, ap, subst, ◌∙◌}
use Rattle.std.proofs.lemmas.List.{append-nil}
use Rattle.std.specs.Prelude.{IfOk}
use Rattle.ode_value.specs.declared.class.Class.{Class}
use Rattle.ode_value.specs.declared.statement.Stmt.{Stmt}
use Rattle.ode_value.specs.declared.value.Ref.{Ref}
use Rattle.ode_types.specs.Answers.{Answers, AnswersWith}
use Rattle.ode_types.specs.Bodies.{checks}
use Rattle.ode_types.specs.Kept.{IsTypedStatement}
use Rattle.ode_types.specs.Scopes.{Scope}
use Rattle.ode_types.specs.Static.{check_statement, script_scope}
use Rattle.ode_types.specs.declared.stop.CheckStop.{CheckStop}
use Rattle.ode_types.proofs.KeptStatements.{typed_statement}
use Rattle.ode_typing.proofs.StatementLaws.{first_of}

pub statement_checked : (classes : List Class) (literals : List (Ref × ℕ)) (s : Stmt) (all : List Class) (scope last : Scope) (r : Result Stmt CheckStop) → all ≡ classes ++ [] → scope ≡ script_scope all literals → AnswersWith (checks s scope) last r → Answers (check_statement classes literals s) r
unfolding check_statement
statement_checked classes literals s all scope last r more is h =
    let same : scope ≡ script_scope classes literals = is ∙ ap (λ (cs : List Class). script_scope cs literals) (more ∙ append-nil classes) in
    first_of (checks s (script_scope classes literals)) last r (subst (λ (sc : Scope). AnswersWith (checks s sc) last r) same h)

-- what was answered is typed
typed_answer : (classes : List Class) (literals : List (Ref × ℕ)) (s : Stmt) (r : Result Stmt CheckStop) → Answers (check_statement classes literals s) r → IfOk r (λ t. IsTypedStatement classes literals t)
typed_answer classes literals s (Ok t) h = typed_statement classes literals s t h
typed_answer classes literals s (Err e) h = tt

pub statement_typed : (classes : List Class) (literals : List (Ref × ℕ)) (s : Stmt) (all : List Class) (scope last : Scope) (r : Result Stmt CheckStop) → all ≡ classes ++ [] → scope ≡ script_scope all literals → AnswersWith (checks s scope) last r → IfOk r (λ t. IsTypedStatement classes literals t)
statement_typed classes literals s all scope last r more is h = typed_answer classes literals s r (statement_checked classes literals s all scope last r more is h)
