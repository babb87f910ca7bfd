-- An object that is made by its class's name is made whole.
use Rattle.std.proofs.Common.{◌≡◌, ℕ, List, map, refl}
use Rattle.ode_value.specs.Acts.{◌>>=◌, finds, go_on}
use Rattle.ode_value.specs.Evaluation.{Frame}
use Rattle.ode_value.specs.Expressions.{evaluates_sets}
use Rattle.ode_value.specs.Pasts.{Past}
use Rattle.ode_value.specs.Statements.{first_value, makes_named}
use Rattle.ode_value.specs.Transactions.{Tx}
use Rattle.ode_value.specs.Worlds.{class_named}
use Rattle.ode_value.specs.declared.statement.Expr.{Expr}
use Rattle.ode_interpreter.specs.Creating.{makes_active}

pub named_is : {O A : Type 0} (past : Past O A) (name : List ℕ) (sets : List (List ℕ × Expr)) (frame : Frame) (x : Tx O A)
    → makes_named past name sets frame x
    ≡ go_on (evaluates_sets sets frame x) (λ given. finds (λ b. class_named name b.classes) >>= λ c. makes_active past c.number (map (first_value given) c.fields))
unfolding makes_named makes_active
named_is past name sets frame x = refl
