-- The first mark among more.
use Rattle.std.proofs.Common.{◌≡◌, ℕ, true, false, cond, List, [], ◌∷◌, ◌++◌, Some, option_map, length, nat_eq}
use Rattle.std.specs.List.{find, starts_with}
use Rattle.ode_lex.specs.declared.token.Mark.{Mark}
use Rattle.ode_lex.specs.Marks.{first_mark, spelled_mark}

-- what is found among the first is found among all
pub first_mark_append : (bytes : List ℕ) (among more : List Mark) (found : Mark × ℕ) → first_mark bytes among ≡ Some found → first_mark bytes (among ++ more) ≡ Some found
first_mark_append bytes [] more found e = cc
first_mark_append bytes (mark ∷ marks) more found e =
    elim (starts_with nat_eq bytes (spelled_mark mark)) as (λ test.
    option_map (λ m. (m, length (spelled_mark m))) (cond test (Some mark) (find (λ m. starts_with nat_eq bytes (spelled_mark m)) marks)) ≡ Some found
    → option_map (λ m. (m, length (spelled_mark m))) (cond test (Some mark) (find (λ m. starts_with nat_eq bytes (spelled_mark m)) (marks ++ more))) ≡ Some found)
    [ true ↦ λ e. e | false ↦ λ e. first_mark_append bytes marks more found e ] e
