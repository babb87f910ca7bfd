-- A generated script ends by itself.
use Rattle.std.proofs.Common.{◌≡◌, ℕ, ◌-◌, ◌*◌, ◌≤◌, List, [], ◌++◌, length, refl, ◌∙◌, arith}
use Rattle.ode_value.specs.Limits.{script_limit, statement_limit}
use Rattle.ode_script.specs.Cutting.{End, cut, ending_of, pieces}
use Rattle.ode_script.specs.Pieces.{begun}
use Rattle.ode_gen.specs.Generating.{class_line, gen_limit, gen_script, lines_from, object_line}
use Rattle.ode_gen.proofs.Lines.{length_lines, run_lines}
use Rattle.ode_gen.proofs.Plain.{plain_ends}

-- behind the first two lines a piece begins
head_ends : (rest : List ℕ) → ending_of (pieces (class_line ++ object_line ++ rest)) ≡ ending_of (cut (begun 3) (script_limit - length (class_line ++ object_line)) 3 rest)
unfolding class_line object_line script_limit statement_limit
head_ends rest = refl

-- and all other lines have room
has_room : 60 * gen_limit ≤ script_limit - length (class_line ++ object_line)
unfolding class_line object_line script_limit gen_limit
has_room = omega arith

pub generated_end : (number : ℕ) → number ≤ gen_limit → ending_of (pieces (gen_script number)) ≡ End
generated_end number few =
    let lines = lines_from number number in
    head_ends lines ∙ plain_ends lines 3 [] (script_limit - length (class_line ++ object_line)) 3 1 (omega arith)
    (omega (arith, length_lines number number, has_room)) (omega (arith, run_lines number number))
