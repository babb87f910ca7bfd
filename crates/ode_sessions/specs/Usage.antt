-- The words of a call, which are one file.
use Rattle.std.specs.Prelude.{ℕ, List, [], ◌∷◌, Option, Some, None, cond, codes}
use Rattle.ode_begin.specs.Words.{is_file}
use Rattle.ode_value.specs.Texts.{line}

abbrev pub usage_line : List ℕ
usage_line = line (codes "usage: ode_multi FILE")

-- the file that the words name
abbrev pub multi_word : List (List ℕ) → Option (List ℕ)
multi_word (word ∷ []) = cond (is_file word) (Some word) None
multi_word words = None
