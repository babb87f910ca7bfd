-- What the words of a call ask for.
use Rattle.std.specs.Prelude.{ℕ, List, [], ◌∷◌, cond, ◌&&◌, codes, nat_le, Option, Some, None}
use Rattle.std.specs.Option.{option_map}
use Rattle.std.specs.Str.{bytes_eq}
use Rattle.std.specs.Str.Parse.{digits_value}
use Rattle.ode_begin.specs.Words.{is_file}
use Rattle.ode_gen.specs.Generating.{gen_limit}
use Rattle.ode_questions.specs.declared.asked.Asked.TheVariants.{Queries, Comparisons}
use Rattle.ode_value.specs.Decimal.{digits_of}
use Rattle.ode_top.specs.declared.call.Mode.{Mode}
use Rattle.ode_top.specs.declared.call.Mode.TheVariants.{Init, Run, Check, Dump, Ask, Ship, Follow, Gen}

abbrev pub mode_named : List ℕ → Option Mode
mode_named word =
    cond (bytes_eq word (codes "init")) (Some Init) (
    cond (bytes_eq word (codes "run")) (Some Run) (
    cond (bytes_eq word (codes "check")) (Some Check) (
    cond (bytes_eq word (codes "dump")) (Some Dump) (
    cond (bytes_eq word (codes "query")) (Some (Ask Queries)) (
    cond (bytes_eq word (codes "same")) (Some (Ask Comparisons)) (
    cond (bytes_eq word (codes "ship")) (Some Ship) (
    cond (bytes_eq word (codes "follow")) (Some Follow) None)))))))

-- a number whose digits these are, from 1 to the largest that a script is made from
abbrev pub number_within : List ℕ → ℕ → Option ℕ
number_within word n = cond (bytes_eq word (digits_of n)) (cond (nat_le 1 n && nat_le n gen_limit) (Some n) None) None

-- the number that a word gives to a script: in decimal, not led by 0
unfoldable pub script_number : List ℕ → Option ℕ
script_number word = number_within word (digits_value 10 word)

-- what a mode's word and a file ask for
abbrev pub file_call : List ℕ → List ℕ → Option (Mode × List ℕ)
file_call mode file = cond (is_file file) (option_map (λ m. (m, file)) (mode_named mode)) None

-- what a mode's word, a file and a number ask for
abbrev pub gen_call : List ℕ → List ℕ → List ℕ → Option (Mode × List ℕ)
gen_call mode file number = cond (bytes_eq mode (codes "gen") && is_file file) (option_map (λ n. (Gen n, file)) (script_number number)) None

-- the mode and the file of a right list, which is `init FILE`, `run FILE`, `check FILE`, `dump FILE`, `query FILE`, `same FILE`,
-- `ship FILE`, `follow FILE` or `gen FILE N`
abbrev pub call_of : List (List ℕ) → Option (Mode × List ℕ)
call_of (mode ∷ file ∷ []) = file_call mode file
call_of (mode ∷ file ∷ number ∷ []) = gen_call mode file number
call_of words = None
