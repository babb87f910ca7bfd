-- Each line of a call is short and of plain bytes: all that can come are computed.
use Rattle.std.proofs.Common.{◌≡◌, ℕ, zero, suc, ◌*◌, ◌<◌, ◌≤◌, List, length, Bool, true, refl, ap, ◌∙◌, arith, length-append}
use Rattle.std.specs.Prelude.{◌/◌, ◌%◌, ◌==◌, ◌&&◌, nat_le}
use Rattle.std.specs.Fmt.{digits}
use Rattle.std.proofs.lemmas.Bool.Decides.{nat_tests}
use Rattle.ode_value.specs.Texts.{line}
use Rattle.ode_gen.specs.Generating.{call_line, call_text, drawn, lines_from}
use Rattle.ode_gen.proofs.Plain.{both, run_behind, run_behind-append}

-- the line has at most 60 bytes, and ends as the line before it did: by an LF behind a `;`
is_short_line : (kind amount : ℕ) → Bool
is_short_line kind amount = (run_behind 1 (line (call_text kind amount)) == 1) && nat_le (length (line (call_text kind amount))) 60

-- the test holds of each number below this one
all_below : (ℕ → Bool) → ℕ → Bool
all_below test zero = true
all_below test (suc n) = test n && all_below test n

-- the lines of all four kinds with all amounts are short
all_short : all_below (λ kind. all_below (is_short_line kind) 100) 4 ≡ true
unfolding is_short_line all_below digits
all_short = refl

last_or_before : (test : ℕ → Bool) (n i : ℕ) → i < suc n → test n ≡ true → (i < n → test i ≡ true) → test i ≡ true
last_or_before test n i lt last before = grind arith

each_below : (test : ℕ → Bool) (n i : ℕ) → all_below test n ≡ true → i < n → test i ≡ true
unfolding all_below
each_below test zero i all lt = absurd (omega arith)
each_below test (suc n) i all lt =
    let parts = both (test n) (all_below test n) all in
    last_or_before test n i lt parts.0 (λ before. each_below test n i parts.1 before)

record IsShortLine (text : List ℕ) : Type 0 where
  run : run_behind 1 text ≡ 1
  length : length text ≤ 60

short_line : (text : List ℕ) → (run_behind 1 text == 1) && nat_le (length text) 60 ≡ true → IsShortLine text
short_line text is =
    let parts = both (run_behind 1 text == 1) (nat_le (length text) 60) is in
    record { run = grind (arith, nat_tests); length = grind (arith, nat_tests) }

short_call : (y : ℕ) → IsShortLine (call_line y)
unfolding is_short_line
short_call y =
    let all = each_below (λ kind. all_below (is_short_line kind) 100) 4 (y % 4) all_short (omega arith) in
    short_line (call_line y) (each_below (is_short_line (y % 4)) 100 (y % 100) all (omega arith))

pub run_lines : (n x : ℕ) → run_behind 1 (lines_from n x) ≡ 1
unfolding lines_from
run_lines zero x = refl
run_lines (suc n) x =
    run_behind-append (call_line (drawn x / 65536)) (lines_from n (drawn x)) 1
    ∙ ap (λ run. run_behind run (lines_from n (drawn x))) (short_call (drawn x / 65536)).run
    ∙ run_lines n (drawn x)

pub length_lines : (n x : ℕ) → length (lines_from n x) ≤ 60 * n
unfolding lines_from
length_lines zero x = omega arith
length_lines (suc n) x =
    omega (arith, length-append (call_line (drawn x / 65536)) (lines_from n (drawn x)), (short_call (drawn x / 65536)).length, length_lines n (drawn x))
