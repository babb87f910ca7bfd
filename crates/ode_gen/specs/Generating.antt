-- The script that a number gives: a class, an object of it, and that many calls drawn by a linear congruence.
use Rattle.std.specs.Prelude.{ℕ, zero, suc, ◌+◌, ◌*◌, ◌/◌, ◌%◌, List, [], ◌++◌, codes, ◌==◌, if◌then◌else◌}
use Rattle.ode_value.specs.Decimal.{digits_of}
use Rattle.ode_value.specs.Texts.{line}

-- the largest number
unfoldable pub gen_limit : ℕ
gen_limit = 4000

-- the class, with one trigger on an amount and one on every third event
unfoldable pub class_line : List ℕ
class_line = line (codes "class Gen { int n; void put(int d) { n = n + d; } void take(int d) { n = n - d; } event after put, after take; trigger perpetual low(int k): after take && n < k ==> { say \"low\"; } trigger perpetual whole three(): every 3 (after put) ==> { show n; } };")

-- the transaction that makes the object and switches both triggers on
unfoldable pub object_line : List ℕ
object_line = line (codes "begin; pnew Gen(); activate #1.low(50); activate #1.three(); commit;")

-- the number drawn behind another
abbrev pub drawn : ℕ → ℕ
drawn x = (1103515245 * x + 12345) % 2147483648

-- a call of each kind, with an amount: one is added, one is taken away, two are added and given up, and a version is made
abbrev pub call_text : (kind amount : ℕ) → List ℕ
call_text kind amount =
    if kind == 0 then codes "#1.put(" ++ digits_of amount ++ codes ");"
    else (if kind == 1 then codes "#1.take(" ++ digits_of amount ++ codes ");"
    else (if kind == 2 then codes "begin; #1.put(" ++ digits_of amount ++ codes "); #1.put(" ++ digits_of amount ++ codes "); abort;"
    else codes "newversion #1;"))

-- the line that the upper bits of a drawn number give
abbrev pub call_line : ℕ → List ℕ
call_line y = line (call_text (y % 4) (y % 100))

-- so many lines, by the numbers drawn behind this one
unfoldable pub lines_from : (count last : ℕ) → List ℕ
lines_from zero last = []
lines_from (suc n) last = call_line (drawn last / 65536) ++ lines_from n (drawn last)

-- the whole script
abbrev pub gen_script : ℕ → List ℕ
gen_script number = class_line ++ object_line ++ lines_from number number

-- `gen N statements S settled T refused R bytes B`
abbrev pub gen_line : (number pieces settled refused bytes : ℕ) → List ℕ
gen_line number pieces settled refused bytes = line (codes "gen " ++ digits_of number
    ++ codes " statements " ++ digits_of pieces ++ codes " settled " ++ digits_of settled
    ++ codes " refused " ++ digits_of refused ++ codes " bytes " ++ digits_of bytes)
