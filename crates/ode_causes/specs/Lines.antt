-- The line that says which rule a file breaks.
use Rattle.std.specs.Prelude.{ℕ, List, ◌++◌, codes}
use Rattle.ode_value.specs.Decimal.{digits_of}
use Rattle.ode_value.specs.Texts.{line}
use Rattle.ode_value.specs.declared.key.Key.{Key}
use Rattle.ode_passes.specs.declared.cause.Cause.{Cause}
use Rattle.ode_passes.specs.declared.cause.Cause.TheVariants as cause

-- `A B`, and the end of the line
abbrev pub two : ℕ → ℕ → List ℕ
two a b = digits_of a ++ (codes " " ++ line (digits_of b))

-- `K A B`
abbrev pub of_key : Key → List ℕ
of_key k = digits_of k.kind ++ (codes " " ++ two k.a k.b)

-- the rule, and the place where it is broken
abbrev pub cause_line : Cause → List ℕ
cause_line (cause.Header at) = codes "bad file header " ++ line (digits_of at)
cause_line (cause.Journal at) = codes "bad file journal " ++ line (digits_of at)
cause_line (cause.Page page) = codes "bad file page " ++ line (digits_of page)
cause_line (cause.Record key) = codes "bad file record " ++ of_key key
cause_line (cause.Missing key) = codes "bad file missing " ++ of_key key
cause_line (cause.Class number) = codes "bad file class " ++ line (digits_of number)
cause_line (cause.Table class place) = codes "bad file table " ++ two class place
cause_line (cause.State object number) = codes "bad file state #" ++ two object number
cause_line (cause.Size total) = codes "bad file size " ++ line (digits_of total)

-- `newer format F`
abbrev pub format_line : ℕ → List ℕ
format_line format = codes "newer format " ++ line (digits_of format)
