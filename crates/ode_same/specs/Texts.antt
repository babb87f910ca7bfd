-- The text of a comparison.
use Rattle.std.specs.Prelude.{ℕ, zero, suc, ◌+◌, ◌/◌, ◌%◌, ◌==◌, Bool, cond, List, [], ◌++◌, codes, length, Option, Some, None}
use Rattle.std.specs.List.{flat_map}
use Rattle.ode_value.specs.declared.event.Kind.{Kind}
use Rattle.ode_value.specs.Decimal.{digits_of}
use Rattle.ode_value.specs.Printing.{kind_text}
use Rattle.ode_value.specs.Symbols.{Alphabet}
use Rattle.ode_value.specs.Texts.{line}
use Rattle.ode_symbols.specs.Places.{Place, place_of}
use Rattle.ode_same.specs.declared.verdict.Verdict.{Verdict}
use Rattle.ode_same.specs.declared.verdict.Verdict.TheVariants.{Same, Differs}

-- a mask that holds, by its place
abbrev pub mask_text : Bool → ℕ → List ℕ
mask_text holds place = cond holds (codes " && " ++ digits_of place) []

-- the masks that hold at a number, which is the sum of 2^i over their places i: so many places from one on
unfoldable pub masks_text : ℕ → ℕ → ℕ → List ℕ
masks_text zero place n = []
masks_text (suc more) place n = mask_text (n % 2 == 1) place ++ masks_text more (place + 1) (n / 2)

abbrev pub kind_or_none : Option Kind → List ℕ
kind_or_none None = codes "none"
kind_or_none (Some kind) = kind_text kind

-- a symbol's number is below 2^8
abbrev pub place_text : Place → List ℕ
place_text p = codes "point " ++ kind_or_none p.0 ++ masks_text 8 0 p.1

-- the points of a word, a line each
abbrev pub points_text : Alphabet → List ℕ → List ℕ
points_text a word = flat_map (λ s. line (place_text (place_of a s))) word

-- a verdict, with a word over this alphabet
abbrev pub verdict_text : Alphabet → Verdict → List ℕ
verdict_text a Same = line (codes "same")
verdict_text a (Differs word first) = line (codes "differs " ++ digits_of (length word)) ++ points_text a word ++ line (cond first (codes "first yes") (codes "second yes"))
