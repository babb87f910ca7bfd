-- The parts of a comparison.
use Rattle.std.specs.Prelude.{◌≡◌, ◌<◌, Bool, cond, List, ℕ, codes}
use Rattle.ode_value.specs.declared.event.EventExpr.{EventExpr}
use Rattle.ode_value.specs.declared.reason.Refusal.{Refusal}
use Rattle.ode_value.specs.declared.reason.Refusal.TheVariants as refusal
use Rattle.ode_value.specs.Limits.{state_limit}
use Rattle.ode_value.specs.Tables.{Table, run, says_yes}
use Rattle.ode_symbols.specs.Alphabets.{IsRefusal}
use Rattle.ode_symbols.specs.declared.error.AlphabetError.TheVariants as alphabet_error
use Rattle.ode_walk.specs.Relation.{Agrees, IsShortest}
use Rattle.ode_same.specs.Differing.{states_over}
use Rattle.ode_same.specs.declared.error.SameError.{SameError}
use Rattle.ode_same.specs.declared.error.SameError.TheVariants.{Memory, TooManySymbols, TooManyStates}
use Rattle.ode_same.specs.declared.verdict.Verdict.{Verdict}
use Rattle.ode_same.specs.declared.verdict.Verdict.TheVariants.{Same, Differs}

-- the alphabet of both is refused
abbrev pub IsAlphabetCause : EventExpr → SameError → Type 0
IsAlphabetCause of Memory = Unit {0}
IsAlphabetCause of (TooManySymbols count) = IsRefusal of (alphabet_error.TooManySymbols count)
IsAlphabetCause of (TooManyStates second) = ⊥

-- a table of the first expression, or of the second one, is refused
abbrev pub IsBuildCause : EventExpr → EventExpr → Bool → SameError → Type 0
IsBuildCause e of second Memory = Unit {0}
IsBuildCause e of second (TooManySymbols count) = ⊥
IsBuildCause e of second (TooManyStates told) = (told ≡ second) × (state_limit < states_over e of)

-- what a comparison says of two tables
abbrev pub IsComparison : Table → Table → Verdict → Type 0
IsComparison first second Same = Agrees first second
IsComparison first second (Differs word answer) = IsShortest first second word × (answer ≡ says_yes first (run first 0 word))

-- the names that a refusal tells
abbrev pub place_name : Bool → List ℕ
place_name second = cond second (codes "second") (codes "first")

-- an error as a refusal; one of memory is none
abbrev pub IsToldAs : SameError → Refusal → Type 0
IsToldAs Memory told = ⊥
IsToldAs (TooManySymbols count) told = told ≡ refusal.TooManySymbols (codes "same") count
IsToldAs (TooManyStates second) told = told ≡ refusal.TooManyStates (place_name second)
