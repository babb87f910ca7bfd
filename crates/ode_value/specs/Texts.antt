-- What a run prints.
use Rattle.std.specs.Prelude.{ℕ, List, [], ◌∷◌, ◌++◌, codes, cond, ◌==◌, ◌||◌, None}
use Rattle.std.specs.List.{flat_map}
use Rattle.ode_value.specs.Decimal.{digits_of, int_digits}
use Rattle.ode_value.specs.References.{spelled_ref}
use Rattle.ode_value.specs.declared.value.Ref.{Ref}
use Rattle.ode_value.specs.declared.value.Value.{Value}
use Rattle.ode_value.specs.declared.value.Value.TheVariants as value
use Rattle.ode_value.specs.declared.reason.CheckError.{CheckError}
use Rattle.ode_value.specs.declared.reason.CheckError.TheVariants.{UnknownName, Duplicate, WrongSort, NotInherited, TooMany}
use Rattle.ode_value.specs.declared.reason.Reason.{Reason}
use Rattle.ode_value.specs.declared.reason.Reason.TheVariants as reason
use Rattle.ode_value.specs.declared.reason.Refusal.{Refusal}
use Rattle.ode_value.specs.declared.reason.Refusal.TheVariants as refusal

-- a line with its end
abbrev pub line : List ℕ → List ℕ
line text = text ++ 10 ∷ []

-- `class C`
abbrev pub class_line : List ℕ → List ℕ
class_line name = line (codes "class " ++ name)

-- `changed C`
abbrev pub changed_line : List ℕ → List ℕ
changed_line name = line (codes "changed " ++ name)

-- `new #1`
abbrev pub new_line : ℕ → List ℕ
new_line id = line (codes "new #" ++ digits_of id)

-- a text as it is written: its quotes and backslashes behind a backslash
abbrev pub escaped : ℕ → List ℕ
escaped b = cond (b == 34 || b == 92) (92 ∷ b ∷ []) (b ∷ [])

-- a value as it is printed
abbrev pub value_text : Value → List ℕ
value_text (value.Int n) = int_digits n
value_text (value.Bool b) = cond b (codes "true") (codes "false")
value_text (value.Text t) = codes "\"" ++ flat_map escaped t ++ codes "\""
value_text (value.Reference r) = spelled_ref r

-- `value V`
abbrev pub value_line : Value → List ℕ
value_line v = line (codes "value " ++ value_text v)

-- `version #1@2`
abbrev pub version_line : Ref → List ℕ
version_line r = line (codes "version " ++ spelled_ref r)

-- `active 2`
abbrev pub active_line : ℕ → List ℕ
active_line number = line (codes "active " ++ digits_of number)

-- `said TEXT`
abbrev pub said_line : List ℕ → List ℕ
said_line text = line (codes "said " ++ text)

-- `fired t on #1`
abbrev pub fired_line : List ℕ → ℕ → List ℕ
fired_line trigger id = line (codes "fired " ++ trigger ++ codes " on #" ++ digits_of id)

-- `dropped t on #1`
abbrev pub dropped_line : List ℕ → ℕ → List ℕ
dropped_line trigger id = line (codes "dropped " ++ trigger ++ codes " on #" ++ digits_of id)

-- why a transaction aborted
abbrev pub reason_text : Reason → List ℕ
reason_text reason.Asked = codes "asked"
reason_text (reason.Constraint name) = codes "constraint " ++ name
reason_text reason.Overflow = codes "overflow"
reason_text reason.DivideByZero = codes "zero divisor"
reason_text (reason.NoObject id) = codes "no object " ++ spelled_ref (record { object = id; version = None })
reason_text (reason.NoVersion r) = codes "no version " ++ spelled_ref r
reason_text (reason.LastVersion id) = codes "last version #" ++ digits_of id
reason_text reason.Depth = codes "depth"
reason_text reason.Budget = codes "budget"
reason_text reason.Cascade = codes "cascade"
reason_text reason.Size = codes "size"
reason_text reason.Space = codes "space"
reason_text reason.Output = codes "output"
reason_text reason.End = codes "end"

-- `tx 1 committed`
abbrev pub committed_line : ℕ → List ℕ
committed_line k = line (codes "tx " ++ digits_of k ++ codes " committed")

-- `tx 1 aborted REASON`
abbrev pub aborted_line : ℕ → Reason → List ℕ
aborted_line k reason = line (codes "tx " ++ digits_of k ++ codes " aborted " ++ reason_text reason)

-- the broken rule
abbrev pub check_text : CheckError → List ℕ
check_text (UnknownName name) = codes "unknown name " ++ name
check_text (Duplicate name) = codes "duplicate " ++ name
check_text (WrongSort name) = codes "wrong type " ++ name
check_text (NotInherited name) = codes "not inherited " ++ name
check_text (TooMany name) = codes "too many " ++ name

-- why a piece was refused
abbrev pub refusal_text : Refusal → List ℕ
refusal_text (refusal.NoToken at) = codes "bad byte " ++ digits_of at
refusal_text (refusal.Syntax at) = codes "syntax " ++ digits_of at
refusal_text (refusal.TooDeep at) = codes "too deep " ++ digits_of at
refusal_text refusal.InTransaction = codes "in transaction"
refusal_text refusal.NoTransaction = codes "no transaction"
refusal_text refusal.NumbersSpent = codes "numbers spent"
refusal_text (refusal.NoObject id) = codes "no object #" ++ digits_of id
refusal_text (refusal.NoVersion r) = codes "no version " ++ spelled_ref r
refusal_text (refusal.Check e) = check_text e
refusal_text (refusal.TooManySymbols trigger count) = codes "too many symbols " ++ trigger ++ codes " " ++ digits_of count
refusal_text (refusal.TooManyStates trigger) = codes "too many states " ++ trigger
refusal_text (refusal.ClassTooLarge count) = codes "class too large " ++ digits_of count
refusal_text refusal.BadInstant = codes "bad instant"
refusal_text refusal.ClockBack = codes "clock back"
refusal_text (refusal.TooManyDue count) = codes "too many due " ++ digits_of count
refusal_text refusal.NotBuilt = codes "not built"

-- `refused LINE REASON`
abbrev pub refused_line : ℕ → Refusal → List ℕ
refused_line at refusal = line (codes "refused " ++ digits_of at ++ codes " " ++ refusal_text refusal)
