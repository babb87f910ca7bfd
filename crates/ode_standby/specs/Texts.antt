-- What is said of a stream that was followed.
use Rattle.std.specs.Prelude.{ℕ, List, ◌++◌, codes, Option, Some, None}
use Rattle.ode_value.specs.Decimal.{digits_of}
use Rattle.ode_value.specs.Texts.{line}
use Rattle.ode_standby.specs.declared.error.ShipError.{ShipError}
use Rattle.ode_standby.specs.declared.error.ShipError.TheVariants.{Memory, BadFrame, Gap, TooLarge, DiskFault, Damaged}

-- `followed N skipped S rest R`
abbrev pub followed_line : (applied skipped rest : ℕ) → List ℕ
followed_line applied skipped rest =
    codes "followed " ++ (digits_of applied ++ (codes " skipped " ++ (digits_of skipped ++ (codes " rest " ++ line (digits_of rest)))))

-- the line of what stands in a stream and stops a standby; the others have none
abbrev pub stopped_line : ShipError → Option (List ℕ)
stopped_line (BadFrame at) = Some (codes "bad frame " ++ line (digits_of at))
stopped_line (Gap found next) = Some (codes "gap " ++ (digits_of found ++ (codes " " ++ line (digits_of next))))
stopped_line (TooLarge total) = Some (codes "too large " ++ line (digits_of total))
stopped_line Memory = None
stopped_line DiskFault = None
stopped_line (Damaged key) = None
