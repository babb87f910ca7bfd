-- The last line of a transaction.
use Rattle.std.specs.Prelude.{ℕ, List, Option, Some, None}
use Rattle.ode_value.specs.Texts.{aborted_line, committed_line}
use Rattle.ode_value.specs.declared.reason.Reason.{Reason}

abbrev pub line_of : ℕ → Option Reason → List ℕ
line_of number None = committed_line number
line_of number (Some reason) = aborted_line number reason
