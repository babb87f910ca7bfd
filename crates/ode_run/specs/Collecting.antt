-- What becomes of a firing that is to be collected.
use Rattle.std.specs.Prelude.{◌≡◌, ℕ, List, Bool, true, false}
use Rattle.ode_laws.specs.Alike.{NumberTx}
use Rattle.ode_value.specs.Acts.{Deed, Done}
use Rattle.ode_value.specs.Posting.{collects, dropped_text}
use Rattle.ode_value.specs.Transactions.{Firing}

-- it is collected, and the act is done with the transaction then; or it isn't, nothing changed, and its line is all that is left to do
abbrev pub Gathers : (List ℕ → Deed (Unit {0}) ℕ) → Bool → Firing → NumberTx → NumberTx → Bool → Type 0
Gathers says independent f y z true = collects says independent f y ≡ Done tt z
Gathers says independent f y z false = collects says independent f y ≡ says (dropped_text f) z
