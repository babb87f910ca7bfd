use Rattle.std.proofs.Common.{◌≡◌, drop}
use Rattle.ode_script.specs.declared.reader.Place.TheVariants.{Outside}
use Rattle.ode_script.specs.Pieces.{has_code}
use Rattle.ode_script.proofs.reader.has_code.Given as goal

-- what is left says what the whole does
abbrev pub invariant-loop-b : goal.invariant-loop-b
invariant-loop-b l = has_code Outside l.rest ≡ has_code l.place (drop l.b-index l.rest)
