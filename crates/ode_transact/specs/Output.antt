-- What is heard of the texts of settled transactions, and how these are counted.
use Rattle.std.specs.Prelude.{ℕ, ◌+◌, ◌-◌, ◌^◌, Bool, List, [], cond, length, map, min}
use Rattle.ode_transact.specs.declared.output.Output.{Output}
use Rattle.ode_value.specs.Language.{Settlings}
use Rattle.ode_value.specs.Objects.{Histories, Starts}
use Rattle.ode_value.specs.Settling.{Settled}

-- all of a text, or nothing of it where the output is quiet
abbrev pub heard : Bool → List ℕ → List ℕ
heard quiet text = cond quiet [] text

-- settled transactions with what is heard of their texts
abbrev pub heard_of : Bool → Settled Histories Starts → Settled Histories Starts
heard_of quiet s = (s.0, heard quiet s.1)

abbrev pub all_heard : Bool → Settlings → Settlings
all_heard quiet settled = map (λ s. heard_of quiet s) settled

-- a count goes on by the bytes of a text, as long as it has room for them
unfoldable pub counted_on : ℕ → List ℕ → ℕ
counted_on counted text = counted + min (length text) (2 ^ 64 - 1 - counted)

-- an output that has counted a text more
abbrev pub counting : Output → List ℕ → Output
counting output text = record { quiet = output.quiet; counted = counted_on output.counted text }
