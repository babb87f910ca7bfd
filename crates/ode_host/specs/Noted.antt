-- One call more in the list, and what it did.
use Rattle.std.specs.Prelude.{◌≡◌, ℕ, List, [], ◌∷◌, ◌++◌, Vec}
use Rattle.std.specs.declared.alloc.Global.{Global}
use Rattle.ode_host.specs.declared.call.Call.{Call}
use Rattle.ode_host.specs.declared.call.Call.TheVariants.{Write, Begin, End}
use Rattle.ode_host.specs.Host.{written_over}

abbrev pub Noted : ℕ → List ℕ → List Call → List Call → List ℕ → List ℕ → Type 0
Noted at from calls new image next = (bytes : Vec ℕ Global) × (bytes.items ≡ from) × (new ≡ calls ++ Write at bytes ∷ []) × (next ≡ written_over image at from)

abbrev pub NotedPrint : List ℕ → List Call → List Call → List ℕ → List ℕ → Type 0
NotedPrint from calls new text next = (piece : Vec ℕ Global) × (piece.items ≡ from) × (new ≡ calls ++ Begin piece ∷ End ∷ []) × (next ≡ text ++ from)
