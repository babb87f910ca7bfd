-- Calls behind the last sync.
use Rattle.std.specs.Prelude.{◌≡◌, ◌≢◌, ◌<◌, ◌≤◌, ℕ, ◌-◌, List, length, get_or}
use Rattle.ode_host.specs.declared.call.Call.{Call}
use Rattle.ode_host.specs.declared.call.Call.TheVariants.{Write, Sync, Begin, End}
use Rattle.ode_host.specs.declared.stop.Torn.{Torn}
use Rattle.ode_host.specs.Tears.{torn_over, torn_behind}

-- from this place on there is no sync
abbrev pub IsQuietFrom : ℕ → List Call → Type 0
IsQuietFrom place calls = (k : ℕ) → place ≤ k → k < length calls → get_or calls k End ≢ Sync

-- behind this place there is no sync, and one just before it unless it is the front
pub record IsLastSync (place : ℕ) (calls : List Call) : Type 0 where
  pub within : place ≤ length calls
  pub quiet : IsQuietFrom place calls
  pub behind : 0 < place → get_or calls (place - 1) End ≡ Sync

-- what a call that no sync follows makes of what a stop leaves, and how it goes on from there
abbrev pub Tears : Call → Torn → Torn → List ℕ → List ℕ → Type 0
Tears (Write at bytes) torn rest old new = (new ≡ torn_over torn old (at, bytes.items)) × (rest ≡ torn_behind torn (length bytes.items))
Tears Sync torn rest old new = (new ≡ old) × (rest ≡ torn)
Tears (Begin piece) torn rest old new = (new ≡ old) × (rest ≡ torn)
Tears End torn rest old new = (new ≡ old) × (rest ≡ torn)
