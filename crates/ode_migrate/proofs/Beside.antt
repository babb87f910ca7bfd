-- The header that comes after another, in the other slot.
use Rattle.std.proofs.Common.{◌≢◌, ◌≤◌, ℕ, arith, inl, inr, refl}
use Rattle.std.proofs.lemmas.Bool.Decides.{nat_tests}
use Rattle.ode_gate.specs.declared.header.Header.{Header}
use Rattle.ode_gate.specs.declared.places.TheConstants.{GENERATIONS}
use Rattle.ode_gate.specs.Headers.{IsHeader, IsOfPages, next_generation}
use Rattle.ode_migrate.specs.Migrating.{beside, paged, renewed}

pub is_beside : (slot : ℕ) → beside slot ≢ slot
is_beside slot same = grind (arith, nat_tests)

in_turn : (n : ℕ) → (1 ≤ next_generation n) × (next_generation n ≤ GENERATIONS)
in_turn n = (omega arith, omega arith)

-- under the header after one of pages the pages are in the same places
pub renewed_form : (older : Header) → IsOfPages older → IsOfPages (renewed older)
renewed_form older form = record { format = (omega arith, omega arith); layout = form.layout; region = form.region; body = form.body; pages = form.pages }

pub renewed_rules : (older : Header) → IsOfPages older → IsHeader (renewed older)
renewed_rules older form = record { generation = in_turn older.generation; layout = inr (renewed_form older form) }

-- the header after one of area 1
pub paged_form : (older : Header) → IsOfPages (paged older)
paged_form older = record { format = (omega arith, omega arith); layout = refl; region = inl (refl, refl); body = refl; pages = omega arith }

pub paged_rules : (older : Header) → IsHeader (paged older)
paged_rules older = record { generation = in_turn older.generation; layout = inr (paged_form older) }
