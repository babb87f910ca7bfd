-- Calls behind a walk that look at nothing any more.
use Rattle.std.proofs.Common.{◌≡◌, ℕ, ⊎_elim, inr, arith}
use Rattle.ode_host.specs.Causes.{RoseIf}

-- nothing rose where the count is as it was
pub calm : (failed : Type 0) (before now : ℕ) → now ≡ before → (failed → ⊥) → RoseIf failed before now
calm failed before now same never = record { later = omega arith; rose = λ f. absurd (never f); calm = inr same }

-- nor behind a call that didn't fail
pub calm_behind : (walked failed : Type 0) (before now : ℕ) → RoseIf walked before now → (walked → ⊥) → (failed → ⊥) → RoseIf failed before now
calm_behind walked failed before now rose fine never = calm failed before now (⊎_elim (λ err. absurd (fine err)) (λ same. same) rose.calm) never
