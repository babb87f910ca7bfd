-- What is light by the growth that is told is light.
use Rattle.std.proofs.Common.{◌≡◌, ◌+◌, ◌≤◌, ℕ, Bool, true, false, pos, ◌-ℤ◌, refl, sym, subst, arith}
use Rattle.std.specs.Prelude.{◌+ℤ◌, int_le, nat_le}
use Rattle.std.proofs.lemmas.Bool.Decides.{nat_tests}
use Rattle.std.proofs.lemmas.Int.{ints}
use Rattle.ode_keep.specs.Entries.{Entries}
use Rattle.ode_known_laws.specs.Knowing.{IsHeld}
use Rattle.ode_laws.specs.Alike.{NumberWorld}
use Rattle.ode_overlay.specs.Settling.{within}
use Rattle.ode_value.specs.Limits.{weight_limit}
use Rattle.ode_value.specs.Weights.{weight}
use Rattle.ode_value.specs.Worlds.{Bones}

balanced : (w f a b : ℕ) → pos a -ℤ pos b ≡ pos w -ℤ pos f → a + f ≡ w + b
balanced w f a b is = omega (arith, ints)

pub light_by : (w f a b : ℕ) → pos a -ℤ pos b ≡ pos w -ℤ pos f → b ≤ f → f ≤ weight_limit → int_le (pos f +ℤ (pos (within a) -ℤ pos (within b))) (pos weight_limit) ≡ nat_le w weight_limit
light_by w f a b is less light = by_light (nat_le w weight_limit) refl where
  sum : a + f ≡ w + b
  sum = balanced w f a b is

  by_light : (t : Bool) → nat_le w weight_limit ≡ t → int_le (pos f +ℤ (pos (within a) -ℤ pos (within b))) (pos weight_limit) ≡ t
  by_light true e = grind (arith, ints, nat_tests)
  by_light false e = grind (arith, ints, nat_tests)

pub first_light : (base : Entries) (first : NumberWorld) (held : IsHeld base first) → weight first.bones ≤ weight_limit
first_light base first held =
    subst (λ (w : NumberWorld). weight w.bones ≤ weight_limit) (sym held.is)
    (subst (λ (b : Bones). weight b ≤ weight_limit) (sym held.held.world.stands.bones) held.held.world.good.bones.light)
