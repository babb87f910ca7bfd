-- Records that were all gone over are bytes.
use Rattle.std.proofs.Common.{◌≡◌, ◌<◌, ◌^◌, [], ◌∷◌, true, cond, refl, ap, subst, ◌∙◌, arith}
use Rattle.std.specs.List.{AllByRecursion}
use Rattle.std.proofs.lemmas.Bool.Decides.{nat_tests}
use Rattle.ode_keep.specs.Entries.{AreBytes, Entries}
use Rattle.ode_keep.specs.Snapshots.{FitsRow}
use Rattle.ode_passes.specs.Walking.{is_from, within}
use Rattle.ode_value.specs.Keys.{key}
use Rattle.ode_value.specs.declared.key.Key.{Key}

passes : (k : Key) → k.kind < 2 ^ 8 → k.a < 2 ^ 64 → k.b < 2 ^ 64 → is_from (key 0 0 0) 255 k ≡ true
passes k kind a b = grind (arith, nat_tests)

whole : (es : Entries) → AllByRecursion FitsRow es → within 0 255 es ≡ es
whole [] fits = refl
whole (e ∷ es) fits =
    let is : is_from (key 0 0 0) 255 e.0 ≡ true = passes e.0 fits.0.key.kind fits.0.key.a fits.0.key.b in
    ap (λ b. cond b (e ∷ within 0 255 es) (within 0 255 es)) is ∙ ap (λ (more : Entries). e ∷ more) (whole es fits.1)

pub all_bytes : (es : Entries) → AllByRecursion FitsRow es → AreBytes (within 0 255 es) → AreBytes es
all_bytes es fits bytes = subst AreBytes (whole es fits) bytes
