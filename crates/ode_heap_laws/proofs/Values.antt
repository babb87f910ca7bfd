-- Values that fit are kept by a spelling, and within the ranges of their types.
use Rattle.std.proofs.Common.{ℕ, ◌<◌, ◌≤◌, ◌^◌, List, [], ◌∷◌, length, Bool, true, false, cond, Option, Some, None, arith}
use Rattle.std.specs.Option.{IfSome}
use Rattle.std.specs.List.{AllByRecursion, AllZip}
use Rattle.ode_codec.specs.Rules.{AreInRange, AreKept, InRange, IsKeptValue}
use Rattle.ode_value.specs.Fields.{born_values, is_born}
use Rattle.ode_value.specs.Fitting.{FitsSort}
use Rattle.ode_value.specs.Worlds.{Bones}
use Rattle.ode_value.specs.declared.class.Field.{Field}
use Rattle.ode_value.specs.declared.statement.Sort.{Sort}
use Rattle.ode_value.specs.declared.statement.Sort.TheVariants as sort
use Rattle.ode_value.specs.declared.value.Value.{Value}
use Rattle.ode_value.specs.declared.value.Value.TheVariants as value

kept_version : (object : ℕ) (version : Option ℕ) → IfSome version (λ v. (0 < object) × (0 < v) × (v < 2 ^ 32)) → IfSome version (λ v. (0 < object) × (0 < v))
kept_version object None is = tt
kept_version object (Some v) is = (is.0, is.1)

version_in_range : (object : ℕ) (version : Option ℕ) → IfSome version (λ v. (0 < object) × (0 < v) × (v < 2 ^ 32)) → IfSome version (λ v. v < 2 ^ 32)
version_in_range object None is = tt
version_in_range object (Some v) is = is.2

both : (b : Bones) (s : Sort) (v : Value) → FitsSort b s v → IsKeptValue v × InRange v
both b sort.Int (value.Int n) fits = (tt, fits)
both b sort.Bool (value.Bool t) fits = (tt, tt)
both b sort.Text (value.Text t) fits = (tt, fits)
both b (sort.Reference class) (value.Reference r) fits =
    (kept_version r.object r.version fits.is.version, (fits.is.object, version_in_range r.object r.version fits.is.version))
both b sort.Int (value.Bool t) fits = absurd fits
both b sort.Int (value.Text t) fits = absurd fits
both b sort.Int (value.Reference r) fits = absurd fits
both b sort.Bool (value.Int n) fits = absurd fits
both b sort.Bool (value.Text t) fits = absurd fits
both b sort.Bool (value.Reference r) fits = absurd fits
both b sort.Text (value.Int n) fits = absurd fits
both b sort.Text (value.Bool t) fits = absurd fits
both b sort.Text (value.Reference r) fits = absurd fits
both b (sort.Reference class) (value.Int n) fits = absurd fits
both b (sort.Reference class) (value.Bool t) fits = absurd fits
both b (sort.Reference class) (value.Text t) fits = absurd fits
both b sort.Void (value.Int n) fits = absurd fits
both b sort.Void (value.Bool t) fits = absurd fits
both b sort.Void (value.Text t) fits = absurd fits
both b sort.Void (value.Reference r) fits = absurd fits

module _ (b : Bones) (X : Type 0) (sort_of : X → Sort) where
  pub are_kept : (xs : List X) (vs : List Value) → AllZip (λ x. FitsSort b (sort_of x)) xs vs → AreKept vs
  are_kept [] [] all = tt
  are_kept [] (v ∷ vs) all = absurd all
  are_kept (x ∷ xs) [] all = absurd all
  are_kept (x ∷ xs) (v ∷ vs) all = ((both b (sort_of x) v all.0).0, are_kept xs vs all.1)

  pub are_in_range : (xs : List X) (vs : List Value) → AllZip (λ x. FitsSort b (sort_of x)) xs vs → AreInRange vs
  are_in_range [] [] all = tt
  are_in_range [] (v ∷ vs) all = absurd all
  are_in_range (x ∷ xs) [] all = absurd all
  are_in_range (x ∷ xs) (v ∷ vs) all = ((both b (sort_of x) v all.0).1, are_in_range xs vs all.1)

-- ---- the values that a record has

-- what holds of all values holds of those that were there
pub born_all : (P : Value → Type 0) (stamp : ℕ) (fs : List Field) (vs : List Value) → AllByRecursion P vs → AllByRecursion P (born_values stamp fs vs)
born_all P stamp [] vs all = tt
born_all P stamp (f ∷ fs) [] all = tt
born_all P stamp (f ∷ fs) (v ∷ vs) all = by_test (is_born stamp f) (born_all P stamp fs vs all.1)
  where
    by_test : (b : Bool) → AllByRecursion P (born_values stamp fs vs) → AllByRecursion P (cond b (v ∷ born_values stamp fs vs) (born_values stamp fs vs))
    by_test true more = (all.0, more)
    by_test false more = more

-- and they are no more
pub born_few : (stamp : ℕ) (fs : List Field) (vs : List Value) → length (born_values stamp fs vs) ≤ length vs
born_few stamp [] vs = omega arith
born_few stamp (f ∷ fs) [] = omega arith
born_few stamp (f ∷ fs) (v ∷ vs) = by_test (is_born stamp f) (born_few stamp fs vs)
  where
    by_test : (b : Bool) → length (born_values stamp fs vs) ≤ length vs → length (cond b (v ∷ born_values stamp fs vs) (born_values stamp fs vs)) ≤ length (v ∷ vs)
    by_test true more = omega arith
    by_test false more = omega arith
