-- How bytes of a stream end.
use Rattle.std.specs.Prelude.{◌≡◌, ℕ, List}
use Rattle.ode_standby.specs.Courses.{Course, IsStopped, IsTaken}
use Rattle.ode_standby.specs.declared.error.ShipError.{ShipError}

-- From here on these bytes are taken up to one place, or stop a standby at one place and with one error, and not both.
pub record HasOneEnding (most : ℕ) (c : Course) (bytes : List ℕ) : Type 0 where
  pub taken : (d e : Course) (rest more : List ℕ) → IsTaken most c d bytes rest → IsTaken most c e bytes more → (d ≡ e) × (rest ≡ more)
  pub stopped : (d e : Course) (error other : ShipError) → IsStopped most c d bytes error → IsStopped most c e bytes other → (d ≡ e) × (error ≡ other)
  pub either : (d e : Course) (rest : List ℕ) (error : ShipError) → IsTaken most c d bytes rest → IsStopped most c e bytes error → ⊥
