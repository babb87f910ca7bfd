-- The text of references.
use Rattle.std.specs.Prelude.{ℕ, Bool, ◌<◌, ◌^◌, ◌==◌, if◌then◌else◌, List, [], ◌++◌, Option, None, Some, IfSome, codes}
use Rattle.ode_value.specs.declared.value.Ref.{Ref}
use Rattle.ode_value.specs.Decimal.{digits_of}

-- null, which is object 0 without a version, or an object from 1 with, perhaps, a version from 1
pub record IsRef (r : Ref) : Type 0 where
  pub object : r.object < 2 ^ 64
  pub version : IfSome r.version (λ v. (0 < r.object) × (0 < v) × (v < 2 ^ 32))

-- `@2`, or nothing
abbrev pub spelled_version : Option ℕ → List ℕ
spelled_version None = []
spelled_version (Some v) = codes "@" ++ digits_of v

-- `7` or `7@2`
abbrev pub spelled_numbers : Ref → List ℕ
spelled_numbers r = digits_of r.object ++ spelled_version r.version

-- `null`, `#7` or `#7@2`
abbrev pub spelled_ref : Ref → List ℕ
spelled_ref r = if r.object == 0 then codes "null" else codes "#" ++ spelled_numbers r

-- an `@`
abbrev pub is_at_sign : ℕ → Bool
is_at_sign b = b == 64
