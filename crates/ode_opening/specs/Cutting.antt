-- How the texts of classes are cut out of records, and what is declared of them.
use Rattle.std.specs.Prelude.{◌≡◌, ℕ, List, Result, Ok, Err, drop}
use Rattle.ode_value.specs.declared.class.Class.{Class}
use Rattle.ode_passes.specs.Records.{Found}
use Rattle.ode_passes.specs.Rules.{Ruled}
use Rattle.ode_passes.specs.declared.error.OpenError.{OpenError}
use Rattle.ode_passes.specs.declared.error.OpenError.TheVariants.{Memory, DiskFault, BadFile}

-- a text, and the place behind its pieces
abbrev pub Cuts : Ruled (List ℕ × Found) → Found → Result (List ℕ × ℕ) OpenError → Type 0
Cuts meant records (Ok p) = meant ≡ Ok (p.0, drop p.1 records)
Cuts meant records (Err (BadFile cause)) = meant ≡ Err cause
Cuts meant records (Err DiskFault) = Unit {0}
Cuts meant records (Err Memory) = Unit {0}

-- the classes so far, and the place behind their pieces
abbrev pub Declares : Ruled (List Class × Found) → List Class → Found → Result ℕ OpenError → Type 0
Declares meant classes records (Ok at) = meant ≡ Ok (classes, drop at records)
Declares meant classes records (Err (BadFile cause)) = meant ≡ Err cause
Declares meant classes records (Err DiskFault) = Unit {0}
Declares meant classes records (Err Memory) = Unit {0}
