-- A host that tells nothing but its counts.
use Rattle.std.specs.Prelude.{false, ℕ, List, None}
use Rattle.ode_host.specs.View.{View}
use Rattle.ode_host.specs.Host.{Tells}

abbrev pub untold : ℕ → ℕ → View
untold disk_faults print_faults = record {
  honest = false;
  image = None;
  text = None;
  moment = 0;
  left = λ t image out. ⊥;
  written = 0;
  fetched = 0;
  disk_faults = disk_faults;
  print_faults = print_faults;
}

-- such a host is not honest
pub untold_law : (disk_faults print_faults : ℕ) (file text : List ℕ) → Tells (untold disk_faults print_faults) file → ⊥
untold_law disk_faults print_faults file text tells = cc (tells.honest)
