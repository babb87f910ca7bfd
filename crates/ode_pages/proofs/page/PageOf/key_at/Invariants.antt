use Rattle.std.proofs.Common.{◌≡◌, ◌-◌}
use Rattle.std.specs.List.{slice_get}
use Rattle.std.specs.Map.{keys_of}
use Rattle.ode_pages.proofs.page.PageOf.key_at.Given as goal

abbrev pub invariant-passed : goal.invariant-passed
invariant-passed g l = slice_get (keys_of l.entries) (l.place - l._passed) ≡ slice_get (keys_of l.self) l.place
