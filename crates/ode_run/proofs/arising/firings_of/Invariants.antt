use Rattle.std.proofs.Common.{◌≡◌, map}
use Rattle.ode_arising_laws.specs.Arising.{firing_by}
use Rattle.ode_run.proofs.arising.firings_of.Given as goal

-- the firings so far
abbrev pub invariant-loop-f : goal.invariant-loop-f
invariant-loop-f l = l.firings ≡ map (firing_by l.id) l.yielded
