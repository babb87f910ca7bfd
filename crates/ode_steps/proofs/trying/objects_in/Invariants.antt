use Rattle.std.proofs.Common.{◌≡◌, ◌++◌, drop, map}
use Rattle.ode_value.specs.declared.value.Ref.{Ref}
use Rattle.ode_steps.proofs.trying.objects_in.Given as goal

-- the objects so far and those of what is left are all
abbrev pub invariant-loop-of : goal.invariant-loop-of
invariant-loop-of l = l.ids ++ map (λ (r : Ref). r.object) (drop l.of-index l.refs) ≡ map (λ (r : Ref). r.object) l.initial.refs
