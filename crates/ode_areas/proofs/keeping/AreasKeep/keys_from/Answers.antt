use Rattle.std.proofs.Common.{◌≡◌, Option, is_le, subst, sym, true}
use Rattle.std.specs.Option.{IfSome}
use Rattle.ode_value.specs.declared.key.Key.{Key}
use Rattle.ode_value.specs.Keys.{key_cmp}
use Rattle.ode_areas.proofs.Above.{least_above}
use Rattle.ode_areas.proofs.keeping.AreasKeep.keys_from.Goals as goal

pub returns-clause-above : goal.returns-clause-above
returns-clause-above g c =
    subst (λ (o : Option Key). IfSome o (λ q. is_le (key_cmp c.args.key q) ≡ true)) (sym c.least_from.ensures) (least_above c.args.self.now.map c.args.key)
