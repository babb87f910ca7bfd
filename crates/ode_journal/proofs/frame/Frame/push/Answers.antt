use Rattle.std.proofs.Common.{◌≤◌, ◌∙◌, ap, length, arith}
use Rattle.ode_journal.specs.Filling.{Filling, filling_of, filled_by}
use Rattle.ode_journal.proofs.Shapes.{shaped_still, filling_is}
use Rattle.ode_journal.proofs.frame.Frame.push.Goals as goal

pub invariant_of-self : goal.invariant_of-self
invariant_of-self c =
    let room : length c.args.bytes.now ≤ (filling_of c.self.inside.bytes.items c.self.inside.filled).spare = omega (arith, ap (λ (f : Filling). f.spare) c.self.view_is, c.requires) in
    shaped_still c.self.inside.bytes.items c.self.inside.filled c.args.bytes.now c.put_in.new.bytes.items c.self.invariant room c.put_in.ensures

pub returns : goal.returns
returns c =
    let room : length c.args.bytes.now ≤ (filling_of c.self.inside.bytes.items c.self.inside.filled).spare = omega (arith, ap (λ (f : Filling). f.spare) c.self.view_is, c.requires) in
    filling_is c.self.inside.bytes.items c.self.inside.filled c.args.bytes.now c.put_in.new.bytes.items c.self.invariant room c.put_in.ensures
    ∙ ap (λ (f : Filling). filled_by f c.args.bytes.now) c.self.view_is
