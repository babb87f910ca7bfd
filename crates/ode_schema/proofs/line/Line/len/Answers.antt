use Rattle.std.proofs.Common.{List, arith, ap, length}
use Rattle.ode_value.specs.declared.class.Class.{Class}
use Rattle.ode_schema.proofs.Lines.{line_short}
use Rattle.ode_schema.proofs.line.Line.len.Goals as goal

pub loop-count-init : goal.loop-count-init
loop-count-init c =
    let short = line_short c.self.inside.classes.now c.self.invariant c.self.inside.number in
    let line = ap (λ (l : List Class). length l) c.self.view_is in
    let all = ap (λ (l : List Class). length l) c.as_slice-most.ensures.all in
    record { passed = omega arith; few = omega (arith, short, line, all) }
