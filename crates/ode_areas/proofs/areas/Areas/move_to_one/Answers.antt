use Rattle.std.proofs.Common.{arith}
use Rattle.ode_areas.proofs.OtherArea.{on_ok_both, second_area}
use Rattle.ode_areas.proofs.areas.Areas.move_to_one.Goals as goal

pub returns-clause-moved : goal.returns-clause-moved
returns-clause-moved g c =
    on_ok_both c.move_to_other.result _ _ _
    (λ moved other entries h.
    let now = moved entries h in
    (now, second_area c.move_to_other.new.self.header now.areas (omega (arith, other, c.if-self-ne-AREA_0.false))))
    c.move_to_other.ensures.moved c.move_to_other.ensures.other

pub returns-then-self-ne-AREA_0-clause-moved : goal.returns-then-self-ne-AREA_0-clause-moved
returns-then-self-ne-AREA_0-clause-moved g c entries h = (h, second_area c.args.self.now.header h.areas c.if-self-ne-AREA_0.true)

pub returns-clause-there : goal.returns-clause-there
returns-clause-there g c one = absurd (omega (arith, one, c.if-self-ne-AREA_0.false))
