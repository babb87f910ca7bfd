use Rattle.std.proofs.Common.{arith, w8, w16}
use Rattle.std.proofs.lemmas.Int.{to_z_pos}
use Rattle.ode_timer.proofs.DateLaws.{day_test}
use Rattle.ode_timer.proofs.calendar.is_day.Goals as goal

pub returns : goal.returns
returns c =
    let year = to_z_pos w16 c.args.year (omega arith) in
    let month = to_z_pos w8 c.args.month (omega arith) in
    let day = to_z_pos w8 c.args.day (omega arith) in
    day_test c.args.year c.args.month c.args.day c.on_calendar.result (omega arith) (simp (year, month, day) at c.on_calendar.ensures)
