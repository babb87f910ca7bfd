use Rattle.std.proofs.Common.{ap, ◌∙◌, pos}
use Rattle.std.specs.Prelude.{◌+ℤ◌}
use Rattle.std.proofs.lemmas.Int.{to_z-of_z}
use Rattle.std.proofs.lemmas.List.{drop_all}
use Rattle.ode_timer.proofs.Places.{due_from}
use Rattle.ode_timer.proofs.ahead.next_in.Goals as goal

pub returns-clause-idle : goal.returns-clause-idle
returns-clause-idle c j above below =
    let from = c.ranges.after in
    let to = c.ranges.last in
    (simp to_z-of_z at c.loop-kind.invariant.rest) j above below
    ∙ ap (due_from (c.args.after +ℤ pos j) c.args.row.now.object c.loop-kind.kind-index) (drop_all c.loop-kind.kind-index c.as_slice-kinds.result.now c.loop-kind-test.false)
