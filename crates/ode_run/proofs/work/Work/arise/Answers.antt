use Rattle.std.proofs.Common.{sym}
use Rattle.std.specs.Prelude.{cond}
use Rattle.ode_run.proofs.ArisingLaws.{touched_same}
use Rattle.ode_run.proofs.work.Work.arise.Goals as goal
use Rattle.ode_run.specs.Knowing.{beside}
use Rattle.ode_schema.specs.Parts.{table_by}
use Rattle.ode_value.specs.Firings.{both_lists, whole_list}
use Rattle.ode_value.specs.Pasts.{numbers}

pub returns-in_default-clause-acts : goal.returns-in_default-clause-acts
returns-in_default-clause-acts g c = λ all k are same holds touched.
    let x = c.args.self.now.overlay.now in
    let b = beside k.first c.args.self.now.deferred.now c.args.self.now.text.now c.args.self.now.budget.now in
    let p = c.args.program.now in
    c.points_show.ensures.none all k.first b x holds.known.viewed holds.known.keys p (cond c.args.whole (whole_list (numbers (table_by p.tables p.maps))) (both_lists (numbers (table_by p.tables p.maps)))) c.args.id c.args.kind.now c.args.args.now
    (touched_same c.args.id x.touched touched) (sym c.in_default.ensures)

pub returns-clause-acts : goal.returns-clause-acts
returns-clause-acts g c = λ all k are same holds touched. c.turn.ensures.acts all k are same holds touched c.in-Some._object.now (sym c.in-Some.ensures)
