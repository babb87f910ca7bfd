use Rattle.std.proofs.Common.{◌≡◌, rules, sym, subst, Ok}
use Rattle.std.specs.Prelude.{IfOk, List, Result}
use Rattle.ode_interpreter.specs.Seen as interpreter
use Rattle.ode_interpreter.specs.Seen.{scene}
use Rattle.ode_interpreter.specs.declared.stop.Stop.{Stop}
use Rattle.ode_run.proofs.EndLaws.{evaluation_leaves, judged_is}
use Rattle.ode_run.proofs.MakeLaws.{left_there}
use Rattle.ode_run.proofs.ServeLaws.{evaluation_serves}
use Rattle.ode_run.proofs.work.Work.judge.Goals as goal
use Rattle.ode_run.specs.Knowing.{Failed, Holds, beside}
use Rattle.ode_run.specs.Serving.{Serves, Stops}
use Rattle.ode_run_frame.specs.Reads.{Reads}
use Rattle.ode_value.specs.Evaluation.{evaluate, looks_in}
use Rattle.ode_value.specs.declared.arithmetic.Fault.{Fault}
use Rattle.ode_value.specs.declared.class.Class.{Class}
use Rattle.ode_value.specs.declared.value.Value.{Value}
use Rattle.ode_view_laws.specs.Viewing.{running}

pub returns-clause-value : goal.returns-clause-value
returns-clause-value g c = λ all k same holds.
    let b = beside k.first c.args.self.now.deferred.now c.args.self.now.text.now c.args.self.now.budget.now in
    let x = c.args.self.now.overlay.now in
    let y = running all k.first x b in
    let reads = subst (λ (cs : List Class). Reads cs k.entries x y.now.bones) (sym same) (c.views_read_known.ensures.bones all k.first b k.entries x holds.known) in
    let meant = evaluate c.args.e.now y.now.bones (scene c.args.on.now) in
    let ids = looks_in c.args.e.now y.now.bones (scene c.args.on.now) in
    subst (λ (r : Result (Result Value Fault) Stop). IfOk r (λ (v : Result Value Fault). (meant ≡ v) × (c.evaluate-read.result.looked ≡ ids))) (sym c.in_ok-value.ensures.is)
    (judged_is meant c.evaluate-read.result.value c.evaluate-read.result.looked ids (c.evaluate-read.ensures.value k.entries y.now.bones holds.records reads) (c.evaluate-read.ensures.looks k.entries y.now.bones holds.records reads))

pub returns-clause-kept : goal.returns-clause-kept
returns-clause-kept g c = λ k same holds.
    let b = beside k.first c.args.self.now.deferred.now c.args.self.now.text.now c.args.self.now.budget.now in
    let x = c.args.self.now.overlay.now in
    let y = running k.first.bones.classes k.first x b in
    let reads = subst (λ (cs : List Class). Reads cs k.entries x y.now.bones) (sym same) (c.views_read_known.ensures.bones k.first.bones.classes k.first b k.entries x holds.known) in
    subst (λ (r : Result (Result Value Fault) Stop). interpreter.Leaves r (Holds g.H.Host.view (g.K.Keep.holds c.evaluate-read.new.heap (g.H.Host.view c.evaluate-read.new.host)) (g.K.Keep.live c.evaluate-read.new.heap) c.evaluate-read.new.host x c.args.self.now.budget.now c.args.self.now.bytes k) (Failed g.H.Host.view c.evaluate-read.new.host k)) (sym c.in_ok-value.ensures.is)
    (evaluation_leaves g.H.Host.view g.K.Keep.holds g.K.Keep.live c.args.self.now.host.now c.evaluate-read.new.host c.args.self.now.heap.now c.evaluate-read.new.heap x c.args.self.now.budget.now c.args.self.now.bytes k holds
    c.evaluate-read.result.value (c.evaluate-read.ensures.behind k.entries y.now.bones holds.records reads))

pub returns-in_err-value-clause-kept : goal.returns-in_err-value-clause-kept
returns-in_err-value-clause-kept g c = λ k same holds.
    let b = beside k.first c.args.self.now.deferred.now c.args.self.now.text.now c.args.self.now.budget.now in
    let x = c.args.self.now.overlay.now in
    let y = running k.first.bones.classes k.first x b in
    let reads = subst (λ (cs : List Class). Reads cs k.entries x y.now.bones) (sym same) (c.views_read_known.ensures.bones k.first.bones.classes k.first b k.entries x holds.known) in
    left_there c.read_as.result c.from_residual.result c.in_err-value.field-0.0 (Holds g.H.Host.view (g.K.Keep.holds c.evaluate-read.new.heap (g.H.Host.view c.evaluate-read.new.host)) (g.K.Keep.live c.evaluate-read.new.heap) c.evaluate-read.new.host x c.args.self.now.budget.now c.args.self.now.bytes k) (Failed g.H.Host.view c.evaluate-read.new.host k)
    (subst (λ (r : Result (Result Value Fault) Stop). interpreter.Leaves r (Holds g.H.Host.view (g.K.Keep.holds c.evaluate-read.new.heap (g.H.Host.view c.evaluate-read.new.host)) (g.K.Keep.live c.evaluate-read.new.heap) c.evaluate-read.new.host x c.args.self.now.budget.now c.args.self.now.bytes k) (Failed g.H.Host.view c.evaluate-read.new.host k)) (sym c.read_as.ensures.is)
    (evaluation_leaves g.H.Host.view g.K.Keep.holds g.K.Keep.live c.args.self.now.host.now c.evaluate-read.new.host c.args.self.now.heap.now c.evaluate-read.new.heap x c.args.self.now.budget.now c.args.self.now.bytes k holds
    c.evaluate-read.result.value (c.evaluate-read.ensures.behind k.entries y.now.bones holds.records reads))) (search rules) (search rules)

pub returns-clause-faults : goal.returns-clause-faults
returns-clause-faults g c = λ began serves.
    evaluation_serves (g.H.Host.view began) (g.H.Host.view c.args.self.now.host.now) (g.H.Host.view c.evaluate-read.new.host) (g.K.Keep.live c.args.self.now.heap.now) (g.K.Keep.live c.evaluate-read.new.heap) serves
    c.evaluate-read.result.value (Ok c.in_ok-value.value) c.in_ok-value.ensures.is c.evaluate-read.ensures.since

pub returns-in_err-value-clause-faults : goal.returns-in_err-value-clause-faults
returns-in_err-value-clause-faults g c = λ began serves.
    left_there c.read_as.result c.from_residual.result c.in_err-value.field-0.0 (Serves (g.K.Keep.live c.evaluate-read.new.heap) (g.H.Host.view began) (g.H.Host.view c.evaluate-read.new.host)) (Stops (g.H.Host.view began) (g.H.Host.view c.evaluate-read.new.host))
    (evaluation_serves (g.H.Host.view began) (g.H.Host.view c.args.self.now.host.now) (g.H.Host.view c.evaluate-read.new.host) (g.K.Keep.live c.args.self.now.heap.now) (g.K.Keep.live c.evaluate-read.new.heap) serves
    c.evaluate-read.result.value c.read_as.result c.read_as.ensures.is c.evaluate-read.ensures.since) (search rules) (search rules)
