use Rattle.std.proofs.Common.{sym, subst}
use Rattle.std.specs.Prelude.{◌≡◌, IfOk, List, Ok, Result, ℕ}
use Rattle.std.specs.List.{AllByRecursion}
use Rattle.ode_arising_laws.specs.Arising.{HasShortArgs, IsGoing, live_in}
use Rattle.ode_interpreter.specs.Seen as interpreter
use Rattle.ode_interpreter.specs.declared.stop.Stop.{Stop}
use Rattle.ode_overlay.specs.Answers.{Answers}
use Rattle.ode_overlay.specs.Reading.{acts}
use Rattle.ode_run.proofs.ArisingLaws.{none_damaged, read_gives, read_going, read_short, some_live}
use Rattle.ode_run.proofs.EndLaws.{read_sound, reading_leaves}
use Rattle.ode_run.proofs.ServeLaws.{reading_serves}
use Rattle.ode_run.proofs.work.Work.activations.Goals as goal
use Rattle.ode_run.specs.Knowing.{Failed, Holds}
use Rattle.ode_types.specs.Checked.{AreChecked}
use Rattle.ode_types.specs.declared.running.Running.{Running}
use Rattle.ode_value.specs.declared.class.Class.{Class}

pub returns-clause-value : goal.returns-clause-value
returns-clause-value g c = λ k same holds.
    let x = c.args.self.now.overlay.now in
    let p = c.args.program.now in
    let gives = subst (λ (ms : List ℕ). Answers c.acts.result (acts p.classes k.entries c.args.id ms x)) c.maps.ensures
    (subst (λ (cs : List Class). Answers c.acts.result (acts cs k.entries c.args.id c.maps.result.now x)) c.classes-2.ensures (c.acts.ensures.value k.entries holds.records)) in
    subst (λ (r : Result (List Running) Stop). IfOk r (λ there. acts p.classes k.entries c.args.id p.maps x ≡ Ok there)) (sym c.read.ensures.is)
    (read_gives c.acts.result (acts p.classes k.entries c.args.id p.maps x) gives)

pub returns-clause-going : goal.returns-clause-going
returns-clause-going g c = λ k same holds o found.
    let x = c.args.self.now.overlay.now in
    let p = c.args.program.now in
    let gives = subst (λ (ms : List ℕ). Answers c.acts.result (acts p.classes k.entries c.args.id ms x)) c.maps.ensures
    (subst (λ (cs : List Class). Answers c.acts.result (acts cs k.entries c.args.id c.maps.result.now x)) c.classes-2.ensures (c.acts.ensures.value k.entries holds.records)) in
    let all = c.activations_go_on.ensures k.first x holds.known.viewed holds.known.triggers p c.tables-fit.ensures.fit (subst AreChecked c.classes.ensures c.as_slice-checked.ensures.checked) (sym same) k.entries c.args.id o found in
    subst (λ (r : Result (List Running) Stop). IfOk r (AllByRecursion (IsGoing p o.class))) (sym c.read.ensures.is)
    (read_going p o.class c.acts.result (acts p.classes k.entries c.args.id p.maps x) gives all)

pub returns-clause-short : goal.returns-clause-short
returns-clause-short g c =
    subst (λ (r : Result (List Running) Stop). IfOk r (AllByRecursion HasShortArgs)) (sym c.read.ensures.is) (read_short c.acts.result c.acts.ensures.short)

pub returns-clause-kept : goal.returns-clause-kept
returns-clause-kept g c = λ k same holds.
    let x = c.args.self.now.overlay.now in
    let p = c.args.program.now in
    let gives = subst (λ (ms : List ℕ). Answers c.acts.result (acts p.classes k.entries c.args.id ms x)) c.maps.ensures
    (subst (λ (cs : List Class). Answers c.acts.result (acts cs k.entries c.args.id c.maps.result.now x)) c.classes-2.ensures (c.acts.ensures.value k.entries holds.records)) in
    let is = some_live (live_in c.args.id x) c.requires.there in
    let all = c.activations_go_on.ensures k.first x holds.known.viewed holds.known.triggers p c.tables-fit.ensures.fit (subst AreChecked c.classes.ensures c.as_slice-checked.ensures.checked) (sym same) k.entries c.args.id is.object is.found in
    subst (λ (r : Result (List Running) Stop). interpreter.Leaves r (Holds g.H.Host.view (g.K.Keep.holds c.acts.new.heap (g.H.Host.view c.acts.new.host)) (g.K.Keep.live c.acts.new.heap) c.acts.new.host x c.args.self.now.budget.now c.args.self.now.bytes k) (Failed g.H.Host.view c.acts.new.host k)) (sym c.read.ensures.is)
    (reading_leaves g.H.Host.view g.K.Keep.holds g.K.Keep.live c.args.self.now.host.now c.acts.new.host c.args.self.now.heap.now c.acts.new.heap x x c.args.self.now.budget.now c.args.self.now.bytes k holds c.acts.ensures.looks
    c.acts.result (read_sound c.acts.result (acts p.classes k.entries c.args.id p.maps x) gives (none_damaged p is.object.class (acts p.classes k.entries c.args.id p.maps x) all)) holds.known c.acts.ensures.holds c.acts.ensures.usable c.acts.ensures.cause)

pub returns-clause-faults : goal.returns-clause-faults
returns-clause-faults g c = λ began serves.
    reading_serves (g.H.Host.view began) (g.H.Host.view c.args.self.now.host.now) (g.H.Host.view c.acts.new.host) (g.K.Keep.live c.args.self.now.heap.now) (g.K.Keep.live c.acts.new.heap) serves c.acts.ensures.looks
    c.acts.result _ c.read.ensures.is c.acts.ensures.usable c.acts.ensures.cause
