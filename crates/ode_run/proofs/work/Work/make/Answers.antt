use Rattle.std.proofs.Common.{rules, ◌≡◌, ◌∙◌, ℕ, map, sym, ap, subst}
use Rattle.ode_interpreter.specs.Seen.{Ends, trigger}
use Rattle.ode_run.proofs.MakeLaws.{active_by, bare_stops, classes_now, left_there, stops_on, takes_all}
use Rattle.ode_run.proofs.work.Work.make.Goals as goal
use Rattle.ode_run.specs.Knowing.{Failed, IsRunning, beside, tx}
use Rattle.ode_schema.specs.Parts.{trigger_of}
use Rattle.ode_value.specs.Acts.{Outcome, each, gives, go_on}
use Rattle.ode_value.specs.Classes.{initial_triggers}
use Rattle.ode_value.specs.Pasts.{numbers}
use Rattle.ode_value.specs.Statements.{activates_initial}

pub returns-in_err-id-clause-acts : goal.returns-in_err-id-clause-acts
returns-in_err-id-clause-acts g c = λ all k tables are same holds.
    bare_stops tables c.args.class c.args.fields (tx all k c.args.self.now) (tx all k c.make_bare.new.self) c.make_bare.result c.from_residual.result c.in_err-id.field-0.0
    (c.make_bare.ensures.acts all k tables (c.classes.ensures ∙ same) holds) (search rules) (search rules)

pub returns-in_err-activate_all-clause-acts : goal.returns-in_err-activate_all-clause-acts
returns-in_err-activate_all-clause-acts g c = λ all k tables are same holds.
    let bare = c.in_ok-id.ensures in
    let is = c.classes.ensures ∙ same in
    let runs = bare.kept k is holds in
    let there = bare.there all k is holds in
    let ts = map (trigger (trigger_of c.args.program.now.classes)) c.as_slice.result.now in
    let initial : ts ≡ initial_triggers all c.args.class = ap (map (trigger (trigger_of c.args.program.now.classes))) c.as_slice.ensures ∙ c.in_ok-triggers.ensures all are in
    let takes = takes_all c.args.program.now.classes k.first.bones.classes c.args.class c.as_slice.result.now (initial_triggers all c.args.class) initial (c.triggers_are_taken.ensures.initial all k.first.bones.classes (are ∙ same) c.args.class) in
    subst (λ (o : Outcome (Unit {0}) ℕ ℕ). Ends c.from_residual-in_err-activate_all.result (tx all k c.activate_all.new.self) o) (sym (active_by tables c.args.class c.args.fields (tx all k c.args.self.now) (tx all k c.make_bare.new.self) c.in_ok-id.id all ts
    (classes_now all k.first c.make_bare.new.self.overlay.now (beside k.first c.make_bare.new.self.deferred.now c.make_bare.new.self.text.now c.make_bare.new.self.budget.now)) initial (bare.acts all k tables is holds)))
    (stops_on c.activate_all.result c.from_residual-in_err-activate_all.result c.in_err-activate_all.field-0.0 (tx all k c.activate_all.new.self) (each (activates_initial (numbers tables) c.in_ok-id.id) ts (tx all k c.make_bare.new.self))
    (λ _. gives c.in_ok-id.id) (c.activate_all.ensures.acts all k tables c.args.class same runs there takes) (search rules) (search rules))

pub returns-in_err-activate_all-clause-kept : goal.returns-in_err-activate_all-clause-kept
returns-in_err-activate_all-clause-kept g c = λ k same holds.
    let all = k.first.bones.classes in
    let are = sym same in
    let bare = c.in_ok-id.ensures in
    let is = c.classes.ensures ∙ same in
    let runs = bare.kept k is holds in
    let there = bare.there all k is holds in
    let ts = map (trigger (trigger_of c.args.program.now.classes)) c.as_slice.result.now in
    let initial : ts ≡ initial_triggers all c.args.class = ap (map (trigger (trigger_of c.args.program.now.classes))) c.as_slice.ensures ∙ c.in_ok-triggers.ensures all are in
    let takes = takes_all c.args.program.now.classes k.first.bones.classes c.args.class c.as_slice.result.now (initial_triggers all c.args.class) initial (c.triggers_are_taken.ensures.initial all k.first.bones.classes (are ∙ same) c.args.class) in
    left_there c.activate_all.result c.from_residual-in_err-activate_all.result c.in_err-activate_all.field-0.0 (IsRunning g.H.Host.view g.K.Keep.holds g.K.Keep.live c.activate_all.new.self k) (Failed g.H.Host.view c.activate_all.new.self.host.now k)
    (c.activate_all.ensures.kept all k c.args.class same runs there takes) (search rules) (search rules)

pub returns-clause-acts : goal.returns-clause-acts
returns-clause-acts g c = λ all k tables are same holds.
    let bare = c.in_ok-id.ensures in
    let is = c.classes.ensures ∙ same in
    let runs = bare.kept k is holds in
    let there = bare.there all k is holds in
    let ts = map (trigger (trigger_of c.args.program.now.classes)) c.as_slice.result.now in
    let initial : ts ≡ initial_triggers all c.args.class = ap (map (trigger (trigger_of c.args.program.now.classes))) c.as_slice.ensures ∙ c.in_ok-triggers.ensures all are in
    let takes = takes_all c.args.program.now.classes k.first.bones.classes c.args.class c.as_slice.result.now (initial_triggers all c.args.class) initial (c.triggers_are_taken.ensures.initial all k.first.bones.classes (are ∙ same) c.args.class) in
    active_by tables c.args.class c.args.fields (tx all k c.args.self.now) (tx all k c.make_bare.new.self) c.in_ok-id.id all ts
    (classes_now all k.first c.make_bare.new.self.overlay.now (beside k.first c.make_bare.new.self.deferred.now c.make_bare.new.self.text.now c.make_bare.new.self.budget.now)) initial (bare.acts all k tables is holds)
    ∙ ap (λ (o : Outcome (Unit {0}) ℕ (Unit {0})). go_on o (λ _. gives c.in_ok-id.id)) (c.in_ok-activate_all.ensures.acts all k tables c.args.class same runs there takes)

pub returns-clause-kept : goal.returns-clause-kept
returns-clause-kept g c = λ k same holds.
    let all = k.first.bones.classes in
    let are = sym same in
    let bare = c.in_ok-id.ensures in
    let is = c.classes.ensures ∙ same in
    let runs = bare.kept k is holds in
    let there = bare.there all k is holds in
    let ts = map (trigger (trigger_of c.args.program.now.classes)) c.as_slice.result.now in
    let initial : ts ≡ initial_triggers all c.args.class = ap (map (trigger (trigger_of c.args.program.now.classes))) c.as_slice.ensures ∙ c.in_ok-triggers.ensures all are in
    let takes = takes_all c.args.program.now.classes k.first.bones.classes c.args.class c.as_slice.result.now (initial_triggers all c.args.class) initial (c.triggers_are_taken.ensures.initial all k.first.bones.classes (are ∙ same) c.args.class) in
    c.in_ok-activate_all.ensures.kept all k c.args.class same runs there takes

pub returns-in_err-triggers-clause-lent : goal.returns-in_err-triggers-clause-lent
returns-in_err-triggers-clause-lent g c = λ k lent. c.make_bare.ensures.lent k lent

pub returns-in_err-activate_all-clause-lent : goal.returns-in_err-activate_all-clause-lent
returns-in_err-activate_all-clause-lent g c = λ k lent. c.activate_all.ensures.lent k (c.make_bare.ensures.lent k lent)

pub returns-clause-lent : goal.returns-clause-lent
returns-clause-lent g c = λ k lent. c.activate_all.ensures.lent k (c.make_bare.ensures.lent k lent)
