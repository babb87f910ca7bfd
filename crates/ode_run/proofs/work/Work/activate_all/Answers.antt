use Rattle.std.proofs.Common.{rules, ◌+◌, ◌∙◌, ℕ, List, drop, get_or, map, sym, ap, subst}
use Rattle.std.proofs.lemmas.List.{drop_all, drop_more}
use Rattle.ode_arising_laws.specs.Arising.{TakesTrigger}
use Rattle.ode_interpreter.specs.Seen.{Ends, trigger}
use Rattle.ode_interpreter.specs.declared.firing.Trigger as code
use Rattle.ode_run.proofs.MakeLaws.{each_next, left_there, more_left, stops_on}
use Rattle.ode_run.proofs.work.Work.activate_all.Goals as goal
use Rattle.ode_run.specs.Knowing.{Failed, IsRunning, tx}
use Rattle.ode_schema.specs.Parts.{trigger_of}
use Rattle.ode_value.specs.Acts.{Outcome, each}
use Rattle.ode_value.specs.Pasts.{numbers}
use Rattle.ode_value.specs.Statements.{activates_initial}

pub loop-t-preserved : goal.loop-t-preserved
loop-t-preserved g c =
    let before = c.loop-t.invariant in
    let now = c.in_ok-activate_initial.ensures in
    let is = c.classes.ensures in
    let none : code.Trigger = record { class = 0; place = 0 } in
    record {
      kept = λ all k class same runs of takes.
          now.kept all k class (is ∙ same) (before.kept all k class same runs of takes) (before.there all k class same runs of takes)
          (more_left (λ (t : code.Trigger). TakesTrigger k.first.bones.classes class t.class t.place) none c.args.triggers.now c.loop-t.t-index c.loop-t-test.true (before.left k class takes)).0;
      serves = λ began serves. now.faults began (before.serves began serves);
      lent = λ k lent. now.lent k (before.lent k lent);
      there = λ all k class same runs of takes.
          now.there all k class (is ∙ same) (before.kept all k class same runs of takes) (before.there all k class same runs of takes)
          (more_left (λ (t : code.Trigger). TakesTrigger k.first.bones.classes class t.class t.place) none c.args.triggers.now c.loop-t.t-index c.loop-t-test.true (before.left k class takes)).0;
      left = λ k class takes.
          (more_left (λ (t : code.Trigger). TakesTrigger k.first.bones.classes class t.class t.place) none c.args.triggers.now c.loop-t.t-index c.loop-t-test.true (before.left k class takes)).1;
      rest = λ all k tables class same runs of takes.
          let t : code.Trigger = get_or c.args.triggers.now c.loop-t.t-index none in
          sym (each_next (activates_initial (numbers tables) c.args.id) (trigger (trigger_of c.args.program.now.classes)) none c.args.triggers.now c.loop-t.t-index (tx all k c.loop-t.self) (tx all k c.activate_initial.new.self) c.loop-t-test.true
          (now.acts all k tables (trigger_of c.args.program.now.classes t.class t.place) class (is ∙ same) (before.kept all k class same runs of takes) (before.there all k class same runs of takes)
          (more_left (λ (t : code.Trigger). TakesTrigger k.first.bones.classes class t.class t.place) none c.args.triggers.now c.loop-t.t-index c.loop-t-test.true (before.left k class takes)).0))
          ∙ before.rest all k tables class same runs of takes;
    }

pub returns-clause-acts : goal.returns-clause-acts
returns-clause-acts g c = λ all k tables class same runs of takes.
    sym (c.loop-t.invariant.rest all k tables class same runs of takes)
    ∙ ap (λ (ts : List code.Trigger). each (activates_initial (numbers tables) c.args.id) (map (trigger (trigger_of c.args.program.now.classes)) ts) (tx all k c.loop-t.self)) (drop_all c.loop-t.t-index c.args.triggers.now c.loop-t-test.false)

pub returns-in_err-activate_initial-clause-acts : goal.returns-in_err-activate_initial-clause-acts
returns-in_err-activate_initial-clause-acts g c = λ all k tables class same runs of takes.
    let before = c.loop-t.invariant in
    let none : code.Trigger = record { class = 0; place = 0 } in
    let here = more_left (λ (t : code.Trigger). TakesTrigger k.first.bones.classes class t.class t.place) none c.args.triggers.now c.loop-t.t-index c.loop-t-test.true (before.left k class takes) in
    let t : code.Trigger = get_or c.args.triggers.now c.loop-t.t-index none in
    let seen = trigger (trigger_of c.args.program.now.classes) in
    subst (λ (o : Outcome (Unit {0}) ℕ (Unit {0})). Ends c.from_residual.result (tx all k c.activate_initial.new.self) o)
    (sym (ap (λ (ts : List code.Trigger). each (activates_initial (numbers tables) c.args.id) (map seen ts) (tx all k c.loop-t.self)) (drop_more c.args.triggers.now c.loop-t.t-index none c.loop-t-test.true))
    ∙ before.rest all k tables class same runs of takes)
    (stops_on c.activate_initial.result c.from_residual.result c.in_err-activate_initial.field-0.0 (tx all k c.activate_initial.new.self) (activates_initial (numbers tables) c.args.id (seen t) (tx all k c.loop-t.self))
    (λ _. each (activates_initial (numbers tables) c.args.id) (map seen (drop (c.loop-t.t-index + 1) c.args.triggers.now)))
    (c.activate_initial.ensures.acts all k tables (trigger_of c.args.program.now.classes t.class t.place) class (c.classes.ensures ∙ same) (before.kept all k class same runs of takes) (before.there all k class same runs of takes) here.0)
    (search rules) (search rules))

pub returns-in_err-activate_initial-clause-kept : goal.returns-in_err-activate_initial-clause-kept
returns-in_err-activate_initial-clause-kept g c = λ all k class same runs of takes.
    let before = c.loop-t.invariant in
    let none : code.Trigger = record { class = 0; place = 0 } in
    let here = more_left (λ (t : code.Trigger). TakesTrigger k.first.bones.classes class t.class t.place) none c.args.triggers.now c.loop-t.t-index c.loop-t-test.true (before.left k class takes) in
    left_there c.activate_initial.result c.from_residual.result c.in_err-activate_initial.field-0.0 (IsRunning g.H.Host.view g.K.Keep.holds g.K.Keep.live c.activate_initial.new.self k) (Failed g.H.Host.view c.activate_initial.new.self.host.now k)
    (c.activate_initial.ensures.kept all k class (c.classes.ensures ∙ same) (before.kept all k class same runs of takes) (before.there all k class same runs of takes) here.0) (search rules) (search rules)

pub returns-in_err-activate_initial-clause-lent : goal.returns-in_err-activate_initial-clause-lent
returns-in_err-activate_initial-clause-lent g c = λ k lent. c.activate_initial.ensures.lent k (c.loop-t.invariant.lent k lent)
