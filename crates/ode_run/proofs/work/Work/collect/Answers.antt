use Rattle.std.proofs.Common.{◌≡◌, rules, subst, ◌∙◌}
use Rattle.std.specs.Prelude.{List, cond}
use Rattle.ode_interpreter.specs.Seen.{firing}
use Rattle.ode_run.proofs.ArisingLaws.{by_either}
use Rattle.ode_run.proofs.CollectLaws.{gathered_then, told_then}
use Rattle.ode_run.proofs.work.Work.collect.Goals as goal
use Rattle.ode_run.specs.Collecting.{Gathers}
use Rattle.ode_run.specs.Knowing.{tx}
use Rattle.ode_schema.specs.Parts.{trigger_of}
use Rattle.ode_value.specs.Acts.{prints}
use Rattle.ode_value.specs.Posting.{dropped_text}
use Rattle.ode_value.specs.Settling.{says}
use Rattle.ode_value.specs.declared.class.Class.{Class}

pub returns-then-branch-clause-acts : goal.returns-then-branch-clause-acts
returns-then-branch-clause-acts g c = λ all k are same holds.
    let y = tx all k c.args.self.now in
    let z = tx all k c.gather.new.self in
    let b = c.in_ok-gather.field-0 in
    gathered_then (cond c.args.last says prints) c.args.independent (firing (trigger_of c.args.program.now.classes) c.args.f.now) y z b c.if-branch.true
    (subst (λ (cs : List Class). Gathers (cond c.args.last says prints) c.args.independent (firing (trigger_of cs) c.args.f.now) y z b) c.classes.ensures
    (by_either (λ tells. Gathers tells c.args.independent (firing (trigger_of c.classes.result.now) c.args.f.now) y z b) c.args.last says prints
    (λ _. c.in_ok-gather.ensures.settling all k (c.classes.ensures ∙ same) holds) (λ _. c.in_ok-gather.ensures.running all k (c.classes.ensures ∙ same) holds)))

pub returns-clause-acts : goal.returns-clause-acts
returns-clause-acts g c = λ all k are same holds.
    let y = tx all k c.args.self.now in
    let z = tx all k c.gather.new.self in
    let b = c.in_ok-gather.field-0 in
    let f = firing (trigger_of c.args.program.now.classes) c.args.f.now in
    let gathers = subst (λ (cs : List Class). Gathers (cond c.args.last says prints) c.args.independent (firing (trigger_of cs) c.args.f.now) y z b) c.classes.ensures
    (by_either (λ tells. Gathers tells c.args.independent (firing (trigger_of c.classes.result.now) c.args.f.now) y z b) c.args.last says prints
    (λ _. c.in_ok-gather.ensures.settling all k (c.classes.ensures ∙ same) holds) (λ _. c.in_ok-gather.ensures.running all k (c.classes.ensures ∙ same) holds)) in
    let line : c.as_slice.result.now ≡ dropped_text f = search rules in
    told_then (cond c.args.last says prints) c.args.independent f y z (tx all k c.put_line.new.self) b c.as_slice.result.now c.put_line.result c.if-branch.false gathers line
    (c.put_line.ensures.acts all k (c.classes-2.ensures ∙ same) (c.in_ok-gather.ensures.kept k (c.classes.ensures ∙ same) holds))

pub returns-clause-lent : goal.returns-clause-lent
returns-clause-lent g c = λ k lent. c.put_line.ensures.lent k (c.gather.ensures.lent k lent)
