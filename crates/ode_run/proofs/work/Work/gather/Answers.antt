use Rattle.std.proofs.Common.{◌≡◌, rules, sym, subst, ◌∙◌}
use Rattle.std.specs.Prelude.{Bool, true, ◌+◌}
use Rattle.ode_codec.specs.declared.record.Entry.{Entry}
use Rattle.ode_interpreter.specs.Seen.{firing}
use Rattle.ode_objects.proofs.Kept.{args_room}
use Rattle.ode_objects.specs.Values.{are_args}
use Rattle.ode_overlay.specs.Layers.{Layer, generation_of}
use Rattle.ode_overlay.specs.Settling.{collect}
use Rattle.ode_overlay_laws.specs.Following.{entry_by}
use Rattle.ode_known_laws.specs.Knowing.{IsKnown}
use Rattle.ode_run.proofs.CollectLaws.{collected_alike, gathers}
use Rattle.ode_run.proofs.work.Work.gather.Goals as goal
use Rattle.ode_run.specs.Knowing.{beside}
use Rattle.ode_schema.specs.Parts.{trigger_of}
use Rattle.ode_value.specs.Acts.{prints}
use Rattle.ode_value.specs.Settling.{says}
use Rattle.ode_view_laws.specs.Viewing.{running}

pub returns-clause-running : goal.returns-clause-running
returns-clause-running g c = λ all k same holds.
    let x = c.args.self.now.overlay.now in
    let b = beside k.first c.args.self.now.deferred.now c.args.self.now.text.now c.args.self.now.budget.now in
    let f = firing (trigger_of c.args.classes.now) c.args.f.now in
    let kept : are_args f.args ≡ true = args_room f.args ∙ c.requires in
    let law = c.collections_known.ensures.running all k.first b k.entries x holds.known c.args.independent f kept in
    let entry : Entry = record { object = f.object; class = f.trigger.class; trigger = f.trigger.place; generation = c.next_generation-generation.result; args = c.in_ok-args.args } in
    let alike : collect entry c.args.independent x ≡ collect (entry_by (generation_of x.origin + 1) f) c.args.independent x =
    collected_alike entry (entry_by (generation_of x.origin + 1) f) c.args.independent x (λ room. let number = c.next_generation-generation.ensures room in search (rules, number)) in
    gathers prints c.args.independent f (λ now. running all k.first now b) x c.collect.new.self c.in_ok-collected.collected (collect (entry_by (generation_of x.origin + 1) f) c.args.independent x)
    (c.in_ok-collected.ensures.acts ∙ alike) law.0

pub returns-clause-settling : goal.returns-clause-settling
returns-clause-settling g c = λ all k same holds.
    let x = c.args.self.now.overlay.now in
    let b = beside k.first c.args.self.now.deferred.now c.args.self.now.text.now c.args.self.now.budget.now in
    let f = firing (trigger_of c.args.classes.now) c.args.f.now in
    let kept : are_args f.args ≡ true = args_room f.args ∙ c.requires in
    let law = c.collections_known.ensures.settling all k.first b k.entries x holds.known c.args.independent f kept in
    let entry : Entry = record { object = f.object; class = f.trigger.class; trigger = f.trigger.place; generation = c.next_generation-generation.result; args = c.in_ok-args.args } in
    let alike : collect entry c.args.independent x ≡ collect (entry_by (generation_of x.origin + 1) f) c.args.independent x =
    collected_alike entry (entry_by (generation_of x.origin + 1) f) c.args.independent x (λ room. let number = c.next_generation-generation.ensures room in search (rules, number)) in
    gathers says c.args.independent f (λ now. running all k.first now b) x c.collect.new.self c.in_ok-collected.collected (collect (entry_by (generation_of x.origin + 1) f) c.args.independent x)
    (c.in_ok-collected.ensures.acts ∙ alike) law.0

pub returns-clause-kept : goal.returns-clause-kept
returns-clause-kept g c = λ k same holds.
    let x = c.args.self.now.overlay.now in
    let b = beside k.first c.args.self.now.deferred.now c.args.self.now.text.now c.args.self.now.budget.now in
    let f = firing (trigger_of c.args.classes.now) c.args.f.now in
    let kept : are_args f.args ≡ true = args_room f.args ∙ c.requires in
    let law = c.collections_known.ensures.running k.first.bones.classes k.first b k.entries x holds.known c.args.independent f kept in
    let entry : Entry = record { object = f.object; class = f.trigger.class; trigger = f.trigger.place; generation = c.next_generation-generation.result; args = c.in_ok-args.args } in
    let alike : collect entry c.args.independent x ≡ collect (entry_by (generation_of x.origin + 1) f) c.args.independent x =
    collected_alike entry (entry_by (generation_of x.origin + 1) f) c.args.independent x (λ room. let number = c.next_generation-generation.ensures room in search (rules, number)) in
    let known : IsKnown k.entries k.first c.collect.new.self =
    subst (λ (pair : Bool × Layer). IsKnown k.entries k.first pair.1) (sym (c.in_ok-collected.ensures.acts ∙ alike)) law.1 in
    record { usable = holds.usable; records = holds.records; looks = holds.looks; faults = holds.faults; known = known; budget = holds.budget; bytes = holds.bytes }
