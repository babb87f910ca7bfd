use Rattle.std.proofs.Common.{◌≡◌, List, Result, Ok, Err, ap, map, ◌∙◌}
use Rattle.std.specs.Prelude.{IfOk}
use Rattle.std.specs.List.{filter, flat_map}
use Rattle.ode_value.specs.declared.class.Class.{Class}
use Rattle.ode_value.specs.Classes.{Trigger, own_triggers}
use Rattle.ode_interpreter.specs.declared.firing.Trigger as code
use Rattle.ode_schema.specs.Parts.{named_by_place}
use Rattle.ode_schema.proofs.OwnTriggers.{initial_seen}
use Rattle.ode_schema.proofs.program.Program.initial.Goals as goal

-- what follows where there is memory
if_ok : {T E : Type 0} (P Q : T → Type 0) → ((t : T) → P t → Q t) → (r : Result T E) → IfOk r P → IfOk r Q
if_ok P Q leads (Ok t) is = leads t is
if_ok P Q leads (Err e) is = tt

pub returns : goal.returns
returns c = λ classes are.
    if_ok (λ (ts : List code.Trigger). ts ≡ map named_by_place (filter (λ (t : Trigger). t.decl.initial) (flat_map own_triggers c.family.result))) _
    (λ ts is. initial_seen c.args.self.now.classes c.family.ensures.checked classes are c.args.class ts
    (is ∙ ap (λ (family : List Class). map named_by_place (filter (λ (t : Trigger). t.decl.initial) (flat_map own_triggers family))) c.family.ensures.is))
    c.initial_of.result c.initial_of.ensures
