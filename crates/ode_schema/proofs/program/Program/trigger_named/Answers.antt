use Rattle.std.proofs.Common.{List, ap, sym, subst, ◌∙◌}
use Rattle.std.specs.List.{find, flat_map}
use Rattle.std.specs.Option.{IfSome, IsSome, option_map}
use Rattle.std.specs.Str.{bytes_eq}
use Rattle.ode_value.specs.declared.class.Class.{Class}
use Rattle.ode_value.specs.Classes.{Trigger, own_triggers}
use Rattle.ode_interpreter.specs.declared.firing.Trigger as code
use Rattle.ode_interpreter.specs.Seen.{trigger as seen}
use Rattle.ode_schema.specs.Parts.{Parts, named_by_place, trigger_of, trigger_under}
use Rattle.ode_schema.proofs.OwnTriggers.{named_declared, named_seen}
use Rattle.ode_schema.proofs.program.Program.trigger_named.Goals as goal

pub returns-clause-is : goal.returns-clause-is
returns-clause-is c = λ classes are.
    let cs = c.self.inside.classes.now in
    let inside = ap (λ (p : Parts). p.classes) c.self.view_is in
    let found = c.named_of.ensures ∙ ap (λ (family : List Class). option_map named_by_place (find (λ (t : Trigger). bytes_eq t.decl.name c.args.name.now) (flat_map own_triggers family))) c.new.ensures in
    ap (λ (ds : List Class). option_map (seen (trigger_of ds)) c.named_of.result) (sym inside)
    ∙ named_seen cs c.self.invariant.0 classes (are ∙ sym inside) c.args.class c.args.name.now c.named_of.result found

pub returns-clause-declared : goal.returns-clause-declared
returns-clause-declared c =
    let cs = c.self.inside.classes.now in
    let inside = ap (λ (p : Parts). p.classes) c.self.view_is in
    let found = c.named_of.ensures ∙ ap (λ (family : List Class). option_map named_by_place (find (λ (t : Trigger). bytes_eq t.decl.name c.args.name.now) (flat_map own_triggers family))) c.new.ensures in
    subst (λ (ds : List Class). IfSome c.named_of.result (λ (t : code.Trigger). IsSome (trigger_under ds t.class t.place))) inside
    (named_declared cs c.self.invariant.0 c.args.class c.args.name.now c.named_of.result found)
