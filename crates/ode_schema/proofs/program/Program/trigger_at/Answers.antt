use Rattle.std.proofs.Common.{ap, sym, ◌∙◌}
use Rattle.std.specs.Prelude.{slice_get}
use Rattle.std.specs.Option.{option_and_then, option_map}
use Rattle.ode_value.specs.declared.class.Class.{Class}
use Rattle.ode_value.specs.declared.member.TriggerDecl.{TriggerDecl}
use Rattle.ode_value.specs.Classes.{trigger_of}
use Rattle.ode_schema.specs.Parts.{Parts}
use Rattle.ode_schema.proofs.Agree.{trigger_by}
use Rattle.ode_schema.proofs.program.Program.trigger_at.Goals as goal

pub returns-clause-is : goal.returns-clause-is
returns-clause-is c = λ classes are.
    let inside = ap (λ (p : Parts). p.classes) c.self.view_is in
    let place = c.args.t.place in
    let under = c.own_trigger.ensures ∙ ap (option_and_then (λ (d : Class). slice_get d.triggers place)) c.class.ensures in
    ap (option_map (λ (t : TriggerDecl). trigger_of c.args.t.class (place, t))) under
    ∙ trigger_by c.self.inside.classes.now classes (are ∙ sym inside) c.args.t.class place
