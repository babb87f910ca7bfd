use Rattle.std.proofs.Common.{rules, ◌≡◌, ◌∙◌, ap, sym}
use Rattle.std.specs.Prelude.{Some, None}
use Rattle.std.specs.Option.{option_map}
use Rattle.ode_activation_laws.specs.Switching.{tells_value}
use Rattle.ode_interpreter.specs.Seen.{trigger}
use Rattle.ode_run.proofs.MakeLaws.{classes_now, ends_next, left_there, names_it, none_named, not_done}
use Rattle.ode_run.proofs.work.Work.activate_of.Goals as goal
use Rattle.ode_run.specs.Activating.{trigger_at}
use Rattle.ode_run.specs.Knowing.{Failed, IsRunning, beside, tx}
use Rattle.ode_schema.specs.Parts.{trigger_of}
use Rattle.ode_value.specs.Classes.{trigger_named}
use Rattle.ode_value.specs.declared.member.TriggerDecl.{TriggerDecl}

pub returns-in_err-number-clause-acts : goal.returns-in_err-number-clause-acts
returns-in_err-number-clause-acts g c = λ all k tables fits same holds of.
    let decl : TriggerDecl = trigger_of c.args.program.now.classes c.in-Some.t.class c.in-Some.t.place in
    let t = trigger_at c.in-Some.t decl in
    let found : Some t ≡ trigger_named all c.args.class c.args.name.now = ap (option_map (trigger (trigger_of c.args.program.now.classes))) (sym c.in-Some.is) ∙ c.trigger_named.ensures.is all fits in
    let names = names_it (tx all k c.args.self.now) all c.args.of.object c.args.class c.args.name.now t (classes_now all k.first c.args.self.now.overlay.now (beside k.first c.args.self.now.deferred.now c.args.self.now.text.now c.args.self.now.budget.now)) of found in
    not_done tells_value c.switch_on_named.result c.from_residual.result c.in_err-number.field-0.0 _ _ (c.switch_on_named.ensures.acts all k tables c.args.name.now decl (fits ∙ sym c.classes.ensures) (c.classes.ensures ∙ same) holds names) (search rules) (search rules)

pub returns-in_err-number-clause-kept : goal.returns-in_err-number-clause-kept
returns-in_err-number-clause-kept g c = λ all k fits same holds of.
    let decl : TriggerDecl = trigger_of c.args.program.now.classes c.in-Some.t.class c.in-Some.t.place in
    let t = trigger_at c.in-Some.t decl in
    let found : Some t ≡ trigger_named all c.args.class c.args.name.now = ap (option_map (trigger (trigger_of c.args.program.now.classes))) (sym c.in-Some.is) ∙ c.trigger_named.ensures.is all fits in
    let names = names_it (tx all k c.args.self.now) all c.args.of.object c.args.class c.args.name.now t (classes_now all k.first c.args.self.now.overlay.now (beside k.first c.args.self.now.deferred.now c.args.self.now.text.now c.args.self.now.budget.now)) of found in
    left_there c.switch_on_named.result c.from_residual.result c.in_err-number.field-0.0 (IsRunning g.H.Host.view g.K.Keep.holds g.K.Keep.live c.switch_on_named.new.self k) (Failed g.H.Host.view c.switch_on_named.new.self.host.now k)
    (c.switch_on_named.ensures.kept all k c.args.name.now decl (fits ∙ sym c.classes.ensures) (c.classes.ensures ∙ same) holds names) (search rules) (search rules)

pub returns-clause-acts : goal.returns-clause-acts
returns-clause-acts g c = λ all k tables fits same holds of.
    let decl : TriggerDecl = trigger_of c.args.program.now.classes c.in-Some.t.class c.in-Some.t.place in
    let t = trigger_at c.in-Some.t decl in
    let found : Some t ≡ trigger_named all c.args.class c.args.name.now = ap (option_map (trigger (trigger_of c.args.program.now.classes))) (sym c.in-Some.is) ∙ c.trigger_named.ensures.is all fits in
    let names = names_it (tx all k c.args.self.now) all c.args.of.object c.args.class c.args.name.now t (classes_now all k.first c.args.self.now.overlay.now (beside k.first c.args.self.now.deferred.now c.args.self.now.text.now c.args.self.now.budget.now)) of found in
    ends_next tells_value c.in_ok-number.number (tx all k c.switch_on_named.new.self) _ _ c.tell_number.result
    (c.in_ok-number.ensures.acts all k tables c.args.name.now decl (fits ∙ sym c.classes.ensures) (c.classes.ensures ∙ same) holds names)
    (c.tell_number.ensures.acts all k (c.classes-2.ensures ∙ same) (c.in_ok-number.ensures.kept all k c.args.name.now decl (fits ∙ sym c.classes.ensures) (c.classes.ensures ∙ same) holds names))

pub returns-clause-kept : goal.returns-clause-kept
returns-clause-kept g c = λ all k fits same holds of.
    let decl : TriggerDecl = trigger_of c.args.program.now.classes c.in-Some.t.class c.in-Some.t.place in
    let t = trigger_at c.in-Some.t decl in
    let found : Some t ≡ trigger_named all c.args.class c.args.name.now = ap (option_map (trigger (trigger_of c.args.program.now.classes))) (sym c.in-Some.is) ∙ c.trigger_named.ensures.is all fits in
    let names = names_it (tx all k c.args.self.now) all c.args.of.object c.args.class c.args.name.now t (classes_now all k.first c.args.self.now.overlay.now (beside k.first c.args.self.now.deferred.now c.args.self.now.text.now c.args.self.now.budget.now)) of found in
    c.tell_number.ensures.kept k (c.classes-2.ensures ∙ same) (c.in_ok-number.ensures.kept all k c.args.name.now decl (fits ∙ sym c.classes.ensures) (c.classes.ensures ∙ same) holds names)

pub returns-clause-lent : goal.returns-clause-lent
returns-clause-lent g c = λ k lent. c.tell_number.ensures.lent k (c.switch_on_named.ensures.lent k lent)

pub returns-in_default-clause-acts : goal.returns-in_default-clause-acts
returns-in_default-clause-acts g c = λ all k tables fits same holds of.
    let none : c.trigger_named.result ≡ None = search rules in
    none_named tables c.args.of c.args.name.now c.args.args (tx all k c.args.self.now) all c.args.class
    (classes_now all k.first c.args.self.now.overlay.now (beside k.first c.args.self.now.deferred.now c.args.self.now.text.now c.args.self.now.budget.now)) of
    (ap (option_map (trigger (trigger_of c.args.program.now.classes))) (sym none) ∙ c.trigger_named.ensures.is all fits)
