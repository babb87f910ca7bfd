use Rattle.std.proofs.Common.{rules}
use Rattle.std.specs.Prelude.{Ok}
use Rattle.ode_activation_laws.specs.Switching.{tells_line}
use Rattle.ode_run.proofs.MakeLaws.{ends_next, left_there, live_on, not_done, takes_one}
use Rattle.ode_run.proofs.StayLaws.{switched_by}
use Rattle.ode_run.proofs.work.Work.activate_initial.Goals as goal
use Rattle.ode_run.specs.Knowing.{Failed, IsRunning, tx}
use Rattle.ode_schema.specs.Parts.{no_trigger}
use Rattle.ode_states.specs.Advance.{no_table}
use Rattle.ode_value.specs.Classes.{Trigger}

pub returns-in_err-number-clause-acts : goal.returns-in_err-number-clause-acts
returns-in_err-number-clause-acts g c = λ all k tables decl class same holds of takes.
    let t : Trigger = record { class = c.args.t.class; place = c.args.t.place; decl = decl } in
    let has = takes_one k.first (tx all k c.args.self.now) c.args.id class c.args.t.class c.args.t.place of takes in
    not_done tells_line c.switch_on.result c.from_residual.result c.in_err-number.field-0.0 _ _ (live_on tables c.args.id t (tx all k c.args.self.now) class of c.switch_on.result (tx all k c.switch_on.new.self) (c.switch_on.ensures.acts all k tables decl same holds has)) (search rules) (search rules)

pub returns-clause-acts : goal.returns-clause-acts
returns-clause-acts g c = λ all k tables decl class same holds of takes.
    let t : Trigger = record { class = c.args.t.class; place = c.args.t.place; decl = decl } in
    let has = takes_one k.first (tx all k c.args.self.now) c.args.id class c.args.t.class c.args.t.place of takes in
    ends_next tells_line c.in_ok-number.number (tx all k c.switch_on.new.self) _ _ c.tell_active.result (live_on tables c.args.id t (tx all k c.args.self.now) class of (Ok c.in_ok-number.number) (tx all k c.switch_on.new.self) (c.in_ok-number.ensures.acts all k tables decl same holds has))
    (c.tell_active.ensures.acts all k same (c.in_ok-number.ensures.kept all k same holds has))

pub returns-clause-lent : goal.returns-clause-lent
returns-clause-lent g c = λ k lent. c.tell_active.ensures.lent k (c.switch_on.ensures.lent k lent)

pub returns-clause-there : goal.returns-clause-there
returns-clause-there g c = λ all k class same holds of takes.
    let t : Trigger = record { class = c.args.t.class; place = c.args.t.place; decl = no_trigger } in
    let has = takes_one k.first (tx all k c.args.self.now) c.args.id class c.args.t.class c.args.t.place of takes in
    switched_by (λ c t. no_table) c.args.id class t (tx all k c.args.self.now) (tx all k c.tell_active.new.self) of c.tell_active.result
    (ends_next tells_line c.in_ok-number.number (tx all k c.switch_on.new.self) _ _ c.tell_active.result
    (live_on (λ c t. no_table) c.args.id t (tx all k c.args.self.now) class of (Ok c.in_ok-number.number) (tx all k c.switch_on.new.self) (c.in_ok-number.ensures.acts all k (λ c t. no_table) no_trigger same holds has))
    (c.tell_active.ensures.acts all k same (c.in_ok-number.ensures.kept all k same holds has)))

pub returns-in_err-number-clause-kept : goal.returns-in_err-number-clause-kept
returns-in_err-number-clause-kept g c = λ all k class same holds of takes.
    let has = takes_one k.first (tx all k c.args.self.now) c.args.id class c.args.t.class c.args.t.place of takes in
    left_there c.switch_on.result c.from_residual.result c.in_err-number.field-0.0 (IsRunning g.H.Host.view g.K.Keep.holds g.K.Keep.live c.switch_on.new.self k) (Failed g.H.Host.view c.switch_on.new.self.host.now k)
    (c.switch_on.ensures.kept all k same holds has) (search rules) (search rules)

pub returns-clause-kept : goal.returns-clause-kept
returns-clause-kept g c = λ all k class same holds of takes.
    let has = takes_one k.first (tx all k c.args.self.now) c.args.id class c.args.t.class c.args.t.place of takes in
    c.tell_active.ensures.kept k same (c.in_ok-number.ensures.kept all k same holds has)
