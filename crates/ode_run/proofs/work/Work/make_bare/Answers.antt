use Rattle.std.proofs.Common.{rules}
use Rattle.ode_overlay_laws.specs.Following.{tells_new}
use Rattle.ode_run.proofs.MakeLaws.{ends_next, not_done}
use Rattle.ode_run.proofs.StayLaws.{made_by, none_next}
use Rattle.ode_run.proofs.work.Work.make_bare.Goals as goal
use Rattle.ode_run.specs.Knowing.{beside, tx}
use Rattle.ode_states.specs.Advance.{no_table}

pub returns-in_err-id-clause-acts : goal.returns-in_err-id-clause-acts
returns-in_err-id-clause-acts g c = λ all k tables same holds.
    not_done tells_new c.create.result c.from_residual.result c.in_err-id.field-0.0 _ _ (c.create.ensures.acts all k tables same holds) (search rules) (search rules)

pub returns-clause-acts : goal.returns-clause-acts
returns-clause-acts g c = λ all k tables same holds.
    ends_next tells_new c.in_ok-id.id (tx all k c.create.new.self) _ _ c.tell_new.result (c.in_ok-id.ensures.acts all k tables same holds)
    (c.tell_new.ensures.acts all k same (c.in_ok-id.ensures.kept k same holds))

pub returns-clause-lent : goal.returns-clause-lent
returns-clause-lent g c = λ k lent. c.tell_new.ensures.lent k (c.create.ensures.lent k lent)

pub returns-clause-there : goal.returns-clause-there
returns-clause-there g c = λ all k same holds.
    let b = beside k.first c.args.self.now.deferred.now c.args.self.now.text.now c.args.self.now.budget.now in
    made_by (λ c t. no_table) c.args.class c.args.fields (tx all k c.args.self.now) (tx all k c.tell_new.new.self) (none_next all k.first b c.args.self.now.overlay.now holds.known.viewed) c.tell_new.result
    (ends_next tells_new c.in_ok-id.id (tx all k c.create.new.self) _ _ c.tell_new.result (c.in_ok-id.ensures.acts all k (λ c t. no_table) same holds)
    (c.tell_new.ensures.acts all k same (c.in_ok-id.ensures.kept k same holds)))
