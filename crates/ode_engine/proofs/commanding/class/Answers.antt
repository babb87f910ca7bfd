use Rattle.ode_host.proofs.Calls.{host_calls_as}
use Rattle.ode_language.specs.Languages.{ode}
use Rattle.ode_machine.specs.Refusals.{declared_in}
use Rattle.ode_machine.specs.Sessions.{closed}
use Rattle.ode_engine.proofs.ClassLaws.{class_settled, declared_serves, few_kept, refused_class_serves, same_looks, undeclared_serves}
use Rattle.ode_engine.proofs.FaultLaws.{undamaged_by}
use Rattle.ode_engine.proofs.ServeLaws.{rest_now, told_on}
use Rattle.ode_engine.proofs.SessionLaws.{class_is_well}
use Rattle.ode_transact.proofs.LogLaws.{grown_then}
use Rattle.ode_engine.proofs.KeptLaws.{declared_kept, refused_class_kept}
use Rattle.ode_engine.proofs.commanding.class.Goals as goal

pub returns-in-Err-clause-serves : goal.returns-in-Err-clause-serves
returns-in-Err-clause-serves g c w well rests left text =
    undeclared_serves g.H.Host.view g.K.Keep.holds g.K.Keep.live g.K.Keep.means g.met.K.Keep.stands g.met.H.Host.text_stands c.args.output.now c.declare.new.output w c.in-Err.error c.args.host.now c.declare.new.host (rest_now g.H.Host.view g.K.Keep.holds g.K.Keep.live ode w c.args.rest c.args.host.now well rests) (declared_in ode w.bones c.args.decl.now)
    (λ k is said told. c.in-Err.ensures.any_moment w k said well text rests is (few_kept w well c.args.decl.now text k is) (class_is_well w well left c.args.decl.now text k is) told)
    (λ why is. same_looks g.H.Host.view c.args.host.now c.declare.new.host (c.in-Err.ensures.declined w why rests is))
    (undamaged_by _ _ c.in-Err.ensures.undamaged (λ never. never w well text rests left (λ k is. (few_kept w well c.args.decl.now text k is, class_is_well w well left c.args.decl.now text k is))))

pub returns-in-Err-clause-leaves : goal.returns-in-Err-clause-leaves
returns-in-Err-clause-leaves g c = host_calls_as _ _ _ _ _ _ (λ is. cc (is)) (λ is. cc (is)) (λ is. cc (is)) (λ is. cc (is)) c.in-Err.ensures.leaves

pub returns-in-Some-clause-serves : goal.returns-in-Some-clause-serves
returns-in-Some-clause-serves g c w well rests left text =
    refused_class_serves g.H.Host.view g.K.Keep.holds g.K.Keep.live g.K.Keep.means g.met.K.Keep.stands g.met.H.Host.text_stands c.args.output.now c.declare.new.output w c.in-Some.why c.in-Ok.rest c.args.host.now c.declare.new.host _ _ well (rest_now g.H.Host.view g.K.Keep.holds g.K.Keep.live ode w c.args.rest c.args.host.now well rests) (declared_in ode w.bones c.args.decl.now)
    (rw c.in-Some.is at (c.in-Ok.ensures.done w well text rests)) (rw c.in-Some.is at (c.in-Ok.ensures.counts w well text rests)) (λ why is. same_looks g.H.Host.view c.args.host.now c.declare.new.host (c.in-Ok.ensures.declined w why rests is))

pub returns-in-Some-clause-leaves : goal.returns-in-Some-clause-leaves
returns-in-Some-clause-leaves g c = host_calls_as _ _ _ _ _ _ (λ is. cc (is)) (λ is. cc (is)) (λ is. cc (is)) (λ is. cc (is)) c.in-Ok.ensures.leaves

pub returns-in-None-clause-serves : goal.returns-in-None-clause-serves
returns-in-None-clause-serves g c w well rests left text =
    declared_serves g.H.Host.view g.K.Keep.holds g.K.Keep.live g.K.Keep.means g.met.K.Keep.stands g.met.H.Host.text_stands c.args.output.now c.settled.new.output c.declare.new.output w c.in-Ok.rest c.args.host.now c.declare.new.host c.settled.new.host c.settled.result _ _ (declared_in ode w.bones c.args.decl.now) (rw c.in-None.is at (c.in-Ok.ensures.done w well text rests))
    (rw c.in-None.is at (c.in-Ok.ensures.counts w well text rests))
    (λ k is. few_kept w well c.args.decl.now text k is)
    (λ k is. class_is_well w well left c.args.decl.now text k is)
    (λ k is wells made printed counts. c.settled.ensures.serves (closed w) (class_settled w k) c.args.host.now c.args.output.now printed counts
    (λ said told. c.in-Ok.ensures.any_moment w k said well text rests is (few_kept w well c.args.decl.now text k is) wells told) wells made)

pub returns-in-None-clause-leaves : goal.returns-in-None-clause-leaves
returns-in-None-clause-leaves g c = told_on _ _ _ _ _ (host_calls_as _ _ _ _ _ _ (λ is. cc (is)) absurd (λ is. cc (is)) absurd c.in-Ok.ensures.leaves) c.settled.ensures.leaves

pub returns-in-Some-clause-logs : goal.returns-in-Some-clause-logs
returns-in-Some-clause-logs g c w entries well rests left text disk =
    refused_class_kept g.K.Keep.means w entries c.args.log.now c.declare.new.log (g.H.Host.view c.args.host.now) (g.H.Host.view c.declare.new.host) c.in-Some.why _ (declared_in ode w.bones c.args.decl.now) (rw c.in-Some.is at (c.in-Ok.ensures.logs w entries well text rests disk))
    (λ why is. same_looks g.H.Host.view c.args.host.now c.declare.new.host (c.in-Ok.ensures.declined w why rests is)) disk

pub returns-in-None-clause-logs : goal.returns-in-None-clause-logs
returns-in-None-clause-logs g c w entries well rests left text disk =
    declared_kept g.K.Keep.means g.H.Host.view g.K.Keep.holds g.K.Keep.live c.settled.result w entries c.args.log.now c.declare.new.log c.settled.new.log c.in-Ok.rest c.args.host.now c.declare.new.host c.settled.new.host c.args.output.now.quiet _ _
    (declared_in ode w.bones c.args.decl.now) (rw c.in-None.is at (c.in-Ok.ensures.done w well text rests)) (rw c.in-None.is at (c.in-Ok.ensures.logs w entries well text rests disk))
    (λ k is. few_kept w well c.args.decl.now text k is)
    (λ k is. class_is_well w well left c.args.decl.now text k is)
    (λ k wells made kept. c.settled.ensures.logs w (class_settled w k) c.args.log.now entries wells made kept)

pub returns-in-None-clause-grown : goal.returns-in-None-clause-grown
returns-in-None-clause-grown g c = grown_then c.args.log.now c.declare.new.log c.settled.new.log c.declare.ensures.grown c.settled.ensures.grown
