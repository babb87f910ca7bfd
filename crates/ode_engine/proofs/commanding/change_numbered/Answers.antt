use Rattle.ode_host.proofs.Calls.{host_calls_as}
use Rattle.ode_language.specs.Languages.{ode}
use Rattle.ode_machine.specs.Refusals.{changed_in}
use Rattle.ode_machine.specs.Sessions.{closed}
use Rattle.ode_engine.proofs.ChangeLaws.{change_settled, changed_serves, refused_change_serves, unchanged_serves}
use Rattle.ode_engine.proofs.FaultLaws.{undamaged_by}
use Rattle.ode_engine.proofs.ServeLaws.{rest_now, told_on}
use Rattle.ode_engine.proofs.SessionLaws.{change_is_well}
use Rattle.ode_transact.proofs.LogLaws.{grown_then}
use Rattle.ode_engine.proofs.KeptLaws.{changed_kept, refused_change_kept}
use Rattle.ode_engine.proofs.commanding.change_numbered.Goals as goal

pub returns-in-Err-clause-serves : goal.returns-in-Err-clause-serves
returns-in-Err-clause-serves g c w well rests left =
    let fine = change_is_well w well left c.args.c.now c.requires.text in
    unchanged_serves g.H.Host.view g.K.Keep.holds g.K.Keep.live g.K.Keep.means g.met.K.Keep.stands g.met.H.Host.text_stands c.args.output.now c.change.new.output w c.args.c.now c.in-Err.error c.args.host.now c.change.new.host (rest_now g.H.Host.view g.K.Keep.holds g.K.Keep.live ode w c.args.rest c.args.host.now well rests) (changed_in ode w.bones c.args.c.now)
    (λ classes is said told. c.in-Err.ensures.any_moment w classes said well rests is (fine classes is) told)
    (λ why is. c.in-Err.ensures.declined w why rests is)
    (undamaged_by _ _ c.in-Err.ensures.undamaged (λ never. never w well rests left fine))

pub returns-in-Err-clause-leaves : goal.returns-in-Err-clause-leaves
returns-in-Err-clause-leaves g c = host_calls_as _ _ _ _ _ _ (λ is. cc (is)) (λ is. cc (is)) (λ is. cc (is)) (λ is. cc (is)) c.in-Err.ensures.leaves

pub returns-in-Some-clause-serves : goal.returns-in-Some-clause-serves
returns-in-Some-clause-serves g c w well rests left =
    refused_change_serves g.H.Host.view g.K.Keep.holds g.K.Keep.live g.K.Keep.means g.met.K.Keep.stands g.met.H.Host.text_stands c.args.output.now c.change.new.output w c.args.c.now c.in-Some.why c.in-Ok.rest c.args.host.now c.change.new.host _ _ well (rest_now g.H.Host.view g.K.Keep.holds g.K.Keep.live ode w c.args.rest c.args.host.now well rests) (changed_in ode w.bones c.args.c.now)
    (rw c.in-Some.is at (c.in-Ok.ensures.done w well rests)) (rw c.in-Some.is at (c.in-Ok.ensures.counts w well rests)) (λ why is. c.in-Ok.ensures.declined w why rests is)

pub returns-in-Some-clause-leaves : goal.returns-in-Some-clause-leaves
returns-in-Some-clause-leaves g c = host_calls_as _ _ _ _ _ _ (λ is. cc (is)) (λ is. cc (is)) (λ is. cc (is)) (λ is. cc (is)) c.in-Ok.ensures.leaves

pub returns-in-None-clause-serves : goal.returns-in-None-clause-serves
returns-in-None-clause-serves g c w well rests left =
    let fine = change_is_well w well left c.args.c.now c.requires.text in
    changed_serves g.H.Host.view g.K.Keep.holds g.K.Keep.live g.K.Keep.means g.met.K.Keep.stands g.met.H.Host.text_stands c.args.output.now c.settled.new.output w c.args.c.now c.change.new.output c.in-Ok.rest c.args.host.now c.change.new.host c.settled.new.host c.settled.result _ _ (changed_in ode w.bones c.args.c.now)
    (rw c.in-None.is at (c.in-Ok.ensures.done w well rests))
    (rw c.in-None.is at (c.in-Ok.ensures.counts w well rests))
    fine
    (λ classes is wells made printed counts. c.settled.ensures.serves (closed w) (change_settled w c.args.c.now classes) c.args.host.now c.args.output.now printed counts
    (λ said told. c.in-Ok.ensures.any_moment w classes said well rests is wells told) wells made)

pub returns-in-None-clause-leaves : goal.returns-in-None-clause-leaves
returns-in-None-clause-leaves g c = told_on _ _ _ _ _ (host_calls_as _ _ _ _ _ _ (λ is. cc (is)) absurd (λ is. cc (is)) absurd c.in-Ok.ensures.leaves) c.settled.ensures.leaves

pub returns-in-Some-clause-logs : goal.returns-in-Some-clause-logs
returns-in-Some-clause-logs g c w entries well rests left disk =
    refused_change_kept g.K.Keep.means w entries c.args.log.now c.change.new.log (g.H.Host.view c.args.host.now) (g.H.Host.view c.change.new.host) c.args.c.now c.in-Some.why _ (changed_in ode w.bones c.args.c.now) (rw c.in-Some.is at (c.in-Ok.ensures.logs w entries well rests disk))
    (λ why is. c.in-Ok.ensures.declined w why rests is) disk

pub returns-in-None-clause-logs : goal.returns-in-None-clause-logs
returns-in-None-clause-logs g c w entries well rests left disk =
    let fine = change_is_well w well left c.args.c.now c.requires.text in
    changed_kept g.K.Keep.means g.H.Host.view g.K.Keep.holds g.K.Keep.live c.settled.result w entries c.args.log.now c.change.new.log c.settled.new.log c.in-Ok.rest c.args.host.now c.change.new.host c.settled.new.host c.args.output.now.quiet _ _
    c.args.c.now (changed_in ode w.bones c.args.c.now) (rw c.in-None.is at (c.in-Ok.ensures.done w well rests)) (rw c.in-None.is at (c.in-Ok.ensures.logs w entries well rests disk)) fine
    (λ classes wells made kept. c.settled.ensures.logs w (change_settled w c.args.c.now classes) c.args.log.now entries wells made kept)

pub returns-in-None-clause-grown : goal.returns-in-None-clause-grown
returns-in-None-clause-grown g c = grown_then c.args.log.now c.change.new.log c.settled.new.log c.change.ensures.grown c.settled.ensures.grown
