use Rattle.std.proofs.Common.{rules, ◌∙◌, refl, subst, sym}
use Rattle.ode_declare.proofs.TakeLaws.{damaged_as}
use Rattle.ode_declare.proofs.TurnLaws.{says_line}
use Rattle.ode_declare.proofs.turning.turn_away.Goals as goal
use Rattle.ode_host.proofs.Moments.{joined}
use Rattle.ode_machine.specs.Moments.{LeavesSettling}
use Rattle.ode_schema.specs.Parts.{AreFit}
use Rattle.ode_transact.proofs.DamageLaws.{damaged_so}
use Rattle.ode_transact.proofs.EndingLaws.{before_leaves, fails_as, looks_leave, looks_then, none_rose, printed_behind}
use Rattle.ode_transact.proofs.LogLaws.{disk_looks}
use Rattle.ode_transact.specs.Output.{heard_of}
use Rattle.ode_transact.specs.Resting.{HoldsBy}
use Rattle.ode_value.specs.Acts.{with_line}
use Rattle.ode_value.specs.Pasts.{lists}
use Rattle.ode_value.specs.Settling.{abort}
use Rattle.ode_value.specs.Transactions.{Script, begun}
use Rattle.ode_value.specs.declared.reason.Reason.TheVariants.{Space}

pub returns-in_err-ctx-clause-any_moment : goal.returns-in_err-ctx-clause-any_moment
returns-in_err-ctx-clause-any_moment g c = λ l w said well rest behind printed.
    let s = heard_of c.args.output.now.quiet (abort lists Space (with_line c.args.line (begun Script w))) in
    looks_leave _ _ (LeavesSettling (HoldsBy l g.K.Keep.means) w s.0 said s.1)
    (before_leaves l g.K.Keep.means rest.entries w s.0 said s.1 _ (g.met.K.Keep.stands c.args.rest.keeper c.args.host.now rest.entries rest.records) (g.met.H.Host.text_stands c.args.host.now) printed rest.world well.ones)
    c.begin.ensures.looks

pub returns-in_err-ctx-clause-leaves : goal.returns-in_err-ctx-clause-leaves
returns-in_err-ctx-clause-leaves g c =
    fails_as c.begin.result c.from_residual.result c.in_err-ctx.field-0.0 _ _ (search rules) (search rules) c.begin.ensures.looks c.begin.ensures.cause c.begin.ensures.silent

pub end-requires : goal.end-requires
end-requires g c = record { fit = subst AreFit (sym c.in_ok-ctx.ensures.parts) c.requires.fit; live = c.in_ok-ctx.ensures.usable }

pub returns-clause-done : goal.returns-clause-done
returns-clause-done g c = λ l w rest well.
    let t = with_line c.args.line (begun Script w) in
    let runs = says_line g.H.Host.view g.K.Keep.holds g.K.Keep.live l w c.in_ok-ctx.ctx c.begin.new.host _ c.args.line refl (c.in_ok-ctx.ensures.begun l w rest tt) in
    (c.end.ensures.done l w t runs well, printed_behind c.end.result _ _ (g.H.Host.view c.args.host.now) (g.H.Host.view c.begin.new.host) (g.H.Host.view c.end.new.host) c.begin.ensures.looks refl (c.end.ensures.printed l w t runs))

pub returns-clause-counts : goal.returns-clause-counts
returns-clause-counts g c = λ l w rest well.
    let t = with_line c.args.line (begun Script w) in
    let runs = says_line g.H.Host.view g.K.Keep.holds g.K.Keep.live l w c.in_ok-ctx.ctx c.begin.new.host _ c.args.line refl (c.in_ok-ctx.ensures.begun l w rest tt) in
    c.end.ensures.counts l w t runs

pub returns-clause-any_moment : goal.returns-clause-any_moment
returns-clause-any_moment g c = λ l w said well rest behind printed.
    let t = with_line c.args.line (begun Script w) in
    let s = heard_of c.args.output.now.quiet (abort lists Space t) in
    let runs = says_line g.H.Host.view g.K.Keep.holds g.K.Keep.live l w c.in_ok-ctx.ctx c.begin.new.host _ c.args.line refl (c.in_ok-ctx.ensures.begun l w rest tt) in
    joined _ _ _ (LeavesSettling (HoldsBy l g.K.Keep.means) w s.0 said s.1)
    (looks_leave _ _ (LeavesSettling (HoldsBy l g.K.Keep.means) w s.0 said s.1)
    (before_leaves l g.K.Keep.means rest.entries w s.0 said s.1 _ (g.met.K.Keep.stands c.args.rest.keeper c.args.host.now rest.entries rest.records) (g.met.H.Host.text_stands c.args.host.now) printed rest.world well.ones)
    c.begin.ensures.looks)
    (c.end.ensures.any_moment l w t said well runs behind (c.begin.ensures.looks.text ∙ printed))

pub returns-clause-leaves : goal.returns-clause-leaves
returns-clause-leaves g c = looks_then _ _ _ _ _ c.begin.ensures.looks (none_rose _ _ _ (λ failed. cc (failed)) c.in_ok-ctx.ensures.cause) c.end.ensures.leaves

pub returns-in_err-ctx-clause-undamaged : goal.returns-in_err-ctx-clause-undamaged
returns-in_err-ctx-clause-undamaged g c =
    damaged_as c.begin.result c.from_residual.result c.in_err-ctx.field-0.0 _ _ (search rules) (search rules) c.begin.ensures.undamaged (λ damaged l w rest left well. damaged l w rest tt left)

pub returns-clause-undamaged : goal.returns-clause-undamaged
returns-clause-undamaged g c = damaged_so c.end.result _ _ (λ damaged l w rest left well.
    let runs = says_line g.H.Host.view g.K.Keep.holds g.K.Keep.live l w c.in_ok-ctx.ctx c.begin.new.host _ c.args.line refl (c.in_ok-ctx.ensures.begun l w rest tt) in
    damaged l w (with_line c.args.line (begun Script w)) runs well) c.end.ensures.undamaged

pub returns-clause-logs : goal.returns-clause-logs
returns-clause-logs g c = λ l w entries rest disk well.
    let t = with_line c.args.line (begun Script w) in
    let runs = says_line g.H.Host.view g.K.Keep.holds g.K.Keep.live l w c.in_ok-ctx.ctx c.begin.new.host _ c.args.line refl (c.in_ok-ctx.ensures.begun l w rest tt) in
    c.end.ensures.logs l w t entries runs well (disk_looks g.K.Keep.means entries _ _ c.begin.ensures.looks disk)
