use Rattle.std.proofs.Common.{rules, Err, ◌≡◌, ◌∙◌, ◌<◌, ◌≤◌, ℕ, List, [], ◌∷◌, ap, arith, length, refl, subst, sym}
use Rattle.std.proofs.lemmas.Result.{err_from_is_err_and}
use Rattle.ode_compile.proofs.TriggerLaws.{counts_level}
use Rattle.ode_declare.proofs.TakeLaws.{parts_kept}
use Rattle.ode_declare.proofs.WeighLaws.{counts_as, done_as, heavy_is, leaves_as, taken_is}
use Rattle.ode_declare.proofs.weighing.bring_in.Goals as goal
use Rattle.ode_schema.specs.Parts.{AreAligned, AreFit}
use Rattle.ode_good_laws.specs.Well.{IsWell}
use Rattle.ode_host.proofs.Moments.{looks_none}
use Rattle.ode_machine.specs.Moments.{LeavesSettling}
use Rattle.ode_machine.specs.Works.{declares}
use Rattle.ode_transact.proofs.DamageLaws.{damaged_so, memory_undamaged}
use Rattle.ode_transact.proofs.EndingLaws.{before_leaves, fails_apart, looks_leave}
use Rattle.ode_transact.proofs.LogLaws.{logs_as}
use Rattle.ode_transact.specs.Logging.{Logs}
use Rattle.ode_transact.specs.Output.{heard_of}
use Rattle.ode_transact.specs.Resting.{HoldsBy, resting_parts}
use Rattle.ode_transact.specs.declared.error.EngineError.TheVariants as engine
use Rattle.ode_value.specs.Acts.{with_line}
use Rattle.ode_value.specs.Limits.{name_limit, weight_limit}
use Rattle.ode_value.specs.Objects.{Histories, Starts}
use Rattle.ode_value.specs.Pasts.{lists}
use Rattle.ode_value.specs.Settling.{Settled, abort, transaction}
use Rattle.ode_value.specs.Texts.{class_line}
use Rattle.ode_value.specs.Transactions.{Script, begun}
use Rattle.ode_value.specs.Weights.{weight}
use Rattle.ode_value.specs.declared.class.Class.{Class}
use Rattle.ode_value.specs.declared.reason.Reason.TheVariants.{Space}

pub weigh-requires-clause-level : goal.weigh-requires-clause-level
weigh-requires-clause-level g c =
    let m = c.args.made in
    counts_level m.class.triggers m.tables m.counts m.alphabets c.requires.compiled c.requires.trees

pub returns-in_err-weighed-clause-any_moment : goal.returns-in_err-weighed-clause-any_moment
returns-in_err-weighed-clause-any_moment g c = λ l w d said well rest made behind printed.
    let s = heard_of c.args.output.now.quiet (transaction lists Script (declares d) w) in
    looks_leave _ _ (LeavesSettling (HoldsBy l g.K.Keep.means) w s.0 said s.1)
    (before_leaves l g.K.Keep.means rest.entries w s.0 said s.1 _ (g.met.K.Keep.stands c.args.rest.keeper c.args.host.now rest.entries rest.records) (g.met.H.Host.text_stands c.args.host.now) printed rest.world well.ones)
    (looks_none _)

pub returns-in_err-weighed-clause-leaves : goal.returns-in_err-weighed-clause-leaves
returns-in_err-weighed-clause-leaves g c =
    let p = err_from_is_err_and c.from_residual.result c.from_residual.ensures.1 in
    let same : c.from_residual.result ≡ Err engine.Memory = rw (p.1, p.2) refl in
    fails_apart c.from_residual.result engine.Memory (g.H.Host.view c.args.host.now) (g.H.Host.view c.args.host.now) same (λ is. cc (is)) (λ is. cc (is)) (looks_none _) refl

pub returns-in_err-line-clause-any_moment : goal.returns-in_err-line-clause-any_moment
returns-in_err-line-clause-any_moment g c = λ l w d said well rest made behind printed.
    let s = heard_of c.args.output.now.quiet (transaction lists Script (declares d) w) in
    looks_leave _ _ (LeavesSettling (HoldsBy l g.K.Keep.means) w s.0 said s.1)
    (before_leaves l g.K.Keep.means rest.entries w s.0 said s.1 _ (g.met.K.Keep.stands c.args.rest.keeper c.args.host.now rest.entries rest.records) (g.met.H.Host.text_stands c.args.host.now) printed rest.world well.ones)
    (looks_none _)

pub returns-in_err-line-clause-leaves : goal.returns-in_err-line-clause-leaves
returns-in_err-line-clause-leaves g c =
    let p = err_from_is_err_and c.from_residual-in_err-line.result c.from_residual-in_err-line.ensures.1 in
    let same : c.from_residual-in_err-line.result ≡ Err engine.Memory = rw (p.1, p.2) refl in
    fails_apart c.from_residual-in_err-line.result engine.Memory (g.H.Host.view c.args.host.now) (g.H.Host.view c.args.host.now) same (λ is. cc (is)) (λ is. cc (is)) (looks_none _) refl

pub returns-in_ok-line-clause-done : goal.returns-in_ok-line-clause-done
returns-in_ok-line-clause-done g c = λ l w d well rest made.
    let weighed = c.in_ok-weighed.weighed in
    let over : weight_limit < weighed.1 = omega (arith, c.if-bytes-gt-WEIGHT_LIMIT.true) in
    let was = rest.bytes ∙ ap weight rest.world.world.stands.bones in
    let heavy = heavy_is l w well.good d c.args.made made c.requires.compiled c.requires.trees weighed.0 c.in_ok-weighed.ensures.rows rest.world.world.stored c.args.rest.bytes weighed.1 was c.in_ok-weighed.ensures.bytes over in
    let short : length d.class.name ≤ name_limit = subst (λ (k : Class). length k.name ≤ name_limit) (sym made.class) (search rules) in
    let aborts = c.declarations_settle.ensures.heavy l w d well.good short heavy ∙ ap (λ (k : Class). abort lists Space (with_line (class_line k.name) (begun Script w))) made.class
    ∙ ap (λ (line : List ℕ). abort lists Space (with_line line (begun Script w))) (sym c.in_ok-line.ensures) in
    done_as g.H.Host.view g.K.Keep.holds g.K.Keep.live g.K.Keep.means c.turn_away.result l c.args.output.now.quiet c.args.host.now c.turn_away.new.host _ _ aborts (c.turn_away.ensures.done l w rest)

pub returns-in_ok-line-clause-counts : goal.returns-in_ok-line-clause-counts
returns-in_ok-line-clause-counts g c = λ l w d well rest made.
    let weighed = c.in_ok-weighed.weighed in
    let over : weight_limit < weighed.1 = omega (arith, c.if-bytes-gt-WEIGHT_LIMIT.true) in
    let was = rest.bytes ∙ ap weight rest.world.world.stands.bones in
    let heavy = heavy_is l w well.good d c.args.made made c.requires.compiled c.requires.trees weighed.0 c.in_ok-weighed.ensures.rows rest.world.world.stored c.args.rest.bytes weighed.1 was c.in_ok-weighed.ensures.bytes over in
    let short : length d.class.name ≤ name_limit = subst (λ (k : Class). length k.name ≤ name_limit) (sym made.class) (search rules) in
    let aborts = c.declarations_settle.ensures.heavy l w d well.good short heavy ∙ ap (λ (k : Class). abort lists Space (with_line (class_line k.name) (begun Script w))) made.class
    ∙ ap (λ (line : List ℕ). abort lists Space (with_line line (begun Script w))) (sym c.in_ok-line.ensures) in
    counts_as c.turn_away.result l c.args.output.now c.turn_away.new.output _ _ aborts (c.turn_away.ensures.counts l w rest)

pub returns-in_ok-line-clause-any_moment : goal.returns-in_ok-line-clause-any_moment
returns-in_ok-line-clause-any_moment g c = λ l w d said well rest made.
    let weighed = c.in_ok-weighed.weighed in
    let over : weight_limit < weighed.1 = omega (arith, c.if-bytes-gt-WEIGHT_LIMIT.true) in
    let was = rest.bytes ∙ ap weight rest.world.world.stands.bones in
    let heavy = heavy_is l w well.good d c.args.made made c.requires.compiled c.requires.trees weighed.0 c.in_ok-weighed.ensures.rows rest.world.world.stored c.args.rest.bytes weighed.1 was c.in_ok-weighed.ensures.bytes over in
    let short : length d.class.name ≤ name_limit = subst (λ (k : Class). length k.name ≤ name_limit) (sym made.class) (search rules) in
    let aborts = c.declarations_settle.ensures.heavy l w d well.good short heavy ∙ ap (λ (k : Class). abort lists Space (with_line (class_line k.name) (begun Script w))) made.class
    ∙ ap (λ (line : List ℕ). abort lists Space (with_line line (begun Script w))) (sym c.in_ok-line.ensures) in
    leaves_as g.H.Host.view g.K.Keep.holds g.K.Keep.live g.K.Keep.means l w c.args.output.now.quiet c.args.host.now c.turn_away.new.host said _ _ aborts (c.turn_away.ensures.any_moment l w said well rest)

pub returns-in_ok-line-clause-fit : goal.returns-in_ok-line-clause-fit
returns-in_ok-line-clause-fit g c = parts_kept AreFit c.turn_away.result (resting_parts c.args.rest) c.requires.fit c.turn_away.ensures.parts

pub returns-in_ok-line-clause-aligned : goal.returns-in_ok-line-clause-aligned
returns-in_ok-line-clause-aligned g c = parts_kept AreAligned c.turn_away.result (resting_parts c.args.rest) c.requires.aligned c.turn_away.ensures.parts

pub returns-in_ok-line-clause-usable : goal.returns-in_ok-line-clause-usable
returns-in_ok-line-clause-usable g c = c.turn_away.ensures.usable

pub returns-in_ok-line-clause-leaves : goal.returns-in_ok-line-clause-leaves
returns-in_ok-line-clause-leaves g c = c.turn_away.ensures.leaves

pub returns-else-bytes-gt-WEIGHT_LIMIT-clause-done : goal.returns-else-bytes-gt-WEIGHT_LIMIT-clause-done
returns-else-bytes-gt-WEIGHT_LIMIT-clause-done g c = λ l w d well rest made.
    let weighed = c.in_ok-weighed.weighed in
    let below : weighed.1 ≤ weight_limit = omega (arith, c.if-bytes-gt-WEIGHT_LIMIT.false) in
    let was = rest.bytes ∙ ap weight rest.world.world.stands.bones in
    c.take_in.ensures.done l w d rest
    (taken_is l w well.good d c.args.made made c.requires.compiled c.requires.trees weighed.0 c.in_ok-weighed.ensures.rows rest.world.world.stored c.args.rest.bytes weighed.1 was c.in_ok-weighed.ensures.bytes below)

pub returns-else-bytes-gt-WEIGHT_LIMIT-clause-counts : goal.returns-else-bytes-gt-WEIGHT_LIMIT-clause-counts
returns-else-bytes-gt-WEIGHT_LIMIT-clause-counts g c = λ l w d well rest made.
    let weighed = c.in_ok-weighed.weighed in
    let below : weighed.1 ≤ weight_limit = omega (arith, c.if-bytes-gt-WEIGHT_LIMIT.false) in
    let was = rest.bytes ∙ ap weight rest.world.world.stands.bones in
    c.take_in.ensures.counts l w d rest
    (taken_is l w well.good d c.args.made made c.requires.compiled c.requires.trees weighed.0 c.in_ok-weighed.ensures.rows rest.world.world.stored c.args.rest.bytes weighed.1 was c.in_ok-weighed.ensures.bytes below)

pub returns-else-bytes-gt-WEIGHT_LIMIT-clause-any_moment : goal.returns-else-bytes-gt-WEIGHT_LIMIT-clause-any_moment
returns-else-bytes-gt-WEIGHT_LIMIT-clause-any_moment g c = λ l w d said well rest made.
    let weighed = c.in_ok-weighed.weighed in
    let below : weighed.1 ≤ weight_limit = omega (arith, c.if-bytes-gt-WEIGHT_LIMIT.false) in
    let was = rest.bytes ∙ ap weight rest.world.world.stands.bones in
    c.take_in.ensures.any_moment l w d said well rest
    (taken_is l w well.good d c.args.made made c.requires.compiled c.requires.trees weighed.0 c.in_ok-weighed.ensures.rows rest.world.world.stored c.args.rest.bytes weighed.1 was c.in_ok-weighed.ensures.bytes below)

pub returns-else-bytes-gt-WEIGHT_LIMIT-clause-leaves : goal.returns-else-bytes-gt-WEIGHT_LIMIT-clause-leaves
returns-else-bytes-gt-WEIGHT_LIMIT-clause-leaves g c = c.take_in.ensures.leaves

pub returns-in_err-weighed-clause-undamaged : goal.returns-in_err-weighed-clause-undamaged
returns-in_err-weighed-clause-undamaged g c =
    let p = err_from_is_err_and c.from_residual.result c.from_residual.ensures.1 in
    let same : c.from_residual.result ≡ Err engine.Memory = rw (p.1, p.2) refl in
    memory_undamaged c.from_residual.result _ same

pub returns-in_err-line-clause-undamaged : goal.returns-in_err-line-clause-undamaged
returns-in_err-line-clause-undamaged g c =
    let p = err_from_is_err_and c.from_residual-in_err-line.result c.from_residual-in_err-line.ensures.1 in
    let same : c.from_residual-in_err-line.result ≡ Err engine.Memory = rw (p.1, p.2) refl in
    memory_undamaged c.from_residual-in_err-line.result _ same

pub returns-in_ok-line-clause-undamaged : goal.returns-in_ok-line-clause-undamaged
returns-in_ok-line-clause-undamaged g c = damaged_so c.turn_away.result _ _ (λ damaged l w d well rest made left behind.
    let weighed = c.in_ok-weighed.weighed in
    let over : weight_limit < weighed.1 = omega (arith, c.if-bytes-gt-WEIGHT_LIMIT.true) in
    let was = rest.bytes ∙ ap weight rest.world.world.stands.bones in
    let heavy = heavy_is l w well.good d c.args.made made c.requires.compiled c.requires.trees weighed.0 c.in_ok-weighed.ensures.rows rest.world.world.stored c.args.rest.bytes weighed.1 was c.in_ok-weighed.ensures.bytes over in
    let short : length d.class.name ≤ name_limit = subst (λ (k : Class). length k.name ≤ name_limit) (sym made.class) (search rules) in
    let aborts = c.declarations_settle.ensures.heavy l w d well.good short heavy ∙ ap (λ (k : Class). abort lists Space (with_line (class_line k.name) (begun Script w))) made.class
    ∙ ap (λ (line : List ℕ). abort lists Space (with_line line (begun Script w))) (sym c.in_ok-line.ensures) in
    damaged l w rest left (subst (λ (s : Settled Histories Starts). IsWell l s.0) aborts behind)) c.turn_away.ensures.undamaged

pub returns-else-bytes-gt-WEIGHT_LIMIT-clause-undamaged : goal.returns-else-bytes-gt-WEIGHT_LIMIT-clause-undamaged
returns-else-bytes-gt-WEIGHT_LIMIT-clause-undamaged g c = damaged_so c.take_in.result _ _ (λ damaged l w d well rest made left behind.
    let weighed = c.in_ok-weighed.weighed in
    let below : weighed.1 ≤ weight_limit = omega (arith, c.if-bytes-gt-WEIGHT_LIMIT.false) in
    let was = rest.bytes ∙ ap weight rest.world.world.stands.bones in
    let taken = taken_is l w well.good d c.args.made made c.requires.compiled c.requires.trees weighed.0 c.in_ok-weighed.ensures.rows rest.world.world.stored c.args.rest.bytes weighed.1 was c.in_ok-weighed.ensures.bytes below in
    damaged l w d rest taken left c.in_ok-weighed.ensures.few behind) c.take_in.ensures.undamaged

pub returns-in_ok-line-clause-logs : goal.returns-in_ok-line-clause-logs
returns-in_ok-line-clause-logs g c = λ l w d entries well rest made disk behind.
    let weighed = c.in_ok-weighed.weighed in
    let over : weight_limit < weighed.1 = omega (arith, c.if-bytes-gt-WEIGHT_LIMIT.true) in
    let was = rest.bytes ∙ ap weight rest.world.world.stands.bones in
    let heavy = heavy_is l w well.good d c.args.made made c.requires.compiled c.requires.trees weighed.0 c.in_ok-weighed.ensures.rows rest.world.world.stored c.args.rest.bytes weighed.1 was c.in_ok-weighed.ensures.bytes over in
    let short : length d.class.name ≤ name_limit = subst (λ (k : Class). length k.name ≤ name_limit) (sym made.class) (search rules) in
    let aborts = c.declarations_settle.ensures.heavy l w d well.good short heavy ∙ ap (λ (k : Class). abort lists Space (with_line (class_line k.name) (begun Script w))) made.class
    ∙ ap (λ (line : List ℕ). abort lists Space (with_line line (begun Script w))) (sym c.in_ok-line.ensures) in
    logs_as c.turn_away.result (λ (s : Settled Histories Starts). Logs g.K.Keep.means l w entries (s ∷ []) c.args.log.now c.turn_away.new.log (g.H.Host.view c.turn_away.new.host)) _ _ (sym aborts)
    (c.turn_away.ensures.logs l w entries rest disk (subst (λ (s : Settled Histories Starts). IsWell l s.0) aborts behind))

pub returns-in_ok-line-clause-grown : goal.returns-in_ok-line-clause-grown
returns-in_ok-line-clause-grown g c = c.turn_away.ensures.grown

pub returns-else-bytes-gt-WEIGHT_LIMIT-clause-logs : goal.returns-else-bytes-gt-WEIGHT_LIMIT-clause-logs
returns-else-bytes-gt-WEIGHT_LIMIT-clause-logs g c = λ l w d entries well rest made disk.
    let weighed = c.in_ok-weighed.weighed in
    let below : weighed.1 ≤ weight_limit = omega (arith, c.if-bytes-gt-WEIGHT_LIMIT.false) in
    let was = rest.bytes ∙ ap weight rest.world.world.stands.bones in
    c.take_in.ensures.logs l w d entries rest
    (taken_is l w well.good d c.args.made made c.requires.compiled c.requires.trees weighed.0 c.in_ok-weighed.ensures.rows rest.world.world.stored c.args.rest.bytes weighed.1 was c.in_ok-weighed.ensures.bytes below) disk

pub returns-else-bytes-gt-WEIGHT_LIMIT-clause-grown : goal.returns-else-bytes-gt-WEIGHT_LIMIT-clause-grown
returns-else-bytes-gt-WEIGHT_LIMIT-clause-grown g c = c.take_in.ensures.grown
