use Rattle.std.proofs.Common.{Err, ◌≡◌, ℕ, ◌∙◌, ◌<◌, ◌≤◌, List, [], ◌∷◌, ap, arith, refl, subst, sym}
use Rattle.std.proofs.lemmas.Result.{err_from_is_err_and}
use Rattle.ode_change.proofs.Over.{all-over}
use Rattle.ode_change.proofs.Weighed.{few_changes, heavy_is, new_read, no_fewer, taken_is}
use Rattle.ode_change.proofs.bringing.bring_in.Goals as goal
use Rattle.ode_changed_laws.proofs.Blocks.{all-counted}
use Rattle.ode_declare.proofs.TakeLaws.{classes_are, parts_kept}
use Rattle.ode_declare.proofs.WeighLaws.{counts_as, done_as, leaves_as}
use Rattle.ode_schema.specs.Parts.{AreAligned, AreFit}
use Rattle.ode_good_laws.specs.Well.{IsWell}
use Rattle.ode_host.proofs.Moments.{looks_none}
use Rattle.ode_language.specs.Languages.{ode}
use Rattle.ode_machine.specs.Moments.{LeavesSettling}
use Rattle.ode_machine.specs.Works.{changes_class}
use Rattle.ode_transact.proofs.DamageLaws.{damaged_so}
use Rattle.ode_transact.proofs.EndingLaws.{before_leaves, fails_apart, looks_leave}
use Rattle.ode_transact.proofs.LogLaws.{logs_as}
use Rattle.ode_transact.specs.Logging.{Logs}
use Rattle.ode_transact.specs.Output.{heard_of}
use Rattle.ode_transact.specs.Resting.{HoldsBy, resting_parts}
use Rattle.ode_transact.specs.declared.error.EngineError.TheVariants as engine
use Rattle.ode_types.specs.Checked.{AreChecked}
use Rattle.ode_value.specs.Acts.{with_line}
use Rattle.ode_value.specs.Limits.{weight_limit}
use Rattle.ode_value.specs.Objects.{Histories, Starts}
use Rattle.ode_value.specs.Pasts.{lists}
use Rattle.ode_value.specs.Settling.{Settled, abort, transaction}
use Rattle.ode_value.specs.Transactions.{Script, begun}
use Rattle.ode_value.specs.Weights.{weight}
use Rattle.ode_value.specs.declared.reason.Reason.TheVariants.{Space}

pub weigh-requires-clause-more : goal.weigh-requires-clause-more
weigh-requires-clause-more g c = no_fewer c.args.known.added c.args.behind.added c.args.behind.classes c.args.change.now c.requires.added

pub weigh-requires-clause-read : goal.weigh-requires-clause-read
weigh-requires-clause-read g c =
    new_read c.args.known.added c.args.behind.added c.args.behind.classes c.args.change.now c.requires.added (c.language_reads_well.ensures.changes c.requires.text.0 c.args.change.now c.requires.text.1)

-- ---- before it is weighed nothing is done

pub returns-in_err-weighed-clause-any_moment : goal.returns-in_err-weighed-clause-any_moment
returns-in_err-weighed-clause-any_moment g c = λ w classes said well rest knows is checked behind printed.
    let s = heard_of c.args.output.now.quiet (transaction lists Script (changes_class lists classes c.args.change.now) w) in
    looks_leave _ _ (LeavesSettling (HoldsBy ode g.K.Keep.means) w s.0 said s.1)
    (before_leaves ode g.K.Keep.means rest.entries w s.0 said s.1 _ (g.met.K.Keep.stands c.args.rest.keeper c.args.host.now rest.entries rest.records) (g.met.H.Host.text_stands c.args.host.now) printed rest.world well.ones)
    (looks_none _)

pub returns-in_err-weighed-clause-leaves : goal.returns-in_err-weighed-clause-leaves
returns-in_err-weighed-clause-leaves g c =
    let p = err_from_is_err_and c.from_residual.result c.from_residual.ensures.1 in
    let same : c.from_residual.result ≡ Err engine.Memory = rw (p.1, p.2) refl in
    fails_apart c.from_residual.result engine.Memory (g.H.Host.view c.args.host.now) (g.H.Host.view c.args.host.now) same (λ is. cc (is)) (λ is. cc (is)) (looks_none _) refl

pub returns-in_err-line-clause-any_moment : goal.returns-in_err-line-clause-any_moment
returns-in_err-line-clause-any_moment g c = λ w classes said well rest knows is checked behind printed.
    let s = heard_of c.args.output.now.quiet (transaction lists Script (changes_class lists classes c.args.change.now) w) in
    looks_leave _ _ (LeavesSettling (HoldsBy ode g.K.Keep.means) w s.0 said s.1)
    (before_leaves ode g.K.Keep.means rest.entries w s.0 said s.1 _ (g.met.K.Keep.stands c.args.rest.keeper c.args.host.now rest.entries rest.records) (g.met.H.Host.text_stands c.args.host.now) printed rest.world well.ones)
    (looks_none _)

pub returns-in_err-line-clause-leaves : goal.returns-in_err-line-clause-leaves
returns-in_err-line-clause-leaves g c =
    let p = err_from_is_err_and c.from_residual-in_err-line.result c.from_residual-in_err-line.ensures.1 in
    let same : c.from_residual-in_err-line.result ≡ Err engine.Memory = rw (p.1, p.2) refl in
    fails_apart c.from_residual-in_err-line.result engine.Memory (g.H.Host.view c.args.host.now) (g.H.Host.view c.args.host.now) same (λ is. cc (is)) (λ is. cc (is)) (looks_none _) refl

-- ---- they are too heavy

pub returns-then-bytes-gt-WEIGHT_LIMIT-clause-done : goal.returns-then-bytes-gt-WEIGHT_LIMIT-clause-done
returns-then-bytes-gt-WEIGHT_LIMIT-clause-done g c = λ w classes well rest knows is checked.
    let change = c.args.change.now in
    let weighed = c.in_ok-weighed.weighed in
    let over : weight_limit < weighed.1 = omega (arith, c.if-bytes-gt-WEIGHT_LIMIT.true) in
    let was = rest.bytes ∙ ap weight rest.world.world.stands.bones in
    let law = c.changes_weigh_their_records.ensures ode w change classes well.good is in
    let heavy = heavy_is c.args.known.added c.args.behind.added c.args.behind.classes change c.requires.added ode w classes checked c.args.known.counters c.args.known.trees knows (all-counted ode w.bones well.good.bones) law weighed.0 c.in_ok-weighed.ensures.rows c.args.rest.bytes weighed.1 was c.in_ok-weighed.ensures.bytes over in
    let aborts = c.changes_settle.ensures.heavy w change classes c.as_bytes-name.ensures.name.short heavy
    ∙ ap (λ (line : List ℕ). abort lists Space (with_line line (begun Script w))) (sym c.in_ok-line.ensures) in
    done_as g.H.Host.view g.K.Keep.holds g.K.Keep.live g.K.Keep.means c.turn_away.result ode c.args.output.now.quiet c.args.host.now c.turn_away.new.host _ _ aborts (c.turn_away.ensures.done ode w rest)

pub returns-then-bytes-gt-WEIGHT_LIMIT-clause-counts : goal.returns-then-bytes-gt-WEIGHT_LIMIT-clause-counts
returns-then-bytes-gt-WEIGHT_LIMIT-clause-counts g c = λ w classes well rest knows is checked.
    let change = c.args.change.now in
    let weighed = c.in_ok-weighed.weighed in
    let over : weight_limit < weighed.1 = omega (arith, c.if-bytes-gt-WEIGHT_LIMIT.true) in
    let was = rest.bytes ∙ ap weight rest.world.world.stands.bones in
    let law = c.changes_weigh_their_records.ensures ode w change classes well.good is in
    let heavy = heavy_is c.args.known.added c.args.behind.added c.args.behind.classes change c.requires.added ode w classes checked c.args.known.counters c.args.known.trees knows (all-counted ode w.bones well.good.bones) law weighed.0 c.in_ok-weighed.ensures.rows c.args.rest.bytes weighed.1 was c.in_ok-weighed.ensures.bytes over in
    let aborts = c.changes_settle.ensures.heavy w change classes c.as_bytes-name.ensures.name.short heavy
    ∙ ap (λ (line : List ℕ). abort lists Space (with_line line (begun Script w))) (sym c.in_ok-line.ensures) in
    counts_as c.turn_away.result ode c.args.output.now c.turn_away.new.output _ _ aborts (c.turn_away.ensures.counts ode w rest)

pub returns-then-bytes-gt-WEIGHT_LIMIT-clause-any_moment : goal.returns-then-bytes-gt-WEIGHT_LIMIT-clause-any_moment
returns-then-bytes-gt-WEIGHT_LIMIT-clause-any_moment g c = λ w classes said well rest knows is checked.
    let change = c.args.change.now in
    let weighed = c.in_ok-weighed.weighed in
    let over : weight_limit < weighed.1 = omega (arith, c.if-bytes-gt-WEIGHT_LIMIT.true) in
    let was = rest.bytes ∙ ap weight rest.world.world.stands.bones in
    let law = c.changes_weigh_their_records.ensures ode w change classes well.good is in
    let heavy = heavy_is c.args.known.added c.args.behind.added c.args.behind.classes change c.requires.added ode w classes checked c.args.known.counters c.args.known.trees knows (all-counted ode w.bones well.good.bones) law weighed.0 c.in_ok-weighed.ensures.rows c.args.rest.bytes weighed.1 was c.in_ok-weighed.ensures.bytes over in
    let aborts = c.changes_settle.ensures.heavy w change classes c.as_bytes-name.ensures.name.short heavy
    ∙ ap (λ (line : List ℕ). abort lists Space (with_line line (begun Script w))) (sym c.in_ok-line.ensures) in
    leaves_as g.H.Host.view g.K.Keep.holds g.K.Keep.live g.K.Keep.means ode w c.args.output.now.quiet c.args.host.now c.turn_away.new.host said _ _ aborts (c.turn_away.ensures.any_moment ode w said well rest)

pub returns-then-bytes-gt-WEIGHT_LIMIT-clause-fit : goal.returns-then-bytes-gt-WEIGHT_LIMIT-clause-fit
returns-then-bytes-gt-WEIGHT_LIMIT-clause-fit g c = parts_kept AreFit c.turn_away.result (resting_parts c.args.rest) c.requires.fit c.turn_away.ensures.parts

pub returns-then-bytes-gt-WEIGHT_LIMIT-clause-aligned : goal.returns-then-bytes-gt-WEIGHT_LIMIT-clause-aligned
returns-then-bytes-gt-WEIGHT_LIMIT-clause-aligned g c = parts_kept AreAligned c.turn_away.result (resting_parts c.args.rest) c.requires.aligned c.turn_away.ensures.parts

pub returns-then-bytes-gt-WEIGHT_LIMIT-clause-usable : goal.returns-then-bytes-gt-WEIGHT_LIMIT-clause-usable
returns-then-bytes-gt-WEIGHT_LIMIT-clause-usable g c = c.turn_away.ensures.usable

pub returns-then-bytes-gt-WEIGHT_LIMIT-clause-leaves : goal.returns-then-bytes-gt-WEIGHT_LIMIT-clause-leaves
returns-then-bytes-gt-WEIGHT_LIMIT-clause-leaves g c = c.turn_away.ensures.leaves

pub returns-then-bytes-gt-WEIGHT_LIMIT-clause-undamaged : goal.returns-then-bytes-gt-WEIGHT_LIMIT-clause-undamaged
returns-then-bytes-gt-WEIGHT_LIMIT-clause-undamaged g c = damaged_so c.turn_away.result _ _ (λ damaged w classes well rest knows is checked left behind.
    let change = c.args.change.now in
    let weighed = c.in_ok-weighed.weighed in
    let over : weight_limit < weighed.1 = omega (arith, c.if-bytes-gt-WEIGHT_LIMIT.true) in
    let was = rest.bytes ∙ ap weight rest.world.world.stands.bones in
    let law = c.changes_weigh_their_records.ensures ode w change classes well.good is in
    let heavy = heavy_is c.args.known.added c.args.behind.added c.args.behind.classes change c.requires.added ode w classes checked c.args.known.counters c.args.known.trees knows (all-counted ode w.bones well.good.bones) law weighed.0 c.in_ok-weighed.ensures.rows c.args.rest.bytes weighed.1 was c.in_ok-weighed.ensures.bytes over in
    let aborts = c.changes_settle.ensures.heavy w change classes c.as_bytes-name.ensures.name.short heavy
    ∙ ap (λ (line : List ℕ). abort lists Space (with_line line (begun Script w))) (sym c.in_ok-line.ensures) in
    damaged ode w rest left (subst (λ (s : Settled Histories Starts). IsWell ode s.0) aborts behind)) c.turn_away.ensures.undamaged

pub returns-then-bytes-gt-WEIGHT_LIMIT-clause-logs : goal.returns-then-bytes-gt-WEIGHT_LIMIT-clause-logs
returns-then-bytes-gt-WEIGHT_LIMIT-clause-logs g c = λ w classes entries well rest knows is checked disk behind.
    let change = c.args.change.now in
    let weighed = c.in_ok-weighed.weighed in
    let over : weight_limit < weighed.1 = omega (arith, c.if-bytes-gt-WEIGHT_LIMIT.true) in
    let was = rest.bytes ∙ ap weight rest.world.world.stands.bones in
    let law = c.changes_weigh_their_records.ensures ode w change classes well.good is in
    let heavy = heavy_is c.args.known.added c.args.behind.added c.args.behind.classes change c.requires.added ode w classes checked c.args.known.counters c.args.known.trees knows (all-counted ode w.bones well.good.bones) law weighed.0 c.in_ok-weighed.ensures.rows c.args.rest.bytes weighed.1 was c.in_ok-weighed.ensures.bytes over in
    let aborts = c.changes_settle.ensures.heavy w change classes c.as_bytes-name.ensures.name.short heavy
    ∙ ap (λ (line : List ℕ). abort lists Space (with_line line (begun Script w))) (sym c.in_ok-line.ensures) in
    logs_as c.turn_away.result (λ (s : Settled Histories Starts). Logs g.K.Keep.means ode w entries (s ∷ []) c.args.log.now c.turn_away.new.log (g.H.Host.view c.turn_away.new.host)) _ _ (sym aborts)
    (c.turn_away.ensures.logs ode w entries rest disk (subst (λ (s : Settled Histories Starts). IsWell ode s.0) aborts behind))

pub returns-then-bytes-gt-WEIGHT_LIMIT-clause-grown : goal.returns-then-bytes-gt-WEIGHT_LIMIT-clause-grown
returns-then-bytes-gt-WEIGHT_LIMIT-clause-grown g c = c.turn_away.ensures.grown

-- ---- there is room for them

pub returns-clause-done : goal.returns-clause-done
returns-clause-done g c = λ w classes well rest knows is checked.
    let change = c.args.change.now in
    let weighed = c.in_ok-weighed.weighed in
    let below : weighed.1 ≤ weight_limit = omega (arith, c.if-bytes-gt-WEIGHT_LIMIT.false) in
    let was = rest.bytes ∙ ap weight rest.world.world.stands.bones in
    let law = c.changes_weigh_their_records.ensures ode w change classes well.good is in
    let all = subst AreChecked checked c.as_slice-behind.ensures.checked in
    let few = c.changed_classes_have_few_parts.ensures.parts w.bones change classes is.behind all rest.world.few in
    let taken = taken_is c.args.known.added c.args.behind.added c.args.behind.classes change c.requires.added ode w classes checked c.args.known.counters c.args.known.trees knows (all-counted ode w.bones well.good.bones) law weighed.0 c.in_ok-weighed.ensures.rows c.args.rest.bytes weighed.1 was c.in_ok-weighed.ensures.bytes is few below in
    c.take_in.ensures.done ode w classes rest taken

pub returns-clause-counts : goal.returns-clause-counts
returns-clause-counts g c = λ w classes well rest knows is checked.
    let change = c.args.change.now in
    let weighed = c.in_ok-weighed.weighed in
    let below : weighed.1 ≤ weight_limit = omega (arith, c.if-bytes-gt-WEIGHT_LIMIT.false) in
    let was = rest.bytes ∙ ap weight rest.world.world.stands.bones in
    let law = c.changes_weigh_their_records.ensures ode w change classes well.good is in
    let all = subst AreChecked checked c.as_slice-behind.ensures.checked in
    let few = c.changed_classes_have_few_parts.ensures.parts w.bones change classes is.behind all rest.world.few in
    let taken = taken_is c.args.known.added c.args.behind.added c.args.behind.classes change c.requires.added ode w classes checked c.args.known.counters c.args.known.trees knows (all-counted ode w.bones well.good.bones) law weighed.0 c.in_ok-weighed.ensures.rows c.args.rest.bytes weighed.1 was c.in_ok-weighed.ensures.bytes is few below in
    c.take_in.ensures.counts ode w classes rest taken

pub returns-clause-any_moment : goal.returns-clause-any_moment
returns-clause-any_moment g c = λ w classes said well rest knows is checked.
    let change = c.args.change.now in
    let weighed = c.in_ok-weighed.weighed in
    let below : weighed.1 ≤ weight_limit = omega (arith, c.if-bytes-gt-WEIGHT_LIMIT.false) in
    let was = rest.bytes ∙ ap weight rest.world.world.stands.bones in
    let law = c.changes_weigh_their_records.ensures ode w change classes well.good is in
    let all = subst AreChecked checked c.as_slice-behind.ensures.checked in
    let few = c.changed_classes_have_few_parts.ensures.parts w.bones change classes is.behind all rest.world.few in
    let taken = taken_is c.args.known.added c.args.behind.added c.args.behind.classes change c.requires.added ode w classes checked c.args.known.counters c.args.known.trees knows (all-counted ode w.bones well.good.bones) law weighed.0 c.in_ok-weighed.ensures.rows c.args.rest.bytes weighed.1 was c.in_ok-weighed.ensures.bytes is few below in
    c.take_in.ensures.any_moment ode w classes said well rest taken

pub returns-clause-logs : goal.returns-clause-logs
returns-clause-logs g c = λ w classes entries well rest knows is checked disk.
    let change = c.args.change.now in
    let weighed = c.in_ok-weighed.weighed in
    let below : weighed.1 ≤ weight_limit = omega (arith, c.if-bytes-gt-WEIGHT_LIMIT.false) in
    let was = rest.bytes ∙ ap weight rest.world.world.stands.bones in
    let law = c.changes_weigh_their_records.ensures ode w change classes well.good is in
    let all = subst AreChecked checked c.as_slice-behind.ensures.checked in
    let few = c.changed_classes_have_few_parts.ensures.parts w.bones change classes is.behind all rest.world.few in
    let taken = taken_is c.args.known.added c.args.behind.added c.args.behind.classes change c.requires.added ode w classes checked c.args.known.counters c.args.known.trees knows (all-counted ode w.bones well.good.bones) law weighed.0 c.in_ok-weighed.ensures.rows c.args.rest.bytes weighed.1 was c.in_ok-weighed.ensures.bytes is few below in
    c.take_in.ensures.logs ode w classes entries rest taken disk

pub returns-clause-grown : goal.returns-clause-grown
returns-clause-grown g c = c.take_in.ensures.grown

pub returns-clause-undamaged : goal.returns-clause-undamaged
returns-clause-undamaged g c = damaged_so c.take_in.result _ _ (λ damaged w classes well rest knows is checked left behind.
    let change = c.args.change.now in
    let weighed = c.in_ok-weighed.weighed in
    let below : weighed.1 ≤ weight_limit = omega (arith, c.if-bytes-gt-WEIGHT_LIMIT.false) in
    let was = rest.bytes ∙ ap weight rest.world.world.stands.bones in
    let law = c.changes_weigh_their_records.ensures ode w change classes well.good is in
    let all = subst AreChecked checked c.as_slice-behind.ensures.checked in
    let few = c.changed_classes_have_few_parts.ensures.parts w.bones change classes is.behind all rest.world.few in
    let taken = taken_is c.args.known.added c.args.behind.added c.args.behind.classes change c.requires.added ode w classes checked c.args.known.counters c.args.known.trees knows (all-counted ode w.bones well.good.bones) law weighed.0 c.in_ok-weighed.ensures.rows c.args.rest.bytes weighed.1 was c.in_ok-weighed.ensures.bytes is few below in
    let old = classes_are g.H.Host.view g.K.Keep.holds g.K.Keep.live ode w c.args.rest c.args.host.now rest in
    let before = subst AreChecked old c.as_slice-before.ensures.checked in
    let fields = c.changed_classes_have_few_parts.ensures.fields ode w.bones change classes is before all in
    let over = all-over ode w.bones change classes is (resting_parts c.args.rest) c.requires.fit c.requires.aligned c.as_slice-before.ensures.checked old c.args.behind.classes checked in
    damaged ode w classes rest taken left (few_changes c.args.behind.classes _ change weighed.0 taken.batch fields) over behind) c.take_in.ensures.undamaged
