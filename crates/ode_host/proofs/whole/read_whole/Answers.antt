use Rattle.std.proofs.lemmas.Result.{err_from_is_err_and}
use Rattle.std.proofs.Common.{◌≡◌, ◌∙◌, ⊎_elim, arith}
use Rattle.ode_host.proofs.Moments.{looks_joined, tells_looks}
use Rattle.ode_host.proofs.Filling.{took_more, is_all, at_end}
use Rattle.ode_host.proofs.whole.read_whole.Goals as goal

pub returns-then-count-eq0-clause-count : goal.returns-then-count-eq0-clause-count
returns-then-count-eq0-clause-count g c file tells =
    let view = g.H.Host.view in
    let so_far = c.loop-filled.invariant in
    let some = is_all c.args.at c.loop-filled.filled c.loop-filled.to file so_far.within (so_far.bytes file tells) in
    let none : c.in_ok-count.count ≡ 0 = c.if-count-eq0.true in
    let end = at_end (view c.loop-filled.host) c.args.at c.loop-filled.filled c.read_more.new.to file c.in_ok-count.count c.in_ok-count.ensures.gives (tells_looks file _ _ so_far.looks tells) (omega (arith, c.read_more.auto.to)) none in
    omega (arith, some, end, c.loop-filled.auto.to)

pub returns-then-count-eq0-clause-fetched : goal.returns-then-count-eq0-clause-fetched
returns-then-count-eq0-clause-fetched g c some =
    let so_far = c.loop-filled.invariant in
    omega (arith, so_far.fetched some, c.in_ok-count.ensures.fetched (so_far.looks.keeps.told some), c.if-count-eq0.true)

pub loop-filled-preserved : goal.loop-filled-preserved
loop-filled-preserved g c =
    let view = g.H.Host.view in
    let so_far = c.loop-filled.invariant in
    record {
      within = omega (arith, c.read_more.auto.to, c.in_ok-count.ensures.bound);
      looks = looks_joined (view c.args.host.now) (view c.loop-filled.host) (view c.read_more.new.host) so_far.looks c.read_more.ensures.looks;
      fetched = λ some. omega (arith, so_far.fetched some, c.in_ok-count.ensures.fetched (so_far.looks.keeps.told some));
      faults = ⊎_elim (λ err. cc (err)) (λ same. same ∙ so_far.faults) c.in_ok-count.ensures.cause.calm;
      bytes = λ file tells.
          took_more c.args.at c.loop-filled.filled c.in_ok-count.count c.loop-filled.to c.read_more.new.to file (so_far.bytes file tells) c.read_more.ensures.before
          (c.in_ok-count.ensures.gives.bytes file (tells_looks file _ _ so_far.looks tells));
    }

pub returns-clause-count : goal.returns-clause-count
returns-clause-count g c file tells =
    let so_far = c.loop-filled.invariant in
    let some = is_all c.args.at c.loop-filled.filled c.loop-filled.to file so_far.within (so_far.bytes file tells) in
    omega (arith, some, c.loop-filled.auto.to)

pub returns-clause-fetched : goal.returns-clause-fetched
returns-clause-fetched g c some = c.loop-filled.invariant.fetched some

pub returns-in_err-count-clause-cut : goal.returns-in_err-count-clause-cut
returns-in_err-count-clause-cut g c =
    let so_far = c.loop-filled.invariant in
    let is = err_from_is_err_and c.from_residual.result c.from_residual.ensures.1 in
    rw is.1
    (λ some.
    let now = c.in_err-count.ensures.not_fetched (so_far.looks.keeps.told some) in
    (omega (arith, so_far.fetched some, now), omega (arith, so_far.fetched some, now, so_far.within, c.loop-filled.auto.to)))
