use Rattle.std.proofs.Common.{◌∙◌, List, ap, arith, length}
use Rattle.ode_holders.specs.Opens.{open_as, opens_as}
use Rattle.std.proofs.lemmas.Option.{slice_get-get_or}
use Rattle.std.specs.Prelude.{get_or}
use Rattle.ode_holders.specs.declared.opens.Open.{Open as Session}
use Rattle.ode_steps.proofs.EndLaws.{session_at, there_is}
use Rattle.ode_steps.proofs.ending.end_at.Goals as goal

pub returns-clause-serves : goal.returns-clause-serves
returns-clause-serves g c m here =
    let one = get_or c.as_slice.result.now c.args.at c.index-as_slice-at.result in
    let there = there_is c.as_slice.result.now m.sessions c.args.at one (ap opens_as c.as_slice.ensures ∙ here.same) (slice_get-get_or c.as_slice.result.now c.args.at c.index-as_slice-at.result (let within = c.requires.within in let same = ap (λ (os : List Session). length os) c.as_slice.ensures in omega (arith, within, same))) in
    (open_as one, there, c.abort_step.ensures.serves m (open_as one) here (session_at c.args.at 0 m.sessions here.goes_on.rising (open_as one) there))
