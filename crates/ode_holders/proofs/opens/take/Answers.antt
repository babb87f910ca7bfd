use Rattle.std.proofs.Common.{sym, ◌∙◌, ap}
use Rattle.ode_holders.proofs.PlaceLaws.{none_goes, none_is, one_goes, taken_is}
use Rattle.ode_holders.specs.Opens.{opens_as}
use Rattle.ode_holders.proofs.opens.take.Goals as goal

pub returns-in-Some-clause-rest : goal.returns-in-Some-clause-rest
returns-in-Some-clause-rest c rise =
    let place = rw (c.as_slice.ensures, c.in-Some.is) at c.place_of.ensures in
    ap opens_as c.remove.ensures.rest ∙ one_goes c.args.session c.args.sessions.now c.in-Some.at (sym place) rise

pub returns-in-Some-clause-one : goal.returns-in-Some-clause-one
returns-in-Some-clause-one c =
    let place = rw (c.as_slice.ensures, c.in-Some.is) at c.place_of.ensures in
    taken_is c.args.session c.args.sessions.now c.in-Some.at c.remove.result (sym place) c.remove.ensures.item

pub returns-in-None-clause-rest : goal.returns-in-None-clause-rest
returns-in-None-clause-rest c rise =
    let place = rw (c.as_slice.ensures, c.in-None.is) at c.place_of.ensures in
    none_goes c.args.session c.args.sessions.now (sym place)

pub returns-in-None-clause-one : goal.returns-in-None-clause-one
returns-in-None-clause-one c =
    let place = rw (c.as_slice.ensures, c.in-None.is) at c.place_of.ensures in
    none_is c.args.session c.args.sessions.now (sym place)
