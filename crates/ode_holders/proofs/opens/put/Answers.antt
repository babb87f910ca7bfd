use Rattle.std.proofs.Common.{◌≤◌, length, ℕ, ap, subst, sym, ◌∙◌}
use Rattle.std.specs.List.{insert}
use Rattle.ode_holders.proofs.PlaceLaws.{on_ok, place_within, put_in}
use Rattle.ode_holders.specs.Opens.{opens_as}
use Rattle.ode_holders.proofs.opens.put.Goals as goal

pub insert-requires : goal.insert-requires
insert-requires c =
    let place = rw c.as_slice.ensures at c.place_above-at.ensures in
    subst (λ (at : ℕ). at ≤ length c.args.sessions.now) (sym place) (place_within _ c.args.sessions.now)

pub returns : goal.returns
returns c =
    let place = rw c.as_slice.ensures at c.place_above-at.ensures in
    on_ok c.insert.result _ _
    (λ new. ap opens_as new ∙ ap (λ at. opens_as (insert c.args.sessions.now at c.args.one)) place ∙ put_in c.args.one c.args.sessions.now)
    c.insert.ensures.ok
