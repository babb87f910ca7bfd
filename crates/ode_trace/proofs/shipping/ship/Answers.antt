use Rattle.std.proofs.Common.{◌∙◌, List, subst, sym}
use Rattle.std.specs.List.{AllByRecursion}
use Rattle.std.specs.Prelude.{OnOk}
use Rattle.ode_host.specs.Host.{LeavesOnly, Printed}
use Rattle.ode_ship.specs.Frames.{FitsFrame}
use Rattle.ode_transact.specs.Logging.{IsBounded, Kept}
use Rattle.ode_trace.specs.Shipping.{LeavesFrames, shipped}
use Rattle.ode_trace.proofs.shipping.ship.Goals as goal

pub print_frames-requires : goal.print_frames-requires
print_frames-requires g c = record { bounded = subst (λ (l : List Kept). AllByRecursion IsBounded l) (sym (c.as_slice.ensures ∙ c.take_log-kept.ensures.taken)) c.requires.bounded }

pub returns-clause-printed : goal.returns-clause-printed
returns-clause-printed g c =
    subst (λ (l : List Kept). OnOk c.print_frames.result (Printed (shipped l) (g.H.Host.view c.args.host.now) (g.H.Host.view c.print_frames.new.host)))
    (c.as_slice.ensures ∙ c.take_log-kept.ensures.taken) c.print_frames.ensures.printed

pub returns-clause-fits : goal.returns-clause-fits
returns-clause-fits g c = subst (λ (l : List Kept). OnOk c.print_frames.result (AllByRecursion FitsFrame l)) (c.as_slice.ensures ∙ c.take_log-kept.ensures.taken) c.print_frames.ensures.fits

pub returns-clause-any_moment : goal.returns-clause-any_moment
returns-clause-any_moment g c file text stands told =
    subst (λ (l : List Kept). LeavesOnly (g.H.Host.view c.args.host.now) (g.H.Host.view c.print_frames.new.host) (LeavesFrames file text l))
    (c.as_slice.ensures ∙ c.take_log-kept.ensures.taken) (c.print_frames.ensures.any_moment file text stands told)
