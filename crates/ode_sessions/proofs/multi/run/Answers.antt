use Rattle.ode_host.proofs.Calls.{disk_host, host_calls_on, rose_none}
use Rattle.ode_begin.proofs.Claiming.{none_absent, none_where, world_opened}
use Rattle.ode_begin.proofs.Refusing.{none_refused, refused_leaves, refused_no_read, refused_no_usage, world_refused}
use Rattle.ode_begin.proofs.Reopening.{left_held, other_image, stops_held}
use Rattle.ode_begin.proofs.Running.{none_broken}
use Rattle.ode_sessions.proofs.multi.run.Goals as goal

-- a file that was opened, so it breaks no rule
pub returns-in-Ok-clause-world : goal.returns-in-Ok-clause-world
returns-in-Ok-clause-world g c =
    world_opened _ _ _ _ _ c.open_to_run.ensures.leaves (stops_held _ _ _ c.open_to_run.ensures.stops) c.in-Ok.opened c.in-Ok.ensures.opened (λ is. cc (is, c.in-Ok.is))
    _ _ _ (g.met.H.Host.may_stay c.run_opened.new.host) c.run_opened.ensures.leaves.keeps
    c.run_opened.ensures.ran c.run_opened.ensures.any_moment c.run_opened.ensures.answers

pub returns-in-Ok-clause-no_world : goal.returns-in-Ok-clause-no_world
returns-in-Ok-clause-no_world g c =
    none_absent _ _ _ _ (none_broken c.files_of_worlds_are_opened.ensures.unbroken _) c.in-Ok.ensures.rules _

pub returns-in-Ok-clause-leaves : goal.returns-in-Ok-clause-leaves
returns-in-Ok-clause-leaves g c =
    host_calls_on ⊥ ⊥ _ _ _ _ _ (λ none. none) (λ none. none)
    (disk_host _ ⊥ ⊥ _ _ (λ is. cc (is, c.in-Ok.is)) absurd (λ none. none) c.open_to_run.ensures.leaves) c.run_opened.ensures.leaves

-- a file that wasn't opened
pub returns-in-Err-clause-world : goal.returns-in-Err-clause-world
returns-in-Err-clause-world g c =
    world_refused g.H.Host.view _ _ _ c.in-Err.why c.refuse.result c.refuse.ensures.ends c.refuse.ensures.still _ _ c.open_to_run.ensures.leaves _
    (stops_held _ _ _ c.open_to_run.ensures.stops) (λ is. cc (is, c.in-Err.is)) c.in-Err.ensures.outside (left_held _ _ c.open_to_run.ensures.left)

pub returns-in-Err-clause-no_world : goal.returns-in-Err-clause-no_world
returns-in-Err-clause-no_world g c =
    let held = none_broken c.files_of_worlds_are_opened.ensures.unbroken (g.H.Host.view c.args.host.now) in
    none_where _ _ _ _ _ held
    (λ image tells breaks.
    none_refused g.H.Host.view _ _ _ c.in-Err.why c.refuse.result c.refuse.ensures.ends c.refuse.ensures.still
    c.refuse.ensures.prints c.refuse.ensures.cause c.refuse.ensures.printed c.refuse.ensures.cut
    (c.open_to_run.ensures.looks image tells breaks) (λ other told. c.in-Err.ensures.answer other told (other_image _ image other tells told breaks)) _ held)

pub returns-in-Err-clause-not_usage : goal.returns-in-Err-clause-not_usage
returns-in-Err-clause-not_usage g c is = refused_no_usage c.in-Err.why c.refuse.result c.refuse.ensures.ends is

pub returns-in-Err-clause-leaves : goal.returns-in-Err-clause-leaves
returns-in-Err-clause-leaves g c =
    refused_leaves g.H.Host.view _ _ _ c.in-Err.why c.refuse.result c.refuse.ensures.ends c.refuse.ensures.still
    c.refuse.ensures.prints c.refuse.ensures.cause c.refuse.ensures.printed c.refuse.ensures.cut
    _ c.open_to_run.ensures.leaves (λ is. cc (is, c.in-Err.is)) (λ is. cc (is, c.in-Err.is))

pub returns-in-Err-clause-reads : goal.returns-in-Err-clause-reads
returns-in-Err-clause-reads g c = rose_none _ _ (λ is. refused_no_read c.in-Err.why c.refuse.result c.refuse.ensures.ends is)
