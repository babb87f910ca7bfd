use Rattle.ode_host.proofs.Calls.{disk_host, host_calls_on, looks_calls, rose_none}
use Rattle.ode_begin.proofs.Claiming.{none_absent}
use Rattle.ode_top.proofs.Questioning.{questions_opened}
use Rattle.ode_begin.proofs.Refusing.{none_refused, refused_leaves, refused_no_read, refused_no_usage}
use Rattle.ode_top.proofs.Refusing.{refused_questions}
use Rattle.ode_begin.proofs.Reopening.{outside_only}
use Rattle.ode_begin.proofs.Running.{breaks_none, held_unbroken, none_broken}
use Rattle.ode_top.proofs.top.ask.Goals as goal

-- a file that was opened, so it breaks no rule
pub returns-in-Ok-clause-world : goal.returns-in-Ok-clause-world
returns-in-Ok-clause-world g c =
    questions_opened c.args.asked _ _ _ _ _ _ c.open_base.ensures.looks c.in-Ok.opened c.in-Ok.ensures.keeper
    c.ask_opened.ensures.answered c.ask_opened.ensures.cut c.ask_opened.ensures.answers c.ask_opened.ensures.spares

pub returns-in-Ok-clause-no_world : goal.returns-in-Ok-clause-no_world
returns-in-Ok-clause-no_world g c =
    none_absent _ _ _ _ (none_broken c.files_of_worlds_are_opened.ensures.unbroken _)
    (λ image tells. breaks_none image c.in-Ok.opened (λ found to. c.in-Ok.ensures.only image found tells to)) _

pub returns-in-Ok-clause-leaves : goal.returns-in-Ok-clause-leaves
returns-in-Ok-clause-leaves g c =
    host_calls_on ⊥ ⊥ _ _ _ _ _ (λ none. none) (λ none. none)
    (disk_host _ ⊥ ⊥ _ _ (λ is. cc (is, c.in-Ok.is)) absurd (λ none. none) (looks_calls _ _ _ c.open_base.ensures.looks c.open_base.ensures.cause)) c.ask_opened.ensures.leaves

-- a file that wasn't opened
pub returns-in-Err-clause-world : goal.returns-in-Err-clause-world
returns-in-Err-clause-world g c =
    refused_questions g.H.Host.view _ _ _ c.in-Err.why c.refuse.result c.refuse.ensures.ends c.refuse.ensures.still
    c.refuse.ensures.prints c.refuse.ensures.cause c.refuse.ensures.printed c.refuse.ensures.cut c.open_base.ensures.looks c.in-Err.ensures.answer c.args.asked _
    (λ image w tells holds.
    outside_only image w c.in-Err.why (held_unbroken c.files_of_worlds_are_opened.ensures.unbroken image w holds c.in-Err.why) (c.in-Err.ensures.answer image tells))

pub returns-in-Err-clause-no_world : goal.returns-in-Err-clause-no_world
returns-in-Err-clause-no_world g c =
    none_refused g.H.Host.view _ _ _ c.in-Err.why c.refuse.result c.refuse.ensures.ends c.refuse.ensures.still
    c.refuse.ensures.prints c.refuse.ensures.cause c.refuse.ensures.printed c.refuse.ensures.cut c.open_base.ensures.looks c.in-Err.ensures.answer _
    (none_broken c.files_of_worlds_are_opened.ensures.unbroken (g.H.Host.view c.args.host.now))

pub returns-in-Err-clause-not_usage : goal.returns-in-Err-clause-not_usage
returns-in-Err-clause-not_usage g c is = refused_no_usage c.in-Err.why c.refuse.result c.refuse.ensures.ends is

pub returns-in-Err-clause-leaves : goal.returns-in-Err-clause-leaves
returns-in-Err-clause-leaves g c =
    refused_leaves g.H.Host.view _ _ _ c.in-Err.why c.refuse.result c.refuse.ensures.ends c.refuse.ensures.still
    c.refuse.ensures.prints c.refuse.ensures.cause c.refuse.ensures.printed c.refuse.ensures.cut
    _ (looks_calls _ _ _ c.open_base.ensures.looks c.open_base.ensures.cause) (λ is. cc (is, c.in-Err.is)) (λ is. cc (is, c.in-Err.is))

pub returns-in-Err-clause-reads : goal.returns-in-Err-clause-reads
returns-in-Err-clause-reads g c = rose_none _ _ (λ is. refused_no_read c.in-Err.why c.refuse.result c.refuse.ensures.ends is)
