use Rattle.std.proofs.Common.{false, subst, ⊎_elim}
use Rattle.ode_language.specs.Languages.{ode}
use Rattle.ode_host.proofs.Calls.{host_calls_on, rose_as}
use Rattle.ode_begin.proofs.Calling.{leaves_after, run_of, never_usage}
use Rattle.ode_script.specs.Cutting.{ending_of, pieces}
use Rattle.ode_sessions.specs.Running.{items_from}
use Rattle.ode_ends.specs.Statuses.{IsEnding}
use Rattle.ode_begin.proofs.Running.{begins, well}
use Rattle.ode_sessions.proofs.multi.run_opened.Goals as goal

-- a record was damaged, which none of an opened file is that holds a world
pub returns-in-Err-clause-ran : goal.returns-in-Err-clause-ran
returns-in-Err-clause-ran g c w bytes text left opens told ending =
    absurd (⊎_elim (λ none. subst IsEnding none ending) (λ said. ⊎_elim (λ same. subst IsEnding same ending) (λ cut. subst IsEnding cut ending) said) c.damaged.ensures.status)

pub returns-in-Err-clause-any_moment : goal.returns-in-Err-clause-any_moment
returns-in-Err-clause-any_moment g c w bytes text left opens told =
    let rests = c.opened_files_are_at_rest.ensures opens.image w opens.entries false opens.holds opens.means opens.kept opens.opened c.requires.live c.requires.fit in
    let start = begins g.H.Host.view c.args.host.now w c.args.opened opens text (c.runs_stay_good.ensures.sound ode c.language_has_sound_rules.ensures w) rests told in
    absurd (c.in-Err.ensures.answers w start.well start.rests)

pub returns-in-Err-clause-answers : goal.returns-in-Err-clause-answers
returns-in-Err-clause-answers g c w opens =
    let rests = c.opened_files_are_at_rest.ensures opens.image w opens.entries false opens.holds opens.means opens.kept opens.opened c.requires.live c.requires.fit in
    absurd (c.in-Err.ensures.answers w (well w _ _ opens (c.runs_stay_good.ensures.sound ode c.language_has_sound_rules.ensures w)) rests)

pub returns-in-Err-clause-leaves : goal.returns-in-Err-clause-leaves
returns-in-Err-clause-leaves g c =
    host_calls_on _ _ _ _ _ _ _ (λ is. cc (is)) (λ is. cc (is)) c.in-Err.ensures.leaves c.damaged.ensures.leaves

pub returns-in-Err-clause-reads : goal.returns-in-Err-clause-reads
returns-in-Err-clause-reads g c =
    rose_as _ _ _ _ (λ is. cc (is)) (λ is. ⊎_elim (λ none. cc (none, is)) (λ said. ⊎_elim (λ same. cc (same, is)) (λ cut. cc (cut, is)) said) c.damaged.ensures.status) c.in-Err.ensures.reads

pub returns-in-Err-clause-not_usage : goal.returns-in-Err-clause-not_usage
returns-in-Err-clause-not_usage g c is = ⊎_elim (λ none. cc (none, is)) (λ said. ⊎_elim (λ same. cc (same, is)) (λ cut. cc (cut, is)) said) c.damaged.ensures.status

-- it ran
pub returns-in-Ok-clause-ran : goal.returns-in-Ok-clause-ran
returns-in-Ok-clause-ran g c w bytes text left opens told ending =
    let rests = c.opened_files_are_at_rest.ensures opens.image w opens.entries false opens.holds opens.means opens.kept opens.opened c.requires.live c.requires.fit in
    let start = begins g.H.Host.view c.args.host.now w c.args.opened opens text (c.runs_stay_good.ensures.sound ode c.language_has_sound_rules.ensures w) rests told in
    run_of (items_from w bytes) (ending_of (pieces bytes)) w text (g.S.Source.left c.run_sessions.new.source) (g.H.Host.view c.run_sessions.new.host) c.in-Ok.status (c.in-Ok.ensures.ran w bytes text left start ending)

pub returns-in-Ok-clause-any_moment : goal.returns-in-Ok-clause-any_moment
returns-in-Ok-clause-any_moment g c w bytes text left opens told =
    let rests = c.opened_files_are_at_rest.ensures opens.image w opens.entries false opens.holds opens.means opens.kept opens.opened c.requires.live c.requires.fit in
    let start = begins g.H.Host.view c.args.host.now w c.args.opened opens text (c.runs_stay_good.ensures.sound ode c.language_has_sound_rules.ensures w) rests told in
    leaves_after (items_from w bytes) w text _ _ (c.in-Ok.ensures.any_moment w bytes text left start)

pub returns-in-Ok-clause-answers : goal.returns-in-Ok-clause-answers
returns-in-Ok-clause-answers g c w opens =
    let rests = c.opened_files_are_at_rest.ensures opens.image w opens.entries false opens.holds opens.means opens.kept opens.opened c.requires.live c.requires.fit in
    c.in-Ok.ensures.answers w (well w _ _ opens (c.runs_stay_good.ensures.sound ode c.language_has_sound_rules.ensures w)) rests

pub returns-in-Ok-clause-not_usage : goal.returns-in-Ok-clause-not_usage
returns-in-Ok-clause-not_usage g c = never_usage c.in-Ok.status c.in-Ok.ensures.statuses
