use Rattle.std.proofs.Common.{◌≡◌, ◌∙◌, Some, ap, arith, false, subst, sym, ⊎_elim}
use Rattle.ode_gen.specs.Generating.{gen_script}
use Rattle.ode_host.proofs.Calls.{host_calls_on}
use Rattle.ode_host.proofs.Moments.{started}
use Rattle.ode_host.specs.declared.status.Status.{Status}
use Rattle.ode_language.specs.Languages.{ode}
use Rattle.ode_machine.specs.Moments.{IsAfterSome}
use Rattle.ode_ends.proofs.CallLaws.{no_calls}
use Rattle.ode_ends.specs.Statuses.{IsEnding}
use Rattle.ode_top.specs.Answers.{IsGenStatus, IsGenerated, gen_items}
use Rattle.ode_begin.specs.Holds.{Holds}
use Rattle.ode_begin.proofs.Calling.{never_usage}
use Rattle.ode_top.proofs.Generating.{cut_status, ended_status, generated, line_leaves, run_leaves}
use Rattle.ode_begin.proofs.Running.{begins}
use Rattle.ode_top.proofs.top.gen_opened.Goals as goal

-- there was no memory for the script

pub returns-in-Err-clause-any_moment : goal.returns-in-Err-clause-any_moment
returns-in-Err-clause-any_moment g c w text opens told = started (g.H.Host.view c.args.host.now) (IsAfterSome Holds (gen_items c.args.number w) w text)

pub returns-in-Err-clause-leaves : goal.returns-in-Err-clause-leaves
returns-in-Err-clause-leaves g c = no_calls _ _ (g.H.Host.view c.args.host.now) (λ is. cc (is)) (λ is. cc (is))

-- the run ended by itself

pub returns-then-has_ended-clause-ran : goal.returns-then-has_ended-clause-ran
returns-then-has_ended-clause-ran g c w text opens told ending =
    let rests = c.opened_files_are_at_rest.ensures opens.image w opens.entries false opens.holds opens.means opens.kept opens.opened c.requires.live c.requires.fit in
    let start = begins g.H.Host.view c.args.host.now w c.args.opened opens text (c.runs_stay_good.ensures.sound ode c.language_has_sound_rules.ensures w) rests told in
    let left = ap Some (c.new-source.ensures.unread ∙ c.in-Ok.ensures.script) in
    let ran = c.in-Ok-run_quietly.ensures.ran w (gen_script c.args.number) text left start (c.has_ended.ensures.0 c.if-has_ended.true) in
    let counted = c.in-Ok-run_quietly.ensures.tallied w (gen_script c.args.number) text left start (c.has_ended.ensures.0 c.if-has_ended.true) in
    let same : c.say_counts.result ≡ c.in-Ok-run_quietly.status =
    ⊎_elim (λ same. same) (λ other. absurd (⊎_elim (λ none. subst IsEnding none ending) (λ cut. subst IsEnding cut ending) other)) c.say_counts.ensures.status in
    subst (λ (s : Status). IsGenerated c.args.number w text (g.H.Host.view c.say_counts.new.host) s) (sym same)
    (generated c.args.number w text c.run_quietly.new.tally _ (g.H.Host.view c.run_quietly.new.host) (g.H.Host.view c.say_counts.new.host) c.in-Ok-run_quietly.status ran counted (c.say_counts.ensures.said same) c.say_counts.ensures.stands)

pub returns-then-has_ended-clause-any_moment : goal.returns-then-has_ended-clause-any_moment
returns-then-has_ended-clause-any_moment g c w text opens told =
    let rests = c.opened_files_are_at_rest.ensures opens.image w opens.entries false opens.holds opens.means opens.kept opens.opened c.requires.live c.requires.fit in
    let start = begins g.H.Host.view c.args.host.now w c.args.opened opens text (c.runs_stay_good.ensures.sound ode c.language_has_sound_rules.ensures w) rests told in
    let left = ap Some (c.new-source.ensures.unread ∙ c.in-Ok.ensures.script) in
    let ran = c.in-Ok-run_quietly.ensures.ran w (gen_script c.args.number) text left start (c.has_ended.ensures.0 c.if-has_ended.true) in
    let counted = c.in-Ok-run_quietly.ensures.tallied w (gen_script c.args.number) text left start (c.has_ended.ensures.0 c.if-has_ended.true) in
    line_leaves c.args.number w text c.run_quietly.new.tally _ (g.H.Host.view c.run_quietly.new.host) (g.H.Host.view c.say_counts.new.host) c.in-Ok-run_quietly.status ran counted (g.H.Host.view c.args.host.now)
    (c.in-Ok-run_quietly.ensures.any_moment w (gen_script c.args.number) text left start) c.say_counts.ensures.any_moment

pub returns-then-has_ended-clause-answers : goal.returns-then-has_ended-clause-answers
returns-then-has_ended-clause-answers g c w text within opens told =
    let rests = c.opened_files_are_at_rest.ensures opens.image w opens.entries false opens.holds opens.means opens.kept opens.opened c.requires.live c.requires.fit in
    let start = begins g.H.Host.view c.args.host.now w c.args.opened opens text (c.runs_stay_good.ensures.sound ode c.language_has_sound_rules.ensures w) rests told in
    let left = ap Some (c.new-source.ensures.unread ∙ c.in-Ok.ensures.script) in
    let ran = c.in-Ok-run_quietly.ensures.ran w (gen_script c.args.number) text left start (c.has_ended.ensures.0 c.if-has_ended.true) in
    let counted = c.in-Ok-run_quietly.ensures.tallied w (gen_script c.args.number) text left start (c.has_ended.ensures.0 c.if-has_ended.true) in
    ⊎_elim
    (λ same. subst IsGenStatus (sym same)
    (ended_status c.args.number w text c.run_quietly.new.tally _ (g.H.Host.view c.run_quietly.new.host) (g.H.Host.view c.say_counts.new.host) c.in-Ok-run_quietly.status ran counted (c.generated_scripts_end.ensures.ends c.args.number within)))
    (λ other. ⊎_elim (λ none. subst IsGenStatus (sym none) tt) (λ cut. subst IsGenStatus (sym cut) tt) other) c.say_counts.ensures.status

pub returns-then-has_ended-clause-not_usage : goal.returns-then-has_ended-clause-not_usage
returns-then-has_ended-clause-not_usage g c is =
    ⊎_elim (λ same. subst IsEnding (sym same ∙ is) (c.has_ended.ensures.0 c.if-has_ended.true)) (λ other. ⊎_elim (λ none. cc (none, is)) (λ cut. cc (cut, is)) other) c.say_counts.ensures.status

pub returns-then-has_ended-clause-not_read : goal.returns-then-has_ended-clause-not_read
returns-then-has_ended-clause-not_read g c is =
    ⊎_elim (λ same. subst IsEnding (sym same ∙ is) (c.has_ended.ensures.0 c.if-has_ended.true)) (λ other. ⊎_elim (λ none. cc (none, is)) (λ cut. cc (cut, is)) other) c.say_counts.ensures.status

pub returns-then-has_ended-clause-leaves : goal.returns-then-has_ended-clause-leaves
returns-then-has_ended-clause-leaves g c =
    let ended = c.has_ended.ensures.0 c.if-has_ended.true in
    host_calls_on _ _ _ _ _ _ _ (λ is. subst IsEnding is ended) (λ is. subst IsEnding is ended) c.in-Ok-run_quietly.ensures.leaves c.say_counts.ensures.leaves

-- it was cut short

pub returns-in-Ok-run_quietly-clause-ran : goal.returns-in-Ok-run_quietly-clause-ran
returns-in-Ok-run_quietly-clause-ran g c w text opens told ending = absurd (cc (c.has_ended.ensures.1 ending, c.if-has_ended.false))

pub returns-in-Ok-run_quietly-clause-any_moment : goal.returns-in-Ok-run_quietly-clause-any_moment
returns-in-Ok-run_quietly-clause-any_moment g c w text opens told =
    let rests = c.opened_files_are_at_rest.ensures opens.image w opens.entries false opens.holds opens.means opens.kept opens.opened c.requires.live c.requires.fit in
    let start = begins g.H.Host.view c.args.host.now w c.args.opened opens text (c.runs_stay_good.ensures.sound ode c.language_has_sound_rules.ensures w) rests told in
    let left = ap Some (c.new-source.ensures.unread ∙ c.in-Ok.ensures.script) in
    run_leaves c.args.number w text _ _ (c.in-Ok-run_quietly.ensures.any_moment w (gen_script c.args.number) text left start)

pub returns-in-Ok-run_quietly-clause-answers : goal.returns-in-Ok-run_quietly-clause-answers
returns-in-Ok-run_quietly-clause-answers g c w text within opens told =
    let rests = c.opened_files_are_at_rest.ensures opens.image w opens.entries false opens.holds opens.means opens.kept opens.opened c.requires.live c.requires.fit in
    let start = begins g.H.Host.view c.args.host.now w c.args.opened opens text (c.runs_stay_good.ensures.sound ode c.language_has_sound_rules.ensures w) rests told in
    cut_status c.in-Ok-run_quietly.status (c.in-Ok-run_quietly.ensures.answers w start.well start.rests) (λ ending. cc (c.has_ended.ensures.1 ending, c.if-has_ended.false))
    (λ is. omega (arith, c.in-Ok-run_quietly.ensures.reads.rose is))

pub returns-in-Ok-run_quietly-clause-not_usage : goal.returns-in-Ok-run_quietly-clause-not_usage
returns-in-Ok-run_quietly-clause-not_usage g c = never_usage c.in-Ok-run_quietly.status c.in-Ok-run_quietly.ensures.statuses

pub returns-in-Ok-run_quietly-clause-not_read : goal.returns-in-Ok-run_quietly-clause-not_read
returns-in-Ok-run_quietly-clause-not_read g c is = omega (arith, c.in-Ok-run_quietly.ensures.reads.rose is)

-- a record was damaged, which none of an opened file is that holds a world

pub returns-clause-ran : goal.returns-clause-ran
returns-clause-ran g c w text opens told ending =
    absurd (⊎_elim (λ none. subst IsEnding none ending) (λ said. ⊎_elim (λ same. subst IsEnding same ending) (λ cut. subst IsEnding cut ending) said) c.damaged.ensures.status)

pub returns-clause-any_moment : goal.returns-clause-any_moment
returns-clause-any_moment g c w text opens told =
    let rests = c.opened_files_are_at_rest.ensures opens.image w opens.entries false opens.holds opens.means opens.kept opens.opened c.requires.live c.requires.fit in
    let start = begins g.H.Host.view c.args.host.now w c.args.opened opens text (c.runs_stay_good.ensures.sound ode c.language_has_sound_rules.ensures w) rests told in
    absurd (c.in-Err-run_quietly.ensures.answers w start.well start.rests)

pub returns-clause-answers : goal.returns-clause-answers
returns-clause-answers g c w text within opens told =
    let rests = c.opened_files_are_at_rest.ensures opens.image w opens.entries false opens.holds opens.means opens.kept opens.opened c.requires.live c.requires.fit in
    let start = begins g.H.Host.view c.args.host.now w c.args.opened opens text (c.runs_stay_good.ensures.sound ode c.language_has_sound_rules.ensures w) rests told in
    absurd (c.in-Err-run_quietly.ensures.answers w start.well start.rests)

pub returns-clause-not_usage : goal.returns-clause-not_usage
returns-clause-not_usage g c is = ⊎_elim (λ none. cc (none, is)) (λ said. ⊎_elim (λ same. cc (same, is)) (λ cut. cc (cut, is)) said) c.damaged.ensures.status

pub returns-clause-not_read : goal.returns-clause-not_read
returns-clause-not_read g c is = ⊎_elim (λ none. cc (none, is)) (λ said. ⊎_elim (λ same. cc (same, is)) (λ cut. cc (cut, is)) said) c.damaged.ensures.status

pub returns-clause-leaves : goal.returns-clause-leaves
returns-clause-leaves g c = host_calls_on _ _ _ _ _ _ _ (λ is. cc (is)) (λ is. cc (is)) c.in-Err-run_quietly.ensures.leaves c.damaged.ensures.leaves
