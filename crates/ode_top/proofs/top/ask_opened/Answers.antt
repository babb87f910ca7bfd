use Rattle.std.proofs.Common.{Ok, ap, subst, sym, ⊎_elim}
use Rattle.std.specs.Prelude.{◌==◌}
use Rattle.ode_gate.specs.declared.places.TheConstants.{FIRST_FORMAT}
use Rattle.ode_host.proofs.Calls.{host_calls_as, host_calls_on, rose_as, spares_joined}
use Rattle.ode_keeper.specs.Holding.{KeeperHolds}
use Rattle.ode_keeper.specs.declared.keeper.Keeper.{Keeper}
use Rattle.ode_language.specs.Languages.{ode}
use Rattle.ode_ends.specs.Statuses.{IsEnding, IsRunStatus}
use Rattle.ode_begin.proofs.Calling.{tells_same}
use Rattle.ode_top.proofs.Questioning.{all_answered, classes_shown, part_answered, run_status}
use Rattle.ode_top.proofs.top.ask_opened.Goals as goal

-- the script was answered, or cut short

pub returns-in-Ok-clause-answered : goal.returns-in-Ok-clause-answered
returns-in-Ok-clause-answered g c image w bytes text left opens told ending =
    let rests = c.opened_files_are_at_rest.ensures image w opens.entries (c.args.opened.format == FIRST_FORMAT) opens.holds opens.means opens.kept opens.opened c.requires.live c.requires.fit in
    all_answered c.args.asked bytes image text w _ _ (tells_same image _ _ c.in-Ok.ensures.leaves.keeps c.in-Ok.ensures.spares.image opens.tells) c.in-Ok.status ending
    (c.in-Ok.ensures.answered ode rests.entries w bytes text left told rests.world (subst (λ (k : Keeper). KeeperHolds k (g.H.Host.view c.args.host.now) rests.entries) (sym c.new-heap.ensures) rests.records) (classes_shown g.H.Host.view w c.args.opened c.args.host.now rests))

pub returns-in-Ok-clause-cut : goal.returns-in-Ok-clause-cut
returns-in-Ok-clause-cut g c image w bytes text left opens told cut_off =
    let rests = c.opened_files_are_at_rest.ensures image w opens.entries (c.args.opened.format == FIRST_FORMAT) opens.holds opens.means opens.kept opens.opened c.requires.live c.requires.fit in
    part_answered c.args.asked bytes image text w _ _ (tells_same image _ _ c.in-Ok.ensures.leaves.keeps c.in-Ok.ensures.spares.image opens.tells) c.in-Ok.status cut_off
    (c.in-Ok.ensures.answered ode rests.entries w bytes text left told rests.world (subst (λ (k : Keeper). KeeperHolds k (g.H.Host.view c.args.host.now) rests.entries) (sym c.new-heap.ensures) rests.records) (classes_shown g.H.Host.view w c.args.opened c.args.host.now rests))

pub returns-in-Ok-clause-answers : goal.returns-in-Ok-clause-answers
returns-in-Ok-clause-answers g c image w opens = run_status c.in-Ok.status c.in-Ok.ensures.statuses

pub returns-in-Ok-clause-not_usage : goal.returns-in-Ok-clause-not_usage
returns-in-Ok-clause-not_usage g c is = subst IsRunStatus is (run_status c.in-Ok.status c.in-Ok.ensures.statuses)

pub returns-in-Ok-clause-leaves : goal.returns-in-Ok-clause-leaves
returns-in-Ok-clause-leaves g c = host_calls_as _ _ _ _ _ _ (λ is. cc (is)) (λ is. ap Ok is) (λ is. cc (is)) (λ is. ap Ok is) c.in-Ok.ensures.leaves

pub returns-in-Ok-clause-reads : goal.returns-in-Ok-clause-reads
returns-in-Ok-clause-reads g c = rose_as _ _ _ _ (λ is. cc (is)) (λ is. ap Ok is) c.in-Ok.ensures.reads

-- a record was damaged, which none of an opened file is that holds a world

pub returns-clause-answered : goal.returns-clause-answered
returns-clause-answered g c image w bytes text left opens told ending =
    absurd (⊎_elim (λ none. subst IsEnding none ending) (λ said. ⊎_elim (λ same. subst IsEnding same ending) (λ cut_off. subst IsEnding cut_off ending) said) c.damaged.ensures.status)

pub returns-clause-cut : goal.returns-clause-cut
returns-clause-cut g c image w bytes text left opens told cut_off =
    let rests = c.opened_files_are_at_rest.ensures image w opens.entries (c.args.opened.format == FIRST_FORMAT) opens.holds opens.means opens.kept opens.opened c.requires.live c.requires.fit in
    let sound = c.in-Err.ensures.sound ode rests.entries w rests.world (subst (λ (k : Keeper). KeeperHolds k (g.H.Host.view c.args.host.now) rests.entries) (sym c.new-heap.ensures) rests.records) (classes_shown g.H.Host.view w c.args.opened c.args.host.now rests) in
    absurd (cc (sound))

pub returns-clause-answers : goal.returns-clause-answers
returns-clause-answers g c image w opens =
    let rests = c.opened_files_are_at_rest.ensures image w opens.entries (c.args.opened.format == FIRST_FORMAT) opens.holds opens.means opens.kept opens.opened c.requires.live c.requires.fit in
    let sound = c.in-Err.ensures.sound ode rests.entries w rests.world (subst (λ (k : Keeper). KeeperHolds k (g.H.Host.view c.args.host.now) rests.entries) (sym c.new-heap.ensures) rests.records) (classes_shown g.H.Host.view w c.args.opened c.args.host.now rests) in
    absurd (cc (sound))

pub returns-clause-not_usage : goal.returns-clause-not_usage
returns-clause-not_usage g c is = ⊎_elim (λ none. cc (none, is)) (λ said. ⊎_elim (λ same. cc (same, is)) (λ cut_off. cc (cut_off, is)) said) c.damaged.ensures.status

pub returns-clause-spares : goal.returns-clause-spares
returns-clause-spares g c = spares_joined _ _ _ c.in-Err.ensures.leaves.keeps c.in-Err.ensures.spares c.damaged.ensures.spares

pub returns-clause-leaves : goal.returns-clause-leaves
returns-clause-leaves g c = host_calls_on _ _ _ _ _ _ _ (λ is. cc (is)) (λ is. cc (is)) c.in-Err.ensures.leaves c.damaged.ensures.leaves

pub returns-clause-reads : goal.returns-clause-reads
returns-clause-reads g c =
    rose_as _ _ _ _ (λ is. cc (is)) (λ is. ⊎_elim (λ none. cc (none, is)) (λ said. ⊎_elim (λ same. cc (same, is)) (λ cut_off. cc (cut_off, is)) said) c.damaged.ensures.status) c.in-Err.ensures.reads
