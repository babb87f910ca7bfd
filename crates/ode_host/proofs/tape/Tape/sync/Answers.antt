use Rattle.std.proofs.Common.{◌∙◌, ⊎_elim, ap, sym, subst}
use Rattle.ode_host.specs.Disk.{settled}
use Rattle.ode_host.specs.Replay.{HostState, IsTape}
use Rattle.ode_host.proofs.Taping.{after_push, tape_sync, tape_synced, passes_sync, passes_to, ok_or_err}
use Rattle.ode_host.proofs.tape.Tape.sync.Goals as goal

pub invariant_of-self : goal.invariant_of-self
invariant_of-self c =
    let tape = c.args.self.now in
    record {
      kept = ⊎_elim
          (λ more. tape_sync _ _ _ _ _ tape.kept more)
          (λ same. subst (λ l. IsTape tape.start.items tape.image.items tape.text.items l) (sym same) tape.kept)
          (ok_or_err c.note_sync.result c.note_sync.ensures.ok c.note_sync.ensures.err);
    }

pub returns-clause-time : goal.returns-clause-time
returns-clause-time c = passes_to _ _ _ _ _ c.in_ok-note_sync.ensures.ok (passes_sync c.args.self.now.start.items c.args.self.now.calls.items)

pub returns-clause-durable : goal.returns-clause-durable
returns-clause-durable c = tape_synced _ _ _ _ _ c.args.self.now.kept c.in_ok-note_sync.ensures.ok

pub returns-clause-disk : goal.returns-clause-disk
returns-clause-disk c = ap (λ (s : HostState). s.disk) (after_push _ _ _ _ c.in_ok-note_sync.ensures.ok) ∙ ap settled (sym c.args.self.now.kept.reads)
