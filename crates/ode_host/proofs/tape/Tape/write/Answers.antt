use Rattle.std.proofs.Common.{◌∷◌, [], ◌++◌, ◌∙◌, List, ℕ, length, ⊎_elim, ap, subst}
use Rattle.ode_host.specs.Disk.{written_on}
use Rattle.ode_host.specs.Host.{TornWrite}
use Rattle.ode_host.specs.Replay.{HostState, Passes, disk_after}
use Rattle.ode_host.proofs.Taping.{after_push, tape_write, tape_same, passes_write, passes_to, ok_or_err}
use Rattle.ode_host.specs.declared.call.Call.TheVariants.{Write}
use Rattle.ode_host.proofs.tape.Tape.write.Goals as goal

pub invariant_of-self : goal.invariant_of-self
invariant_of-self c =
    let tape = c.args.self.now in
    let now = c.note_write.new in
    record {
      kept = ⊎_elim
          (λ noted. tape_write _ _ _ _ _ _ _ c.args.at noted.0 tape.kept noted.1 noted.2 noted.3)
          (λ same. tape_same tape.start.items tape.image.items tape.text.items now.image.items tape.calls.items now.calls.items tape.kept same.0 same.1)
          (ok_or_err c.note_write.result c.note_write.ensures.ok c.note_write.ensures.err);
    }

pub returns-clause-time : goal.returns-clause-time
returns-clause-time c =
    let noted = c.in_ok-note_write.ensures.ok in
    let tape = c.args.self.now in
    passes_to _ _ _ _ _ noted.2 (subst (λ l. Passes (TornWrite c.args.at (length l)) tape.start.items tape.calls.items (tape.calls.items ++ Write c.args.at noted.0 ∷ [])) noted.1 (passes_write tape.start.items tape.calls.items c.args.at noted.0))

pub returns-clause-disk : goal.returns-clause-disk
returns-clause-disk c =
    let noted = c.in_ok-note_write.ensures.ok in
    let tape = c.args.self.now in
    ap (λ (s : HostState). s.disk) (after_push _ _ _ _ noted.2) ∙ ap (λ (l : List ℕ). written_on (disk_after tape.start.items tape.calls.items) c.args.at l) noted.1
