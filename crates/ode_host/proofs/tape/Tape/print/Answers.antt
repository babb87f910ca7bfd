use Rattle.std.proofs.Common.{◌∷◌, [], ◌++◌, ⊎_elim, ap, sym, subst}
use Rattle.ode_host.specs.Host.{CutPrint}
use Rattle.ode_host.specs.Replay.{HostState, IsTape, Passes}
use Rattle.ode_host.proofs.Taping.{after_print, tape_print, passes_print, passes_to, ok_or_err}
use Rattle.ode_host.specs.declared.call.Call.TheVariants.{Begin, End}
use Rattle.ode_host.proofs.tape.Tape.print.Goals as goal

pub invariant_of-self : goal.invariant_of-self
invariant_of-self c =
    let tape = c.args.self.now in
    let now = c.note_print.new in
    record {
      kept = ⊎_elim
          (λ noted. tape_print _ _ _ _ _ _ _ noted.0 tape.kept noted.1 noted.2 noted.3)
          (λ same.
          subst (λ l. IsTape tape.start.items tape.image.items now.text.items l) (sym same.0) (subst (λ l. IsTape tape.start.items tape.image.items l tape.calls.items) (sym same.1) tape.kept))
          (ok_or_err c.note_print.result c.note_print.ensures.ok c.note_print.ensures.err);
    }

pub returns-clause-time : goal.returns-clause-time
returns-clause-time c =
    let noted = c.in_ok-note_print.ensures.ok in
    let tape = c.args.self.now in
    passes_to _ _ _ _ _ noted.2 (subst (λ l. Passes (CutPrint l) tape.start.items tape.calls.items (tape.calls.items ++ Begin noted.0 ∷ End ∷ [])) noted.1 (passes_print tape.start.items tape.calls.items noted.0))

pub returns-clause-disk : goal.returns-clause-disk
returns-clause-disk c = ap (λ (s : HostState). s.disk) (after_print _ _ _ _ c.in_ok-note_print.ensures.ok.2)
