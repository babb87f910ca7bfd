use Rattle.std.proofs.Common.{[], ◌∷◌, ◌++◌}
use Rattle.std.proofs.lemmas.Result.{on_ok_weaker}
use Rattle.ode_gate.specs.declared.places.TheConstants.{REGION_0, SLOT_STEP}
use Rattle.ode_gate.specs.declared.gate.TheConstants.{SHUT}
use Rattle.ode_host.specs.Host.{written_over}
use Rattle.ode_make.specs.Making.{first_frame}
use Rattle.ode_make.proofs.Telling.{wrote_tells}
use Rattle.ode_make.proofs.make.write_frame.Goals as goal

pub returns-clause-done : goal.returns-clause-done
returns-clause-done g c =
    on_ok_weaker c.write_at-2.result
    (λ wrote file tells.
    let first = wrote_tells SLOT_STEP (SHUT ∷ []) file _ _ c.write_at.ensures.writes.keeps c.in_ok-write_at.ensures.done tells in
    wrote_tells REGION_0 (first_frame ++ SHUT ∷ []) (written_over file SLOT_STEP (SHUT ∷ [])) _ _ c.write_at-2.ensures.writes.keeps wrote first)
    c.write_at-2.ensures.done
