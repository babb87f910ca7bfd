use Rattle.std.proofs.Common.{inl, inr, refl, ⊎_elim}
use Rattle.std.proofs.lemmas.Result.{err_from_is_err_and}
use Rattle.ode_host.proofs.FirstSync.{never_synced}
use Rattle.ode_host.proofs.Moments.{tells_looks}
use Rattle.ode_open.proofs.One.{one_opening}
use Rattle.ode_open.proofs.Refusing.{at_ok}
use Rattle.ode_open.proofs.Synced.{stands_behind, stays_behind}
use Rattle.ode_open.proofs.opening.open_base.Goals as goal

pub returns-clause-answer : goal.returns-clause-answer
returns-clause-answer g c = λ image tells.
    c.open_file.ensures.answer image (record { tells = tells_looks image _ _ c.sync.ensures.looks tells; only = c.in_ok-sync.ensures.durable image tells })

pub returns-clause-only : goal.returns-clause-only
returns-clause-only g c = λ image found tells opened.
    ⊎_elim (λ failed. inl failed) (λ its. inr (one_opening c.records_are_opened_to_one_thing.ensures image _ found its opened)) (returns-clause-answer g c image tells)

pub returns-clause-keeper : goal.returns-clause-keeper
returns-clause-keeper g c =
    at_ok c.open_file.result
    (λ o keeps image tells. keeps image (record { tells = tells_looks image _ _ c.sync.ensures.looks tells; only = c.in_ok-sync.ensures.durable image tells }))
    c.open_file.ensures.keeper

pub returns-clause-bytes : goal.returns-clause-bytes
returns-clause-bytes g c =
    at_ok c.open_file.result
    (λ o are image tells. are image (record { tells = tells_looks image _ _ c.sync.ensures.looks tells; only = c.in_ok-sync.ensures.durable image tells }))
    c.open_file.ensures.bytes

pub returns-clause-format : goal.returns-clause-format
returns-clause-format g c =
    at_ok c.open_file.result
    (λ o has image tells. has image (record { tells = tells_looks image _ _ c.sync.ensures.looks tells; only = c.in_ok-sync.ensures.durable image tells }))
    c.open_file.ensures.format

-- ---- what a stop leaves

pub returns-in_err-sync-clause-synced : goal.returns-in_err-sync-clause-synced
returns-in_err-sync-clause-synced g c = λ sound image tells.
    let p = err_from_is_err_and c.from_residual.result c.from_residual.ensures.1 in
    absurd (sound (rw (p.1, p.2) refl))

pub returns-in_err-sync-clause-stops : goal.returns-in_err-sync-clause-stops
returns-in_err-sync-clause-stops g c = λ image text tells said.
    let p = err_from_is_err_and c.from_residual.result c.from_residual.ensures.1 in
    never_synced _ _ c.sync.ensures.looks.time image _ _ (rw (p.1, p.2) refl)

pub returns-clause-synced : goal.returns-clause-synced
returns-clause-synced g c = λ sound image tells.
    (stands_behind _ _ _ image tells c.sync.ensures.looks (c.in_ok-sync.ensures.durable image tells) c.open_file.ensures.looks).only

pub returns-clause-stops : goal.returns-clause-stops
returns-clause-stops g c = λ image text tells said.
    stays_behind _ _ _ image tells c.sync.ensures.looks (c.in_ok-sync.ensures.durable image tells) c.open_file.ensures.looks text said (g.met.H.Host.text_stands c.sync.new.self) _
