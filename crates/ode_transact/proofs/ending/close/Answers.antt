use Rattle.std.proofs.Common.{rules, ◌∙◌, ◌≤◌, ℕ, List, ap}
use Rattle.ode_keep.specs.Entries.{Entries, applied, record_bytes}
use Rattle.ode_keep.specs.declared.limits.TheConstants.{MAX_PAGED_BYTES}
use Rattle.ode_opened.specs.declared.opened.Opened.{Opened}
use Rattle.ode_transact.proofs.BeginLaws.{damaged_before}
use Rattle.ode_transact.proofs.DamageLaws.{memory_undamaged}
use Rattle.ode_transact.proofs.EndingLaws.{batch_runs, heap_back}
use Rattle.ode_transact.proofs.ending.close.Goals as goal
use Rattle.ode_transact.specs.Output.{heard}

pub returns-in_err-hand_over-clause-any_moment : goal.returns-in_err-hand_over-clause-any_moment
returns-in_err-hand_over-clause-any_moment g c = λ entries said.
    batch_runs g.H.Host.view g.K.Keep.holds g.K.Keep.means entries c.args.batch said _ _ c.args.ctx.heap c.growth_of-growth.new.heap c.args.host.now c.growth_of-growth.new.host c.hand_over.new.host
    c.growth_of-growth.ensures.same.0 c.growth_of-growth.ensures.same.1 (ap (λ (text : List ℕ). heard c.args.output.now.quiet text) (c.as_slice.ensures ∙ c.in_ok-text.ensures)) (c.hand_over.ensures.any_moment entries said)

pub returns-clause-any_moment : goal.returns-clause-any_moment
returns-clause-any_moment g c = λ entries said.
    batch_runs g.H.Host.view g.K.Keep.holds g.K.Keep.means entries c.args.batch said _ _ c.args.ctx.heap c.growth_of-growth.new.heap c.args.host.now c.growth_of-growth.new.host c.hand_over.new.host
    c.growth_of-growth.ensures.same.0 c.growth_of-growth.ensures.same.1 (ap (λ (text : List ℕ). heard c.args.output.now.quiet text) (c.as_slice.ensures ∙ c.in_ok-text.ensures)) (c.hand_over.ensures.any_moment entries said)

pub returns-in_err-text-clause-undamaged : goal.returns-in_err-text-clause-undamaged
returns-in_err-text-clause-undamaged g c = memory_undamaged c.from_residual.result _ (search rules)

pub returns-in_err-hand_over-clause-undamaged : goal.returns-in_err-hand_over-clause-undamaged
returns-in_err-hand_over-clause-undamaged g c =
    let why = c.in_err-hand_over.field-0.0 in
    let Before : Type 0 = (entries : Entries) → g.K.Keep.holds c.growth_of-growth.new.heap (g.H.Host.view c.growth_of-growth.new.host) entries → record_bytes (applied c.args.batch entries) ≤ MAX_PAGED_BYTES → ⊥ in
    let Undamaged : Type 0 = (entries : Entries) → g.K.Keep.holds c.args.ctx.heap (g.H.Host.view c.args.host.now) entries → record_bytes (applied c.args.batch entries) ≤ MAX_PAGED_BYTES → ⊥ in
    damaged_before (Unit {0}) (Opened g.row.K.Denot) c.from_residual-in_err-hand_over.result why (search rules) Before Undamaged
    (λ damaged entries records few. damaged entries (heap_back g.H.Host.view g.K.Keep.holds entries c.args.ctx.heap c.growth_of-growth.new.heap c.args.host.now c.growth_of-growth.new.host c.growth_of-growth.ensures.same.0 c.growth_of-growth.ensures.same.1 records) few)
    c.in_err-hand_over.ensures.undamaged
