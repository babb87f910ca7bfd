use Rattle.std.proofs.Common.{◌≡◌, ℕ, List, ◌∷◌, ◌++◌, drop, Option, Some, None, ap, sym, ◌∙◌}
use Rattle.std.specs.Prelude.{slice_index}
use Rattle.ode_value.specs.declared.key.Key.{Key}
use Rattle.ode_value.specs.Records.{Row, row_bytes}
use Rattle.ode_keep.specs.Snapshots.{FitsRow}
use Rattle.ode_keep.specs.Payloads.{FitsChange, spelled_change}
use Rattle.ode_keep.proofs.spelling.first_change.Goals as goal
use Rattle.ode_keep.specs.declared.spelling.TheConstants.{PUT, REMOVAL}

put_first : (k : Key) (v : Option (List ℕ)) (behind rest : List ℕ) → FitsChange (k, v) → PUT ∷ behind ≡ spelled_change k v ++ rest → (r : Row) × FitsRow r × (behind ≡ row_bytes r ++ rest)
put_first k None behind rest fits is = let marks : PUT ≡ REMOVAL = ap (λ (bs : List ℕ). slice_index bs 0) is in absurd (cc (marks))
put_first k (Some v) behind rest fits is = ((k, v), record { key = fits.key; value = fits.value }, ap (drop 1) is)

pub returns-in_err-row-clause-none : goal.returns-in_err-row-clause-none
returns-in_err-row-clause-none c =
    rw c.from_residual-in_err-row.ensures (λ d rest fits is.
    let bytes : c.in_ok-mark.mark.now ∷ c.in_ok-mark.behind.now ≡ spelled_change d.0 d.1 ++ rest = sym c.in_ok-mark.ensures.cases.0 ∙ is in
    let mark : c.in_ok-mark.mark.now ≡ PUT = c.if-mark-eq-PUT.true in
    let r = put_first d.0 d.1 c.in_ok-mark.behind.now rest fits (ap (λ (n : ℕ). n ∷ c.in_ok-mark.behind.now) (sym mark) ∙ bytes) in
    c.in_err-row.ensures.none r.0 rest r.1 r.2)
