-- What is added to a frame bit by bit.
use Rattle.std.proofs.Common.{◌≡◌, ◌<◌, ◌≤◌, ℕ, ◌-◌, List, [], ◌++◌, length, ap, ◌∙◌, arith, append_assoc, length-append}
use Rattle.ode_gate.specs.declared.places.TheConstants.{AREA_LEN}
use Rattle.ode_journal.specs.Filling.{Filling, filled_by}
use Rattle.ode_value.specs.Records.{snapshot}
use Rattle.ode_keep.specs.Entries.{Entries, record_bytes}
use Rattle.ode_keep.specs.declared.limits.TheConstants.{MAX_RECORD_BYTES}
use Rattle.ode_keep.proofs.Lengths.{keys_count, length-snapshot}

-- two pieces that are added one after the other
pub filled_twice : (f g h : Filling) (a b c : List ℕ) → g ≡ filled_by f a → c ≡ b → h ≡ filled_by g c → h ≡ filled_by f (a ++ b)
filled_twice f g h a b c first is second =
    second ∙ ap (λ (l : List ℕ). filled_by g l) is ∙ ap (λ (k : Filling). filled_by k b) first
    ∙ (λ i. record {
      payload = append_assoc f.payload a b i;
      spare = (let same : f.spare - length a - length b ≡ f.spare - length (a ++ b) = omega (arith, length-append a b) in same) i;
    })

-- a frame with its first piece
pub started_frame : (f g : Filling) (head bytes rest : List ℕ) (n : ℕ) → f ≡ record { payload = []; spare = n } → g ≡ filled_by f bytes → bytes ≡ head
    → n ≡ length (head ++ rest) → (g.payload ++ rest ≡ head ++ rest) × (g.spare ≡ length rest)
started_frame f g head bytes rest n first second is long =
    let whole : g ≡ record { payload = head; spare = n - length head } =
    second ∙ ap (λ (l : List ℕ). filled_by f l) is ∙ ap (λ (k : Filling). filled_by k head) first in
    (ap (λ (k : Filling). k.payload ++ rest) whole, ap (λ (k : Filling). k.spare) whole ∙ (let same : n - length head ≡ length rest = omega (arith, long, length-append head rest) in same))

-- a snapshot of records within the limit leaves room in its area
pub snapshot_fits : (es : Entries) → record_bytes es ≤ MAX_RECORD_BYTES → length (snapshot es) < AREA_LEN
snapshot_fits es within = omega (arith, length-snapshot es, keys_count es)
