-- What is written piece by piece.
use Rattle.std.proofs.Common.{◌≡◌, ℕ, List, ◌++◌, Result, Ok, Err, ap, ◌∙◌, append_assoc}
use Rattle.std.specs.Prelude.{OnOk}
use Rattle.std.specs.declared.alloc.AllocError.{AllocError}

pub joins : (r : Result (Unit {0}) AllocError) (out a between rest new : List ℕ) → between ≡ out ++ a → OnOk r (new ≡ between ++ rest) → OnOk r (new ≡ out ++ (a ++ rest))
joins (Ok u) out a between rest new e h = h ∙ ap (λ (t : List ℕ). t ++ rest) e ∙ append_assoc out a rest
joins (Err u) out a between rest new e h = tt
