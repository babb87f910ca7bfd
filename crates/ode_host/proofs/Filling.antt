-- How a read goes on.
use Rattle.std.proofs.Common.{◌≡◌, ◌<◌, ◌≤◌, ⊎_elim, ℕ, ◌+◌, ◌-◌, List, ◌++◌, length, take, drop, sym, ◌∙◌, ap, arith, length-take, length-drop}
use Rattle.std.proofs.lemmas.Bool.{cases_lt}
use Rattle.std.proofs.lemmas.List.{drop-drop}
use Rattle.std.proofs.Math.Seq.{take-add}
use Rattle.ode_host.specs.View.{View}
use Rattle.ode_host.specs.Host.{Tells, Gives}

pub took_more : (at filled n : ℕ) (before now file : List ℕ) → take filled before ≡ take filled (drop at file) → take filled now ≡ take filled before → take n (drop filled now) ≡ take n (drop (at + filled) file)
    → take (filled + n) now ≡ take (filled + n) (drop at file)
took_more at filled n before now file first same second =
    take-add filled n now ∙ ap (λ (l : List ℕ). l ++ take n (drop filled now)) (same ∙ first)
    ∙ ap (λ (l : List ℕ). take filled (drop at file) ++ l) (second ∙ ap (λ (l : List ℕ). take n l) (sym (drop-drop filled at file)))
    ∙ sym (take-add filled n (drop at file))

pub is_all : (at filled : ℕ) (to file : List ℕ) → filled ≤ length to → take filled to ≡ take filled (drop at file) → filled ≤ length file - at
is_all at filled to file within same = omega (arith, ap length same, length-take filled to, length-take filled (drop at file), length-drop at file)

-- a read that gives nothing is at the end
pub at_end : (old : View) (at filled : ℕ) (to file : List ℕ) (n : ℕ) → Gives old (at + filled) (drop filled to) n → Tells old file → filled < length to → n ≡ 0 → length file ≤ at + filled
at_end old at filled to file n gives tells room none = ⊎_elim
    (λ (inside : at + filled < length file). absurd (omega (arith, gives.some file tells (omega (arith, length-drop filled to)) inside)))
    (λ (past : length file ≤ at + filled). past)
    (cases_lt (at + filled) (length file))
