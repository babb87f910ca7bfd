-- A write past the end is one over a list that zeros lengthen.
use Rattle.std.proofs.Common.{◌≡◌, ◌<◌, ◌≤◌, ⊎_elim, ℕ, ◌+◌, ◌-◌, List, ◌++◌, length, take, drop, replicate, sym, ◌∙◌, ap, arith, length-append}
use Rattle.std.proofs.lemmas.Bool.{cases_lt}
use Rattle.std.proofs.lemmas.List.{take_all, drop_all, append-nil, take-append-le, take-replicate, length-replicate}
use Rattle.std.proofs.Math.Seq.{take-append-add}
use Rattle.ode_host.specs.Host.{written_over}

module _ (old from : List ℕ) (at : ℕ) where
  more : ℕ
  more = at + length from - length old

  longer : List ℕ
  longer = old ++ replicate more 0

  front : take at longer ≡ take at old ++ replicate (at - length old) 0
  unfolding longer more
  front = ⊎_elim
      (λ (inside : at < length old).
      let none : at - length old ≡ 0 = omega arith in
      take-append-le at old (replicate more 0) (omega arith) ∙ sym (append-nil (take at old)) ∙ ap (λ (k : ℕ). take at old ++ replicate k 0) (sym none))
      (λ (past : length old ≤ at).
      let is : at ≡ length old + (at - length old) = omega arith in
      ap (λ (k : ℕ). take k (old ++ replicate more 0)) is ∙ take-append-add old (replicate more 0) (at - length old)
      ∙ ap (λ (l : List ℕ). old ++ l) (take-replicate (at - length old) more 0 (omega arith))
      ∙ ap (λ (l : List ℕ). l ++ replicate (at - length old) 0) (sym (take_all at old past)))
      (cases_lt at (length old))

  back : drop (at + length from) longer ≡ drop (at + length from) old
  unfolding longer more
  back = ⊎_elim
      (λ (inside : at + length from < length old).
      let none : at + length from - length old ≡ 0 = omega arith in
      ap (λ (k : ℕ). drop (at + length from) (old ++ replicate k 0)) none ∙ ap (λ (l : List ℕ). drop (at + length from) l) (append-nil old))
      (λ (past : length old ≤ at + length from).
      drop_all (at + length from) (old ++ replicate more 0) (omega (arith, length-append old (replicate more 0), length-replicate {A = ℕ} more 0)) ∙ sym (drop_all (at + length from) old past))
      (cases_lt (at + length from) (length old))

  pub over_longer : take at (old ++ replicate (at + length from - length old) 0) ++ from ++ drop (at + length from) (old ++ replicate (at + length from - length old) 0) ≡ written_over old at from
  unfolding longer more
  over_longer = ap (λ (l : List ℕ). l ++ from ++ drop (at + length from) longer) front ∙ ap (λ (l : List ℕ). take at old ++ replicate (at - length old) 0 ++ from ++ l) back

-- a slice that was written goes back into its vector
pub put_back : (new items : List ℕ) (len : ℕ) → length new ≡ len → length items ≡ len → take len (new ++ drop (length new) items) ≡ new
put_back new items len same is =
    ap (λ (l : List ℕ). take len (new ++ l)) (drop_all (length new) items (omega arith)) ∙ ap (λ (l : List ℕ). take len l) (append-nil new) ∙ take_all len new (omega arith)
