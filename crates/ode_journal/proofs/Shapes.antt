-- How a frame is filled.
use Rattle.std.proofs.Common.{◌≡◌, ◌≤◌, ℕ, ◌+◌, ◌-◌, List, ◌++◌, length, take, drop, replicate, sym, ◌∙◌, ap, arith, append_assoc, length-append, length-take, length-drop}
use Rattle.std.proofs.lemmas.List.{take_at, drop_at, drop-drop, drop-replicate}
use Rattle.std.proofs.Math.Seq.{take-add}
use Rattle.std.specs.Int.{w32, to_be_bytes}
use Rattle.ode_journal.specs.Filling.{Filling, IsShaped, filling_of, filled_by}
use Rattle.ode_journal.specs.declared.frame.TheConstants.{LENGTH_LEN}

module _ (old : List ℕ) (filled : ℕ) (from new : List ℕ) (shaped : IsShaped old filled) (room : length from ≤ (filling_of old filled).spare)
    (is : new ≡ take (LENGTH_LEN + filled) old ++ from ++ drop (LENGTH_LEN + filled + length from) old) where
  abbrev so_far : List ℕ
  so_far = take filled (drop LENGTH_LEN old)

  abbrev rest : List ℕ
  rest = drop (LENGTH_LEN + filled + length from) old

  fits : filled + (LENGTH_LEN + 1) + length from ≤ length old
  fits = omega (arith, shaped.long, room)

  parts : new ≡ take LENGTH_LEN old ++ (so_far ++ (from ++ rest))
  parts =
      is ∙ append_assoc (take (LENGTH_LEN + filled) old) from (drop (LENGTH_LEN + filled + length from) old)
      ∙ ap (λ (l : List ℕ). l ++ (from ++ drop (LENGTH_LEN + filled + length from) old)) (take-add LENGTH_LEN filled old)
      ∙ append_assoc (take LENGTH_LEN old) (take filled (drop LENGTH_LEN old)) (from ++ drop (LENGTH_LEN + filled + length from) old)

  same_length : length new ≡ length old
  same_length = omega (arith, fits, ap length is, length-append (take (LENGTH_LEN + filled) old ++ from) rest, length-append (take (LENGTH_LEN + filled) old) from, length-take (LENGTH_LEN + filled) old, length-drop (LENGTH_LEN + filled + length from) old)

  four : length (take LENGTH_LEN old) ≡ LENGTH_LEN
  four = omega (arith, shaped.long, length-take LENGTH_LEN old)

  size : length so_far ≡ filled
  size = omega (arith, shaped.long, length-take filled (drop LENGTH_LEN old), length-drop LENGTH_LEN old)

  payload : take (filled + length from) (drop LENGTH_LEN new) ≡ so_far ++ from
  payload =
      ap (λ (l : List ℕ). take (filled + length from) l) (ap (λ (l : List ℕ). drop LENGTH_LEN l) parts ∙ drop_at (take LENGTH_LEN old) (so_far ++ (from ++ rest)) LENGTH_LEN four ∙ sym (append_assoc so_far from rest))
      ∙ take_at (so_far ++ from) rest (filled + length from) (omega (arith, size, length-append so_far from))

  head : take LENGTH_LEN new ≡ take LENGTH_LEN old
  head = ap (λ (l : List ℕ). take LENGTH_LEN l) parts ∙ take_at (take LENGTH_LEN old) (so_far ++ (from ++ rest)) LENGTH_LEN four

  tail : drop (LENGTH_LEN + (filled + length from)) new ≡ replicate (length old - (LENGTH_LEN + (filled + length from))) 0
  tail =
      let place : LENGTH_LEN + (filled + length from) ≡ LENGTH_LEN + filled + length from = omega arith in
      let left : length old - (LENGTH_LEN + filled) - length from ≡ length old - (LENGTH_LEN + (filled + length from)) = omega arith in
      ap (λ (k : ℕ). drop k new) place ∙ ap (λ (l : List ℕ). drop (LENGTH_LEN + filled + length from) l) is
      ∙ drop_at (take (LENGTH_LEN + filled) old ++ from) rest (LENGTH_LEN + filled + length from) (omega (arith, fits, length-append (take (LENGTH_LEN + filled) old) from, length-take (LENGTH_LEN + filled) old))
      ∙ sym (drop-drop (length from) (LENGTH_LEN + filled) old) ∙ ap (λ (l : List ℕ). drop (length from) l) shaped.tail
      ∙ drop-replicate (length from) (length old - (LENGTH_LEN + filled)) 0 ∙ ap (λ (k : ℕ). replicate k 0) left

  pub shaped_still : IsShaped new (filled + length from)
  shaped_still = record {
    long = omega (arith, fits, same_length);
    short = omega (arith, shaped.short, same_length);
    head = head ∙ shaped.head ∙ ap (λ (k : ℕ). to_be_bytes w32 (k - (LENGTH_LEN + 1))) (sym same_length);
    tail = tail ∙ ap (λ (k : ℕ). replicate (k - (LENGTH_LEN + (filled + length from))) 0) (sym same_length);
  }

  pub filling_is : filling_of new (filled + length from) ≡ filled_by (filling_of old filled) from
  filling_is =
      let frame : List ℕ → ℕ → Filling = λ p s. record { payload = p; spare = s } in
      let less : length new - (LENGTH_LEN + 1) - (filled + length from) ≡ length old - (LENGTH_LEN + 1) - filled - length from = omega (arith, same_length) in
      ap (λ (p : List ℕ). frame p (length new - (LENGTH_LEN + 1) - (filled + length from))) payload ∙ ap (λ (s : ℕ). frame (so_far ++ from) s) less
