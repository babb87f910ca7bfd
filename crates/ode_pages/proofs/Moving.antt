-- What moving bytes leaves.
use Rattle.std.proofs.Common.{◌≡◌, ◌≤◌, ℕ, ◌+◌, ◌-◌, List, ◌++◌, length, take, drop, replicate, refl, sym, ap, ◌∙◌, arith, append_assoc, length-append}
use Rattle.std.proofs.lemmas.List.{append-nil, drop_all, drop_at, length-drop, length-take, replicate-append-replicate, take-replicate, take_at, take_rest}
use Rattle.std.proofs.Math.Seq.{take-append-add}
use borrow.Rule.Slice.PartMut.{put_mid}
use Rattle.std.specs.Int.{w16, to_be_bytes}

abbrev pub zeros : ℕ → List ℕ
zeros n = replicate n 0

-- bytes that were copied down, and zeros behind them
pub moved_down : (old : List ℕ) (start end kept : ℕ) → start ≤ end → end ≤ length old → kept ≡ start + (length old - end)
    → take kept ((take start old ++ take (length old - end) (drop end old)) ++ drop kept old) ≡ take start old ++ drop end old
moved_down old start end kept order within is =
    take_at (take start old ++ take (length old - end) (drop end old)) (drop kept old) kept
    (omega (arith, length-append (take start old) (take (length old - end) (drop end old)), length-take start old, length-take (length old - end) (drop end old), length-drop end old))
    ∙ ap (λ (l : List ℕ). take start old ++ l) (take_rest old end)

-- zeros that are written to the end
pub fills_end : (front moved filled : List ℕ) (kept n : ℕ) → take kept moved ≡ front → filled ≡ zeros (length (take (length moved - kept) (drop kept moved))) → length moved - kept ≡ n
    → put_mid kept (length moved - kept) moved filled ≡ front ++ zeros n
fills_end front moved filled kept n is_front is_filled left =
    let many : length (take (length moved - kept) (drop kept moved)) ≡ n = omega (arith, length-take (length moved - kept) (drop kept moved), length-drop kept moved, left) in
    ap (λ (l : List ℕ). take kept moved ++ (filled ++ l)) (drop_all (length moved - kept) (drop kept moved) (omega (arith, length-drop kept moved)))
    ∙ ap (λ (l : List ℕ). take kept moved ++ l) (append-nil filled)
    ∙ ap (λ (l : List ℕ). l ++ filled) is_front
    ∙ ap (λ (l : List ℕ). front ++ l) (is_filled ∙ ap zeros many)

-- bytes between others are taken out
pub taken_out : (p m s : List ℕ) (z start end : ℕ) → length p ≡ start → start + length m ≡ end
    → take start (p ++ (m ++ (s ++ zeros z))) ++ (drop end (p ++ (m ++ (s ++ zeros z))) ++ zeros (end - start)) ≡ p ++ (s ++ zeros (z + length m))
taken_out p m s z start end front with =
    let t = s ++ zeros z in
    let gone : end - start ≡ length m = omega arith in
    ap (λ (l : List ℕ). l ++ (drop end (p ++ (m ++ t)) ++ zeros (end - start))) (take_at p (m ++ t) start front)
    ∙ ap (λ (l : List ℕ). p ++ (drop end l ++ zeros (end - start))) (sym (append_assoc p m t))
    ∙ ap (λ (l : List ℕ). p ++ (l ++ zeros (end - start))) (drop_at (p ++ m) t end (omega (arith, length-append p m)))
    ∙ ap (λ (n : ℕ). p ++ (t ++ zeros n)) gone
    ∙ ap (λ (l : List ℕ). p ++ l) (append_assoc s (zeros z) (zeros (length m)) ∙ ap (λ (l : List ℕ). s ++ l) (replicate-append-replicate z (length m) 0))

-- bytes are put between others, and zeros fall off
pub put_between : (p with s : List ℕ) (z at size : ℕ) → length p ≡ at → length with ≤ z → size ≡ at + (length s + z)
    → take at (p ++ (s ++ zeros z)) ++ (with ++ take (size - (at + length with)) (drop at (p ++ (s ++ zeros z)))) ≡ p ++ (with ++ (s ++ zeros (z - length with)))
put_between p with s z at size front room whole =
    let n = size - (at + length with) in
    let left : n ≡ length s + (z - length with) = omega arith in
    ap (λ (l : List ℕ). l ++ (with ++ take n (drop at (p ++ (s ++ zeros z))))) (take_at p (s ++ zeros z) at front)
    ∙ ap (λ (l : List ℕ). p ++ (with ++ take n l)) (drop_at p (s ++ zeros z) at front)
    ∙ ap (λ (m : ℕ). p ++ (with ++ take m (s ++ zeros z))) left
    ∙ ap (λ (l : List ℕ). p ++ (with ++ l)) (take-append-add s (zeros z) (z - length with) ∙ ap (λ (l : List ℕ). s ++ l) (take-replicate (z - length with) z 0 (omega arith)))

-- another number stands in front
pub counted : (old new : ℕ) (bytes : List ℕ) → take 0 (to_be_bytes w16 old ++ bytes) ++ to_be_bytes w16 new ++ drop 2 (to_be_bytes w16 old ++ bytes) ≡ to_be_bytes w16 new ++ bytes
counted old new bytes = refl
