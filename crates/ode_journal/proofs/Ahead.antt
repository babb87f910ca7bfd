-- Bytes that were read ahead.
use Rattle.std.proofs.Common.{◌≡◌, ◌≤◌, ◌<◌, ℕ, ◌+◌, ◌-◌, List, [], ◌∷◌, ◌++◌, length, nat_eq, slice_index_or, true, false, take, drop, sym, ◌∙◌, ap, arith, take-append-drop}
use Rattle.std.proofs.lemmas.List.{drop-drop, drop-take, take-take}
use Rattle.std.proofs.lemmas.Bool.Decides.{nat_tests}
use Rattle.std.proofs.Math.Seq.{take-add}
use Rattle.ode_host.specs.Host.{Looks}
use Rattle.ode_host.specs.View.{View}
use Rattle.ode_host.proofs.Moments.{tells_looks}
use Rattle.ode_journal.specs.Ahead.{StaysOf, TellsAhead}
use Rattle.ode_journal.specs.declared.block.Block.{Block}

-- a part of a block is that part of the file
pub copied : (at place filled n : ℕ) (items bytes to file : List ℕ) → bytes ≡ items → place ≤ at → at - place < filled → take filled items ≡ take filled (drop place file)
    → n ≤ filled - (at - place) → take n to ≡ take n (take (filled - (at - place)) (drop (at - place) bytes)) → take n to ≡ take n (drop at file)
copied at place filled n items bytes to file same below inside is short took =
    let off = at - place in
    let rest = filled - off in
    let whole : filled ≡ off + rest = omega arith in
    let here : place + off ≡ at = omega arith in
    let cut : (l : List ℕ) → take rest (drop off l) ≡ drop off (take filled l) = λ l. sym (drop-take off rest l) ∙ ap (λ (k : ℕ). drop off (take k l)) (sym whole) in
    took ∙ ap (λ (l : List ℕ). take n (take rest (drop off l))) same
    ∙ ap (λ (l : List ℕ). take n l) (cut items ∙ ap (λ (l : List ℕ). drop off l) is ∙ sym (cut (drop place file)) ∙ ap (λ (l : List ℕ). take rest l) (drop-drop off place file ∙ ap (λ (k : ℕ). drop k file) here))
    ∙ take-take n rest (drop at file) short

-- the front was there, and the rest was read
pub joined_read : (have n at : ℕ) (new file : List ℕ) → have ≤ n → take have new ≡ take have (drop at file) → drop have new ≡ take (n - have) (drop (at + have) file) → new ≡ take n (drop at file)
joined_read have n at new file le first second =
    let all : have + (n - have) ≡ n = omega arith in
    sym (take-append-drop have new) ∙ ap (λ (l : List ℕ). l ++ drop have new) first
    ∙ ap (λ (l : List ℕ). take have (drop at file) ++ l) (second ∙ ap (λ (l : List ℕ). take (n - have) l) (sym (drop-drop have at file)))
    ∙ sym (take-add have (n - have) (drop at file)) ∙ ap (λ (k : ℕ). take k (drop at file)) all

-- behind a read
pub reads_on : (file : List ℕ) (a b : View) (old new : Block) → Looks a b → StaysOf a old new → TellsAhead a old file → TellsAhead b new file
reads_on file a b old new looks stays reads = record { tells = tells_looks file a b looks reads.tells; ahead = stays file reads.tells reads.ahead }

-- the byte that was read stands there
pub gate_read : (at : ℕ) (to file : List ℕ) → length to ≡ 1 → to ≡ take 1 (drop at file) → drop at file ≡ slice_index_or to 0 0 ∷ drop (at + 1) file
gate_read at to file one is = first (drop at file) to one is ∙ ap (λ (l : List ℕ). slice_index_or to 0 0 ∷ l) (drop-drop 1 at file) where
  first : (l to : List ℕ) → length to ≡ 1 → to ≡ take 1 l → l ≡ slice_index_or to 0 0 ∷ drop 1 l
  first [] to one is = let none : to ≡ [] = is in absurd (omega (arith, one, ap length none))
  first (x ∷ l) to one is = let e : to ≡ x ∷ [] = is in ap (λ (v : ℕ). v ∷ l) (sym (ap (λ (v : List ℕ). slice_index_or v 0 0) e))

pub is_gate : (x gate : ℕ) → nat_eq x gate ≡ true → x ≡ gate
is_gate x gate is = grind (arith, nat_tests, is)

pub no_gate : (x gate : ℕ) → nat_eq x gate ≡ false → x ≡ gate → ⊥
no_gate x gate is same = grind (arith, nat_tests, is, same)
