-- What stands in a range of a file after a write.
use Rattle.std.proofs.Common.{◌≡◌, ◌<◌, ◌≤◌, ◌⊎◌, inl, inr, ⊎_elim, ℕ, ◌+◌, List, [], ◌∷◌, length, take, drop, get_or, Some, sym, ◌∙◌, ap, arith, length-drop}
use Rattle.std.specs.Prelude.{slice_get}
use Rattle.std.proofs.lemmas.List.{drop_more, get_or-take, get_or-drop}
use Rattle.std.proofs.lemmas.Option.{slice_get-get_or, slice_get_within, get_or_from_slice_get}
use Rattle.ode_host.specs.Host.{written_over}
use Rattle.ode_host.proofs.Bytes.{torn_apart, written-torn, wrote_here}

module _ (old : List ℕ) (at : ℕ) (bytes : List ℕ) where
  abbrev next : List ℕ
  next = written_over old at bytes

  -- a byte outside the range
  pub wrote_elsewhere : (i : ℕ) → (i < at) ⊎ (at + length bytes ≤ i) → i < length old → get_or next i 0 ≡ get_or old i 0
  wrote_elsewhere i outside within =
      let zero_more : i + 0 ≡ i = omega arith in
      let byte : (l : List ℕ) → get_or (take 1 (drop i l)) 0 0 ≡ get_or l i 0 =
      λ l. get_or-take 1 (drop i l) 0 0 (omega arith) ∙ get_or-drop i l 0 0 ∙ ap (λ (k : ℕ). get_or l k 0) zero_more in
      let apart : ((i + 1 ≤ at) × (i + 1 ≤ length old)) ⊎ (at + length bytes ≤ i) =
      ⊎_elim (λ (before : i < at). inl (omega (arith, before), omega (arith, within))) (λ (past : at + length bytes ≤ i). inr past) outside in
      sym (byte next) ∙ ap (λ (l : List ℕ). get_or l 0 0) (torn_apart at (length bytes) i 1 old next (written-torn at bytes old) apart) ∙ byte old

-- one byte that was written
pub wrote_one : (old : List ℕ) (at byte : ℕ) → drop at (written_over old at (byte ∷ [])) ≡ byte ∷ drop (at + 1) old
wrote_one old at byte = wrote_here at (byte ∷ []) old

-- a byte, from what stands there on
pub get_from_drop : (xs : List ℕ) (i x : ℕ) (ys : List ℕ) → drop i xs ≡ x ∷ ys → slice_get xs i ≡ Some x
get_from_drop xs i x ys is =
    let inside : i < length xs = omega (arith, ap length is, length-drop i xs) in
    let first : get_or xs i 0 ∷ drop (i + 1) xs ≡ x ∷ ys = sym (drop_more xs i 0 inside) ∙ is in
    let same : get_or xs i 0 ≡ x = cc (first) in
    slice_get-get_or xs i 0 inside ∙ ap Some same

pub drop_from_get : (xs : List ℕ) (i x : ℕ) → slice_get xs i ≡ Some x → drop i xs ≡ x ∷ drop (i + 1) xs
drop_from_get xs i x is =
    drop_more xs i 0 (slice_get_within xs i x is) ∙ ap (λ (y : ℕ). y ∷ drop (i + 1) xs) (get_or_from_slice_get xs i x 0 is)
