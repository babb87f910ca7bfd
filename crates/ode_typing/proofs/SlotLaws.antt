-- Parameters that are seen one after another, each with its slot.
use Rattle.std.proofs.Common.{◌≡◌, ℕ, zero, suc, ◌+◌, ◌<◌, List, [], ◌∷◌, ◌++◌, length, get_or, take, ap, sym, ◌∙◌, arith, append_assoc}
use Rattle.std.specs.List.{enumerate_from}
use Rattle.ode_value.specs.declared.binding.Param.{Param}

enumerate_more : (xs : List Param) (n i : ℕ) (d : Param) → i < length xs → enumerate_from n (take (i + 1) xs) ≡ enumerate_from n (take i xs) ++ (n + i, get_or xs i d) ∷ []
enumerate_more [] n i d h = absurd (omega arith)
enumerate_more (y ∷ ys) n zero d h = let same : n ≡ n + 0 = omega arith in ap (λ (m : ℕ). (m, y) ∷ []) same
enumerate_more (y ∷ ys) n (suc i) d h =
    let next : suc i + 1 ≡ suc (i + 1) = omega arith in
    let place : n + 1 + i ≡ n + suc i = omega arith in
    ap (λ (m : ℕ). enumerate_from n (take m (y ∷ ys))) next ∙ ap (λ (ls : List (ℕ × Param)). (n, y) ∷ ls) (enumerate_more ys (n + 1) i d (omega arith))
    ∙ ap (λ (m : ℕ). (n, y) ∷ enumerate_from (n + 1) (take i ys) ++ (m, get_or ys i d) ∷ []) place

pub seen_more : (old new front : List (ℕ × Param)) (xs : List Param) (n i slot : ℕ) (x item : Param)
    → new ≡ front ++ (slot, x) ∷ [] → front ≡ old ++ enumerate_from n (take i xs) → slot ≡ n + i → x ≡ item → item ≡ get_or xs i item → i < length xs
    → new ≡ old ++ enumerate_from n (take (i + 1) xs)
seen_more old new front xs n i slot x item pushed so place copied is low =
    let last : (slot, x) ∷ [] ≡ (n + i, get_or xs i item) ∷ [] = ap (λ (m : ℕ). (m, x) ∷ []) place ∙ ap (λ (p : Param). (n + i, p) ∷ []) (copied ∙ is) in
    pushed ∙ ap (λ (ls : List (ℕ × Param)). ls ++ (slot, x) ∷ []) so ∙ append_assoc old (enumerate_from n (take i xs)) ((slot, x) ∷ [])
    ∙ ap (λ (ls : List (ℕ × Param)). old ++ (enumerate_from n (take i xs) ++ ls)) last ∙ ap (λ (ls : List (ℕ × Param)). old ++ ls) (sym (enumerate_more xs n i item low))
