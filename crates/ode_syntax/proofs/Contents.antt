-- Contents of texts, byte by byte.
use Rattle.std.proofs.Common.{◌≡◌, ℕ, ◌+◌, List, [], ◌∷◌, ◌++◌, drop, Option, Some, None, refl, ◌∙◌, ap}
use Rattle.std.proofs.lemmas.List.{drop-drop}
use Rattle.ode_lex.specs.Texts.{content, with_front}

-- what a content begins with, and its rest
abbrev pub prefixed : List ℕ → Option (List ℕ × ℕ) → List ℕ
prefixed front None = []
prefixed front (Some rest) = front ++ rest.0

append_nil : (front : List ℕ) → front ++ [] ≡ front
append_nil [] = refl
append_nil (b ∷ front) = ap (λ bs. b ∷ bs) (append_nil front)

moved : (front : List ℕ) (b : ℕ) (rest : List ℕ) → front ++ b ∷ rest ≡ front ++ b ∷ [] ++ rest
moved [] b rest = refl
moved (a ∷ front) b rest = ap (λ bs. a ∷ bs) (moved front b rest)

pub prefixed_more : (front : List ℕ) (b n : ℕ) (rest : Option (List ℕ × ℕ)) → prefixed front (with_front b n rest) ≡ prefixed (front ++ b ∷ []) rest
prefixed_more front b n None = refl
prefixed_more front b n (Some rest) = moved front b rest.0

pub prefixed_spelled : (front : List ℕ) (b n at : ℕ) (bytes : List ℕ) → content (drop at bytes) ≡ with_front b n (content (drop n (drop at bytes)))
    → prefixed front (content (drop at bytes)) ≡ prefixed (front ++ b ∷ []) (content (drop (at + n) bytes))
prefixed_spelled front b n at bytes e =
    ap (prefixed front) e ∙ (prefixed_more front b n (content (drop n (drop at bytes))) ∙ ap (λ bs. prefixed (front ++ b ∷ []) (content bs)) (drop-drop n at bytes))
