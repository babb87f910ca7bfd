-- One record more behind others, in their two pieces of memory.
use Rattle.std.proofs.Common.{◌≡◌, ◌+◌, ◌≤◌, ◌∙◌, ℕ, List, [], ◌∷◌, ◌++◌, take, drop, length, ap, sym, arith, length-append}
use Rattle.std.proofs.Math.Seq.{take-length}
use Rattle.std.proofs.lemmas.List.{drop-append-le, length-drop, take-append-le}
use Rattle.ode_value.specs.declared.key.Key.{Key}
use Rattle.ode_keep.specs.Entries.{Entries}
use Rattle.ode_keep.specs.Spans.{span, spanned}

pub span_more : (ks : List (Key × ℕ)) (k : Key × ℕ) → span (ks ++ k ∷ []) ≡ span ks + k.1
span_more [] k = omega arith
span_more (x ∷ ks) k = omega (arith, span_more ks k)

pub spanned_more : (ks : List (Key × ℕ)) (bytes v : List ℕ) (k : Key) → span ks ≡ length bytes
    → spanned (ks ++ (k, length v) ∷ []) (bytes ++ v) ≡ spanned ks bytes ++ (k, v) ∷ []
spanned_more [] [] v k is = ap (λ (w : List ℕ). (k, w) ∷ []) (take-length v)
spanned_more [] (b ∷ bytes) v k is = absurd (omega (arith, is))
spanned_more (x ∷ ks) bytes v k is =
    let within : x.1 ≤ length bytes = omega (arith, is) in
    let left : span ks ≡ length (drop x.1 bytes) = omega (arith, is, length-drop x.1 bytes) in
    ap (λ (w : List ℕ). (x.0, w) ∷ spanned (ks ++ (k, length v) ∷ []) (drop x.1 (bytes ++ v))) (take-append-le x.1 bytes v within)
    ∙ ap (λ (w : List ℕ). (x.0, take x.1 bytes) ∷ spanned (ks ++ (k, length v) ∷ []) w) (drop-append-le x.1 bytes v within)
    ∙ ap (λ (es : Entries). (x.0, take x.1 bytes) ∷ es) (spanned_more ks (drop x.1 bytes) v k left)

-- a copy of a record behind copies of those before it
pub copied_more : (ks more : List (Key × ℕ)) (bytes all v : List ℕ) (k : Key) (es : Entries) → spanned ks bytes ≡ es → span ks ≡ length bytes
    → more ≡ ks ++ (k, length v) ∷ [] → all ≡ bytes ++ v → (spanned more all ≡ es ++ (k, v) ∷ []) × (span more ≡ length all)
copied_more ks more bytes all v k es same is keys values =
    rw (keys, values) (spanned_more ks bytes v k is ∙ ap (λ (l : Entries). l ++ (k, v) ∷ []) same, span_more ks (k, length v) ∙ ap (λ n. n + length v) is ∙ sym (length-append bytes v))
