-- Added fields, one behind the other.
use Rattle.std.proofs.Common.{◌≡◌, ◌<◌, ◌≤◌, ℕ, ◌+◌, List, [], ◌∷◌, ◌++◌, map, length, drop, get_or, append_assoc, append-nil, length-append, sym, ◌∙◌, ap}
use Rattle.std.specs.List.{enumerate_from}
use Rattle.ode_value.specs.declared.change.Added.{Added}
use Rattle.ode_value.specs.declared.statement.Sort.{Sort}
use Rattle.ode_value.specs.declared.value.Value.{Value}
use Rattle.ode_value.specs.Changing.{added_as}
use Rattle.ode_types.proofs.TurnLaws.{drop_all, drop_at}
use Rattle.ode_evolve.specs.Evolving.{born}

abbrev Fields : Type 0
Fields = List (List ℕ × Sort × Value)

-- one field more
pub born_next : (class : ℕ) (whole all new : List Added) (fields : Fields) (i birth : ℕ) (f : List ℕ × Sort × Value) (x : Added) → i < length fields → f ≡ get_or fields i f
    → whole ≡ all ++ born class all (drop i fields) → birth ≡ length all + 1 → x ≡ added_as class (birth, f) → new ≡ all ++ x ∷ []
    → whole ≡ new ++ born class new (drop (i + 1) fields)
born_next class whole all new fields i birth f x low is so number made grown =
    let rest = drop (i + 1) fields in
    let left : drop i fields ≡ f ∷ rest = drop_at fields i f low ∙ ap (λ y. y ∷ rest) (sym is) in
    let here : added_as class (length all + 1, f) ≡ x = ap (λ n. added_as class (n, f)) (sym number) ∙ sym made in
    let behind = map (added_as class) (enumerate_from (length all + 1 + 1) rest) in
    let long : length all + 1 ≡ length new = sym (ap length grown ∙ length-append all (x ∷ [])) in
    so ∙ ap (λ fs. all ++ born class all fs) left ∙ ap (λ y. all ++ y ∷ behind) here ∙ sym (append_assoc all (x ∷ []) behind)
    ∙ ap (λ zs. zs ++ behind) (sym grown) ∙ ap (λ n. new ++ map (added_as class) (enumerate_from (n + 1) rest)) long

-- and none
pub born_all : (class : ℕ) (whole all : List Added) (fields : Fields) (i : ℕ) → length fields ≤ i → whole ≡ all ++ born class all (drop i fields) → all ≡ whole
born_all class whole all fields i low so = sym (so ∙ ap (λ fs. all ++ born class all fs) (drop_all fields i low) ∙ append-nil all)
