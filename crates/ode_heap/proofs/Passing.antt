-- What is read under keys that pass a test is read of the records whose keys pass it.
use Rattle.std.proofs.Common.{◌≡◌, ℕ, List, [], ◌∷◌, Bool, true, false, cond, refl, sym, ap, ◌∙◌}
use Rattle.std.specs.BTreeMap.{is_at}
use Rattle.std.specs.List.{filter}
use Rattle.std.proofs.lemmas.Map.Entries.{lookup-filter-keys}
use Rattle.ode_keep.specs.Entries.{Entries, value_under}
use Rattle.ode_value.specs.Keys.{key_cmp}
use Rattle.ode_value.specs.Records.{Row}
use Rattle.ode_value.specs.declared.key.Key.{Key}
use Rattle.ode_heap.specs.Answers.{Found, ◌>>=◌}
use Rattle.ode_heap.specs.Answers.{There}
use Rattle.ode_heap.specs.Walking.{collected}

module _ (p : Key → Bool) where
  abbrev pub those : Entries → Entries
  those es = filter (λ e. p e.0) es

  pub value_of_those : (k : Key) → ((q : Key) → is_at (key_cmp k) q ≡ true → p q ≡ true) → (es : Entries) → value_under (those es) k ≡ value_under es k
  value_of_those k inside es = lookup-filter-keys (is_at (key_cmp k)) p true inside es

  module _ (X : Type 0) (test : Key → Bool) (take : Key → List ℕ → Found X) (inside : (q : Key) → test q ≡ true → p q ≡ true) where
    abbrev turn : Row → Found (List X) → Found (List X)
    turn e more = take e.0 e.1 >>= λ x. more >>= λ xs. There (x ∷ xs)

    outside : (q : Key) → p q ≡ false → (b : Bool) → test q ≡ b → test q ≡ false
    outside q out true here = let inner : p q ≡ true = inside q here in absurd (cc)
    outside q out false here = here

    step : (e : Row) (es : Entries) → collected test take (those es) ≡ collected test take es → (b : Bool) → p e.0 ≡ b
        → collected test take (cond b (e ∷ those es) (those es)) ≡ collected test take (e ∷ es)
    step e es more true is = ap (λ (f : Found (List X)). cond (test e.0) (turn e f) f) more
    step e es more false is = more ∙ sym (ap (λ b. cond b (turn e (collected test take es)) (collected test take es)) (outside e.0 is (test e.0) refl))

    pub collected_of_those : (es : Entries) → collected test take (those es) ≡ collected test take es
    collected_of_those [] = refl
    collected_of_those (e ∷ es) = step e es (collected_of_those es) (p e.0) refl
