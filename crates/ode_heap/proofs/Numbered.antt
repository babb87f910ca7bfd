-- What stands under the numbers of objects, versions and activations.
use Rattle.std.proofs.Common.{◌≡◌, ℕ, ◌+◌, ◌<◌, ◌≤◌, List, [], ◌∷◌, ◌++◌, map, Bool, true, false, cond, Option, Some, None, refl, ap, subst, ◌∙◌, arith}
use Rattle.std.specs.Prelude.{◌==◌}
use Rattle.std.specs.BTreeMap.{is_at}
use Rattle.std.specs.List.{AllByRecursion, flat_map}
use Rattle.std.specs.Option.{option_map_or}
use Rattle.std.proofs.lemmas.Bool.Decides.{nat_tests}
use Rattle.ode_keep.specs.Entries.{Entries, value_under}
use Rattle.ode_value.specs.Denoting.{object_numbered}
use Rattle.ode_value.specs.GoodWorlds.{RiseFrom}
use Rattle.ode_value.specs.Keys.{key_cmp}
use Rattle.ode_value.specs.Records.{Row}
use Rattle.ode_value.specs.Worlds.{Object}
use Rattle.ode_value.specs.declared.key.Key.{Key}
use Rattle.ode_heap.specs.Answers.{Found, ◌>>=◌}
use Rattle.ode_heap.specs.Answers.{There}
use Rattle.ode_heap.specs.Walking.{collected, is_from}

abbrev pub id_of : Object → ℕ
id_of o = o.id

-- what holds of all holds of the one with a number, which it has
pub numbered_all : (P : Object → Type 0) (os : List Object) (id : ℕ) (o : Object) → AllByRecursion P os → object_numbered id os ≡ Some o → P o
numbered_all P [] id o all is = absurd (cc)
numbered_all P (p ∷ ps) id o all is = step (p.id == id) is (numbered_all P ps id o all.1)
  where
    step : (b : Bool) → cond b (Some p) (object_numbered id ps) ≡ Some o → (object_numbered id ps ≡ Some o → P o) → P o
    step true is more = let same : p ≡ o = cc in subst P same all.0
    step false is more = more is

pub numbered_is : (os : List Object) (id : ℕ) (o : Object) → object_numbered id os ≡ Some o → o.id ≡ id
numbered_is [] id o is = absurd (cc)
numbered_is (p ∷ ps) id o is = step (p.id == id) refl is (numbered_is ps id o)
  where
    step : (b : Bool) → (p.id == id) ≡ b → cond b (Some p) (object_numbered id ps) ≡ Some o → (object_numbered id ps ≡ Some o → o.id ≡ id) → o.id ≡ id
    step true here is more = let same : p ≡ o = cc in subst (λ (q : Object). q.id ≡ id) same (grind (arith, nat_tests))
    step false here is more = more is

-- no object of a lower number stands among higher ones
pub none_numbered : (os : List Object) (id low : ℕ) → id < low → RiseFrom low (map id_of os) → object_numbered id os ≡ None
none_numbered [] id low less rise = refl
none_numbered (o ∷ os) id low less rise =
    let out : (o.id == id) ≡ false = let le = rise.0 in grind (arith, nat_tests) in
    let le : low ≤ o.id = rise.0 in
    let less_next : id < o.id + 1 = omega arith in
    ap (λ b. cond b (Some o) (object_numbered id os)) out ∙ none_numbered os id (o.id + 1) less_next rise.1

-- ---- values under keys, where each object has records of its own

abbrev pub or_else : Option (List ℕ) → Option (List ℕ) → Option (List ℕ)
or_else None o = o
or_else (Some v) o = Some v

or_cond : (b : Bool) (v : List ℕ) (m o : Option (List ℕ)) → cond b (Some v) (or_else m o) ≡ or_else (cond b (Some v) m) o
or_cond true v m o = refl
or_cond false v m o = refl

pub value_append : (es rest : Entries) (k : Key) → value_under (es ++ rest) k ≡ or_else (value_under es k) (value_under rest k)
value_append [] rest k = refl
value_append (e ∷ es) rest k =
    ap (λ (o : Option (List ℕ)). cond (is_at (key_cmp k) e.0) (Some e.1) o) (value_append es rest k) ∙ or_cond (is_at (key_cmp k) e.0) e.1 (value_under es k) (value_under rest k)

-- ---- records of one object that are collected

module _ (Y : Type 0) (take : Key → List ℕ → Found Y) (kind id : ℕ) where
  abbrev test : Key → Bool
  test = is_from kind id 0

  abbrev turn : Row → Found (List Y) → Found (List Y)
  turn e more = take e.0 e.1 >>= λ y. more >>= λ ys. There (y ∷ ys)

  abbrev pub Outside : List Row → Type 0
  Outside es = AllByRecursion (λ (e : Row). test e.0 ≡ false) es

  passed_over : (es rest : List Row) → Outside es → collected test take (es ++ rest) ≡ collected test take rest
  passed_over [] rest out = refl
  passed_over (e ∷ es) rest out =
      ap (λ b. cond b (turn e (collected test take (es ++ rest))) (collected test take (es ++ rest))) out.0 ∙ passed_over es rest out.1

  -- records that are all taken, in front of others
  module _ (Z : Type 0) (row : Z → Row) (g : Z → Y) where
    pub all_taken : (zs : List Z) (rest : List Row) → AllByRecursion (λ z. (test (row z).0 ≡ true) × (take (row z).0 (row z).1 ≡ There (g z))) zs → collected test take rest ≡ There []
        → collected test take (map row zs ++ rest) ≡ There (map g zs)
    all_taken [] rest all none = none
    all_taken (z ∷ zs) rest all none =
        ap (λ b. cond b (turn (row z) (collected test take (map row zs ++ rest))) (collected test take (map row zs ++ rest))) all.0.0
        ∙ ap (λ (f : Found (List Y)). turn (row z) f) (all_taken zs rest all.1 none)
        ∙ ap (λ (f : Found Y). f >>= λ y. There (y ∷ map g zs)) all.0.1

  module _ (Z : Type 0) (parts : Object → List Z) (row : Object → Z → Row) (g : Object → Z → Y)
      (keyed : (o : Object) (z : Z) → (o.id == id) ≡ false → test (row o z).0 ≡ false) where
    abbrev rows_in : Object → List Row
    rows_in o = map (row o) (parts o)

    abbrev pub AreTaken : Object → Type 0
    AreTaken o = o.id ≡ id → AllByRecursion (λ z. (test (row o z).0 ≡ true) × (take (row o z).0 (row o z).1 ≡ There (g o z))) (parts o)

    outside : (o : Object) (zs : List Z) → (o.id == id) ≡ false → Outside (map (row o) zs)
    outside o [] apart = tt
    outside o (z ∷ zs) apart = (keyed o z apart, outside o zs apart)

    none_above : (os : List Object) (low : ℕ) → id < low → RiseFrom low (map id_of os) → collected test take (flat_map rows_in os) ≡ There []
    none_above [] low less rise = refl
    none_above (o ∷ os) low less rise =
        let le : low ≤ o.id = rise.0 in
        let apart : (o.id == id) ≡ false = grind (arith, nat_tests) in
        let less_next : id < o.id + 1 = omega arith in
        passed_over (rows_in o) (flat_map rows_in os) (outside o (parts o) apart) ∙ none_above os (o.id + 1) less_next rise.1

    abbrev gives : Option Object → List Y
    gives o = option_map_or (λ (p : Object). map (g p) (parts p)) o []

    step : (o : Object) (os : List Object) → RiseFrom (o.id + 1) (map id_of os) → AreTaken o → collected test take (flat_map rows_in os) ≡ There (gives (object_numbered id os))
        → (b : Bool) → (o.id == id) ≡ b → collected test take (rows_in o ++ flat_map rows_in os) ≡ There (gives (cond b (Some o) (object_numbered id os)))
    step o os rise own more true is =
        let same : o.id ≡ id = grind (arith, nat_tests) in
        let less : id < o.id + 1 = omega arith in
        all_taken Z (row o) (g o) (parts o) (flat_map rows_in os) (own same) (none_above os (o.id + 1) less rise)
    step o os rise own more false is = passed_over (rows_in o) (flat_map rows_in os) (outside o (parts o) is) ∙ more

    -- the records of one object, of all that objects have
    pub one_object : (os : List Object) (low : ℕ) → RiseFrom low (map id_of os) → AllByRecursion AreTaken os
        → collected test take (flat_map rows_in os) ≡ There (gives (object_numbered id os))
    one_object [] low rise all = refl
    one_object (o ∷ os) low rise all = step o os rise.1 all.0 (one_object os (o.id + 1) rise.1 all.1) (o.id == id) refl
