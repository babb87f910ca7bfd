-- Keys stay in their places.
use Rattle.std.proofs.Common.{◌≡◌, List, [], ◌∷◌, length, refl, ap, ◌∙◌, arith}
use Rattle.std.proofs.lemmas.Bool.Decides.{nat_tests}
use Rattle.std.specs.List.{AllByRecursion, fold}
use Rattle.std.specs.Ordering.{match_ordering}
use Rattle.std.specs.declared.cmp.Ordering.{Ordering}
use Rattle.std.specs.declared.cmp.Ordering.TheVariants.{Less, Equal, Greater}
use Rattle.ode_key_laws.specs.Keys.{IsHeld}
use Rattle.ode_value.specs.Changes.{with_key}
use Rattle.ode_value.specs.Keys.{key_cmp}
use Rattle.ode_value.specs.declared.key.Key.{Key}

itself : (k : Key) → key_cmp k k ≡ Equal
itself k = grind (arith, nat_tests)

past_less : (j k l : Key) → key_cmp j l ≡ Less → key_cmp k l ≡ Equal → key_cmp k j ≡ Greater
past_less j k l less same = grind (arith, nat_tests)

past_both : (j k l : Key) → key_cmp j l ≡ Less → key_cmp k l ≡ Greater → key_cmp k j ≡ Greater
past_both j k l less more = grind (arith, nat_tests)

tail_of : List Key → List Key
tail_of [] = []
tail_of (k ∷ ks) = ks

abbrev put : Key → Key → List Key → Ordering → List Key
put k l ls o = match_ordering o (k ∷ l ∷ ls) (l ∷ ls) (l ∷ with_key ls k)

no_longer : (k : Key) (ks : List Key) → k ∷ ks ≡ ks → ⊥
no_longer k ks is = absurd (omega (arith, ap length is))

-- ---- one that is put stands there

pub put_held : (k : Key) (ks : List Key) → IsHeld (with_key ks k) k
put_held k [] = ap (put k k []) (itself k)
put_held k (l ∷ ls) = by_order (key_cmp k l) refl (put_held k ls) where
  by_order : (o : Ordering) → key_cmp k l ≡ o → IsHeld (with_key ls k) k → IsHeld (match_ordering o (k ∷ l ∷ ls) (l ∷ ls) (l ∷ with_key ls k)) k
  by_order Less is rest = ap (put k k (l ∷ ls)) (itself k)
  by_order Equal is rest = ap (put k l ls) is
  by_order Greater is rest = ap (put k l (with_key ls k)) is ∙ ap (λ (ks : List Key). l ∷ ks) rest

-- ---- and stays there

pub held_stays : (k j : Key) (ks : List Key) → IsHeld ks k → IsHeld (with_key ks j) k
unfolding tail_of
held_stays k j [] held = absurd (no_longer k [] held)
held_stays k j (l ∷ ls) held = by_orders (key_cmp k l) refl held (key_cmp j l) refl (held_stays k j ls) where
  by_orders : (o : Ordering) → key_cmp k l ≡ o → put k l ls o ≡ l ∷ ls → (p : Ordering) → key_cmp j l ≡ p → (IsHeld ls k → IsHeld (with_key ls j) k) → IsHeld (put j l ls p) k
  by_orders Less is there p e rest = absurd (no_longer k (l ∷ ls) there)
  by_orders Equal is there Less e rest = ap (put k j (l ∷ ls)) (past_less j k l e is) ∙ ap (λ (ks : List Key). j ∷ ks) (ap (put k l ls) is)
  by_orders Equal is there Equal e rest = ap (put k l ls) is
  by_orders Equal is there Greater e rest = ap (put k l (with_key ls j)) is
  by_orders Greater is there Less e rest = ap (put k j (l ∷ ls)) (past_both j k l e is) ∙ ap (λ (ks : List Key). j ∷ ks) (ap (put k l ls) is ∙ there)
  by_orders Greater is there Equal e rest = ap (put k l ls) is ∙ there
  by_orders Greater is there Greater e rest = ap (put k l (with_key ls j)) is ∙ ap (λ (ks : List Key). l ∷ ks) (rest (ap (λ (ks : List Key). tail_of ks) there))

-- ---- many

pub held_stays_all : (k : Key) (js ks : List Key) → IsHeld ks k → IsHeld (fold with_key ks js) k
held_stays_all k [] ks held = held
held_stays_all k (j ∷ js) ks held = held_stays_all k js (with_key ks j) (held_stays k j ks held)

pub all_stay : (ls js ks : List Key) → AllByRecursion (IsHeld ks) ls → AllByRecursion (IsHeld (fold with_key ks js)) ls
all_stay [] js ks all = tt
all_stay (l ∷ ls) js ks all = (held_stays_all l js ks all.0, all_stay ls js ks all.1)

pub all_put : (js ks : List Key) → AllByRecursion (IsHeld (fold with_key ks js)) js
all_put [] ks = tt
all_put (j ∷ js) ks = (held_stays_all j js (with_key ks j) (put_held j ks), all_put js (with_key ks j))

pub none_more : (js ks : List Key) → AllByRecursion (IsHeld ks) js → fold with_key ks js ≡ ks
none_more [] ks all = refl
none_more (j ∷ js) ks all = ap (λ ls. fold with_key ls js) all.0 ∙ none_more js ks all.1
