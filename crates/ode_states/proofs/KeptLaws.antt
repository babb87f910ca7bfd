-- What is kept of activations by number, and the activations themselves, are found by the number.
use Rattle.std.proofs.Common.{◌≡◌, ℕ, ◌+◌, ◌<◌, ◌≤◌, Bool, true, false, cond, List, [], ◌∷◌, ◌++◌, map, ◌==◌, ◌||◌, Option, Some, refl, sym, ap, ◌∙◌, subst, arith, append_assoc}
use Rattle.std.specs.List.{AllByRecursion, find, list_any}
use Rattle.std.proofs.lemmas.Bool.{eq-eqb, ne_eqb}
use Rattle.ode_value.specs.GoodWorlds.{RiseFrom}
use Rattle.ode_value.specs.Objects.{Activation}
use Rattle.ode_value.specs.Worlds.{kept_at}
use Rattle.ode_types.specs.declared.running.Running.{Running}
use Rattle.ode_states.specs.Machine.{activation_of, row_of}
use Rattle.ode_states.proofs.PlacedLaws.{each_as, each_append}

pub each_both : {X : Type 0} (P Q R : X → Type 0) (xs : List X) → ((x : X) → P x → Q x → R x) → AllByRecursion P xs → AllByRecursion Q xs → AllByRecursion R xs
each_both P Q R [] both each more = tt
each_both P Q R (x ∷ xs) both each more = (both x each.0 more.0, each_both P Q R xs both each.1 more.1)

pub map_alike : {A B : Type 0} (f g : A → B) (xs : List A) → AllByRecursion (λ x. f x ≡ g x) xs → map f xs ≡ map g xs
map_alike f g [] alike = refl
map_alike {B = B} f g (x ∷ xs) alike = ap (λ (y : B). y ∷ map f xs) alike.0 ∙ ap (λ (l : List B). g x ∷ l) (map_alike f g xs alike.1)

-- what a search finds passes, and then some element does
find_more : {X : Type 0} (b : Bool) (test : X → Bool) (x y : X) (xs : List X) → test y ≡ b → (find test xs ≡ Some x → test x ≡ true) → cond b (Some y) (find test xs) ≡ Some x → test x ≡ true
find_more true test x y xs is later found = let same : y ≡ x = cc in ap test (sym same) ∙ is
find_more false test x y xs is later found = later found

pub find_passes : {X : Type 0} (test : X → Bool) (xs : List X) (x : X) → find test xs ≡ Some x → test x ≡ true
find_passes test [] x found = absurd (cc)
find_passes test (y ∷ xs) x found = find_more (test y) test x y xs refl (find_passes test xs x) found

any_more : {X : Type 0} (b : Bool) (test : X → Bool) (x y : X) (xs : List X) → (find test xs ≡ Some x → list_any test xs ≡ true) → cond b (Some y) (find test xs) ≡ Some x → (b || list_any test xs) ≡ true
any_more true test x y xs later found = refl
any_more false test x y xs later found = later found

pub find_any : {X : Type 0} (test : X → Bool) (xs : List X) (x : X) → find test xs ≡ Some x → list_any test xs ≡ true
find_any test [] x found = absurd (cc)
find_any test (y ∷ xs) x found = any_more (test y) test x y xs (find_any test xs x) found

-- one more activation behind those below a number
module _ (front : List Running) (a : Running) (low : ℕ) (below : AllByRecursion (λ (b : Running). b.id < low) front) (up : low ≤ a.id) where
  pub below_it : AllByRecursion (λ (b : Running). b.id < a.id) front
  below_it = each_as (λ (b : Running). b.id < low) (λ (b : Running). b.id < a.id) front (λ b less. omega arith) below

  pub below_next : AllByRecursion (λ (b : Running). b.id < a.id + 1) (front ++ a ∷ [])
  below_next =
      each_append (λ (b : Running). b.id < a.id + 1) front (a ∷ [])
      (each_as (λ (b : Running). b.id < low) (λ (b : Running). b.id < a.id + 1) front (λ b less. omega arith) below) (omega arith, tt)

module _ {K : Type 0} (kept : Running → K) where
  kept_behind : (n : ℕ) (front rest : List Running) → AllByRecursion (λ (b : Running). b.id < n) front → kept_at n (map (row_of kept) (front ++ rest)) ≡ kept_at n (map (row_of kept) rest)
  kept_behind n [] rest below = refl
  kept_behind n (b ∷ front) rest below =
      let less : b.id < n = below.0 in
      ap (λ t. cond t (Some (kept b)) (kept_at n (map (row_of kept) (front ++ rest)))) (ne_eqb b.id n (λ e. omega arith)) ∙ kept_behind n front rest below.1

  kept_from : (front acts : List Running) (low : ℕ) → AllByRecursion (λ (b : Running). b.id < low) front → RiseFrom low (map (λ (a : Running). a.id) acts)
      → AllByRecursion (λ a. kept_at a.id (map (row_of kept) (front ++ acts)) ≡ Some (kept a)) acts
  kept_from front [] low below rising = tt
  kept_from front (a ∷ acts) low below rising = (
    kept_behind a.id front (a ∷ acts) (below_it front a low below rising.0)
        ∙ ap (λ t. cond t (Some (kept a)) (kept_at a.id (map (row_of kept) acts))) (eq-eqb a.id a.id refl),
    subst (λ l. AllByRecursion (λ b. kept_at b.id (map (row_of kept) l) ≡ Some (kept b)) acts) (append_assoc front (a ∷ []) acts)
        (kept_from (front ++ a ∷ []) acts (a.id + 1) (below_next front a low below rising.0) rising.1),
  )

  pub kept_each : (acts : List Running) → RiseFrom 0 (map (λ (a : Running). a.id) acts) → AllByRecursion (λ a. kept_at a.id (map (row_of kept) acts) ≡ Some (kept a)) acts
  kept_each acts rising = kept_from [] acts 0 tt rising

-- the activation of a number
abbrev pub numbered : ℕ → List Activation → Option Activation
numbered n acts = find (λ (a : Activation). a.number == n) acts

found_behind : (n : ℕ) (front rest : List Running) → AllByRecursion (λ (b : Running). b.id < n) front → numbered n (map activation_of (front ++ rest)) ≡ numbered n (map activation_of rest)
found_behind n [] rest below = refl
found_behind n (b ∷ front) rest below =
    let less : b.id < n = below.0 in
    ap (λ t. cond t (Some (activation_of b)) (numbered n (map activation_of (front ++ rest)))) (ne_eqb b.id n (λ e. omega arith)) ∙ found_behind n front rest below.1

found_from : (front acts : List Running) (low : ℕ) → AllByRecursion (λ (b : Running). b.id < low) front → RiseFrom low (map (λ (a : Running). a.id) acts)
    → AllByRecursion (λ a. numbered a.id (map activation_of (front ++ acts)) ≡ Some (activation_of a)) acts
found_from front [] low below rising = tt
found_from front (a ∷ acts) low below rising = (
  found_behind a.id front (a ∷ acts) (below_it front a low below rising.0)
      ∙ ap (λ t. cond t (Some (activation_of a)) (numbered a.id (map activation_of acts))) (eq-eqb a.id a.id refl),
  subst (λ l. AllByRecursion (λ b. numbered b.id (map activation_of l) ≡ Some (activation_of b)) acts) (append_assoc front (a ∷ []) acts)
      (found_from (front ++ a ∷ []) acts (a.id + 1) (below_next front a low below rising.0) rising.1),
)

pub found_each : (acts : List Running) → RiseFrom 0 (map (λ (a : Running). a.id) acts) → AllByRecursion (λ a. numbered a.id (map activation_of acts) ≡ Some (activation_of a)) acts
found_each acts rising = found_from [] acts 0 tt rising
