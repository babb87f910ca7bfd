-- Activations of triggers that see whole histories go on alone.
use Rattle.std.proofs.Common.{◌≡◌, ◌+◌, ◌<◌, ◌≤◌, ℕ, List, [], ◌∷◌, map, Bool, true, false, cond, drop, get_or, length, refl, sym, ap, ◌∙◌}
use Rattle.std.proofs.lemmas.List.{drop_more}
use Rattle.std.proofs.Math.ListN.{drop_of_length-le}
use Rattle.std.specs.List.{filter}
use Rattle.ode_run.specs.Wholes.{merged, standing_as}
use Rattle.ode_types.specs.declared.running.Running.{Running}

-- one after another
module _ (test : Running → Bool) where
  no_others : (there : List Running) → merged test there [] ≡ there
  no_others [] = refl
  no_others (a ∷ there) = refl

  pub none_left : (a : Running) (rest others : List Running) (at : ℕ) → length others ≤ at → merged test (a ∷ rest) (drop at others) ≡ a ∷ merged test rest (drop at others)
  none_left a rest others at less =
      let none : drop at others ≡ [] = drop_of_length-le others less in
      ap (merged test (a ∷ rest)) none ∙ ap (λ (l : List Running). a ∷ l) (sym (no_others rest)) ∙ ap (λ (l : List Running). a ∷ merged test rest l) (sym none)

  next_is : (a w : Running) (rest others : List Running) → test a ≡ true → merged test (a ∷ rest) (w ∷ others) ≡ standing_as w a ∷ merged test rest others
  next_is a w rest others is = ap (λ b. cond b (standing_as w a ∷ merged test rest others) (a ∷ merged test rest (w ∷ others))) is

  pub next_stands : (a b w : Running) (rest others : List Running) (at : ℕ) → at < length others → w ≡ get_or others at w → test a ≡ true → b ≡ standing_as w a
      → merged test (a ∷ rest) (drop at others) ≡ b ∷ merged test rest (drop (at + 1) others)
  next_stands a b w rest others at within is passes stands =
      let split : drop at others ≡ w ∷ drop (at + 1) others = drop_more others at w within ∙ ap (λ (u : Running). u ∷ drop (at + 1) others) (sym is) in
      ap (merged test (a ∷ rest)) split ∙ next_is a w rest (drop (at + 1) others) passes ∙ ap (λ (c : Running). c ∷ merged test rest (drop (at + 1) others)) (sym stands)

  stays : (a : Running) (rest others : List Running) → test a ≡ false → merged test (a ∷ rest) others ≡ a ∷ merged test rest others
  stays a rest [] is = ap (λ (l : List Running). a ∷ l) (sym (no_others rest))
  stays a rest (w ∷ others) is = ap (λ b. cond b (standing_as w a ∷ merged test rest others) (a ∷ merged test rest (w ∷ others))) is

  pub others_stay : (a : Running) (rest others : List Running) (at : ℕ) → test a ≡ false → merged test (a ∷ rest) (drop at others) ≡ a ∷ merged test rest (drop at others)
  others_stay a rest others at is = stays a rest (drop at others) is

-- a change of states, and of what is on, alone
abbrev pub KeepsParts : (Running → Running) → Type 0
KeepsParts f = (r : Running) → standing_as (f r) r ≡ f r

module _ (test : Running → Bool) (f : Running → Running) (keeps : KeepsParts f) where
  pub merged_map : (there : List Running) → merged test there (map f (filter test there)) ≡ map (λ a. cond (test a) (f a) a) there
  merged_map [] = refl
  merged_map (a ∷ there) = by_test (test a) refl (merged_map there) where
    by_test : (b : Bool) → test a ≡ b → merged test there (map f (filter test there)) ≡ map (λ c. cond (test c) (f c) c) there
        → merged test (a ∷ there) (map f (cond b (a ∷ filter test there) (filter test there))) ≡ cond b (f a) a ∷ map (λ c. cond (test c) (f c) c) there
    by_test true is same =
        next_is test a (f a) there (map f (filter test there)) is ∙ ap (λ (r : Running). r ∷ merged test there (map f (filter test there))) (keeps a) ∙ ap (λ (l : List Running). f a ∷ l) same
    by_test false is same = stays test a there (map f (filter test there)) is ∙ ap (λ (l : List Running). a ∷ l) same
