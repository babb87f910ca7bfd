-- Touched objects and deferred firings, by places.
use Rattle.std.proofs.Common.{◌≡◌, ◌+◌, ◌-◌, ◌≤◌, ℕ, zero, suc, List, [], ◌∷◌, ◌++◌, drop, length, map, Some, None, refl, sym, ap, ◌∙◌, arith}
use Rattle.std.specs.Prelude.{slice_get}
use Rattle.std.specs.Option.{option_map}
use Rattle.ode_interpreter.specs.Seen.{firing}
use Rattle.ode_known_laws.specs.Knowing.{declared_in}
use Rattle.ode_laws.specs.Alike.{NumberTx, NumberWorld}
use Rattle.ode_overlay.specs.Layers.{Layer}
use Rattle.ode_run.specs.Knowing.{beside, deferred_as}
use Rattle.ode_schema.specs.Parts.{trigger_of}
use Rattle.ode_states.specs.declared.fired.Fired.{Fired}
use Rattle.ode_value.specs.Acts.{Done, reads}
use Rattle.ode_value.specs.Completing.{rounds}
use Rattle.ode_value.specs.Limits.{budget_limit, cascade_limit}
use Rattle.ode_value.specs.Worlds.{Declared}
use Rattle.ode_value.specs.declared.class.Class.{Class}
use Rattle.ode_view_laws.specs.Viewing.{running}

-- ---- members in order

pub one_more : (ids xs : List ℕ) (id : ℕ) → ids ++ drop (length ids) xs ≡ xs → slice_get xs (length ids) ≡ Some id → (ids ++ id ∷ []) ++ drop (length (ids ++ id ∷ [])) xs ≡ xs
one_more [] [] id is get = absurd (cc get)
one_more [] (x ∷ xs) id is get = let e : x ≡ id = cc get in ap (λ i. i ∷ xs) (sym e)
one_more (i ∷ ids) [] id is get = absurd (cc is)
one_more (i ∷ ids) (x ∷ xs) id is get =
    let e : i ≡ x = cc is in
    let es : ids ++ drop (length ids) xs ≡ xs = cc is in
    ap (λ ys. i ∷ ys) (one_more ids xs id es get) ∙ ap (λ j. j ∷ xs) e

pub all_there : (ids xs : List ℕ) → ids ++ drop (length ids) xs ≡ xs → slice_get xs (length ids) ≡ None → ids ≡ xs
all_there [] [] is get = refl
all_there [] (x ∷ xs) is get = absurd (cc get)
all_there (i ∷ ids) [] is get = absurd (cc is)
all_there (i ∷ ids) (x ∷ xs) is get =
    let e : i ≡ x = cc is in
    let es : ids ++ drop (length ids) xs ≡ xs = cc is in
    ap (λ ys. i ∷ ys) (all_there ids xs es get) ∙ ap (λ j. j ∷ xs) e

map_at : {X Y : Type 0} (f : X → Y) (xs : List X) (n : ℕ) → slice_get (map f xs) n ≡ option_map f (slice_get xs n)
map_at f [] n = refl
map_at f (x ∷ xs) zero = refl
map_at f (x ∷ xs) (suc n) = map_at f xs n

-- ---- rounds and deferred firings

module _ (all : List Declared) (first : NumberWorld) (x : Layer) (deferred : List (ℕ × Fired)) (text : List ℕ) (left : ℕ) where
  abbrev now : NumberTx
  now = running all first x (beside first deferred text left)

  pub rounds_are : (n : ℕ) → left ≤ budget_limit → n ≡ left + length x.touched + cascade_limit → reads rounds now ≡ Done n now
  rounds_are n few is =
      let e : (budget_limit - (budget_limit - left)) + length x.touched + cascade_limit ≡ n = omega (arith, few, is) in
      ap (λ m. Done m now) e

  pub none_deferred : (at : ℕ) → slice_get deferred at ≡ None → reads (λ y. slice_get y.deferred at) now ≡ Done None now
  none_deferred at is = ap (λ f. Done f now) (map_at (deferred_as (declared_in first)) deferred at ∙ ap (option_map (deferred_as (declared_in first))) is)

  pub deferred_is : (classes : List Class) → classes ≡ declared_in first → (at object : ℕ) (f : Fired) → slice_get deferred at ≡ Some (object, f)
      → reads (λ y. slice_get y.deferred at) now
      ≡ Done (Some (firing (trigger_of classes) (record { object = object; activation = f.activation; trigger = record { class = f.class; place = f.trigger }; args = f.args }))) now
  deferred_is classes same at object f is =
      ap (λ q. Done q now) (map_at (deferred_as (declared_in first)) deferred at ∙ ap (option_map (deferred_as (declared_in first))) is)
      ∙ ap (λ (cs : List Class). Done (Some (deferred_as cs (object, f))) now) (sym same)
