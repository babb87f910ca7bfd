-- Activations by their numbers, and their keys.
use Rattle.std.proofs.Common.{◌≡◌, ◌==◌, ℕ, List, [], ◌∷◌, ◌++◌, map, Bool, true, false, cond, refl, sym, ap, subst, ◌∙◌}
use Rattle.std.proofs.lemmas.List.{append-nil, append_assoc, map-append}
use Rattle.std.specs.List.{AllByRecursion}
use Rattle.ode_key_laws.specs.Keys.{AreHeld, Grows, IsHeld, numbers_of}
use Rattle.ode_laws.proofs.Each.{all-append}
use Rattle.ode_objects.specs.Objects.{activation_keys, taken_over, turned_off}
use Rattle.ode_objects.specs.Rewinding.{rewound_active}
use Rattle.ode_objects.specs.declared.object.Active.{Active}
use Rattle.ode_objects.specs.declared.object.Object.{Object}
use Rattle.ode_types.specs.declared.running.Running.{Running}
use Rattle.ode_value.specs.Keys.{activation_key}
use Rattle.ode_value.specs.declared.class.Class.{Class}
use Rattle.ode_value.specs.declared.key.Key.{Key}

-- ---- keys by numbers

keys_by : (id : ℕ) (acts : List Active) → activation_keys id acts ≡ map (activation_key id) (numbers_of acts)
keys_by id [] = refl
keys_by id (a ∷ acts) = ap (λ (ks : List Key). activation_key id a.number ∷ ks) (keys_by id acts)

grown_keys : (id : ℕ) (was now : List Active) (more : List ℕ) → numbers_of now ≡ numbers_of was ++ more → activation_keys id now ≡ activation_keys id was ++ map (activation_key id) more
grown_keys id was now more is =
    keys_by id now ∙ ap (map (activation_key id)) is ∙ map-append (activation_key id) (numbers_of was) more
    ∙ ap (λ (ks : List Key). ks ++ map (activation_key id) more) (sym (keys_by id was))

pub more_held : (id : ℕ) (ks : List Key) (was now : List Active) (more : List ℕ) → numbers_of now ≡ numbers_of was ++ more
    → AreHeld id ks was → AllByRecursion (IsHeld ks) (map (activation_key id) more) → AreHeld id ks now
more_held id ks was now more is all rest =
    subst (AllByRecursion (IsHeld ks)) (sym (grown_keys id was now more is)) (all-append (IsHeld ks) (activation_keys id was) (map (activation_key id) more) all rest)

first_part : (ks ls ms : List Key) → AllByRecursion (IsHeld ks) (ls ++ ms) → AllByRecursion (IsHeld ks) ls
first_part ks [] ms all = tt
first_part ks (l ∷ ls) ms all = (all.0, first_part ks ls ms all.1)

pub fewer_held : (id : ℕ) (ks : List Key) (was now : Object) → Grows was now → AreHeld id ks now.activations → AreHeld id ks was.activations
fewer_held id ks was now grows all =
    first_part ks (activation_keys id was.activations) (map (activation_key id) grows.more)
    (subst (AllByRecursion (IsHeld ks)) (grown_keys id was.activations now.activations grows.more grows.is) all)

-- ---- objects that grow

pub no_more : (was now : List Active) → numbers_of now ≡ numbers_of was → numbers_of now ≡ numbers_of was ++ []
no_more was now same = same ∙ sym (append-nil (numbers_of was))

pub grows_on : (a b c : Object) → Grows a b → Grows b c → Grows a c
grows_on a b c one two = record {
  more = one.more ++ two.more;
  is = two.is ∙ ap (λ (ns : List ℕ). ns ++ two.more) one.is ∙ append_assoc (numbers_of a.activations) one.more two.more;
}

-- ---- numbers that stay the same

pub turned_numbers : (number : ℕ) (acts : List Active) → numbers_of (map (turned_off number) acts) ≡ numbers_of acts
turned_numbers number [] = refl
turned_numbers number (a ∷ acts) =
    ap (λ (n : ℕ). n ∷ numbers_of (map (turned_off number) acts)) (by_test (a.number == number)) ∙ ap (λ (ns : List ℕ). a.number ∷ ns) (turned_numbers number acts) where
      by_test : (b : Bool) → (cond b (record a { on = false }) a).number ≡ a.number
      by_test true = refl
      by_test false = refl

pub taken_numbers : (rs : List Running) (acts : List Active) → numbers_of (taken_over rs acts) ≡ numbers_of acts
taken_numbers [] acts = refl
taken_numbers (r ∷ rs) [] = refl
taken_numbers (r ∷ rs) (a ∷ acts) = ap (λ (ns : List ℕ). a.number ∷ ns) (taken_numbers rs acts)

pub rewound_numbers : (classes : List Class) (now acts : List Active) → numbers_of (map (rewound_active classes now) acts) ≡ numbers_of acts
rewound_numbers classes now [] = refl
rewound_numbers classes now (a ∷ acts) = ap (λ (ns : List ℕ). a.number ∷ ns) (rewound_numbers classes now acts)
