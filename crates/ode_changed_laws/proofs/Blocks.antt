-- The added fields of a world, class by class.
use Rattle.std.proofs.Common.{◌≡◌, ◌<◌, ◌≤◌, ℕ, ◌+◌, Bool, true, false, cond, List, [], ◌∷◌, ◌++◌, length, map, Option, Some, None, Ok, refl, ap, sym, ◌∙◌, subst, arith, length-append}
use Rattle.std.specs.Prelude.{◌==◌, take}
use Rattle.std.specs.List.{flat_map}
use Rattle.std.specs.Option.{IsSome}
use Rattle.std.proofs.lemmas.Bool.{eq-eqb, eqb-true}
use Rattle.std.proofs.lemmas.Bool.Decides.{nat_tests}
use Rattle.std.proofs.lemmas.List.Elements.{filter-append}
use Rattle.ode_changed_laws.specs.Known.{class_by_class}
use Rattle.ode_evolve.specs.Evolving.{change_class, declares_next, knows_field, place_named}
use Rattle.ode_machine.specs.Refusals.{trees_in}
use Rattle.ode_types.specs.Checks.{Check, ◌>>=◌, ◌>>◌, found, through}
use Rattle.ode_types.specs.Static.{check_grown}
use Rattle.ode_value.specs.Changing.{added_by, added_to}
use Rattle.ode_value.specs.GoodWorlds.{AreAdded, AreBones, AreClasses, RiseFrom}
use Rattle.ode_value.specs.Language.{Language}
use Rattle.ode_value.specs.Worlds.{Bones, Declared, class_numbered}
use Rattle.ode_value.specs.declared.change.Added.{Added}
use Rattle.ode_value.specs.declared.change.Change.{Change}
use Rattle.ode_value.specs.declared.class.Class.{Class}
use Rattle.ode_value.specs.declared.reason.CheckError.TheVariants.{UnknownName}
use Rattle.ode_value.specs.declared.statement.ClassDecl.{ClassDecl}

abbrev numbers : List Declared → List ℕ
numbers ds = map (λ (d : Declared). d.class.number) ds

abbrev blocks : List Declared → List Added → List Added
blocks ds added = flat_map (λ (d : Declared). added_to d.class.number added) ds

abbrev is_of : ℕ → Added → Bool
is_of n a = a.class == n

later : (m n : ℕ) → m < n → (n == m) ≡ false
later m n less = grind (arith, nat_tests)

-- ---- classes are numbered one behind the other

pub rise : (l : Language) (added : List Added) (earlier ds : List Declared) (low : ℕ) → low ≤ length earlier + 1 → AreClasses l added earlier ds → RiseFrom low (numbers ds)
rise l added earlier [] low less classes = tt
rise l added earlier (d ∷ ds) low less classes =
    let number : d.class.number ≡ length earlier + 1 = classes.0.number in
    (omega (arith, number, less), rise l added (earlier ++ d ∷ []) ds (d.class.number + 1) (let long = length-append earlier (d ∷ []) in omega (arith, number, long)) classes.1)

-- ---- those of one class among those of one

own-again : (n : ℕ) (added : List Added) → added_to n (added_to n added) ≡ added_to n added
own-again n [] = refl
own-again n (a ∷ added) = by (a.class == n) refl (own-again n added)
  where
    by : (t : Bool) → (a.class == n) ≡ t → added_to n (added_to n added) ≡ added_to n added
        → added_to n (cond t (a ∷ added_to n added) (added_to n added)) ≡ cond t (a ∷ added_to n added) (added_to n added)
    by true is rest = ap (λ (s : Bool). cond s (a ∷ added_to n (added_to n added)) (added_to n (added_to n added))) is ∙ ap (λ (more : List Added). a ∷ more) rest
    by false is rest = rest

others-none : (m n : ℕ) → (m == n) ≡ false → (added : List Added) → added_to n (added_to m added) ≡ []
others-none m n apart [] = refl
others-none m n apart (a ∷ added) = by (a.class == m) refl (others-none m n apart added)
  where
    by : (t : Bool) → (a.class == m) ≡ t → added_to n (added_to m added) ≡ [] → added_to n (cond t (a ∷ added_to m added) (added_to m added)) ≡ []
    by true is rest =
        ap (λ (s : Bool). cond s (a ∷ added_to n (added_to m added)) (added_to n (added_to m added))) (ap (λ (k : ℕ). k == n) (eqb-true a.class m is) ∙ apart) ∙ rest
    by false is rest = rest

-- ---- those of one class among those of all

module _ (n : ℕ) (added : List Added) where
  apart-none : (d : Declared) (ds : List Declared) → (d.class.number == n) ≡ false → added_to n (blocks ds added) ≡ [] → added_to n (blocks (d ∷ ds) added) ≡ []
  apart-none d ds apart rest =
      filter-append (is_of n) (added_to d.class.number added) (blocks ds added)
      ∙ ap (λ (xs : List Added). xs ++ added_to n (blocks ds added)) (others-none d.class.number n apart added) ∙ rest

  later-none : (low : ℕ) (ds : List Declared) → n < low → RiseFrom low (numbers ds) → added_to n (blocks ds added) ≡ []
  later-none low [] less rising = refl
  later-none low (d ∷ ds) less rising =
      apart-none d ds (later n d.class.number (omega (arith, less, rising.0))) (later-none (d.class.number + 1) ds (omega (arith, less, rising.0)) rising.1)

  missing-none : (ds : List Declared) → class_numbered n ds ≡ None → added_to n (blocks ds added) ≡ []
  missing-none [] none = refl
  missing-none (d ∷ ds) none = by (d.class.number == n) refl none (missing-none ds)
    where
      by : (t : Bool) → (d.class.number == n) ≡ t → cond t (Some d.class) (class_numbered n ds) ≡ None → (class_numbered n ds ≡ None → added_to n (blocks ds added) ≡ [])
          → added_to n (blocks (d ∷ ds) added) ≡ []
      by true is gone rest = absurd (cc (gone))
      by false is gone rest = apart-none d ds is (rest gone)

  found-all : (low : ℕ) (ds : List Declared) → RiseFrom low (numbers ds) → (k : Class) → class_numbered n ds ≡ Some k → added_to n (blocks ds added) ≡ added_to n added
  found-all low [] rising k is = absurd (cc (is))
  found-all low (d ∷ ds) rising k is = by (d.class.number == n) refl is (found-all (d.class.number + 1) ds rising.1 k)
    where
      by : (t : Bool) → (d.class.number == n) ≡ t → cond t (Some d.class) (class_numbered n ds) ≡ Some k
          → (class_numbered n ds ≡ Some k → added_to n (blocks ds added) ≡ added_to n added) → added_to n (blocks (d ∷ ds) added) ≡ added_to n added
      by true here one rest =
          let same : d.class.number ≡ n = eqb-true d.class.number n here in
          filter-append (is_of n) (added_to d.class.number added) (blocks ds added)
          ∙ ap (λ (m : ℕ). added_to n (added_to m added) ++ added_to n (blocks ds added)) same
          ∙ ap (λ (xs : List Added). xs ++ added_to n (blocks ds added)) (own-again n added)
          ∙ ap (λ (xs : List Added). added_to n added ++ xs) (later-none (d.class.number + 1) ds (omega (arith, same)) rising.1)
          ∙ nothing-more (added_to n added)
        where
          nothing-more : (xs : List Added) → xs ++ [] ≡ xs
          nothing-more [] = refl
          nothing-more (x ∷ xs) = ap (λ (ys : List Added). x ∷ ys) (nothing-more xs)
      by false here one rest =
          filter-append (is_of n) (added_to d.class.number added) (blocks ds added)
          ∙ ap (λ (xs : List Added). xs ++ added_to n (blocks ds added)) (others-none d.class.number n here added) ∙ rest one

  none-known : (ds : List Declared) (birth : ℕ) (more : List Added) → class_numbered n ds ≡ None → AreAdded ds birth more → added_to n more ≡ []
  none-known ds birth [] none are = refl
  none-known ds birth (a ∷ more) none are = by (a.class == n) refl (none-known ds (birth + 1) more none are.2)
    where
      by : (t : Bool) → (a.class == n) ≡ t → added_to n more ≡ [] → cond t (a ∷ added_to n more) (added_to n more) ≡ []
      by true is rest =
          let known : IsSome (class_numbered n ds) = subst (λ (k : ℕ). IsSome (class_numbered k ds)) (eqb-true a.class n is) are.1.class in
          let gone : IsSome {T = Class} None = subst IsSome none known in
          absurd (cc (gone))
      by false is rest = rest

all-own : (n : ℕ) (ds : List Declared) (added : List Added) → RiseFrom 0 (numbers ds) → AreAdded ds 1 added → added_to n (blocks ds added) ≡ added_to n added
all-own n ds added rising are = by (class_numbered n ds) refl
  where
    by : (x : Option Class) → class_numbered n ds ≡ x → added_to n (blocks ds added) ≡ added_to n added
    by None is = missing-none n added ds is ∙ sym (none-known n added ds 1 added is are)
    by (Some k) is = found-all n added 0 ds rising k is

-- ---- how many they are

abbrev hits : ℕ → List Declared → ℕ
hits n [] = 0
hits n (d ∷ ds) = cond (n == d.class.number) 1 0 + hits n ds

none-blocks : (ds : List Declared) → length (blocks ds []) ≡ 0
none-blocks [] = refl
none-blocks (d ∷ ds) = none-blocks ds

own-longer : (t : Bool) (a : Added) (own : List Added) → length (cond t (a ∷ own) own) ≡ cond t 1 0 + length own
own-longer true a own = omega arith
own-longer false a own = omega arith

one-longer : (ds : List Declared) (a : Added) (added : List Added) → length (blocks ds (a ∷ added)) ≡ hits a.class ds + length (blocks ds added)
one-longer [] a added = refl
one-longer (d ∷ ds) a added =
    let own = added_to d.class.number added in
    let here = own-longer (a.class == d.class.number) a own in
    let rest = one-longer ds a added in
    let now = length-append (added_to d.class.number (a ∷ added)) (blocks ds (a ∷ added)) in
    let then = length-append own (blocks ds added) in
    omega (arith, here, rest, now, then)

hits-none : (n low : ℕ) (ds : List Declared) → n < low → RiseFrom low (numbers ds) → hits n ds ≡ 0
hits-none n low [] less rising = refl
hits-none n low (d ∷ ds) less rising =
    let apart : (n == d.class.number) ≡ false = (let more : n < d.class.number = omega (arith, less, rising.0) in grind (arith, nat_tests, more)) in
    let rest = hits-none n (d.class.number + 1) ds (omega (arith, less, rising.0)) rising.1 in
    ap (λ (t : Bool). cond t 1 0 + hits n ds) apart ∙ (let same : 0 + hits n ds ≡ 0 = omega (arith, rest) in same)

turned : (m n : ℕ) → (m == n) ≡ false → (n == m) ≡ false
turned m n is = by (n == m) refl
  where
    by : (t : Bool) → (n == m) ≡ t → (n == m) ≡ false
    by true same = absurd (cc (is, eq-eqb m n (sym (eqb-true n m same))))
    by false same = same

hits-one : (n low : ℕ) (ds : List Declared) → RiseFrom low (numbers ds) → IsSome (class_numbered n ds) → hits n ds ≡ 1
hits-one n low [] rising some = absurd (cc (some))
hits-one n low (d ∷ ds) rising some = by (d.class.number == n) refl some (hits-one n (d.class.number + 1) ds rising.1)
  where
    by : (t : Bool) → (d.class.number == n) ≡ t → IsSome (cond t (Some d.class) (class_numbered n ds)) → (IsSome (class_numbered n ds) → hits n ds ≡ 1) → hits n (d ∷ ds) ≡ 1
    by true here there rest =
        let same : d.class.number ≡ n = eqb-true d.class.number n here in
        let others = hits-none n (d.class.number + 1) ds (omega (arith, same)) rising.1 in
        ap (λ (t : Bool). cond t 1 0 + hits n ds) (eq-eqb n d.class.number (sym same)) ∙ ap (λ (m : ℕ). 1 + m) others
    by false here there rest =
        let it = rest there in
        ap (λ (t : Bool). cond t 1 0 + hits n ds) (turned d.class.number n here) ∙ (let same : 0 + hits n ds ≡ 1 = omega (arith, it) in same)

as-many : (ds : List Declared) → RiseFrom 0 (numbers ds) → (birth : ℕ) (added : List Added) → AreAdded ds birth added → length (blocks ds added) ≡ length added
as-many ds rising birth [] are = none-blocks ds
as-many ds rising birth (a ∷ added) are =
    let more = one-longer ds a added in
    let one = hits-one a.class 0 ds rising are.1.class in
    let rest = as-many ds rising (birth + 1) added are.2 in
    omega (arith, more, one, rest)

-- ---- a change is judged alike

module _ (l : Language) (b : Bones) (are : AreBones l b) where
  rising : RiseFrom 0 (numbers b.classes)
  rising = rise l b.added [] b.classes 0 (omega arith) are.classes

  pub all-counted : length (class_by_class b) ≡ length b.added
  all-counted = as-many b.classes rising 1 b.added are.added

  with-new : (new : List Added) (n : ℕ) → added_to n (class_by_class b ++ new) ≡ added_to n (b.added ++ new)
  with-new new n =
      filter-append (is_of n) (class_by_class b) new ∙ ap (λ (xs : List Added). xs ++ added_to n new) (all-own n b.classes b.added rising are.added) ∙ sym (filter-append (is_of n) b.added new)

  module _ (c : Change) where
    abbrev Step : Type 0
    Step = List Class → ClassDecl → Check (List Class)

    abbrev judging : (ℕ → Step) → Check (List Class)
    judging step =
        found (UnknownName c.class) (place_named (trees_in b) c.class)
        >>= (λ place. through (knows_field (take (place + 1) (trees_in b))) tt c.fields >> through (step place) [] (trees_in b))

    same-step : (place : ℕ) (known : List Class) (d : ClassDecl) → declares_next (class_by_class b ++ added_by (place + 1) (length (class_by_class b)) c) known d
        ≡ declares_next (b.added ++ added_by (place + 1) (length b.added) c) known d
    same-step place known d =
        ap (λ (n : ℕ). declares_next (class_by_class b ++ added_by (place + 1) n c) known d) all-counted
        ∙ ap (λ (own : List Added). check_grown known own d >>= (λ k. Ok (known ++ k ∷ []))) (with-new (added_by (place + 1) (length b.added) c) (length known + 1))

    pub judged : change_class (trees_in b) (class_by_class b) c ≡ change_class (trees_in b) b.added c
    unfolding change_class
    judged = ap judging (λ i place known d. same-step place known d i)
