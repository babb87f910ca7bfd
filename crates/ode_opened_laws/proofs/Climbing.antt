-- A class has a name or inherits it, as an opening sees it.
use Rattle.std.proofs.Common.{◌≡◌, ℕ, zero, suc, ◌+◌, ◌≤◌, ◌<◌, List, [], ◌∷◌, ◌++◌, map, length, reverse, Bool, true, false, cond, Option, Some, None, refl, sym, ap, subst, ◌∙◌, append_assoc, arith, length-append}
use Rattle.std.specs.Prelude.{◌==◌, ◌||◌}
use Rattle.std.specs.List.{AllByRecursion, list_any}
use Rattle.std.specs.Option.{option_map_or, unwrap_or}
use Rattle.std.proofs.lemmas.Bool.{eqb-true}
use Rattle.std.proofs.lemmas.Bool.Decides.{nat_tests}
use Rattle.std.proofs.lemmas.List.{length-map, length-reverse, map-append, reverse-append}
use Rattle.ode_opening_objects.specs.Fitting.{climbs_to, descends, inherits, is_named, is_numbered}
use Rattle.ode_types.specs.Families.{class_numbered}
use Rattle.ode_value.specs.Classes.{is_a, line_of, upward}
use Rattle.ode_value.specs.GoodWorlds.{AreClasses}
use Rattle.ode_value.specs.Language.{Language}
use Rattle.ode_value.specs.Worlds.{Declared}
use Rattle.ode_value.specs.declared.change.Added.{Added}
use Rattle.ode_value.specs.declared.class.Class.{Class}
use Rattle.ode_opening_laws.specs.Holding.{class_of}
use Rattle.ode_opening_laws.proofs.Each.{all_append}

module _ (classes : List Class) (test : Class → Bool) where
  abbrev Climbs : ℕ → ℕ → Type 0
  Climbs steps number = climbs_to test steps classes number ≡ true

  or_right : (a b : Bool) → b ≡ true → a || b ≡ true
  or_right true b is = refl
  or_right false b is = is

  or_more : (a b c : Bool) → (b ≡ true → c ≡ true) → a || b ≡ true → a || c ≡ true
  or_more true b c more is = refl
  or_more false b c more is = more is

  -- a step more does no harm
  step_more : (steps : ℕ) → ((number : ℕ) → Climbs steps number → Climbs (suc steps) number) → (o : Option Class)
      → option_map_or (λ (c : Class). test c || climbs_to test steps classes (unwrap_or c.parent 0)) o false ≡ true
      → option_map_or (λ (c : Class). test c || climbs_to test (suc steps) classes (unwrap_or c.parent 0)) o false ≡ true
  step_more steps more None none = absurd (cc)
  step_more steps more (Some c) ran = or_more (test c) _ _ (more (unwrap_or c.parent 0)) ran

  more_steps : (steps number : ℕ) → Climbs steps number → Climbs (suc steps) number
  more_steps zero number is = absurd (cc)
  more_steps (suc steps) number is = step_more steps (λ n ran. more_steps steps n ran) (class_numbered classes number) is

  -- each class is the one of its number
  abbrev IsNumbered : Declared → Type 0
  IsNumbered d = class_numbered classes d.class.number ≡ Some d.class

  along : (ds : List Declared) (number : ℕ) → AllByRecursion IsNumbered ds → list_any test (upward number ds) ≡ true → Climbs (length ds) number
  along [] number all is = absurd (cc)
  along (d ∷ ds) number all is = by (λ n found. along ds n all.1 found) (d.class.number == number) refl is
    where
      here : (d.class.number == number) ≡ true → class_numbered classes number ≡ Some d.class
      here found =
          let same : d.class.number ≡ number = eqb-true d.class.number number found in
          subst (λ (n : ℕ). class_numbered classes n ≡ Some d.class) same all.0

      by : ((n : ℕ) → list_any test (upward n ds) ≡ true → Climbs (length ds) n) → (b : Bool) → (d.class.number == number) ≡ b → list_any test (cond b (d.class ∷ upward (unwrap_or d.class.parent 0) ds) (upward number ds)) ≡ true → Climbs (suc (length ds)) number
      by rest true is_it found =
          ap (λ (o : Option Class). option_map_or (λ (c : Class). test c || climbs_to test (length ds) classes (unwrap_or c.parent 0)) o false) (here is_it)
          ∙ or_more (test d.class) _ _ (rest (unwrap_or d.class.parent 0)) found
      by rest false is_it found = more_steps (length ds) number (rest number found)

-- ---- the classes of a world are numbered

abbrev IsBelow : ℕ → Declared → Type 0
IsBelow n d = d.class.number < n

not_it : (m n : ℕ) → m < n → (m == n) ≡ false
not_it m n less = grind (arith, nat_tests)

it : (m n : ℕ) → m ≡ n → (m == n) ≡ true
it m n same = grind (arith, nat_tests)

passed_by : (ds : List Declared) (rest : List Class) (n : ℕ) → AllByRecursion (IsBelow n) ds → class_numbered (map class_of ds ++ rest) n ≡ class_numbered rest n
passed_by [] rest n low = refl
passed_by (d ∷ ds) rest n low =
    ap (λ b. cond b (Some d.class) (class_numbered (map class_of ds ++ rest) n)) (not_it d.class.number n low.0) ∙ passed_by ds rest n low.1

below_more : (m n : ℕ) (ds : List Declared) → m ≤ n → AllByRecursion (IsBelow m) ds → AllByRecursion (IsBelow n) ds
below_more m n [] le all = tt
below_more m n (d ∷ ds) le all = let less : d.class.number < m = all.0 in (omega arith, below_more m n ds le all.1)

below_behind : (n : ℕ) (ds : List Declared) (d : Declared) → AllByRecursion (IsBelow n) ds → IsBelow n d → AllByRecursion (IsBelow n) (ds ++ d ∷ [])
below_behind n [] d all low = (low, tt)
below_behind n (e ∷ ds) d all low = (all.0, below_behind n ds d all.1 low)

numbered_behind : (l : Language) (added : List Added) (earlier ds : List Declared) (all : List Class) → AllByRecursion (IsBelow (length earlier + 1)) earlier → AreClasses l added earlier ds
    → all ≡ map class_of earlier ++ map class_of ds → AllByRecursion (λ (d : Declared). class_numbered all d.class.number ≡ Some d.class) ds
numbered_behind l added earlier [] all low are whole = tt
numbered_behind l added earlier (d ∷ ds) all low are whole =
    let number : d.class.number ≡ length earlier + 1 = are.0.number in
    let longer : length (earlier ++ d ∷ []) ≡ length earlier + 1 = length-append earlier (d ∷ []) in
    let found : class_numbered all d.class.number ≡ Some d.class =
    ap (λ (cs : List Class). class_numbered cs d.class.number) whole
    ∙ passed_by earlier (d.class ∷ map class_of ds) d.class.number (subst (λ (n : ℕ). AllByRecursion (IsBelow n) earlier) (sym number) low)
    ∙ ap (λ b. cond b (Some d.class) (class_numbered (map class_of ds) d.class.number)) (it d.class.number d.class.number refl) in
    let lower : AllByRecursion (IsBelow (length (earlier ++ d ∷ []) + 1)) (earlier ++ d ∷ []) =
    below_behind (length (earlier ++ d ∷ []) + 1) earlier d (below_more (length earlier + 1) (length (earlier ++ d ∷ []) + 1) earlier (omega arith) low) (omega arith) in
    let grouped : map class_of (earlier ++ d ∷ []) ++ map class_of ds ≡ map class_of earlier ++ d.class ∷ map class_of ds =
    ap (λ (cs : List Class). cs ++ map class_of ds) (map-append class_of earlier (d ∷ [])) ∙ append_assoc (map class_of earlier) (d.class ∷ []) (map class_of ds) in
    (found, numbered_behind l added (earlier ++ d ∷ []) ds all lower are.1 (whole ∙ sym grouped))

pub all_reverse : {X : Type 0} (P : X → Type 0) (xs : List X) → AllByRecursion P xs → AllByRecursion P (reverse xs)
all_reverse P [] all = tt
all_reverse P (x ∷ xs) all =
    subst (AllByRecursion P) (sym (reverse-append (x ∷ []) xs)) (all_append P (reverse xs) (x ∷ []) (all_reverse P xs all.1) (all.0, tt))

-- a class from one up that a test passes is met by an opening
climbs_along : (l : Language) (added : List Added) (ds : List Declared) (test : Class → Bool) (number : ℕ) → AreClasses l added [] ds → list_any test (line_of ds number) ≡ true
    → climbs_to test (length (map class_of ds)) (map class_of ds) number ≡ true
climbs_along l added ds test number are is =
    let classes = map class_of ds in
    let each = numbered_behind l added [] ds classes tt are refl in
    let ran : climbs_to test (length (reverse ds)) classes number ≡ true =
    along classes test (reverse ds) number (all_reverse (λ (d : Declared). class_numbered classes d.class.number ≡ Some d.class) ds each) is in
    ap (λ (n : ℕ). climbs_to test n classes number) (length-map ds class_of ∙ sym (length-reverse ds)) ∙ ran

-- a class that has a name or inherits it does so to an opening
pub is_inherited : (l : Language) (added : List Added) (ds : List Declared) (number : ℕ) (name : List ℕ) → AreClasses l added [] ds → is_a ds number name ≡ true → inherits (map class_of ds) number name ≡ true
is_inherited l added ds number name are is = climbs_along l added ds (is_named name) number are is

-- and one that is a class or inherits from it
pub is_descended : (l : Language) (added : List Added) (ds : List Declared) (number from : ℕ) → AreClasses l added [] ds → list_any (is_numbered from) (line_of ds number) ≡ true → descends (map class_of ds) number from ≡ true
is_descended l added ds number from are is = climbs_along l added ds (is_numbered from) number are is
