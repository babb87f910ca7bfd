-- The numbers of a world go on telling its parts apart, and find triggers.
use Rattle.std.proofs.Common.{◌≡◌, ◌≢◌, ◌⊎◌, ℕ, zero, suc, ◌+◌, ◌<◌, ◌≤◌, Bool, true, false, cond, List, [], ◌∷◌, ◌++◌, map, reverse, length, ◌==◌, Option, Some, None, refl, sym, ap, ◌∙◌, subst, arith, inl, inr}
use Rattle.std.specs.Prelude.{unwrap_or, slice_get}
use Rattle.std.specs.List.{AllByRecursion, flat_map, enumerate_from, filter}
use Rattle.std.specs.Option.{option_map, option_and_then}
use Rattle.std.proofs.lemmas.Bool.{eqb-true, eq-eqb}
use Rattle.std.proofs.lemmas.Bool.Decides.{eqb_tells}
use Rattle.std.proofs.lemmas.List.{reverse-append, append_assoc, length-append}
use Rattle.ode_value.specs.declared.class.Class.{Class}
use Rattle.ode_value.specs.declared.member.TriggerDecl.{TriggerDecl}
use Rattle.ode_value.specs.Classes.{Trigger, upward, line_of, family, trigger_of, own_triggers, triggers_of, trigger_at}
use Rattle.ode_value.specs.GoodWorlds.{RiseFrom}
use Rattle.ode_value.specs.Worlds.{Declared, class_numbered}
use Rattle.ode_laws.proofs.Each.{all-append, all-then}

-- ---- numbers that rise

pub rise_lower : (low from : ℕ) (ns : List ℕ) → low ≤ from → RiseFrom from ns → RiseFrom low ns
rise_lower low from [] less rise = tt
rise_lower low from (n ∷ ns) less rise = let here : from ≤ n = rise.0 in (omega arith, rise.1)

-- one more above them all
pub rise_more : (low n : ℕ) (ns : List ℕ) → low ≤ n → RiseFrom low ns → AllByRecursion (λ m. m < n) ns → RiseFrom low (ns ++ n ∷ [])
rise_more low n [] less rise below = (less, tt)
rise_more low n (m ∷ ns) less rise below = let here : m < n = below.0 in (rise.0, rise_more (m + 1) n ns (omega arith) rise.1 below.1)

-- some of them
pub rise_filter : {X : Type 0} (number : X → ℕ) (p : X → Bool) (low : ℕ) (xs : List X) → RiseFrom low (map number xs) → RiseFrom low (map number (filter p xs))
rise_filter number p low [] rise = tt
rise_filter {X} number p low (x ∷ xs) rise = by_test (p x) (rise_filter number p (number x + 1) xs rise.1) where
  by_test : (b : Bool) → RiseFrom (number x + 1) (map number (filter p xs)) → RiseFrom low (map number (cond b (x ∷ filter p xs) (filter p xs)))
  by_test true rest = (rise.0, rest)
  by_test false rest = let here : low ≤ number x = rise.0 in rise_lower low (number x + 1) (map number (filter p xs)) (omega arith) rest

-- ---- triggers

apart_by : (a b : ℕ) → ((a == b) ≡ true × (a ≡ b)) ⊎ ((a == b) ≡ false × (a ≢ b)) → a < b → (a == b) ≡ false
apart_by a b (inl p) less = let same : a ≡ b = p.1 in absurd (omega arith)
apart_by a b (inr p) less = p.0

pub apart : (a b : ℕ) → a < b → (a == b) ≡ false
apart a b less = apart_by a b (eqb_tells a b) less

abbrev IsFound : List Declared → Declared → Type 0
IsFound cs d = class_numbered d.class.number cs ≡ Some d.class

-- a class is found by its number
later_found : (c : Declared) (cs : List Declared) (from : ℕ) → c.class.number < from → (ds : List Declared) → RiseFrom from (map (λ (d : Declared). d.class.number) ds) → AllByRecursion (IsFound cs) ds
    → AllByRecursion (IsFound (c ∷ cs)) ds
later_found c cs from less [] rise all = tt
later_found c cs from less (d ∷ ds) rise all =
    let up : from ≤ d.class.number = rise.0 in (
      ap (λ b. cond b (Some c.class) (class_numbered d.class.number cs)) (apart c.class.number d.class.number (omega arith)) ∙ all.0,
      later_found c cs (d.class.number + 1) (omega arith) ds rise.1 all.1,
    )

found_all : (low : ℕ) (cs : List Declared) → RiseFrom low (map (λ (d : Declared). d.class.number) cs) → AllByRecursion (IsFound cs) cs
found_all low [] rising = tt
found_all low (c ∷ cs) rising = (
  ap (λ b. cond b (Some c.class) (class_numbered c.class.number cs)) (eq-eqb c.class.number c.class.number refl),
  later_found c cs (c.class.number + 1) (omega arith) cs rising.1 (found_all (c.class.number + 1) cs rising.1),
)

all-reverse : {X : Type 0} (P : X → Type 0) (xs : List X) → AllByRecursion P xs → AllByRecursion P (reverse xs)
all-reverse P [] all = tt
all-reverse P (x ∷ xs) all = subst (λ l. AllByRecursion P l) (sym (reverse-append (x ∷ []) xs)) (all-append P (reverse xs) (x ∷ []) (all-reverse P xs all.1) (all.0, tt))

-- what holds of classes holds of a class and its ancestors
all-upward : (P : Class → Type 0) (cs : List Declared) (n : ℕ) → AllByRecursion (λ (d : Declared). P d.class) cs → AllByRecursion P (upward n cs)
all-upward P [] n all = tt
all-upward P (c ∷ cs) n all = by_test (c.class.number == n) (all-upward P cs (unwrap_or c.class.parent 0) all.1) (all-upward P cs n all.1) where
  by_test : (b : Bool) → AllByRecursion P (upward (unwrap_or c.class.parent 0) cs) → AllByRecursion P (upward n cs)
      → AllByRecursion P (cond b (c.class ∷ upward (unwrap_or c.class.parent 0) cs) (upward n cs))
  by_test true up rest = (all.0, up)
  by_test false up rest = rest

pub all-family : (P : Class → Type 0) (classes : List Declared) (n : ℕ) → AllByRecursion (λ (d : Declared). P d.class) classes → AllByRecursion P (family classes n)
all-family P classes n all =
    all-reverse P (line_of classes n) (all-upward P (reverse classes) n (all-reverse (λ (d : Declared). P d.class) classes all))

all-flat : {X Y : Type 0} (P : Y → Type 0) (f : X → List Y) (xs : List X) → AllByRecursion (λ x. AllByRecursion P (f x)) xs → AllByRecursion P (flat_map f xs)
all-flat P f [] all = tt
all-flat P f (x ∷ xs) all = all-append P (f x) (flat_map f xs) all.0 (all-flat P f xs all.1)

pub all-triggers : (P : Trigger → Type 0) (classes : List Declared) (n : ℕ) → AllByRecursion (λ (d : Declared). AllByRecursion P (own_triggers d.class)) classes → AllByRecursion P (triggers_of classes n)
all-triggers P classes n all = all-flat P own_triggers (family classes n) (all-family (λ c. AllByRecursion P (own_triggers c)) classes n all)

-- a trigger is the one at its place
abbrev pub IsPlaced : List Declared → Trigger → Type 0
IsPlaced classes t = trigger_at classes t.class t.place ≡ Some t

slice-seam : {X : Type 0} (before : List X) (x : X) (xs : List X) → slice_get (before ++ x ∷ xs) (length before) ≡ Some x
slice-seam [] x xs = refl
slice-seam (y ∷ before) x xs = slice-seam before x xs

placed_in : (classes : List Declared) (c : Class) → class_numbered c.number classes ≡ Some c → (before ts : List TriggerDecl) → c.triggers ≡ before ++ ts
    → AllByRecursion (IsPlaced classes) (map (trigger_of c.number) (enumerate_from (length before) ts))
placed_in classes c found before [] is = tt
placed_in classes c found before (t ∷ ts) is = (
  ap (λ o. option_map (λ u. trigger_of c.number (length before, u)) (option_and_then (λ (d : Class). slice_get d.triggers (length before)) o)) found
      ∙ ap (λ o. option_map (λ u. trigger_of c.number (length before, u)) o) (ap (λ us. slice_get us (length before)) is ∙ slice-seam before t ts),
  subst (λ n. AllByRecursion (IsPlaced classes) (map (trigger_of c.number) (enumerate_from n ts))) (length-append before (t ∷ []))
      (placed_in classes c found (before ++ t ∷ []) ts (is ∙ sym (append_assoc before (t ∷ []) ts))),
)

pub triggers_placed : (classes : List Declared) → RiseFrom 0 (map (λ (d : Declared). d.class.number) classes) → (n : ℕ) → AllByRecursion (IsPlaced classes) (triggers_of classes n)
triggers_placed classes rising n =
    all-triggers (IsPlaced classes) classes n
    (all-then (IsFound classes) (λ (d : Declared). AllByRecursion (IsPlaced classes) (own_triggers d.class)) (λ d found. placed_in classes d.class found [] d.class.triggers refl) classes (found_all 0 classes rising))

-- what holds of all own triggers holds of the one at a place
all-numbered : (P : Class → Type 0) (classes : List Declared) → AllByRecursion (λ (d : Declared). P d.class) classes → (n : ℕ) (c : Class) → class_numbered n classes ≡ Some c → P c × (c.number ≡ n)
all-numbered P [] all n c is = absurd (cc)
all-numbered P (d ∷ ds) all n c is = by_test (d.class.number == n) (eqb-true d.class.number n) is (all-numbered P ds all.1 n c) where
  by_test : (b : Bool) → (b ≡ true → d.class.number ≡ n) → cond b (Some d.class) (class_numbered n ds) ≡ Some c → (class_numbered n ds ≡ Some c → P c × (c.number ≡ n)) → P c × (c.number ≡ n)
  by_test true same e rest = let it : d.class ≡ c = cc in (subst P it all.0, ap (λ (x : Class). x.number) (sym it) ∙ same refl)
  by_test false same e rest = rest e

all-placed : (P : Trigger → Type 0) (class from : ℕ) (ts : List TriggerDecl) → AllByRecursion P (map (trigger_of class) (enumerate_from from ts)) → (i : ℕ) (t : TriggerDecl) → slice_get ts i ≡ Some t → P (trigger_of class (from + i, t))
all-placed P class from [] all i t is = absurd (cc)
all-placed P class from (u ∷ ts) all zero t is = let it : u ≡ t = cc in let n : from ≡ from + 0 = omega arith in subst (λ m. P (trigger_of class (m, t))) n (subst (λ v. P (trigger_of class (from, v))) it all.0)
all-placed P class from (u ∷ ts) all (suc i) t is = let n : from + 1 + i ≡ from + suc i = omega arith in subst (λ m. P (trigger_of class (m, t))) n (all-placed P class (from + 1) ts all.1 i t is)

pub all-at : (P : Trigger → Type 0) (classes : List Declared) → AllByRecursion (λ (d : Declared). AllByRecursion P (own_triggers d.class)) classes → (class place : ℕ) (t : Trigger) → trigger_at classes class place ≡ Some t → P t
all-at P classes all class place t is = by_class (class_numbered class classes) (all-numbered (λ c. AllByRecursion P (own_triggers c)) classes all class) is where
  by_class : (o : Option Class) → ((c : Class) → o ≡ Some c → AllByRecursion P (own_triggers c) × (c.number ≡ class))
      → option_map (λ u. trigger_of class (place, u)) (option_and_then (λ (c : Class). slice_get c.triggers place) o) ≡ Some t → P t
  by_class None known e = absurd (cc)
  by_class (Some c) known e = by_place (slice_get c.triggers place) refl e where
    by_place : (o : Option TriggerDecl) → slice_get c.triggers place ≡ o → option_map (λ u. trigger_of class (place, u)) o ≡ Some t → P t
    by_place None at e = absurd (cc)
    by_place (Some u) at e =
        let it : trigger_of class (place, u) ≡ t = cc in
        let zero_on : 0 + place ≡ place = omega arith in
        subst P it (subst (λ n. P (trigger_of n (place, u))) (known c refl).1
        (subst (λ m. P (trigger_of c.number (m, u))) zero_on (all-placed P c.number 0 c.triggers (known c refl).0 place u at)))
