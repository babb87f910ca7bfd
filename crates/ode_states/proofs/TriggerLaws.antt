-- The triggers of a class rise by their classes' numbers and their places.
use Rattle.std.proofs.Common.{ℕ, ◌+◌, ◌<◌, ◌≤◌, Bool, true, false, cond, List, [], ◌∷◌, ◌++◌, map, reverse, ◌==◌, unwrap_or, refl, sym, subst, arith, inl, inr}
use Rattle.std.specs.List.{AllByRecursion, flat_map, enumerate_from}
use Rattle.std.proofs.lemmas.List.{reverse-append}
use Rattle.ode_value.specs.declared.class.Class.{Class}
use Rattle.ode_value.specs.declared.member.TriggerDecl.{TriggerDecl}
use Rattle.ode_value.specs.Classes.{Trigger, upward, line_of, family, trigger_of, own_triggers, triggers_of}
use Rattle.ode_value.specs.GoodWorlds.{RiseFrom}
use Rattle.ode_value.specs.Worlds.{Declared}
use Rattle.ode_states.proofs.PlacedLaws.{each_append, Precedes, Rise}

-- the classes' numbers
abbrev number_of : Declared → ℕ
number_of d = d.class.number

-- ---- a list reversed
each_reverse : {X : Type 0} (P : X → Type 0) (xs : List X) → AllByRecursion P xs → AllByRecursion P (reverse xs)
each_reverse P [] each = tt
each_reverse P (x ∷ xs) each =
    subst (λ l. AllByRecursion P l) (sym (reverse-append (x ∷ []) xs)) (each_append P (reverse xs) (x ∷ []) (each_reverse P xs each.1) (each.0, tt))

-- lists that fall and that climb by their numbers
module _ {X : Type 0} (number : X → ℕ) where
  abbrev FallBy : List X → Type 0
  FallBy [] = Unit {0}
  FallBy (x ∷ xs) = AllByRecursion (λ y. number y < number x) xs × FallBy xs

  abbrev pub ClimbBy : List X → Type 0
  ClimbBy [] = Unit {0}
  ClimbBy (x ∷ xs) = AllByRecursion (λ y. number x < number y) xs × ClimbBy xs

  pub climb_by : (xs : List X) (low : ℕ) → RiseFrom low (map number xs) → ClimbBy xs
  climb_by [] low rising = tt
  climb_by (x ∷ xs) low rising = (above xs (number x + 1) (omega arith) rising.1, climb_by xs (number x + 1) rising.1) where
    above : (ys : List X) (from : ℕ) → number x < from → RiseFrom from (map number ys) → AllByRecursion (λ y. number x < number y) ys
    above [] from less rises = tt
    above (y ∷ ys) from less rises = let up : from ≤ number y = rises.0 in (omega arith, above ys (number y + 1) (omega arith) rises.1)

  fall_by_push : (xs : List X) (x : X) → FallBy xs → AllByRecursion (λ y. number x < number y) xs → FallBy (xs ++ x ∷ [])
  fall_by_push [] x fall above = (tt, tt)
  fall_by_push (y ∷ ys) x fall above = (each_append (λ z. number z < number y) ys (x ∷ []) fall.0 (above.0, tt), fall_by_push ys x fall.1 above.1)

  climb_by_push : (xs : List X) (x : X) → ClimbBy xs → AllByRecursion (λ y. number y < number x) xs → ClimbBy (xs ++ x ∷ [])
  climb_by_push [] x climb below = (tt, tt)
  climb_by_push (y ∷ ys) x climb below = (each_append (λ z. number y < number z) ys (x ∷ []) climb.0 (below.0, tt), climb_by_push ys x climb.1 below.1)

  pub fall_reverse : (xs : List X) → ClimbBy xs → FallBy (reverse xs)
  fall_reverse [] climb = tt
  fall_reverse (x ∷ xs) climb =
      subst FallBy (sym (reverse-append (x ∷ []) xs)) (fall_by_push (reverse xs) x (fall_reverse xs climb.1) (each_reverse (λ y. number x < number y) xs climb.0))

  pub climb_reverse : (xs : List X) → FallBy xs → ClimbBy (reverse xs)
  climb_reverse [] fall = tt
  climb_reverse (x ∷ xs) fall =
      subst ClimbBy (sym (reverse-append (x ∷ []) xs)) (climb_by_push (reverse xs) x (climb_reverse xs fall.1) (each_reverse (λ y. number y < number x) xs fall.0))

-- ---- a class and its ancestors
abbrev of_class : Class → ℕ
of_class c = c.number

cond_all : {X : Type 0} (P : List X → Type 0) (b : Bool) (xs ys : List X) → P xs → P ys → P (cond b xs ys)
cond_all P true xs ys here there = here
cond_all P false xs ys here there = there

upward_below : (cs : List Declared) (n most : ℕ) → AllByRecursion (λ (d : Declared). d.class.number < most) cs → AllByRecursion (λ (c : Class). c.number < most) (upward n cs)
upward_below [] n most below = tt
upward_below (c ∷ cs) n most below =
    cond_all (AllByRecursion (λ (d : Class). d.number < most)) (c.class.number == n) (c.class ∷ upward (unwrap_or c.class.parent 0) cs) (upward n cs)
    (below.0, upward_below cs (unwrap_or c.class.parent 0) most below.1) (upward_below cs n most below.1)

upward_falls : (cs : List Declared) (n : ℕ) → FallBy number_of cs → FallBy of_class (upward n cs)
upward_falls [] n fall = tt
upward_falls (c ∷ cs) n fall =
    cond_all (FallBy of_class) (c.class.number == n) (c.class ∷ upward (unwrap_or c.class.parent 0) cs) (upward n cs)
    (upward_below cs (unwrap_or c.class.parent 0) c.class.number fall.0, upward_falls cs (unwrap_or c.class.parent 0) fall.1) (upward_falls cs n fall.1)

family_climbs : (classes : List Declared) (n : ℕ) → RiseFrom 0 (map number_of classes) → ClimbBy of_class (family classes n)
family_climbs classes n rising =
    climb_reverse of_class (line_of classes n) (upward_falls (reverse classes) n (fall_reverse number_of classes (climb_by number_of classes 0 rising)))

-- ---- their triggers
rise_append : (ts us : List Trigger) → Rise ts → Rise us → AllByRecursion (λ t. AllByRecursion (Precedes t) us) ts → Rise (ts ++ us)
rise_append [] us rise more across = more
rise_append (t ∷ ts) us rise more across = (each_append (Precedes t) ts us rise.0 across.0, rise_append ts us rise.1 more across.1)

-- the triggers of one class from a place on
abbrev placed_from : ℕ → ℕ → List TriggerDecl → List Trigger
placed_from class from ts = map (trigger_of class) (enumerate_from from ts)

later_places : (class place from : ℕ) (decl : TriggerDecl) (ts : List TriggerDecl) → place < from → AllByRecursion (Precedes (trigger_of class (place, decl))) (placed_from class from ts)
later_places class place from decl [] less = tt
later_places class place from decl (t ∷ ts) less = (inr (refl, less), later_places class place (from + 1) decl ts (omega arith))

rise_in_class : (class from : ℕ) (ts : List TriggerDecl) → Rise (placed_from class from ts)
rise_in_class class from [] = tt
rise_in_class class from (t ∷ ts) = (later_places class from (from + 1) t ts (omega arith), rise_in_class class (from + 1) ts)

class_before : (t : Trigger) (class from : ℕ) (ts : List TriggerDecl) → t.class < class → AllByRecursion (Precedes t) (placed_from class from ts)
class_before t class from [] less = tt
class_before t class from (u ∷ ts) less = (inl less, class_before t class (from + 1) ts less)

family_after : (t : Trigger) (cs : List Class) → AllByRecursion (λ (c : Class). t.class < c.number) cs → AllByRecursion (Precedes t) (flat_map own_triggers cs)
family_after t [] above = tt
family_after t (c ∷ cs) above = each_append (Precedes t) (own_triggers c) (flat_map own_triggers cs) (class_before t c.number 0 c.triggers above.0) (family_after t cs above.1)

all_after : (class from : ℕ) (ts : List TriggerDecl) (cs : List Class) → AllByRecursion (λ (c : Class). class < c.number) cs
    → AllByRecursion (λ t. AllByRecursion (Precedes t) (flat_map own_triggers cs)) (placed_from class from ts)
all_after class from [] cs above = tt
all_after class from (t ∷ ts) cs above = (family_after (trigger_of class (from, t)) cs above, all_after class (from + 1) ts cs above)

rise_in : (cs : List Class) → ClimbBy of_class cs → Rise (flat_map own_triggers cs)
rise_in [] climb = tt
rise_in (c ∷ cs) climb =
    rise_append (own_triggers c) (flat_map own_triggers cs) (rise_in_class c.number 0 c.triggers) (rise_in cs climb.1) (all_after c.number 0 c.triggers cs climb.0)

pub triggers_rise : (classes : List Declared) (n : ℕ) → RiseFrom 0 (map (λ (d : Declared). d.class.number) classes) → Rise (triggers_of classes n)
triggers_rise classes n rising = rise_in (family classes n) (family_climbs classes n rising)
