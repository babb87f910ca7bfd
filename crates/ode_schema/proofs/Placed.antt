-- Classes that were checked one behind the other: their numbers are their places', their parents are below, and their own triggers are few and fresh.
use Rattle.std.proofs.Common.{◌≡◌, ◌≤◌, ◌<◌, ℕ, zero, suc, ◌+◌, List, [], ◌∷◌, ◌++◌, map, length, take, Some, refl, ap, sym, ◌∙◌, subst, arith, append_assoc, length-append}
use Rattle.std.specs.Prelude.{slice_get}
use Rattle.std.specs.List.{AllByRecursion, range_with_len}
use Rattle.std.specs.Option.{unwrap_or}
use Rattle.std.proofs.lemmas.List.{length-take-le}
use Rattle.std.proofs.lemmas.Option.{slice_get_within}
use Rattle.ode_value.specs.declared.class.Class.{Class}
use Rattle.ode_value.specs.GoodWorlds.{RiseFrom}
use Rattle.ode_types.specs.Checked.{AreChecked, AreCheckedBehind}
use Rattle.ode_types.specs.Families.{class_numbered}
use Rattle.ode_types.specs.Indexed.{AreNumbered}
use Rattle.ode_types.specs.Limits.{trigger_limit}
use Rattle.ode_types.proofs.CheckedClasses.{checked-next}
use Rattle.ode_types.proofs.Places.{none-numbered-0, numbered-at}
use Rattle.ode_typing_laws.proofs.Chain.{IsLow, all_low, checked_low}
use Rattle.ode_laws.proofs.Each.{all-append}
use Rattle.ode_schema.proofs.Members.{HasOwnTriggers, own_triggers_checked}

-- a class behind these
pub record IsBehind (known : List Class) (c : Class) : Type 0 where
  pub number : c.number ≡ length known + 1
  pub parent : unwrap_or c.parent 0 ≤ length known
  pub triggers : HasOwnTriggers known c

abbrev pub AreBehind : List Class → List Class → Type 0
AreBehind known [] = Unit {0}
AreBehind known (c ∷ cs) = IsBehind known c × AreBehind (known ++ c ∷ []) cs

checked_behind : (cs known : List Class) → AllByRecursion (IsLow (length known)) known → AreCheckedBehind known cs → AreBehind known cs
checked_behind [] known low checked = tt
checked_behind (c ∷ cs) known low checked =
    let n = length known in
    let next : List Class = known ++ c ∷ [] in
    let is = checked-next known c checked.0 in
    let longer : length next ≡ n + 1 = length-append known (c ∷ []) in
    let parent : unwrap_or c.parent 0 ≤ n = checked_low known n low c checked.0 in
    let here : IsLow (length next) c = record { number = omega (arith, longer, is.number); parent = omega (arith, longer, parent) } in
    let lower : AllByRecursion (IsLow (length next)) next = all-append (IsLow (length next)) known (c ∷ []) (all_low n (length next) (omega (arith, longer)) known low) (here, tt) in
    (record { number = is.number; parent = parent; triggers = own_triggers_checked known c checked.0 }, checked_behind cs next lower checked.1)

pub are_behind : (cs : List Class) → AreChecked cs → AreBehind [] cs
are_behind cs checked = checked_behind cs [] tt checked

-- the class at a place, behind those before it
behind-at : (known cs : List Class) → AreBehind known cs → (k : ℕ) (c : Class) → slice_get cs k ≡ Some c → IsBehind (known ++ take k cs) c
behind-at known [] all k c at = absurd (cc)
behind-at known (d ∷ cs) all zero c at =
    let same : d ≡ c = cc in
    let none : known ++ [] ≡ known = append-none known in
    subst (λ l. IsBehind l c) (sym none) (subst (IsBehind known) same all.0)
  where
    append-none : (l : List Class) → l ++ [] ≡ l
    append-none [] = refl
    append-none (x ∷ l) = ap (λ (m : List Class). x ∷ m) (append-none l)
behind-at known (d ∷ cs) all (suc k) c at = subst (λ l. IsBehind l c) (append_assoc known (d ∷ []) (take k cs)) (behind-at (known ++ d ∷ []) cs all.1 k c at)

numbered-behind : (known cs : List Class) (n : ℕ) → n ≡ length known + 1 → AreBehind known cs → map (λ (c : Class). c.number) cs ≡ range_with_len n (length cs)
numbered-behind known [] n is all = refl
numbered-behind known (c ∷ cs) n is all =
    let first : c.number ≡ n = all.0.number ∙ sym is in
    let longer : length (known ++ c ∷ []) ≡ length known + 1 = length-append known (c ∷ []) in
    let rest = numbered-behind (known ++ c ∷ []) cs (n + 1) (omega (arith, is, longer)) all.1 in
    ap (λ (m : ℕ). m ∷ map (λ (d : Class). d.number) cs) first ∙ ap (λ (l : List ℕ). n ∷ l) rest

rise-behind : (known cs : List Class) (low : ℕ) → low ≤ length known + 1 → AreBehind known cs → RiseFrom low (map (λ (c : Class). c.number) cs)
rise-behind known [] low less all = tt
rise-behind known (c ∷ cs) low less all =
    let longer : length (known ++ c ∷ []) ≡ length known + 1 = length-append known (c ∷ []) in
    (omega (arith, all.0.number, less), rise-behind (known ++ c ∷ []) cs (c.number + 1) (omega (arith, all.0.number, longer)) all.1)

module _ (cs : List Class) (checked : AreChecked cs) where
  pub are_numbered : AreNumbered cs
  are_numbered = numbered-behind [] cs 1 (omega arith) (are_behind cs checked)

  pub numbers_rise : RiseFrom 0 (map (λ (c : Class). c.number) cs)
  numbers_rise = rise-behind [] cs 0 (omega arith) (are_behind cs checked)

  pub at_place : (k : ℕ) (c : Class) → slice_get cs k ≡ Some c → IsBehind (take k cs) c
  at_place k c at = behind-at [] cs (are_behind cs checked) k c at

  -- how many stand before the class at a place
  pub before : (k : ℕ) (c : Class) → slice_get cs k ≡ Some c → length (take k cs) ≡ k
  before k c at = let within : k < length cs = slice_get_within cs k c at in length-take-le k cs (omega arith)

  -- the class of a number stands at the place before it
  pub place_of : (n : ℕ) (c : Class) → class_numbered cs n ≡ Some c → (k : ℕ) × (n ≡ suc k) × (slice_get cs k ≡ Some c)
  place_of zero c found = let none = none-numbered-0 cs 0 are_numbered (omega arith) in absurd (cc (none, found))
  place_of (suc k) c found = (k, refl, numbered-at cs (suc k) k are_numbered (omega arith) (omega arith) ∙ found)

  -- a class of the list has few triggers of its own
  pub few_triggers : (n : ℕ) (c : Class) → class_numbered cs n ≡ Some c → length c.triggers ≤ trigger_limit
  few_triggers n c found = let at = place_of n c found in (at_place at.0 c at.2).triggers.few

  -- it has its number
  pub has_number : (n : ℕ) (c : Class) → class_numbered cs n ≡ Some c → c.number ≡ n
  has_number n c found =
      let at = place_of n c found in
      let behind = at_place at.0 c at.2 in
      omega (arith, behind.number, before at.0 c at.2, at.1)
