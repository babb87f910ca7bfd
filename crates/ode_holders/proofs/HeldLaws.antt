-- Who holds what a step needs, by the open sessions as the code has them.
use Rattle.std.proofs.Common.{◌≡◌, ◌==◌, ◌&&◌, ◌+◌, ◌<◌, ℕ, suc, Bool, true, false, cond, List, [], ◌∷◌, drop, get_or, length, nat_eq, Option, Some, None, arith, refl, ap, sym, ◌∙◌}
use Rattle.std.proofs.Math.Seq.{drop-cons}
use Rattle.std.specs.List.{find, list_any}
use Rattle.std.specs.Option.{option_map}
use Rattle.std.specs.Prelude.{not}
use Rattle.ode_machine.specs.Interleaving.{Holder, Open, first_with, holder, holder_of, holds_object, or_else, others_of}
use Rattle.ode_machine.specs.declared.owned.Owned.{Owned}
use Rattle.ode_machine.specs.declared.owned.Owned.TheVariants as on
use Rattle.ode_holders.specs.Opens.{number_of, open_as, opens_as}
use Rattle.ode_holders.specs.declared.opens.Open.{Open as Session}
use Rattle.ode_value.specs.Footprints.{Footprint}

-- the first of the others that passes
pub others_find : (n : ℕ) (p : Open → Bool) (os : List Session)
    → find p (others_of n (opens_as os)) ≡ option_map open_as (find (λ (o : Session). not (o.session == n) && p (open_as o)) os)
others_find n p [] = refl
others_find n p (o ∷ os) = by (o.session == n) (others_find n p os) where
  one : (t : Bool) → find p (others_of n (opens_as os)) ≡ option_map open_as (find (λ (q : Session). not (q.session == n) && p (open_as q)) os)
      → cond t (Some (open_as o)) (find p (others_of n (opens_as os))) ≡ option_map open_as (cond t (Some o) (find (λ (q : Session). not (q.session == n) && p (open_as q)) os))
  one true rest = refl
  one false rest = rest

  by : (b : Bool) → find p (others_of n (opens_as os)) ≡ option_map open_as (find (λ (q : Session). not (q.session == n) && p (open_as q)) os)
      → find p (cond (not b) (open_as o ∷ others_of n (opens_as os)) (others_of n (opens_as os)))
      ≡ option_map open_as (cond (not b && p (open_as o)) (Some o) (find (λ (q : Session). not (q.session == n) && p (open_as q)) os))
  by true rest = rest
  by false rest = one (p (open_as o)) rest

held_by : (what : Owned) (found : Option Session) → option_map {U = Holder} (λ (o : Open). (o.session, what)) (option_map open_as found) ≡ option_map {U = Holder} (λ (k : ℕ). (k, what)) (option_map number_of found)
held_by what None = refl
held_by what (Some o) = refl

-- and what it holds
pub first_is : (n : ℕ) (what : Owned) (p : Open → Bool) (os : List Session) (who : Option ℕ) → who ≡ option_map number_of (find (λ (o : Session). not (o.session == n) && p (open_as o)) os)
    → first_with what p (others_of n (opens_as os)) ≡ option_map {U = Holder} (λ (k : ℕ). (k, what)) who
first_is n what p os who is =
    ap (option_map {U = Holder} (λ (o : Open). (o.session, what))) (others_find n p os) ∙ held_by what (find (λ (o : Session). not (o.session == n) && p (open_as o)) os) ∙ ap (option_map {U = Holder} (λ (k : ℕ). (k, what))) (sym is)

find_never : (os : List Open) → find (λ (o : Open). false) os ≡ None
find_never [] = refl
find_never (o ∷ os) = find_never os

-- nothing is asked for
pub first_none : (what : Owned) (os : List Open) → first_with what (λ (o : Open). false) os ≡ None
first_none what os = ap (option_map {U = Holder} (λ (o : Open). (o.session, what))) (find_never os)

-- where it is asked for, and where it isn't
pub held_where : (asked : Bool) (n : ℕ) (what : Owned) (p : Open → Bool) (os : List Session) (who : Option ℕ) → asked ≡ true → who ≡ option_map number_of (find (λ (o : Session). not (o.session == n) && p (open_as o)) os)
    → option_map {U = Holder} (λ (k : ℕ). (k, what)) who ≡ first_with what (λ (o : Open). asked && p o) (others_of n (opens_as os))
held_where asked n what p os who on_ask is =
    sym (first_is n what p os who is) ∙ ap (λ (b : Bool). first_with what (λ (o : Open). b && p o) (others_of n (opens_as os))) (sym on_ask)

pub held_nowhere : (asked : Bool) (what : Owned) (p : Open → Bool) (os : List Open) → asked ≡ false → None ≡ first_with what (λ (o : Open). asked && p o) os
held_nowhere asked what p os off = sym (first_none what os) ∙ ap (λ (b : Bool). first_with what (λ (o : Open). b && p o) os) (sym off)

-- ---- one object of several

module _ (n : ℕ) (os : List Session) (ids : List ℕ) (i d : ℕ) (within : i < length ids) (who : Option ℕ)
    (is : who ≡ option_map number_of (find (λ (o : Session). not (o.session == n) && list_any (nat_eq (get_or ids i d)) o.looked) os)) where
  abbrev others : List Open
  others = others_of n (opens_as os)

  abbrev held : Option ℕ → Option Holder
  held found = option_map (λ (k : ℕ). (k, on.Object (get_or ids i d))) found

  from_here : holder_of (drop i ids) others ≡ or_else (held who) (holder_of (drop (i + 1) ids) others)
  from_here =
      let one_more : suc i ≡ i + 1 = omega arith in
      let split : drop i ids ≡ get_or ids i d ∷ drop (i + 1) ids = drop-cons ids i d within ∙ ap (λ (k : ℕ). get_or ids i d ∷ drop k ids) one_more in
      ap (λ (l : List ℕ). holder_of l others) split
      ∙ ap (λ (h : Option Holder). or_else h (holder_of (drop (i + 1) ids) others)) (first_is n (on.Object (get_or ids i d)) (holds_object (get_or ids i d)) os who is)

  pub held_here : (k : ℕ) → who ≡ Some k → holder_of ids others ≡ holder_of (drop i ids) others → Some (k, on.Object (get_or ids i d)) ≡ holder_of ids others
  held_here k found so_far = sym (so_far ∙ from_here ∙ ap (λ (h : Option ℕ). or_else (held h) (holder_of (drop (i + 1) ids) others)) found)

  pub none_here : who ≡ None → holder_of ids others ≡ holder_of (drop i ids) others → holder_of ids others ≡ holder_of (drop (i + 1) ids) others
  none_here found so_far = so_far ∙ from_here ∙ ap (λ (h : Option ℕ). or_else (held h) (holder_of (drop (i + 1) ids) others)) found

-- ---- a step that needn't be alone

module _ (f : Footprint) (os : List Open) where
  abbrev numbers : Option Holder
  numbers = first_with on.Numbers (λ (o : Open). f.drew && o.held.drew) os

  abbrev queue : Option Holder
  queue = first_with on.Queue (λ (o : Open). f.queued && o.held.queued) os

  holder_is : holder false f os ≡ or_else numbers (or_else (holder_of f.looked os) queue)
  holder_is = ap (λ (h : Option Holder). or_else h (or_else numbers (or_else (holder_of f.looked os) queue))) (first_none on.All os)

  pub numbers_first : (h : Holder) → Some h ≡ numbers → Some h ≡ holder false f os
  numbers_first h is = ap (λ (x : Option Holder). or_else x (or_else (holder_of f.looked os) queue)) is ∙ sym holder_is

  pub objects_second : (h : Holder) → None ≡ numbers → Some h ≡ holder_of f.looked os → Some h ≡ holder false f os
  objects_second h none is =
      ap (λ (x : Option Holder). or_else x queue) is ∙ ap (λ (x : Option Holder). or_else x (or_else (holder_of f.looked os) queue)) none ∙ sym holder_is

  pub queue_last : (who : Option Holder) → None ≡ numbers → None ≡ holder_of f.looked os → who ≡ queue → who ≡ holder false f os
  queue_last who none nothing is =
      is ∙ ap (λ (x : Option Holder). or_else x queue) nothing ∙ ap (λ (x : Option Holder). or_else x (or_else (holder_of f.looked os) queue)) none ∙ sym holder_is
