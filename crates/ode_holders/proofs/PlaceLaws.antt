-- Open sessions at their places in a list.
use Rattle.std.proofs.Common.{◌≡◌, ◌+◌, ◌<◌, ◌≤◌, ℕ, suc, Bool, true, false, cond, List, [], ◌∷◌, map, length, ◌==◌, Option, Some, None, Result, Ok, Err, refl, ap, sym, ◌∙◌, subst, inl, inr, lt-ltb, arith}
use Rattle.std.proofs.lemmas.Bool.{cases_lt, eqb-true}
use Rattle.std.proofs.lemmas.Bool.Decides.{nat_tests}
use Rattle.std.proofs.lemmas.List.Folds.{find_at}
use Rattle.std.proofs.lemmas.Option.{slice_get_past}
use Rattle.std.specs.List.{find, insert, position, position_or_len, remove, slice_get}
use Rattle.std.specs.Option.{option_map, unwrap_or}
use Rattle.std.specs.Prelude.{OnOk, nat_lt, not}
use Rattle.ode_machine.specs.Interleaving.{Open, others_of, session_of, with_open}
use Rattle.ode_holders.specs.Opens.{is_of, number_of, open_as, opens_as}
use Rattle.ode_holders.specs.Rising.{AreRising}
use Rattle.ode_holders.specs.declared.opens.Open.{Open as Session}
use Rattle.ode_value.specs.GoodWorlds.{RiseFrom}

-- ---- the first place

pub place_within : {X : Type 0} (p : X → Bool) (xs : List X) → position_or_len p xs ≤ length xs
place_within p [] = omega arith
place_within p (x ∷ xs) = by (p x) (position_or_len p xs) (place_within p xs) where
  by : (b : Bool) (n : ℕ) → n ≤ length xs → cond (not b) (1 + n) 0 ≤ suc (length xs)
  by true n less = omega arith
  by false n less = omega (arith, less)

place_is : {X : Type 0} (p : X → Bool) (xs : List X) (b : Bool) → nat_lt (position_or_len p xs) (length xs) ≡ b → position p xs ≡ cond b (Some (position_or_len p xs)) None
place_is p xs b is = ap (λ (t : Bool). cond t (Some (position_or_len p xs)) None) is

-- or the end, where none passes
pub or_end : {X : Type 0} (p : X → Bool) (xs : List X) → unwrap_or (position p xs) (length xs) ≡ position_or_len p xs
or_end p xs = elim (cases_lt (position_or_len p xs) (length xs)) [
  | inl under ↦ ap (λ (o : Option ℕ). unwrap_or o (length xs)) (place_is p xs true (lt-ltb (position_or_len p xs) (length xs) under))
  | inr over ↦
      let within = place_within p xs in
      let same : length xs ≡ position_or_len p xs = omega (arith, over, within) in
      let none : nat_lt (position_or_len p xs) (length xs) ≡ false = grind (arith, nat_tests) in
      ap (λ (o : Option ℕ). unwrap_or o (length xs)) (place_is p xs false none) ∙ same
]

pub place_found : {X : Type 0} (p : X → Bool) (xs : List X) (i : ℕ) → position p xs ≡ Some i → i ≡ position_or_len p xs
place_found p xs i is = ap (λ (o : Option ℕ). unwrap_or o (length xs)) (sym is) ∙ or_end p xs

pub place_none : {X : Type 0} (p : X → Bool) (xs : List X) → position p xs ≡ None → find p xs ≡ None
place_none p xs none =
    let over : length xs ≡ position_or_len p xs = ap (λ (o : Option ℕ). unwrap_or o (length xs)) (sym none) ∙ or_end p xs in
    find_at p xs ∙ slice_get_past xs (position_or_len p xs) (omega (arith, over))

-- ---- one more

-- what holds where it came in
pub on_ok : {R E : Type 0} (result : Result R E) (P Q : Type 0) → (P → Q) → OnOk result P → OnOk result Q
on_ok (Ok x) P Q to is = to is
on_ok (Err e) P Q to is = tt

-- before the first of a greater number
pub put_in : (one : Session) (os : List Session) → opens_as (insert os (position_or_len (λ (o : Session). nat_lt one.session o.session) os) one) ≡ with_open (open_as one) (opens_as os)
put_in one [] = refl
put_in one (o ∷ os) = by (nat_lt one.session o.session) (position_or_len (λ (p : Session). nat_lt one.session p.session) os) (put_in one os) where
  by : (b : Bool) (n : ℕ) → opens_as (insert os n one) ≡ with_open (open_as one) (opens_as os)
      → opens_as (insert (o ∷ os) (cond (not b) (1 + n) 0) one) ≡ cond b (open_as one ∷ open_as o ∷ opens_as os) (open_as o ∷ with_open (open_as one) (opens_as os))
  by true n rest = refl
  by false n rest =
      let on : suc n ≡ 1 + n = omega arith in
      subst (λ (i : ℕ). opens_as (insert (o ∷ os) i one) ≡ open_as o ∷ with_open (open_as one) (opens_as os)) on (ap (λ (more : List Open). open_as o ∷ more) rest)

-- ---- one less

pub found_as : (n : ℕ) (os : List Session) → session_of n (opens_as os) ≡ option_map open_as (find (is_of n) os)
found_as n [] = refl
found_as n (o ∷ os) = by (o.session == n) (found_as n os) where
  by : (b : Bool) → session_of n (opens_as os) ≡ option_map open_as (find (is_of n) os)
      → cond b (Some (open_as o)) (session_of n (opens_as os)) ≡ option_map open_as (cond b (Some o) (find (is_of n) os))
  by true rest = refl
  by false rest = rest

pub taken_is : (n : ℕ) (os : List Session) (i : ℕ) (o : Session) → position (is_of n) os ≡ Some i → slice_get os i ≡ Some o → Some (open_as o) ≡ session_of n (opens_as os)
taken_is n os i o place there =
    sym (found_as n os ∙ ap (option_map open_as) (find_at (is_of n) os ∙ ap (slice_get os) (sym (place_found (is_of n) os i place)) ∙ there))

pub none_is : (n : ℕ) (os : List Session) → position (is_of n) os ≡ None → None ≡ session_of n (opens_as os)
none_is n os none = sym (found_as n os ∙ ap (option_map open_as) (place_none (is_of n) os none))

-- without one of a number that isn't there
all_others : (n : ℕ) (os : List Session) → find (is_of n) os ≡ None → others_of n (opens_as os) ≡ opens_as os
all_others n [] none = refl
all_others n (o ∷ os) none = by (o.session == n) none (all_others n os) where
  by : (b : Bool) → cond b (Some o) (find (is_of n) os) ≡ None → (find (is_of n) os ≡ None → others_of n (opens_as os) ≡ opens_as os)
      → cond (not b) (open_as o ∷ others_of n (opens_as os)) (others_of n (opens_as os)) ≡ open_as o ∷ opens_as os
  by true none rest = absurd (cc)
  by false none rest = ap (λ (more : List Open). open_as o ∷ more) (rest none)

pub none_goes : (n : ℕ) (os : List Session) → position (is_of n) os ≡ None → opens_as os ≡ others_of n (opens_as os)
none_goes n os none = sym (all_others n os (place_none (is_of n) os none))

-- those that rise from above a number are of others
none_below : (n low : ℕ) (os : List Session) → n < low → RiseFrom low (map number_of os) → find (is_of n) os ≡ None
none_below n low [] less rise = refl
none_below n low (o ∷ os) less rise =
    let least : low ≤ o.session = rise.0 in
    let other : (o.session == n) ≡ false = later n o.session (omega arith) in
    ap (λ (b : Bool). cond b (Some o) (find (is_of n) os)) other ∙ none_below n (o.session + 1) os (omega arith) rise.1
  where
    later : (a b : ℕ) → a < b → (b == a) ≡ false
    later a b less = grind (arith, nat_tests)

rest_is : (n low : ℕ) (os : List Session) → RiseFrom low (map number_of os) → opens_as (remove os (position_or_len (is_of n) os)) ≡ others_of n (opens_as os)
rest_is n low [] rise = refl
rest_is n low (o ∷ os) rise = by (o.session == n) refl (position_or_len (is_of n) os) (rest_is n (o.session + 1) os rise.1) where
  by : (b : Bool) → (o.session == n) ≡ b → (i : ℕ) → opens_as (remove os i) ≡ others_of n (opens_as os)
      → opens_as (remove (o ∷ os) (cond (not b) (1 + i) 0)) ≡ cond (not b) (open_as o ∷ others_of n (opens_as os)) (others_of n (opens_as os))
  by true e i rest = let same : o.session ≡ n = eqb-true o.session n e in sym (all_others n os (none_below n (o.session + 1) os (omega (arith, same)) rise.1))
  by false e i rest =
      let on : suc i ≡ 1 + i = omega arith in
      subst (λ (j : ℕ). opens_as (remove (o ∷ os) j) ≡ open_as o ∷ others_of n (opens_as os)) on (ap (λ (more : List Open). open_as o ∷ more) rest)

numbers_are : (os : List Session) → map (λ (o : Open). o.session) (opens_as os) ≡ map number_of os
numbers_are [] = refl
numbers_are (o ∷ os) = ap (λ (more : List ℕ). o.session ∷ more) (numbers_are os)

pub one_goes : (n : ℕ) (os : List Session) (i : ℕ) → position (is_of n) os ≡ Some i → AreRising (opens_as os) → opens_as (remove os i) ≡ others_of n (opens_as os)
one_goes n os i place rise =
    ap (λ (j : ℕ). opens_as (remove os j)) (place_found (is_of n) os i place) ∙ rest_is n 0 os (subst (λ (numbers : List ℕ). RiseFrom 0 numbers) (numbers_are os) rise)
