-- The open sessions, and the one of a number among them.
use Rattle.std.proofs.Common.{◌≡◌, ◌∙◌, ◌==◌, ◌<◌, ◌++◌, ℕ, suc, Bool, true, false, cond, List, [], ◌∷◌, length, Option, Some, None, ap, arith, inl, inr, refl, subst, sym}
use Rattle.std.proofs.lemmas.Bool.{eq-eqb, eqb-true, ltb-true}
use Rattle.std.proofs.lemmas.Bool.Decides.{nat_tests}
use Rattle.std.proofs.lemmas.Option.{slice_get_cases}
use Rattle.std.specs.List.{find, position, position_or_len}
use Rattle.std.specs.Option.{option_map, unwrap_or}
use Rattle.std.specs.Prelude.{◌&&◌, is_some, nat_lt, not}
use Rattle.ode_holders.proofs.PlaceLaws.{none_is, taken_is}
use Rattle.ode_holders.specs.Opens.{is_of, number_of, open_as, opens_as}
use Rattle.ode_holders.specs.declared.opens.Open.{Open as Session}
use Rattle.ode_interleaved_laws.proofs.OpenLaws.{others_none}
use Rattle.ode_interleaved_laws.specs.Serial.{taken_of}
use Rattle.ode_machine.specs.Interleaving.{Holder, Open, Taken, first_with, holder, holder_of, or_else, others_of, session_of}
use Rattle.ode_machine.specs.declared.owned.Owned.TheVariants as on
use Rattle.ode_value.specs.Footprints.{Footprint, no_footprint}

-- ---- with no other session open

pub none_other : (alone : Bool) (f : Footprint) → holder alone f [] ≡ None
none_other alone f = by_objects f.looked where
  by_objects : (ids : List ℕ) → holder alone (record { looked = ids; drew = f.drew; queued = f.queued }) [] ≡ None
  by_objects [] = refl
  by_objects (id ∷ ids) = by_objects ids

-- none of these is another than one that isn't open
pub none_is_open : (n : ℕ) (os : List Open) → session_of n os ≡ None → others_of n os ≡ [] → os ≡ []
none_is_open n os closed none = sym (others_none n os closed) ∙ none

-- ---- the sessions as the code has them

pub some_open : {X : Type 0} (os : List X) → false ≡ (length os == 0) → os ≡ [] → ⊥
some_open [] is none = let clash : false ≡ true = is ∙ eq-eqb 0 0 refl in cc
some_open (o ∷ os) is none = cc

pub none_are : {X : Type 0} (os : List X) → true ≡ (length os == 0) → os ≡ []
none_are [] is = refl
none_are (o ∷ os) is = let clash : true ≡ false = is ∙ not_none (length os) in absurd (cc)
  where
    not_none : (n : ℕ) → (suc n == 0) ≡ false
    not_none n = grind (arith, nat_tests)

pub found_session : (n : ℕ) (os : List Open) (o : Open) → session_of n os ≡ Some o → o.session ≡ n
found_session n [] o is = absurd (cc)
found_session n (q ∷ os) o is = by_test (q.session == n) refl is (found_session n os o) where
  by_test : (b : Bool) → (q.session == n) ≡ b → cond b (Some q) (session_of n os) ≡ Some o → (session_of n os ≡ Some o → o.session ≡ n) → o.session ≡ n
  by_test true e found rest = let same : q ≡ o = cc in subst (λ (s : Open). s.session ≡ n) same (eqb-true q.session n e)
  by_test false e found rest = rest found

-- the open session of a number, or one with no statement yet
abbrev pub fresh : ℕ → Open
fresh n = record { session = n; taken = []; held = no_footprint }

pub own_session : (n : ℕ) (os : List Open) → (unwrap_or (session_of n os) (fresh n)).session ≡ n
own_session n os = by_found (session_of n os) refl where
  by_found : (a : Option Open) → session_of n os ≡ a → (unwrap_or a (fresh n)).session ≡ n
  by_found None e = refl
  by_found (Some o) e = found_session n os o e

pub own_taken : (n : ℕ) (own : Option Open) → (unwrap_or own (fresh n)).taken ≡ taken_of own
own_taken n None = refl
own_taken n (Some o) = refl

-- with one more statement
pub more_is : (n : ℕ) (os : List Open) (o : Open) (taken : Taken) (f : Footprint) → o ≡ unwrap_or (session_of n os) (fresh n)
    → ◌≡◌ {A = Open} (record { session = o.session; taken = o.taken ++ taken ∷ []; held = f }) (record { session = n; taken = taken_of (session_of n os) ++ taken ∷ []; held = f })
more_is n os o taken f is =
    ap (λ (k : ℕ). record { session = k; taken = o.taken ++ taken ∷ []; held = f }) (ap (λ (q : Open). q.session) is ∙ own_session n os)
    ∙ ap (λ (ts : List Taken). record { session = n; taken = ts ++ taken ∷ []; held = f }) (ap (λ (q : Open). q.taken) is ∙ own_taken n (session_of n os))

pub place_within : (n : ℕ) (os : List Session) (i : ℕ) → position (is_of n) os ≡ Some i → i < length os
place_within n os i is = by_test (nat_lt (position_or_len (is_of n) os) (length os)) refl is where
  by_test : (b : Bool) → nat_lt (position_or_len (is_of n) os) (length os) ≡ b → cond b (Some (position_or_len (is_of n) os)) None ≡ Some i → i < length os
  by_test true e found = let same : position_or_len (is_of n) os ≡ i = cc in subst (λ (k : ℕ). k < length os) same (ltb-true (position_or_len (is_of n) os) (length os) e)
  by_test false e found = absurd (cc)

-- whether it is open
pub place_open : (n : ℕ) (os : List Session) (at : Option ℕ) → position (is_of n) os ≡ at → is_some at ≡ is_some (session_of n (opens_as os))
place_open n os None is = ap (λ (o : Option Open). is_some o) (none_is n os is)
place_open n os (Some i) is = elim ((slice_get_cases os i).1) [
  | inl there ↦ ap (λ (o : Option Open). is_some o) (taken_is n os i there.0 is there.2)
  | inr over ↦ let within = place_within n os i is in let past = over.0 in absurd (omega (arith, within, past))
]

-- by the code's list of them
pub open_is : (n : ℕ) (os : List Session) (ps : List Open) → opens_as os ≡ ps → (opened : Bool) → opened ≡ is_some (session_of n (opens_as os)) → is_some (session_of n ps) ≡ opened
open_is n os ps same opened is = ap (λ (qs : List Open). is_some (session_of n qs)) (sym same) ∙ sym is

-- ---- a step that is to be alone

abbrev first_other : ℕ → List Session → Option ℕ
first_other n os = option_map number_of (find (λ (o : Session). not (o.session == n)) os)

alone_is : (n : ℕ) (os : List Session) → first_with on.All (λ (o : Open). true) (others_of n (opens_as os)) ≡ option_map {U = Holder} (λ (k : ℕ). (k, on.All)) (first_other n os)
alone_is n [] = refl
alone_is n (o ∷ os) = by_test (o.session == n) (alone_is n os) where
  by_test : (b : Bool) → first_with on.All (λ (q : Open). true) (others_of n (opens_as os)) ≡ option_map {U = Holder} (λ (k : ℕ). (k, on.All)) (first_other n os)
      → first_with on.All (λ (q : Open). true) (cond (not b) (open_as o ∷ others_of n (opens_as os)) (others_of n (opens_as os)))
      ≡ option_map {U = Holder} (λ (k : ℕ). (k, on.All)) (option_map number_of (cond (not b) (Some o) (find (λ (q : Session). not (q.session == n)) os)))
  by_test true rest = rest
  by_test false rest = refl

-- another session is open
pub other_holds : (n : ℕ) (os : List Session) (ps : List Open) (other : ℕ) (f : Footprint) → opens_as os ≡ ps → first_other n os ≡ Some other → holder true f (others_of n ps) ≡ Some (other, on.All)
other_holds n os ps other f same is =
    let found : first_with on.All (λ (o : Open). true) (others_of n (opens_as os)) ≡ Some (other, on.All) = alone_is n os ∙ ap (option_map {U = Holder} (λ (k : ℕ). (k, on.All))) is in
    subst (λ (qs : List Open). holder true f (others_of n qs) ≡ Some (other, on.All)) same
    (ap (λ (h : Option Holder). or_else h (or_else (first_with on.Numbers (λ (o : Open). f.drew && o.held.drew) (others_of n (opens_as os)))
    (or_else (holder_of f.looked (others_of n (opens_as os))) (first_with on.Queue (λ (o : Open). f.queued && o.held.queued) (others_of n (opens_as os)))))) found)

none_others : (n : ℕ) (os : List Session) → first_other n os ≡ None → others_of n (opens_as os) ≡ []
none_others n [] none = refl
none_others n (o ∷ os) none = by_test (o.session == n) none (none_others n os) where
  by_test : (b : Bool) → option_map number_of (cond (not b) (Some o) (find (λ (q : Session). not (q.session == n)) os)) ≡ None → (first_other n os ≡ None → others_of n (opens_as os) ≡ [])
      → cond (not b) (open_as o ∷ others_of n (opens_as os)) (others_of n (opens_as os)) ≡ []
  by_test true is rest = rest is
  by_test false is rest = absurd (cc)

-- none is
pub none_other_open : (n : ℕ) (os : List Session) (ps : List Open) → opens_as os ≡ ps → session_of n ps ≡ None → first_other n os ≡ None → ps ≡ []
none_other_open n os ps same closed none = none_is_open n ps closed (subst (λ (qs : List Open). others_of n qs ≡ []) same (none_others n os none))
