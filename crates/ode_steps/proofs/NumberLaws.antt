-- Numbers that are left for transactions, and a step that needs nothing.
use Rattle.std.proofs.Common.{◌≡◌, ◌∙◌, ◌==◌, ◌+◌, ◌<◌, ◌≤◌, ℕ, suc, Bool, true, false, cond, List, [], ◌∷◌, length, None, ap, arith, refl, sym}
use Rattle.std.proofs.lemmas.Bool.{eq-eqb, ltb-true}
use Rattle.std.specs.List.{AllByRecursion}
use Rattle.std.specs.Prelude.{◌&&◌, is_some, nat_lt, not}
use Rattle.ode_holders.specs.Opens.{open_as, opens_as}
use Rattle.ode_holders.specs.declared.opens.Open as code
use Rattle.ode_interleaved_laws.proofs.HolderLaws.{by_both, none_clashes}
use Rattle.ode_interleaved_laws.specs.Meeting.{AreApart, AreLeft, IsInterleaved}
use Rattle.ode_language.specs.Languages.{ode}
use Rattle.ode_machine.specs.Interleaving.{Interleaved, Open, Stays, Turns, has_number, holder, literal_objects, others_of, session_of, spends, tries, tries_simple, view}
use Rattle.ode_steps.proofs.OpenedLaws.{none_are, none_other}
use Rattle.ode_value.specs.Footprints.{Footprint, no_footprint}
use Rattle.ode_value.specs.Limits.{number_limit, transaction_limit}
use Rattle.ode_value.specs.Transactions.{Script, begun, looking}
use Rattle.ode_value.specs.declared.reason.Refusal.TheVariants as refusal
use Rattle.ode_value.specs.declared.statement.Statement.TheVariants as statement
use Rattle.ode_value.specs.declared.statement.Stmt.{Stmt}

length_as : (os : List code.Open) → length (opens_as os) ≡ length os
length_as [] = refl
length_as (o ∷ os) = ap suc (length_as os)

-- whether one is left, by the code's counts
pub number_left : (m : Interleaved) (os : List code.Open) (next opened : ℕ) → next ≡ m.world.bones.transaction → opened ≡ length os → opens_as os ≡ m.sessions → nat_lt (next + opened) number_limit ≡ has_number m
number_left m os next opened at count same =
    ap (λ (k : ℕ). nat_lt (k + opened) number_limit) at
    ∙ ap (λ (k : ℕ). nat_lt (m.world.bones.transaction + k) number_limit) (count ∙ sym (length_as os) ∙ ap (λ (ps : List Open). length ps) same)

-- a number is left, where a session is open, or one is left for one more
pub has_room : (m : Interleaved) → IsInterleaved ode m → (m.sessions ≡ [] → has_number m ≡ true) → m.world.bones.transaction < transaction_limit
has_room m is more = by m.sessions refl is.numbers where
  few : (t n : ℕ) → t + suc n ≤ number_limit → t < transaction_limit
  few t n less = omega (arith, less)

  least : (t n : ℕ) → t + n < number_limit → t < transaction_limit
  least t n less = omega (arith, less)

  by : (os : List Open) → m.sessions ≡ os → AreLeft m.world.bones.transaction os → m.world.bones.transaction < transaction_limit
  by (o ∷ os) same left = few m.world.bones.transaction (length os) left
  by [] same left = least m.world.bones.transaction (length m.sessions) (ltb-true (m.world.bones.transaction + length m.sessions) number_limit (more same))

-- ---- `begin`

-- a step that needs nothing
apart_none : (others : List Open) → AllByRecursion (λ (o : Open). AreApart no_footprint o.held) others
apart_none [] = tt
apart_none (o ∷ others) = (record { objects = λ id one two. absurd (cc); numbers = λ one two. cc; queue = λ one two. cc }, apart_none others)

pub none_needed : (others : List Open) → holder false no_footprint others ≡ None
none_needed others = none_clashes no_footprint others (apart_none others)

pub begin_spent : (m : Interleaved) → has_number m ≡ false → tries ode m None statement.Begin ≡ Turns refusal.NumbersSpent (begun Script m.world)
begin_spent m none = ap (λ (b : Bool). cond (not b) (Turns refusal.NumbersSpent (begun Script m.world)) (Stays [] (begun Script m.world))) none

pub begin_stays : (m : Interleaved) → has_number m ≡ true → tries ode m None statement.Begin ≡ Stays [] (begun Script m.world)
begin_stays m left = ap (λ (b : Bool). cond (not b) (Turns refusal.NumbersSpent (begun Script m.world)) (Stays [] (begun Script m.world))) left

-- ---- a simple statement

pub none_holder : (m : Interleaved) (n : ℕ) (alone : Bool) (f : Footprint) → m.sessions ≡ [] → holder alone f (others_of n m.sessions) ≡ None
none_holder m n alone f none = ap (λ (os : List Open). holder alone f (others_of n os)) none ∙ none_other alone f

-- whether it needs a number and none is left
abbrev pub is_spent : Interleaved → ℕ → Stmt → Bool
is_spent m n s = spends (session_of n m.sessions) (statement.Simple s) && not (has_number m)

-- what is tried where it does
pub simple_spent : (m : Interleaved) (n : ℕ) (s : Stmt) (spent : Bool) → spent ≡ is_spent m n s → spent ≡ true
    → tries ode m (session_of n m.sessions) (statement.Simple s) ≡ Turns refusal.NumbersSpent (looking (literal_objects ode s) (view m.world (session_of n m.sessions)))
simple_spent m n s spent is so = ap (λ (b : Bool). tries_simple ode (session_of n m.sessions) b s (view m.world (session_of n m.sessions))) (sym is ∙ so)

and_true : (b : Bool) → b ≡ (b && true)
and_true true = refl
and_true false = refl

pub spent_is : (m : Interleaved) (n : ℕ) (s : Stmt) (within left : Bool) → is_some (session_of n m.sessions) ≡ within → left ≡ has_number m → (not within && not left) ≡ is_spent m n s
spent_is m n s within left is number =
    ap (λ (b : Bool). not b && not left) (sym is) ∙ ap (λ (b : Bool). not (is_some (session_of n m.sessions)) && not b) number
    ∙ ap (λ (b : Bool). b && not (has_number m)) (and_true (not (is_some (session_of n m.sessions))))

pub over_is : (os : List code.Open) (spent : Bool) → (spent && (length os == 0)) ≡ true → (spent ≡ true) × (os ≡ [])
over_is os spent is = let both = by_both spent (length os == 0) is in (both.0, none_are os (sym both.1))

pub some_other : (m : Interleaved) (os : List code.Open) (spent : Bool) → opens_as os ≡ m.sessions → (spent && (length os == 0)) ≡ false → spent ≡ true → m.sessions ≡ [] → ⊥
some_other m [] spent same is spends none = let clash : true ≡ false = sym spends ∙ is_true spent ∙ is in cc
  where
    is_true : (b : Bool) → b ≡ (b && (0 == 0))
    is_true true = sym (eq-eqb 0 0 refl)
    is_true false = refl
some_other m (o ∷ os) spent same is spends none = let clash : open_as o ∷ opens_as os ≡ [] = same ∙ none in cc

pub left_so : (m : Interleaved) (n : ℕ) (s : Stmt) (spent : Bool) → spent ≡ is_spent m n s → (spent ≡ true → m.sessions ≡ [] → ⊥) → m.sessions ≡ [] → has_number m ≡ true
left_so m n s spent is other none = by (has_number m) refl where
  by : (b : Bool) → has_number m ≡ b → has_number m ≡ true
  by true e = e
  by false e = absurd (other (is ∙ ap (λ (os : List Open). spends (session_of n os) (statement.Simple s) && not (has_number m)) none ∙ ap not e) none)
