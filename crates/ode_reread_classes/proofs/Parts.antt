-- What is good of right sides: their expressions are, and their names are free.
use Rattle.std.proofs.Common.{◌≡◌, ◌≤◌, ℕ, ◌+◌, max, Bool, true, false, List, [], ◌∷◌, ◌++◌, Option, Some, None, arith}
use Rattle.ode_heights.specs.declared.height.Height.{Height}
use Rattle.ode_terminals.specs.declared.seen.Place.{Place}
use Rattle.ode_value.specs.Words.{is_free}
use Rattle.ode_value.specs.declared.statement.Expr.{Expr}
use Rattle.ode_value.specs.declared.statement.Rhs.{Rhs}
use Rattle.ode_value.specs.declared.statement.Rhs.TheVariants as rhs
use Rattle.ode_reread.proofs.Goods.{good_up, Good}
use Rattle.ode_reread_classes.proofs.Lists.{one_more, weaker, Each}

-- a height, whatever its form
abbrev pub up : ℕ → Height
up n = record { own = n; bare = true }

abbrev pub GoodExpr : Place → ℕ → Expr → Type 0
GoodExpr place n e = Good place e (up n)

pub expr_up : (place : Place) (e : Expr) (h : Height) (n : ℕ) → h.own ≤ n → Good place e h → GoodExpr place n e
expr_up place e h n l g = good_up place e h (up n) l g

abbrev pub GoodArgs : Place → ℕ → List Expr → Type 0
GoodArgs place n xs = Each (GoodExpr place n) xs

pub args_up : (place : Place) (n m : ℕ) (xs : List Expr) → n ≤ m → GoodArgs place n xs → GoodArgs place m xs
args_up place n m xs l g = weaker (GoodExpr place n) (GoodExpr place m) (λ e x. expr_up place e (up n) m l x) xs g

pub more_args : (place : Place) (n : ℕ) (xs : List Expr) (e : Expr) (h : Height) → GoodArgs place n xs → Good place e h → GoodArgs place (max n h.own) (xs ++ e ∷ [])
more_args place n xs e h g x =
    one_more (GoodExpr place (max n h.own)) xs e (args_up place n (max n h.own) xs (omega arith) g) (expr_up place e h (max n h.own) (omega arith) x)

abbrev pub GoodSet : Place → ℕ → List ℕ × Expr → Type 0
GoodSet place n s = (is_free s.0 ≡ true) × GoodExpr place n s.1

abbrev pub GoodSets : Place → ℕ → List (List ℕ × Expr) → Type 0
GoodSets place n xs = Each (GoodSet place n) xs

pub sets_up : (place : Place) (n m : ℕ) (xs : List (List ℕ × Expr)) → n ≤ m → GoodSets place n xs → GoodSets place m xs
sets_up place n m xs l g = weaker (GoodSet place n) (GoodSet place m) (λ s x. (x.0, expr_up place s.1 (up n) m l x.1)) xs g

pub more_sets : (place : Place) (n : ℕ) (xs : List (List ℕ × Expr)) (name : List ℕ) (e : Expr) (h : Height) → GoodSets place n xs → is_free name ≡ true → Good place e h
    → GoodSets place (max n h.own) (xs ++ (name, e) ∷ [])
more_sets place n xs name e h g f x =
    one_more (GoodSet place (max n h.own)) xs (name, e) (sets_up place n (max n h.own) xs (omega arith) g) (f, expr_up place e h (max n h.own) (omega arith) x)

-- a reference before a dot, which counts as an operator
pub record GoodOf (place : Place) (n : ℕ) (e : Expr) : Type 0 where
  pub h : Height
  pub good : Good place e h
  pub below : h.own + 1 ≤ n

abbrev pub GoodOwner : Place → ℕ → Option Expr → Type 0
GoodOwner place n None = Unit {0}
GoodOwner place n (Some e) = GoodOf place n e

abbrev pub GoodRight : Place → ℕ → Rhs → Type 0
GoodRight place n (rhs.Plain e) = GoodExpr place n e
GoodRight place n (rhs.Call c) = GoodOwner place n c.of × (is_free c.method ≡ true) × GoodArgs place n c.args
GoodRight place n (rhs.New class fields) = (is_free class ≡ true) × GoodSets place n fields
GoodRight place n (rhs.NewVersion e) = GoodExpr place n e
GoodRight place n (rhs.Activate of trigger args) = GoodOf place n of × (is_free trigger ≡ true) × GoodArgs place n args

-- what may stand alone as a statement
abbrev pub is_do : Rhs → Bool
is_do (rhs.Plain e) = false
is_do other = true

abbrev owned : Option Expr → Bool
owned None = false
owned (Some e) = true

-- no call of the object itself, which no script has
abbrev pub has_owner : Rhs → Bool
has_owner (rhs.Call c) = owned c.of
has_owner other = true

-- a right side that a script may have
abbrev pub GoodOwned : Place → ℕ → Rhs → Type 0
GoodOwned place n r = GoodRight place n r × (has_owner r ≡ true)
